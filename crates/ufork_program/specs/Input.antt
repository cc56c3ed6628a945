-- What was taken of the console's input. A source may tell what it has left; what was taken is the front of that.
use Rattle.std.specs.Prelude.{◌≡◌, ℕ, ◌+◌, ◌<◌, ◌≤◌, List, length, take, MatchResult, Result}
use Rattle.std.specs.Io.KnownBytes.{Consumes, IsAtEnd}
use Rattle.outside_io.specs.Faults.{Rose}
use Rattle.outside_io.specs.States.{SourceState}
use Rattle.ufork_program.specs.Numbers.{most_input}
use Rattle.ufork_program.specs.declared.input.InputRefusal.{InputRefusal}
use Rattle.ufork_program.specs.declared.input.InputRefusal.TheVariants.{Failed, TooLong, NoMemory}

-- These bytes were taken.
abbrev pub Took : List ℕ → SourceState → SourceState → Type 0
Took bytes old new = Consumes old.left new.left bytes

-- The whole input was taken, these bytes, which are no more than it may have: nothing is left, and no read failed.
pub record TookAll (bytes : List ℕ) (old new : SourceState) : Type 0 where
  pub took : Took bytes old new
  pub end : IsAtEnd new.left
  pub few : length bytes ≤ most_input
  pub kept : new.faults ≡ old.faults

-- One byte more was taken than the input may have, and no read failed.
pub record TookTooMany (old new : SourceState) : Type 0 where
  pub bytes : List ℕ
  pub number : length bytes ≡ most_input + 1
  pub took : Took bytes old new
  pub kept : new.faults ≡ old.faults

-- A read failed, before more was taken than the input may have.
pub record TookUntilFault (old new : SourceState) : Type 0 where
  pub bytes : List ℕ
  pub few : length bytes ≤ most_input
  pub took : Took bytes old new
  pub rose : Rose old.faults new.faults

-- what was taken where the input was refused, and nothing where memory was wanted
abbrev pub TookFor : SourceState → SourceState → InputRefusal → Type 0
TookFor old new Failed = TookUntilFault old new
TookFor old new TooLong = TookTooMany old new
TookFor old new NoMemory = new ≡ old

-- A room was filled from its front, or as far as the source goes.
pub record HasFilled (room : List ℕ) (count : ℕ) (old new : SourceState) : Type 0 where
  pub within : count ≤ length room
  pub took : Took (take count room) old new
  pub end : count < length room → IsAtEnd new.left
  pub kept : new.faults ≡ old.faults

-- or a read failed, before it was full
pub record HasFailed (room : List ℕ) (old new : SourceState) : Type 0 where
  pub bytes : List ℕ
  pub few : length bytes < length room
  pub took : Took bytes old new
  pub rose : Rose old.faults new.faults

-- as the answer tells
abbrev pub Fills : {E : Type 0} → List ℕ → SourceState → SourceState → Result ℕ E → Type 0
Fills room old new result = MatchResult result (λ count. HasFilled room count old new) (λ _. HasFailed room old new)
