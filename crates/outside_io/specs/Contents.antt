-- What a read of a file answers.
use Rattle.std.specs.Prelude.{◌≡◌, ℕ, ◌<◌, ◌≤◌, ◌⊎◌, IfSome, List, length, Result, Ok, Err, Some, ⊤}
use Rattle.std.specs.declared.option.Option.{Option}
use Rattle.outside_io.specs.declared.files.FileRefusal.{FileRefusal}
use Rattle.outside_io.specs.declared.files.FileRefusal.TheVariants.{Failed, TooLong, NoMemory}
use Rattle.outside_io.specs.Faults.{Rose}
use Rattle.outside_io.specs.States.{FilesState}

-- What a read with this limit may answer where this is the content. `bytes` gives the list that a value holds.
abbrev pub IsReadOf : {V : Type 0} → (V → List ℕ) → Option (List ℕ) → ℕ → Result V FileRefusal → Type 0
IsReadOf bytes found limit (Ok v) = (found ≡ Some (bytes v)) × (length (bytes v) ≤ limit)
IsReadOf bytes found limit (Err TooLong) = (content : List ℕ) × (found ≡ Some content) × (limit < length content)
IsReadOf bytes found limit (Err Failed) = ⊤
IsReadOf bytes found limit (Err NoMemory) = ⊤

-- one fact of the answer that stands for a fault, and another of every other answer
abbrev pub MatchFault : {V : Type 0} → Result V FileRefusal → Type 0 → Type 0 → Type 0
MatchFault (Err Failed) P Q = P
MatchFault (Err TooLong) P Q = Q
MatchFault (Err NoMemory) P Q = Q
MatchFault (Ok v) P Q = Q

-- a fault raised the count and made this the name that failed last; no other answer did
pub record HasFileCause {V : Type 0} (name : List ℕ) (old new : FilesState) (result : Result V FileRefusal) : Type 0 where
  pub later : old.faults ≤ new.faults
  pub count : MatchFault result (Rose old.faults new.faults) (new.faults ≡ old.faults)
  pub last : MatchFault result (new.failed_last ≡ Some name) (new.failed_last ≡ old.failed_last)

-- the call failed, or memory was wanted
abbrev pub IsFaultOrWant : {V : Type 0} → Result V FileRefusal → Type 0
IsFaultOrWant (Err Failed) = ⊤
IsFaultOrWant (Err NoMemory) = ⊤
IsFaultOrWant (Err TooLong) = ⊥
IsFaultOrWant (Ok v) = ⊥

-- The answer is that of a read of some file, but for a failure and for want of memory. `told` gives the bytes that a file
-- tells.
abbrev pub IsReadOfSome : {F V : Type 0} → (F → Option (List ℕ)) → (V → List ℕ) → ℕ → Result V FileRefusal → Type 0
IsReadOfSome {F = F} told bytes limit result = IsFaultOrWant result ⊎ ((file : F) × IfSome (told file) (λ left. IsReadOf bytes (Some left) limit result))
