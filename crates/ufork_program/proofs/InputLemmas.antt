-- A room that is filled by several reads, and what a full one and one that is not full say of the input.
use Rattle.std.proofs.Common.{◌≡◌, ℕ, ◌+◌, ◌<◌, ◌≤◌, List, ◌++◌, length, take, refl, subst, arith}
use Rattle.std.specs.Io.KnownBytes.{Consumes}
use Rattle.std.specs.declared.option.Option.{Option}
use Rattle.std.proofs.KnownBytes.{Consumes-trans}
use Rattle.std.proofs.Math.Seq.{take-append-add}
use Rattle.std.proofs.lemmas.List.{length-take-le, take-append-le}
use Rattle.std.proofs.lemmas.Grind.{common_steps}
use Rattle.outside_io.specs.States.{SourceState}
use Rattle.ufork_program.specs.Numbers.{most_input}
use Rattle.ufork_program.specs.Input.{TookAll, TookTooMany, TookUntilFault, HasFilled, HasFailed}

-- the front of a room, where some bytes were put after what was filled
take_put : (room into rest : List ℕ) (filled count : ℕ) → filled ≤ length room → count ≤ length into
    → take (filled + count) (take filled room ++ (into ++ rest)) ≡ take filled room ++ take count into
take_put room into rest filled count within few =
    subst (λ (n : ℕ). take (n + count) (take filled room ++ (into ++ rest)) ≡ take filled room ++ take count into) (length-take-le filled room within) (rw (take-append-add, take-append-le) refl)

-- so what was put there was taken too
pub took_more : (old mid new : Option (List ℕ)) (room into rest : List ℕ) (filled count : ℕ) → filled ≤ length room → count ≤ length into
    → Consumes old mid (take filled room) → Consumes mid new (take count into) → Consumes old new (take (filled + count) (take filled room ++ (into ++ rest)))
took_more old mid new room into rest filled count within few first second =
    rw (take_put room into rest filled count within few) (Consumes-trans old mid new (take filled room) (take count into) first second)

-- a read failed before the room was full
pub took_until_fault : (room : List ℕ) (old new : SourceState) → length room ≡ most_input + 1 → HasFailed room old new → TookUntilFault old new
took_until_fault room old new number failed = record { bytes = failed.bytes; few = omega arith; took = failed.took; rose = failed.rose }

-- the front of a vector's room
take_front : (room rest : List ℕ) (count : ℕ) → count ≤ length room → take count (take (length room) (room ++ rest)) ≡ take count room
take_front room rest count within = grind (arith, common_steps)

module _ (room : List ℕ) (count : ℕ) (old new : SourceState) (number : length room ≡ most_input + 1) (filled : HasFilled room count old new) where
  -- the whole input was taken, where a room with place for one byte more was not filled
  pub took_all : (rest bytes : List ℕ) (size : ℕ) → length room ≡ size → bytes ≡ take count (take size (room ++ rest)) → count ≤ most_input → TookAll bytes old new
  took_all rest bytes size size_is is few =
      let front : bytes ≡ take count room = rw (is, ← size_is) (take_front room rest count filled.within) in
      rw front (record {
        took = filled.took;
        end = filled.end (omega arith);
        few = rw (length-take-le count room filled.within) few;
        kept = filled.kept;
      })

  -- and one byte more than it may have was taken, where it was
  pub took_too_many : most_input < count → TookTooMany old new
  took_too_many over = record {
    bytes = take count room;
    number = rw (length-take-le count room filled.within) (omega arith);
    took = filled.took;
    kept = filled.kept;
  }
