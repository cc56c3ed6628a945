-- A piece that is written in several calls of a writer.
use Rattle.std.proofs.Common.{◌≡◌, ℕ, ◌+◌, ◌-◌, List, ◌++◌, length, take, drop, sym, ap, ◌∙◌, arith, append_assoc, take-append-drop}
use Rattle.std.specs.declared.option.Option.{Option}
use Rattle.std.specs.Io.KnownBytes.{Appends, Keeps}
use Rattle.std.proofs.KnownBytes.{Appends-trans, Appends-kept}
use Rattle.std.proofs.Math.Seq.{take-append-add, take-append_seam}
use Rattle.std.proofs.lemmas.Grind.{common_steps}
use Rattle.outside_io.specs.States.{AppendsPart}

-- the front of the piece is written, and then some of the rest
pub part_and_more : (a b c : Option (List ℕ)) (piece done rest : List ℕ) (n : ℕ) → piece ≡ done ++ rest → Appends a b done → Appends b c (take n rest) → AppendsPart a c piece
part_and_more a b c piece done rest n e g h = (length done + n, rw (e, take-append-add) (Appends-trans a b c done (take n rest) g h))

-- the front of the piece is written, and nothing more
pub part_kept : (a b c : Option (List ℕ)) (piece done rest : List ℕ) → piece ≡ done ++ rest → Appends a b done → Keeps b c → AppendsPart a c piece
part_kept a b c piece done rest e g h = (length done, rw (e, take-append_seam) (Appends-kept a b c done g h))

-- all of what is left is its length of it
take_rest : (n : ℕ) (rest : List ℕ) → take (length rest - n) (drop n rest) ≡ drop n rest
take_rest n rest = grind (arith, common_steps)

-- more of the piece goes to its front
pub rest_split : (piece done rest : List ℕ) (n : ℕ) → piece ≡ done ++ rest → piece ≡ (done ++ take n rest) ++ take (length rest - n) (drop n rest)
rest_split piece done rest n e = e ∙ ap (λ l. done ++ l) (sym (ap (λ l. take n rest ++ l) (take_rest n rest) ∙ take-append-drop n rest)) ∙ sym (append_assoc done (take n rest) (take (length rest - n) (drop n rest)))
