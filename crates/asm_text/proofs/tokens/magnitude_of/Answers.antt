use Rattle.std.proofs.Common.{◌≡◌, true, subst, List, ℕ, length, sym, drop, arith, rules}
use Rattle.std.specs.Prelude.{All, IsTrue}
use Rattle.std.proofs.lemmas.Slice.{between_to_end}
use Rattle.asm_text.specs.Bytes.{is_hex_digit}
use Rattle.asm_text.specs.Tokens.{is_magnitude}
use Rattle.asm_text.proofs.Runs.{are-all}
use Rattle.asm_text.proofs.Magnitudes.{magnitude-behind, magnitude-digits}
use Rattle.asm_text.proofs.tokens.magnitude_of.Goals as goal
use Rattle.asm_text.proofs.tokens.magnitude_of.Goals.{else-bytes-ge2-via-then-bytes-ge2+then-bytes-eq48+else-bytes-eq120, else-bytes-ge2-via-then-bytes-ge2+else-bytes-eq48, else-bytes-ge2-via-else-bytes-ge2}

pub digits_value-requires-clause-digits : goal.digits_value-requires-clause-digits
digits_value-requires-clause-digits c =
    let bytes = c.args.bytes.now in
    let is : is_magnitude bytes ≡ true = search rules in
    let P : List ℕ → Type 0 = λ part. All (λ byte. IsTrue (is_hex_digit byte)) part in
    subst P (sym (between_to_end bytes 2 (length bytes) (omega arith))) (are-all is_hex_digit (drop 2 bytes) (magnitude-behind bytes c.if-bytes-ge2.true c.if-bytes-eq120.true is))

pub digits_value-requires-else-bytes-ge2-clause-digits : goal.digits_value-requires-else-bytes-ge2-clause-digits
digits_value-requires-else-bytes-ge2-clause-digits c =
    let bytes = c.args.bytes.now in
    let is : is_magnitude bytes ≡ true = search rules in
    are-all is_hex_digit bytes (magnitude-digits bytes (λ two first second. elim c.else-bytes-ge2.branch [
      | else-bytes-ge2-via-then-bytes-ge2+then-bytes-eq48+else-bytes-eq120 w ↦ w.if-bytes-eq120.false second
      | else-bytes-ge2-via-then-bytes-ge2+else-bytes-eq48 w ↦ w.if-bytes-eq48.false first
      | else-bytes-ge2-via-else-bytes-ge2 w ↦ omega arith
    ]) is)
