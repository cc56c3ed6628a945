use Rattle.std.proofs.Common.{◌∙◌, sym, ap, length, length-drop, drop, arith}
use Rattle.std.proofs.lemmas.Slice.{between_to_end}
use Rattle.asm_text.specs.Bytes.{is_hex_digit}
use Rattle.asm_text.specs.Scanning.{run_length}
use Rattle.asm_text.proofs.Runs.{run-within}
use Rattle.asm_text.proofs.Magnitudes.{magnitude-decimal}
use Rattle.asm_text.proofs.tokens.magnitude_length.Goals as goal
use Rattle.asm_text.proofs.tokens.magnitude_length.Goals.{then-bytes-ge2+then-bytes-eq48+then-bytes-eq120+else-digits-gt0, else-bytes-ge2, else-bytes-ge2-via-then-bytes-ge2+then-bytes-eq48+else-bytes-eq120, else-bytes-ge2-via-then-bytes-ge2+else-bytes-eq48, else-bytes-ge2-via-else-bytes-ge2}

pub overflow_add-result : goal.overflow_add-result
overflow_add-result c =
    let bytes = c.args.bytes.now in
    let behind = between_to_end bytes 2 (length bytes) (omega arith) in
    let digits = c.run-digits.ensures ∙ ap (run_length is_hex_digit) behind in
    omega (arith, digits, run-within is_hex_digit (drop 2 bytes), length-drop 2 bytes)

pub returns : goal.returns
returns c =
    let bytes = c.args.bytes.now in
    let behind = between_to_end bytes 2 (length bytes) (omega arith) in
    c.run.ensures ∙ sym (magnitude-decimal bytes (λ two first second. elim c.if-bytes-ge2.branch [
      | then-bytes-ge2+then-bytes-eq48+then-bytes-eq120+else-digits-gt0 w ↦
          let digits = w.run-digits.ensures ∙ ap (run_length is_hex_digit) behind in
          omega (arith, digits)
      | else-bytes-ge2 w ↦ elim w.else-bytes-ge2.branch [
        | else-bytes-ge2-via-then-bytes-ge2+then-bytes-eq48+else-bytes-eq120 w' ↦ absurd (omega arith)
        | else-bytes-ge2-via-then-bytes-ge2+else-bytes-eq48 w' ↦ absurd (omega arith)
        | else-bytes-ge2-via-else-bytes-ge2 w' ↦ absurd (omega arith)
      ]
    ]))
