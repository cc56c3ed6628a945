use Rattle.std.proofs.Common.{◌∙◌, sym, ap, length, length-drop, drop, arith}
use Rattle.std.proofs.lemmas.Slice.{between_to_end}
use Rattle.asm_text.specs.Scanning.{magnitude_length}
use Rattle.asm_text.proofs.Lexemes.{some-bytes}
use Rattle.asm_text.proofs.Magnitudes.{magnitude-longest}
use Rattle.asm_text.proofs.tokens.number_length.Goals as goal

pub overflow_add-result : goal.overflow_add-result
overflow_add-result c =
    let bytes = c.args.bytes.now in
    let some = some-bytes bytes (sym c.if-is_empty.ensures) in
    let behind = between_to_end bytes 1 (length bytes) (omega arith) in
    let digits = c.magnitude_length-digits.ensures ∙ ap magnitude_length behind in
    omega (arith, digits, (magnitude-longest (drop 1 bytes)).within, length-drop 1 bytes)
