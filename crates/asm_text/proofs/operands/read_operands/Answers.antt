-- Where there is no further token the form isn't filled.
use Rattle.std.proofs.Common.{◌∙◌, sym, ap, ◌<◌, length, drop, arith, length-drop}
use Rattle.asm_text.specs.Statements.{filled, no_operands}
use Rattle.asm_text.proofs.FormsRead.{unfilled}
use Rattle.asm_text.proofs.operands.read_operands.Goals as goal

pub returns-in_err-lexeme-clause-is : goal.returns-in_err-lexeme-clause-is
returns-in_err-lexeme-clause-is c =
    let start = c.args.cursor.now in
    let l = c.loop-slot in
    let slots = c.form-slot-items.result.now in
    let some : 0 < length (drop l.slot-index slots) = simp length-drop (omega arith) in
    c.from_residual.ensures ∙ sym (unfilled l.cursor.text (drop l.slot-index slots) l.cursor.left.lexemes l.operands some (sym c.in_err-lexeme.ensures.is))
    ∙ l.invariant.read ∙ ap (λ form. filled start.text form start.left.lexemes no_operands) c.form-slot-items.ensures
