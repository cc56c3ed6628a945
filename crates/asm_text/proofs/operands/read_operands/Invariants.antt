use Rattle.std.proofs.Common.{◌≡◌, drop}
use Rattle.asm_text.specs.Statements.{filled, no_operands}
use Rattle.asm_text.specs.Cursors.{GoesOn}
use Rattle.asm_text.proofs.operands.read_operands.Given as goal

-- what the other slots make of the other tokens is what all make of all
abbrev pub invariant-loop-slot : goal.invariant-loop-slot
invariant-loop-slot l = record {
  on : GoesOn l.initial.cursor l.cursor;
  read : filled l.cursor.text (drop l.slot-index l.slot-items) l.cursor.left.lexemes l.operands ≡ filled l.initial.cursor.text l.slot-items l.initial.cursor.left.lexemes no_operands;
}
