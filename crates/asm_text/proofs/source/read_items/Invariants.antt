use Rattle.std.proofs.Common.{length}
use Rattle.asm_text.specs.Source.{line_items}
use Rattle.asm_text.specs.Cursors.{GoesOn}
use Rattle.asm_text.proofs.ItemsRead.{ReadsOn}
use Rattle.asm_text.proofs.source.read_items.Given as goal

-- what is read from here on makes what is read from the beginning
abbrev pub invariant-loop-lexeme : goal.invariant-loop-lexeme
invariant-loop-lexeme l = record {
  on : GoesOn l.initial.cursor l.cursor;
  read : ReadsOn (line_items l.initial.cursor.text l.line l.cursor.left.lexemes) l.items.items (line_items l.initial.cursor.text l.line l.initial.cursor.left.lexemes) l.initial.items.items;
}

abbrev pub decreases-loop-lexeme : goal.decreases-loop-lexeme
decreases-loop-lexeme l = length l.cursor.left.lexemes
