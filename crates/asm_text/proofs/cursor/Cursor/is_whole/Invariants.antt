use Rattle.std.proofs.Common.{◌≡◌, ◌≤◌, ◌-◌, false, length}
use Rattle.asm_text.specs.Numbers.{source_bytes}
use Rattle.asm_text.specs.Cursors.{left_from}
use Rattle.asm_text.proofs.cursor.Cursor.is_whole.Given as goal

-- what is left is whole where all that was left is
abbrev pub invariant-loop-lexeme : goal.invariant-loop-lexeme
invariant-loop-lexeme l = record {
  from : l.self-inside.at ≤ l.self-inside.past;
  to : l.self-inside.past ≤ length l.self-inside.text.now;
  fits : length l.self-inside.text.now ≤ source_bytes;
  ended : l.self-inside.whole ≡ false → l.self-inside.at ≡ l.self-inside.past;
  whole : (left_from l.self-inside.text.now l.self-inside.at l.self-inside.past l.self-inside.whole).whole ≡ l.fn.self.left.whole;
}

abbrev pub decreases-loop-lexeme : goal.decreases-loop-lexeme
decreases-loop-lexeme l = l.self-inside.past - l.self-inside.at
