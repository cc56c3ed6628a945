-- The cursor begins with the tokens of the line, and items are read of them.
use Rattle.std.proofs.Common.{◌∙◌, sym}
use Rattle.asm_text.proofs.LineRead.{bad-text, line-said, bad-statement}
use Rattle.asm_text.proofs.source.read_line.Goals as goal

pub returns-then-not-is_whole : goal.returns-then-not-is_whole
returns-then-not-is_whole c =
    let bad = sym (c.if-not-is_whole.ensures ∙ c.in_ok-is.ensures.on.whole) in
    bad-text c.args.text.now c.args.line _ c.new-cursor.result _ _ c.new-cursor.ensures bad

pub returns-then-is : goal.returns-then-is
returns-then-is c =
    let whole = sym (c.if-not-is_whole.ensures ∙ c.in_ok-is.ensures.on.whole) in
    line-said c.args.text.now c.args.line _ c.new-cursor.result _ _ c.new-cursor.ensures whole (rw c.if-is.true at c.in_ok-is.ensures.read)

pub returns-else-is : goal.returns-else-is
returns-else-is c =
    let whole = sym (c.if-not-is_whole.ensures ∙ c.in_ok-is.ensures.on.whole) in
    bad-statement c.args.text.now c.args.line _ c.new-cursor.result _ _ c.new-cursor.ensures whole (rw c.if-is.false at c.in_ok-is.ensures.read)
