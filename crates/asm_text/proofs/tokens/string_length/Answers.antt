use Rattle.std.proofs.Common.{◌∙◌, sym, ap, ◌+◌, ◌<◌, length, get_or, drop, arith}
use Rattle.asm_text.specs.Scanning.{further}
use Rattle.asm_text.proofs.Closings.{closing-at, closing-at-two, closing-quote, closing-escape, closing-text, closing-other, string-further}
use Rattle.asm_text.proofs.tokens.string_length.Goals as goal

pub returns-then-byte-eq34 : goal.returns-then-byte-eq34
returns-then-byte-eq34 c =
    let bytes = c.args.bytes.now in
    let at = c.loop-at.at in
    sym (c.loop-at.invariant.rest ∙ ap (further at) (closing-at bytes at c.loop-at-test.true ∙ closing-quote (get_or bytes at 0) (drop (at + 1) bytes) c.if-byte-eq34.true))

pub loop-at-preserved-then-byte-eq92 : goal.loop-at-preserved-then-byte-eq92
loop-at-preserved-then-byte-eq92 c =
    let bytes = c.args.bytes.now in
    let at = c.loop-at.at in
    let more : at + 1 < length bytes = omega arith in
    record {
      within = omega arith;
      rest = string-further bytes at 2 (at + 2) (omega arith) c.loop-at.invariant.rest
          (closing-at-two bytes at more ∙ closing-escape (get_or bytes at 0) (get_or bytes (at + 1) 0) (drop (at + 2) bytes) c.if-byte-eq92.true (sym c.if-not-is_escape.ensures));
    }

pub loop-at-preserved : goal.loop-at-preserved
loop-at-preserved c =
    let bytes = c.args.bytes.now in
    let at = c.loop-at.at in
    record {
      within = omega arith;
      rest = string-further bytes at 1 (at + 1) (omega arith) c.loop-at.invariant.rest
          (closing-at bytes at c.loop-at-test.true ∙ closing-text (get_or bytes at 0) (drop (at + 1) bytes) c.if-byte-eq34.false c.if-byte-eq92.false (sym c.if-is_text.ensures));
    }

pub returns-else-is_text : goal.returns-else-is_text
returns-else-is_text c =
    let bytes = c.args.bytes.now in
    let at = c.loop-at.at in
    sym (c.loop-at.invariant.rest ∙ ap (further at) (closing-at bytes at c.loop-at-test.true ∙ closing-other (get_or bytes at 0) (drop (at + 1) bytes) c.if-byte-eq34.false c.if-byte-eq92.false (sym c.if-is_text.ensures)))
