use Rattle.std.proofs.Common.{◌≡◌, ◌+◌, ◌*◌, get_or, take, arith}
use Rattle.asm_text.specs.Tokens.{digit_of, digits_behind}
use Rattle.asm_text.proofs.DigitValues.{digits-more, capped-more, capped-stays, based-more}
use Rattle.asm_text.proofs.tokens.digits_value.Goals as goal
use Rattle.asm_text.proofs.tokens.digits_value.Goals.{then-value-from, else-value-from}

pub loop-byte-preserved : goal.loop-byte-preserved
loop-byte-preserved c =
    let bytes = c.args.bytes.now in
    let at = c.loop-byte.byte-index in
    let base = c.args.base in
    let number = digits_behind base 0 (take at bytes) in
    let digit = digit_of (get_or bytes at 0) in
    let more = digits-more base bytes at c.loop-byte-test.true in
    elim c.if-value-from.branch [
      | then-value-from w ↦
          let value : c.if-value-from.value ≡ c.loop-byte.value * base + digit = omega arith in
          rw (value, more) (record {
            capped = capped-more base digit number c.loop-byte.value c.loop-byte.invariant.capped (omega arith);
            based = based-more base digit c.loop-byte.value (omega arith);
          })
      | else-value-from w ↦
          rw (w.value-is, more) (record {
            capped = capped-stays base digit number c.loop-byte.value c.loop-byte.invariant.capped (omega arith) (c.loop-byte.invariant.based (omega arith));
            based = c.loop-byte.invariant.based;
          })
    ]
