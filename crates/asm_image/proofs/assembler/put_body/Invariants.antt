use Rattle.std.proofs.Common.{◌≡◌, ℕ, None, ◌++◌, drop, length}
use Rattle.asm_image.specs.Layout.{body_from, KeepsRules}
use Rattle.asm_image.specs.Known.{known}
use Rattle.asm_image.proofs.assembler.put_body.Given as goal

-- the bytes so far, with those of the rest, which keeps the rules behind so many segments
abbrev pub invariant-loop-at : goal.invariant-loop-at
invariant-loop-at l = record {
  body : l.out.items ++ body_from l.text (known l.labels) l.current (length l.out.items) (drop l.at l.source)
      ≡ l.fn.out.items ++ body_from l.text (known l.labels) None (length l.fn.out.items) l.source;
  keeps : (count : ℕ) × KeepsRules l.text (known l.labels) count l.current (drop l.at l.source);
}
