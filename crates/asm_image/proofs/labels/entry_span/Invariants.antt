use Rattle.std.proofs.Common.{◌≡◌, drop}
use Rattle.asm_image.specs.Labels.{entry_span}
use Rattle.asm_image.proofs.labels.entry_span.Given as goal

-- the first `.entry` of all items is that of those that are left
abbrev pub invariant-loop-at : goal.invariant-loop-at
invariant-loop-at l = entry_span (drop l.at l.listing) ≡ entry_span l.listing
