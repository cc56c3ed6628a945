use Rattle.std.proofs.Common.{◌≡◌, ℕ, None, ◌++◌, drop}
use Rattle.asm_image.specs.Assembled.{relocations_from}
use Rattle.asm_image.specs.Layout.{KeepsRules}
use Rattle.asm_image.specs.Known.{known}
use Rattle.asm_image.proofs.relocations.relocations_of.Given as goal

-- the relocations so far, with those of the rest, which keeps the rules behind so many segments
abbrev pub invariant-loop-at : goal.invariant-loop-at
invariant-loop-at l = record {
  relocations : l.relocations.items ++ relocations_from l.text (known l.labels) l.current (drop l.at l.listing) ≡ relocations_from l.text (known l.labels) None l.listing;
  keeps : (count : ℕ) × KeepsRules l.text (known l.labels) count l.current (drop l.at l.listing);
}
