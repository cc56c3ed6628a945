use Rattle.std.proofs.Common.{◌≡◌, None, drop}
use Rattle.asm_image.specs.Faults.{found_by}
use Rattle.asm_image.specs.Rules.{values_rules}
use Rattle.asm_image.specs.Layout.{IsBounded}
use Rattle.asm_image.specs.Known.{known}
use Rattle.asm_image.proofs.values.check_values.Given as goal

-- what was found, with the rules of the items that are left, is that of all
abbrev pub invariant-loop-at : goal.invariant-loop-at
invariant-loop-at l = record {
  found : found_by l.found (values_rules l.text (known l.labels) l.current (drop l.at l.listing)) ≡ found_by l.fn.found (values_rules l.text (known l.labels) None l.listing);
  bounded : IsBounded l.at l.current;
}
