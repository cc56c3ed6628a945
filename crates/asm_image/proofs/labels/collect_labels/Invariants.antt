use Rattle.std.proofs.Common.{drop}
use Rattle.asm_image.specs.Layout.{IsBounded}
use Rattle.asm_image.specs.Known.{known}
use Rattle.asm_image.proofs.NamesTaken.{AreTaken}
use Rattle.asm_image.proofs.labels.collect_labels.Given as goal

-- the names of the items that were passed are taken
abbrev pub invariant-loop-at : goal.invariant-loop-at
invariant-loop-at l = record {
  taken : AreTaken l.text l.listing l.initial.found (known l.labels) l.entry l.current l.found (drop l.at l.listing);
  bounded : IsBounded l.at l.current;
}
