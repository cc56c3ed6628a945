use Rattle.std.proofs.Common.{◌≡◌, None, ◌++◌, drop}
use Rattle.asm_image.specs.Faults.{found_by}
use Rattle.asm_image.specs.Rules.{places_rules}
use Rattle.asm_image.specs.Layout.{closed_from, begun_count, IsBounded}
use Rattle.asm_image.proofs.layout.lay_out.Given as goal

-- the segments that are kept, with those of the items that are left, and what was found, with the rules of the items that are left, are those
-- of all
abbrev pub invariant-loop-at : goal.invariant-loop-at
invariant-loop-at l = record {
  segments : l.segments.items ++ closed_from l.text l.current (drop l.at l.listing) ≡ closed_from l.text None l.listing;
  found : found_by l.found (places_rules l.text (begun_count l.segments.items l.current) l.current (drop l.at l.listing)) ≡ found_by l.fn.found (places_rules l.text 0 None l.listing);
  bounded : IsBounded l.at l.current;
}
