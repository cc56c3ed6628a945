use Rattle.std.proofs.Common.{◌≡◌, drop}
use Rattle.std.specs.List.{list_any}
use Rattle.asm_image.specs.Layout.{closed_code}
use Rattle.asm_image.proofs.assembler.is_code.Given as goal

-- it is on a page of one of the segments that are left, or of none
abbrev pub invariant-loop-segment : goal.invariant-loop-segment
invariant-loop-segment l = list_any (closed_code l.place) (drop l.segment-index l.segments) ≡ list_any (closed_code l.place) l.segments
