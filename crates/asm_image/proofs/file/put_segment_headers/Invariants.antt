use Rattle.std.proofs.Common.{◌≡◌, ◌+◌, ◌*◌, ◌≤◌, ◌++◌, drop}
use Rattle.std.specs.Prelude.{flat_map}
use Rattle.cap_format.specs.Numbers.{region_bytes, page_bytes}
use Rattle.asm_image.specs.Pieces.{bytes_of}
use Rattle.asm_image.specs.Program.{header_pieces}
use Rattle.asm_image.specs.Layout.{closed_headers, closed_after_all}
use Rattle.asm_image.proofs.file.put_segment_headers.Given as goal

-- the headers so far, and those of the segments that are left; each segment takes at most a region and a page
abbrev pub invariant-loop-segment : goal.invariant-loop-segment
invariant-loop-segment l = record {
  small : l.at ≤ page_bytes + l.segment-index * (region_bytes + page_bytes);
  headers : l.out.items ++ bytes_of (flat_map header_pieces (closed_headers l.at (drop l.segment-index l.segments)))
      ≡ l.initial.out.items ++ bytes_of (flat_map header_pieces (closed_headers l.initial.at l.segments));
  end : closed_after_all l.at (drop l.segment-index l.segments) ≡ closed_after_all l.initial.at l.segments;
}
