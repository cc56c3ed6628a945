-- The numbers of a program fit their fields.
use Rattle.std.proofs.Common.{ℕ, ◌+◌, ◌^◌, ◌<◌, ◌≤◌, List, [], ◌∷◌, length, arith}
use Rattle.std.proofs.lemmas.Nat.{and_le_r}
use Rattle.cap_format.specs.Numbers.{all_permissions}
use Rattle.cap_format.specs.declared.image.Relocation.{Relocation}
use Rattle.asm_image.specs.Program.{Segment, segment_end, segment_header, segment_headers, table_headers, after, after_all}
use Rattle.asm_image.specs.Sound.{IsSegment, AreSegments, AreRelocations}
use Rattle.asm_image.proofs.HeadersRead.{HeaderFits, HeadersFit}
use Rattle.asm_image.proofs.RelocationsRead.{RelocationsFit}
use Rattle.asm_image.proofs.Sizes.{after-all-above}
use Rattle.asm_image.proofs.Limits.{place-below}

segment-fits : (past at : ℕ) (segment : Segment) → IsSegment past segment → after at segment < 2 ^ 32 → HeaderFits (segment_header at segment)
segment-fits past at segment is below = record {
  kind = omega arith;
  flags = omega (arith, is.rights);
  from = omega arith;
  start = omega (arith, is.inside);
  in_file = omega (arith, is.inside);
  in_memory = omega (arith, is.inside);
}

-- the headers of segments
pub segments-fit : (past at : ℕ) (segments : List Segment) → AreSegments past segments → after_all at segments < 2 ^ 32 → HeadersFit (segment_headers at segments)
segments-fit past at [] are below = tt
segments-fit past at (segment ∷ segments) (here, there) below = (
  segment-fits past at segment here (omega (arith, after-all-above (after at segment) segments)),
  segments-fit (segment_end segment) (after at segment) segments there below,
)

-- the table's header
pub table-fits : (at : ℕ) (relocations : List Relocation) → at < 2 ^ 32 → length relocations ≤ 65536 → HeadersFit (table_headers at relocations)
table-fits at [] below few = tt
table-fits at (relocation ∷ relocations) below few = (
  record {
    kind = omega arith;
    flags = omega arith;
    from = omega arith;
    start = omega arith;
    in_file = omega arith;
    in_memory = omega arith;
  },
  tt,
)

-- and the relocations
pub relocations-fit : (segments : List Segment) (least : ℕ) (relocations : List Relocation) → AreSegments 0 segments → AreRelocations segments least relocations → RelocationsFit relocations
relocations-fit segments least [] are rise = tt
relocations-fit segments least (relocation ∷ relocations) are (here, there) = (
  record {
    place = omega (arith, place-below relocation.place 0 segments are here.on_page);
    base = omega (arith, here.inside);
    span = omega (arith, here.inside);
    offset = omega (arith, here.inside, here.offset);
    perms = omega (arith, here.perms, and_le_r relocation.perms all_permissions);
  },
  relocations-fit segments (relocation.place + 1) relocations are there,
)
