-- What a source without a fault comes to: its segments rise in the region, its relocations stand on their pages, and its entry is a place
-- for an instruction.
use Rattle.std.specs.Prelude.{◌≡◌, ℕ, ◌+◌, ◌%◌, ◌≤◌, true, List, [], ◌∷◌, length, bit_and}
use Rattle.std.specs.List.{list_any}
use Rattle.cap_format.specs.Numbers.{region_bytes, page_bytes, granule_bytes, all_permissions}
use Rattle.cap_format.specs.Region.{region_start}
use Rattle.cap_format.specs.SetBounds.{is_exact}
use Rattle.cap_format.specs.declared.image.Relocation.{Relocation}
use Rattle.asm_image.specs.Program.{Segment, Program, segment_size, segment_end, holds_place, holds_code}

-- a segment behind others, whose pages end at `past`
pub record IsSegment (past : ℕ) (segment : Segment) : Type 0 where
  pub readable : 4 ≤ segment.rights
  pub rights : segment.rights ≤ 7
  pub aligned : segment.start % page_bytes ≡ 0
  pub behind : past ≤ segment.start
  pub some : 1 ≤ segment_size segment
  pub inside : segment.start + segment_size segment ≤ region_bytes

abbrev pub AreSegments : ℕ → List Segment → Type 0
AreSegments past [] = Unit {0}
AreSegments past (segment ∷ segments) = IsSegment past segment × AreSegments (segment_end segment) segments

-- a relocation, whose place is not below `least`
pub record IsRelocation (segments : List Segment) (least : ℕ) (relocation : Relocation) : Type 0 where
  pub aligned : relocation.place % granule_bytes ≡ 0
  pub on_page : list_any (holds_place relocation.place) segments ≡ true
  pub rising : least ≤ relocation.place
  pub inside : relocation.base + relocation.span ≤ region_bytes
  pub exact : is_exact (region_start 0 + relocation.base) relocation.span ≡ true
  pub offset : relocation.offset ≤ relocation.span
  pub perms : bit_and relocation.perms all_permissions ≡ relocation.perms

abbrev pub AreRelocations : List Segment → ℕ → List Relocation → Type 0
AreRelocations segments least [] = Unit {0}
AreRelocations segments least (relocation ∷ relocations) = IsRelocation segments least relocation × AreRelocations segments (relocation.place + 1) relocations

pub record IsProgram (p : Program) : Type 0 where
  pub some : 1 ≤ length p.segments
  pub few : length p.segments ≤ 15
  pub segments : AreSegments 0 p.segments
  pub relocations : AreRelocations p.segments 0 p.relocations
  pub entry_aligned : p.entry % 4 ≡ 0
  pub entry_on_page : list_any (holds_code p.entry) p.segments ≡ true
