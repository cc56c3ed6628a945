-- How much a program can have: what rises in the region fits the file.
use Rattle.std.proofs.Common.{◌≡◌, ℕ, ◌+◌, ◌*◌, ◌%◌, ◌<◌, ◌≤◌, true, List, [], ◌∷◌, length, arith}
use Rattle.std.specs.List.{list_any}
use Rattle.std.proofs.lemmas.Grind.{common_steps}
use Rattle.cap_format.specs.Numbers.{region_bytes, page_bytes, granule_bytes}
use Rattle.cap_format.specs.SetBounds.{up_to}
use Rattle.cap_format.specs.declared.image.Relocation.{Relocation}
use Rattle.asm_image.specs.Program.{Segment, segment_end, after, after_all, holds_place, holds_code}
use Rattle.asm_image.specs.Sound.{AreSegments, AreRelocations}

-- Each page of the region is at most one segment's: the segments take no more of the file than of the region.
pub after-all-most : (at past : ℕ) (segments : List Segment) → past % page_bytes ≡ 0 → past ≤ region_bytes → AreSegments past segments
    → after_all at segments + past ≤ up_to at page_bytes + region_bytes
after-all-most at past [] aligned below are = omega arith
after-all-most at past (segment ∷ segments) aligned below (here, there) =
    let rest : after_all (after at segment) segments + segment_end segment ≤ up_to (after at segment) page_bytes + region_bytes =
    after-all-most (after at segment) (segment_end segment) segments (omega arith) (omega (arith, here.inside)) there in
    omega (arith, here.behind, here.aligned, rest)

-- a place on a page of a segment is in the region
pub place-below : (place past : ℕ) (segments : List Segment) → AreSegments past segments → list_any (holds_place place) segments ≡ true → place < region_bytes
place-below place past [] are on = grind arith
place-below place past (segment ∷ segments) (here, there) on =
    grind (arith, common_steps, here.inside, place-below place (segment_end segment) segments there)

-- a place on a page that may be executed is on a page
pub code-on-page : (place : ℕ) (segments : List Segment) → list_any (holds_code place) segments ≡ true → list_any (holds_place place) segments ≡ true
code-on-page place [] on = on
code-on-page place (segment ∷ segments) on = grind (arith, common_steps, code-on-page place segments)

-- each relocation takes a granule of the region
pub relocations-most : (segments : List Segment) (least : ℕ) (relocations : List Relocation) → AreSegments 0 segments → least ≤ region_bytes → AreRelocations segments least relocations
    → granule_bytes * length relocations + up_to least granule_bytes ≤ region_bytes
relocations-most segments least [] are below rise = omega arith
relocations-most segments least (relocation ∷ relocations) are below (here, there) =
    let inside : relocation.place < region_bytes = place-below relocation.place 0 segments are here.on_page in
    let rest : granule_bytes * length relocations + up_to (relocation.place + 1) granule_bytes ≤ region_bytes =
    relocations-most segments (relocation.place + 1) relocations are (omega arith) there in
    omega (arith, here.aligned, here.rising, rest)
