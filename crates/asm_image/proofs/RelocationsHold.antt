-- The relocations of a program keep the rules of relocations.
use Rattle.std.proofs.Common.{◌≡◌, ℕ, ◌+◌, true, List, [], ◌∷◌, ◌++◌, arith}
use Rattle.std.specs.List.{list_any}
use Rattle.std.proofs.lemmas.Grind.{common_steps}
use Rattle.cap_format.specs.Numbers.{relocation_bytes}
use Rattle.cap_format.specs.Rules.{AllHold}
use Rattle.cap_format.specs.Image.{covers, relocation_rules, relocations_rules}
use Rattle.cap_format.specs.declared.image.ProgramHeader.{ProgramHeader}
use Rattle.cap_format.specs.declared.image.Relocation.{Relocation}
use Rattle.asm_image.specs.Program.{Segment, segment_headers}
use Rattle.asm_image.specs.Sound.{IsRelocation, AreRelocations}
use Rattle.asm_image.proofs.Holding.{hold-append}
use Rattle.asm_image.proofs.SegmentsHold.{on-page}

relocation-holds : (segments : List Segment) (headers : List ProgramHeader) (least r : ℕ) (relocation : Relocation) → IsRelocation segments least relocation
    → list_any (covers relocation.place) headers ≡ true → AllHold (relocation_rules headers least r relocation)
relocation-holds segments headers least r relocation is on = (
  grind (arith, common_steps, is.aligned, is.rising, on),
  (
    grind (arith, common_steps, is.inside, is.exact),
    (
      grind (arith, common_steps, is.offset),
      (
        grind (arith, common_steps, is.perms),
        tt,
      ),
    ),
  ),
)

-- they do at any place in the file, where the headers begin with those of the segments
pub relocations-hold : (segments : List Segment) (at least r : ℕ) (tail : List ProgramHeader) (relocations : List Relocation) → AreRelocations segments least relocations
    → AllHold (relocations_rules (segment_headers at segments ++ tail) least r relocations)
relocations-hold segments at least r tail [] rise = tt
relocations-hold segments at least r tail (relocation ∷ relocations) (here, there) =
    let headers = segment_headers at segments ++ tail in
    hold-append (relocation_rules headers least r relocation) _
    (relocation-holds segments headers least r relocation here (on-page relocation.place at segments tail here.on_page))
    (relocations-hold segments at (relocation.place + 1) (r + relocation_bytes) tail relocations there)
