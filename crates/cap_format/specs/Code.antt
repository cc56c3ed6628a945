-- The form of PCC, the capability by which instructions are fetched, and what keeps it.
use Rattle.std.specs.Prelude.{◌≡◌, ℕ, ◌+◌, ◌%◌, ◌^◌, ◌<◌, IsTrue}
use Rattle.cap_format.specs.Numbers.{most_regions, permit_execute}
use Rattle.cap_format.specs.declared.cap.Cap.{Cap}
use Rattle.cap_format.specs.Pattern.{address_of, kind_of}
use Rattle.cap_format.specs.Rights.{allows, holds}
use Rattle.cap_format.specs.Region.{IsInside}
use Rattle.cap_format.specs.Made.{with_address}
use Rattle.cap_format.specs.Moves.{moved}

-- PCC's form: tagged, plain, may execute, and at a multiple of 4
pub record IsCode (cap : Cap) : Type 0 where
  pub tagged : IsTrue cap.tag
  pub plain : kind_of cap.bits ≡ 0
  pub executes : IsTrue (allows cap.bits permit_execute)
  pub aligned : address_of cap.bits % 4 ≡ 0

-- A capability of code inside a region that moves to another region is one of code there.
abbrev pub CodeMoves : Type 0
CodeMoves = (cap : Cap) (from to : ℕ) → cap.bits < 2 ^ 128 → from < most_regions → to < most_regions → IsCode cap → IsInside cap.bits from
    → IsCode (moved cap from to) × IsInside (moved cap from to).bits to

-- Where its four bytes lie in its bounds, PCC four bytes on is code and inside the region again.
-- Since it has its tag, its bounds are the same.
abbrev pub CodeGoesOn : Type 0
CodeGoesOn = (cap : Cap) (region : ℕ) → cap.bits < 2 ^ 128 → region < most_regions → IsCode cap → IsInside cap.bits region → IsTrue (holds cap.bits (address_of cap.bits) 4)
    → IsCode (with_address cap (address_of cap.bits + 4)) × IsInside (with_address cap (address_of cap.bits + 4)).bits region
