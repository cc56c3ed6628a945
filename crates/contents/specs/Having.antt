-- What a process may have.
use Rattle.std.specs.Prelude.{ℕ, ◌<◌, IsTrue, List}
use Rattle.cap_format.specs.declared.cap.Cap.{Cap}
use Rattle.cap_format.specs.Region.{IsInside}
use Rattle.machine_types.specs.Registers.{register}
use Rattle.contents.specs.Content.{Content}

-- What a process of the region may have in a register, in PCC or in its store, in this content: a capability that is inside the
-- region where it is tagged.
abbrev pub MayHave : Content → ℕ → Cap → Type 0
MayHave c region cap = IsTrue cap.tag → IsInside cap.bits region

-- each of 32 registers is such a capability
abbrev pub RegistersMayHave : Content → ℕ → List Cap → Type 0
RegistersMayHave c region registers = (n : ℕ) → n < 32 → MayHave c region (register registers n)
