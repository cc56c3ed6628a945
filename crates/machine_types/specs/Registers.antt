-- The register file: 32 capability registers, of which number 0 is always null.
-- After the merged register file of the CHERI ISA v9 and the integer registers of the RISC-V unprivileged ISA.
use Rattle.std.specs.Prelude.{◌≡◌, ℕ, ◌<◌, ◌^◌, ◌==◌, if◌then◌else◌, IsTrue, List, All, length, slice_index_or, slice_set}
use Rattle.cap_format.specs.declared.cap.Cap.{Cap}
use Rattle.cap_format.specs.Made.{null}
use Rattle.cap_format.specs.Region.{IsInside}

-- the register of this number
abbrev pub register : List Cap → ℕ → Cap
register registers n = slice_index_or registers n null

-- a capability is put into a register; register 0 stays null
abbrev pub with_register : List Cap → ℕ → Cap → List Cap
with_register registers n cap = if n == 0 then registers else slice_set registers n cap

-- there are 32 registers, number 0 is null, and each has 128 bits
pub record IsRegisterFile (registers : List Cap) : Type 0 where
  pub length_is : length registers ≡ 32
  pub zero : register registers 0 ≡ null
  pub patterns : All (λ cap. cap.bits < 2 ^ 128) registers

-- each tagged register lies inside the region
abbrev pub AreInside : List Cap → ℕ → Type 0
AreInside registers region = (n : ℕ) → n < 32 → IsTrue (register registers n).tag → IsInside (register registers n).bits region
