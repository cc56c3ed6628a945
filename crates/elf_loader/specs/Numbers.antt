-- The region and the permissions with which an image is started, as this project fixes them. The code's constants are these.
use Rattle.std.specs.Prelude.{ℕ, ◌≡◌}
use Rattle.elf_loader.specs.declared.TheConstants as code
use Rattle.elf_loader.specs.declared.starts.TheConstants as start

-- the region of process 1
abbrev pub process_region : ℕ
process_region = 0

-- what PCC allows at the start: to execute, to load and to load capabilities
abbrev pub code_permissions : ℕ
code_permissions = 0x16

-- what register 2 allows at the start: to load and to store, capabilities too
abbrev pub data_permissions : ℕ
data_permissions = 0x3c

-- each constant of the code is its number
pub record ConstantsAreFixed : Type 0 where
  pub region : code.PROCESS_REGION ≡ process_region
  pub code_permissions_is : start.CODE_PERMISSIONS ≡ code_permissions
  pub data_permissions_is : start.DATA_PERMISSIONS ≡ data_permissions
