-- A worked image, and worked capabilities of the start.
use Rattle.std.specs.Prelude.{◌≡◌, ℕ, ◌+◌, ◌*◌, ◌^◌, true, List, [], ◌∷◌}
use Rattle.cap_format.specs.declared.cap.Cap.{Cap}
use Rattle.cap_format.specs.declared.image.ProgramHeader.{ProgramHeader}
use Rattle.cap_format.specs.ImageExamples.{joined, file_header, program_header, table, relocation}
use Rattle.machine_types.specs.declared.config.Rule.TheVariants.{Full}
use Rattle.machine_types.specs.Registers.{register}
use Rattle.contents.specs.Content.{nothing}
use Rattle.elf_loader.specs.declared.image.Reloc.{Reloc}
use Rattle.elf_loader.specs.declared.image.Image.{Image}
use Rattle.elf_loader.specs.Loaded.{image_of}
use Rattle.elf_loader.specs.Start.{capability_for, start_registers, start_pcc}
use Rattle.elf_loader.specs.StartLaws.{MayStart}

-- a segment's program header
abbrev pub loaded_from : ℕ → ℕ → ℕ → ℕ → ℕ → ProgramHeader
loaded_from from flags start in_file in_memory = record { kind = 1; flags = flags; from = from; start = start; in_file = in_file; in_memory = in_memory }

-- An image of 284 bytes: code at byte 232 of the file, data at 240, and one relocation at 244. The data has two pages.
abbrev pub worked_file : List ℕ
worked_file = joined
    (file_header 4 3
    ∷ program_header (loaded_from 232 5 0 8 16)
    ∷ program_header (loaded_from 240 6 8192 4 4100)
    ∷ program_header (table 244 40)
    ∷ (1 ∷ 2 ∷ 3 ∷ 4 ∷ 5 ∷ 6 ∷ 7 ∷ 8 ∷ [])
    ∷ (9 ∷ 10 ∷ 11 ∷ 12 ∷ [])
    ∷ relocation (record { place = 8208; base = 4128; span = 5; offset = 2; perms = 0x3c })
    ∷ [])

-- its relocation, and one without bytes at the region's end
abbrev pub worked_reloc : Reloc
worked_reloc = record { place = 8208; base = 4128; length = 5; offset = 2; perms = 0x3c }

abbrev pub last_reloc : Reloc
last_reloc = record { place = 0; base = 1048576; length = 0; offset = 0; perms = 0x3c }

-- what the file holds
abbrev pub worked_image : Image
worked_image = record {
  entry = 4;
  segments =
      record { start = 0; size = 16; from = 232; file_size = 8; rights = 5 }
      ∷ record { start = 8192; size = 4100; from = 240; file_size = 4; rights = 6 }
      ∷ [];
  relocs = worked_reloc ∷ [];
  pages = 3;
}

abbrev pub tagged : ℕ → Cap
tagged bits = record { bits = bits; tag = true }

-- The file holds that image, which may be started where three frames are free. The capabilities of the two relocations, register 2 at
-- the start, and PCC at entry 8, bit for bit: the meta half, and the address.
pub record WorkedStartsHold : Type 0 where
  pub image : image_of worked_file ≡ worked_image
  pub may : MayStart worked_file (nothing Full 3)
  pub capability : capability_for worked_reloc ≡ tagged (0x003c000000095020 * 2 ^ 64 + 0x0000000100001022)
  pub last : capability_for last_reloc ≡ tagged (0x003c000000000000 * 2 ^ 64 + 0x0000000100100000)
  pub register_2 : register start_registers 2 ≡ tagged (0x003c000004004000 * 2 ^ 64 + 0x0000000100000000)
  pub pcc : start_pcc 8 ≡ tagged (0x0016000004004000 * 2 ^ 64 + 0x0000000100000008)
