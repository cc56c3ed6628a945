-- What has been tested of a file so far.
use Rattle.std.specs.Prelude.{ℕ, ◌+◌, ◌*◌, ◌^◌, ◌<◌, ◌≤◌, IsTrue, List, length}
use Rattle.cap_format.specs.Numbers.{region_bytes, image_bytes, file_header_bytes, program_header_bytes, most_headers}
use Rattle.cap_format.specs.declared.image.ProgramHeader.{ProgramHeader}
use Rattle.cap_format.specs.declared.image.Relocation.{Relocation}
use Rattle.cap_format.specs.Image.{header_count, is_segment, is_table}

-- the program headers are there
pub record HasHeaders (file : List ℕ) : Type 0 where
  pub short : length file ≤ image_bytes
  pub few : header_count file ≤ most_headers
  pub room : file_header_bytes + program_header_bytes * header_count file ≤ length file

-- a segment ends in the region, and its rights are those of a page
pub record IsInRegion (header : ProgramHeader) : Type 0 where
  pub ends : IsTrue (is_segment header) → header.start + header.in_memory ≤ region_bytes
  pub rights : IsTrue (is_segment header) → header.flags < 8

-- the part of a table lies in a file of n bytes
pub record IsTableIn (n : ℕ) (header : ProgramHeader) : Type 0 where
  pub ends : IsTrue (is_table header) → header.from + header.in_file ≤ n

-- the permissions of a relocation fit into 16 bits
pub record IsNarrow (relocation : Relocation) : Type 0 where
  pub perms : relocation.perms < 2 ^ 16
