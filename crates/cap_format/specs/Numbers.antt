-- The numbers of the address space and of permissions, as this project fixes them. The code's constants are these.
use Rattle.std.specs.Prelude.{ℕ, ◌≡◌}
use Rattle.cap_format.specs.declared.TheConstants as code

-- the first address of region 0
abbrev pub first_region : ℕ
first_region = 4294967296

-- the bytes of a region, of a page and of a granule
abbrev pub region_bytes : ℕ
region_bytes = 1048576

abbrev pub page_bytes : ℕ
page_bytes = 4096

abbrev pub granule_bytes : ℕ
granule_bytes = 16

-- the pages of a region, and the granules of a page
abbrev pub region_pages : ℕ
region_pages = 256

abbrev pub page_granules : ℕ
page_granules = 256

-- the most regions, and the most frames
abbrev pub most_regions : ℕ
most_regions = 64

abbrev pub most_frames : ℕ
most_frames = 4096

-- the most bytes of an image file, and of its table of relocations
abbrev pub image_bytes : ℕ
image_bytes = 4194304

abbrev pub table_bytes : ℕ
table_bytes = 2621440

-- the bytes of an image's file header, of a program header and of a relocation, and the most program headers
abbrev pub file_header_bytes : ℕ
file_header_bytes = 64

abbrev pub program_header_bytes : ℕ
program_header_bytes = 56

abbrev pub relocation_bytes : ℕ
relocation_bytes = 40

abbrev pub most_headers : ℕ
most_headers = 16

-- the types of the program headers of a segment and of the table of relocations
abbrev pub segment_type : ℕ
segment_type = 1

abbrev pub table_type : ℕ
table_type = 0x6b000001

-- The bits of the permissions. Their meanings are after the CHERI ISA v9, and their places are this project's own.
abbrev pub permit_execute : ℕ
permit_execute = 2

abbrev pub permit_load : ℕ
permit_load = 4

abbrev pub permit_store : ℕ
permit_store = 8

abbrev pub permit_load_capability : ℕ
permit_load_capability = 16

abbrev pub permit_store_capability : ℕ
permit_store_capability = 32

abbrev pub all_permissions : ℕ
all_permissions = 62

-- each constant of the code is its number
pub record ConstantsAreFixed : Type 0 where
  pub first_region_is : code.FIRST_REGION ≡ first_region
  pub region_bytes_is : code.REGION_BYTES ≡ region_bytes
  pub page_bytes_is : code.PAGE_BYTES ≡ page_bytes
  pub granule_bytes_is : code.GRANULE_BYTES ≡ granule_bytes
  pub region_pages_is : code.REGION_PAGES ≡ region_pages
  pub page_granules_is : code.PAGE_GRANULES ≡ page_granules
  pub most_regions_is : code.MOST_REGIONS ≡ most_regions
  pub most_frames_is : code.MOST_FRAMES ≡ most_frames
  pub image_bytes_is : code.IMAGE_BYTES ≡ image_bytes
  pub table_bytes_is : code.TABLE_BYTES ≡ table_bytes
  pub file_header_bytes_is : code.FILE_HEADER_BYTES ≡ file_header_bytes
  pub program_header_bytes_is : code.PROGRAM_HEADER_BYTES ≡ program_header_bytes
  pub relocation_bytes_is : code.RELOCATION_BYTES ≡ relocation_bytes
  pub most_headers_is : code.MOST_HEADERS ≡ most_headers
  pub segment_type_is : code.SEGMENT_TYPE ≡ segment_type
  pub table_type_is : code.TABLE_TYPE ≡ table_type
  pub execute : code.EXECUTE ≡ permit_execute
  pub load : code.LOAD ≡ permit_load
  pub store : code.STORE ≡ permit_store
  pub load_capability : code.LOAD_CAPABILITY ≡ permit_load_capability
  pub store_capability : code.STORE_CAPABILITY ≡ permit_store_capability
  pub all : code.ALL_PERMISSIONS ≡ all_permissions
