-- The file header is read back.
use Rattle.std.proofs.Common.{◌≡◌, ℕ, ◌^◌, ◌<◌, ◌≤◌, List, ◌++◌, refl, arith}
use Rattle.std.proofs.lemmas.Grind.{common_steps}
use Rattle.cap_format.specs.Numbers.{file_header_bytes, program_header_bytes, most_headers}
use Rattle.cap_format.specs.Rules.{AllHold}
use Rattle.cap_format.specs.FileNumbers.{byte_at, u16_at, u32_at, u64_at}
use Rattle.cap_format.specs.Image.{identification, byte_rules, field_rules, header_count, entry_of}
use Rattle.asm_image.specs.Pieces.{Piece, piece_bytes, bytes_of}
use Rattle.asm_image.specs.Program.{file_header}
use Rattle.asm_image.proofs.Standing.{From, read16, read32, read64, past}

-- the identification stands at the front
pub front-bytes : (entry count : ℕ) (body : List Piece) → AllHold (byte_rules (bytes_of (file_header entry count ++ body)) 0 identification)
unfolding byte_at piece_bytes
front-bytes entry count body = (refl, (refl, (refl, (refl, (refl, (refl, (refl, (refl, (refl, (refl, (refl, (refl, (refl, (refl, (refl, (refl, tt))))))))))))))))

-- what the file header says, and what stands behind it
pub record IsFront (file : List ℕ) (entry count : ℕ) (body : List Piece) : Type 0 where
  pub fields : AllHold (field_rules file)
  pub entry_is : entry_of file ≡ entry
  pub count_is : header_count file ≡ count
  pub behind : From file file_header_bytes body

-- the front of a file that begins with a file header
pub front : (file : List ℕ) (entry count : ℕ) (body : List Piece) → From file 0 (file_header entry count ++ body) → entry < 2 ^ 64 → 1 ≤ count → count ≤ most_headers
    → IsFront file entry count body
front file entry count body at0 small some few =
    let at16 = past at0 16 refl in
    let at18 = past at16 18 refl in
    let at20 = past at18 20 refl in
    let at24 = past at20 24 refl in
    let at32 = past at24 32 refl in
    let at40 = past at32 40 refl in
    let at48 = past at40 48 refl in
    let at52 = past at48 52 refl in
    let at54 = past at52 54 refl in
    let at56 = past at54 56 refl in
    let at58 = past at56 58 refl in
    let at60 = past at58 60 refl in
    let at62 = past at60 62 refl in
    let type : u16_at file 16 ≡ 3 = read16 at16 (omega arith) in
    let machine : u16_at file 18 ≡ 243 = read16 at18 (omega arith) in
    let version : u32_at file 20 ≡ 1 = read32 at20 (omega arith) in
    let phoff : u64_at file 32 ≡ file_header_bytes = read64 at32 (omega arith) in
    let flags : u32_at file 48 ≡ 0 = read32 at48 (omega arith) in
    let ehsize : u16_at file 52 ≡ file_header_bytes = read16 at52 (omega arith) in
    let phentsize : u16_at file 54 ≡ program_header_bytes = read16 at54 (omega arith) in
    let phnum : u16_at file 56 ≡ count = read16 at56 (omega arith) in
    record {
      fields =
          (rw type refl, (rw machine refl, (rw version refl, (rw phoff refl, (rw flags refl, (rw ehsize refl, (rw phentsize refl, (rw phnum (grind (arith, common_steps)), tt))))))));
      entry_is = read64 at24 small;
      count_is = phnum;
      behind = past at62 file_header_bytes refl;
    }
