-- The file of a program keeps every rule of images.
use Rattle.std.proofs.Common.{◌≡◌, ◌∙◌, ℕ, true, List, ◌++◌, length, find, arith}
use Rattle.std.proofs.lemmas.Grind.{common_steps}
use Rattle.cap_format.specs.Numbers.{file_header_bytes}
use Rattle.cap_format.specs.Rules.{AllHold}
use Rattle.cap_format.specs.Image as image
use Rattle.cap_format.specs.Image.{IsImage, identification, is_table, length_rules, byte_rules, field_rules, room_rules, front_rules, headers_rules, entry_rules, relocations_rules, rules_with, rules, entry_of, table_place, relocations_of}
use Rattle.cap_format.specs.declared.image.ProgramHeader.{ProgramHeader}
use Rattle.cap_format.proofs.Holding.{holding-none}
use Rattle.asm_image.specs.Program.{Program, segment_headers, front_of, table_headers, file_of}
use Rattle.asm_image.specs.Sound.{IsProgram}
use Rattle.asm_image.proofs.Holding.{hold-append}
use Rattle.asm_image.proofs.Sizes.{size-table}
use Rattle.asm_image.proofs.TableRead.{table-holds}
use Rattle.asm_image.proofs.SegmentsHold.{segments-hold, entry-holds}
use Rattle.asm_image.proofs.RelocationsHold.{relocations-hold}
use Rattle.asm_image.proofs.Room.{end_of_segments, headers-are, HasRoom, has-room}
use Rattle.asm_image.proofs.FilesRead.{first-bytes, IsRead, file-read}

-- the rules that come before the program headers
front-holds : (p : Program) → HasRoom p → IsRead p → AllHold (front_rules (file_of p))
front-holds p room read =
    let file : List ℕ = file_of p in
    let most = size-table (end_of_segments p) p.relocations in
    let lengths : AllHold (length_rules (length file)) = (grind (arith, common_steps, room.whole), (grind (arith, common_steps, room.whole), tt)) in
    let headers : AllHold (room_rules file) = (rw read.count (grind (arith, common_steps, room.whole)), tt) in
    hold-append (length_rules (length file)) (byte_rules file 0 identification ++ (field_rules file ++ room_rules file)) lengths
    (hold-append (byte_rules file 0 identification) (field_rules file ++ room_rules file) (first-bytes p) (hold-append (field_rules file) (room_rules file) read.fields headers))

-- the rules that read the program headers
with-holds : (p : Program) → IsProgram p → HasRoom p → IsRead p → AllHold (rules_with (file_of p) (image.headers_of (file_of p)))
with-holds p is room read =
    let file : List ℕ = file_of p in
    let found : List ProgramHeader = image.headers_of file in
    let tail : List ProgramHeader = table_headers (end_of_segments p) p.relocations in
    let headers : List ProgramHeader = segment_headers (front_of p) p.segments ++ tail in
    let same : found ≡ headers = read.headers ∙ headers-are p in
    let fifth : AllHold (headers_rules (length file) 0 true file_header_bytes found) =
    let table = table-holds (length file) (end_of_segments p) p.relocations room.whole room.few in
    rw same (segments-hold (length file) 0 (front_of p) file_header_bytes p.segments tail is.segments (omega (arith, room.whole)) table) in
    let sixth : AllHold (entry_rules (entry_of file) found) =
    rw (read.entry, same) (entry-holds p.entry (front_of p) p.segments tail is.some is.entry_aligned is.entry_on_page) in
    let seventh : AllHold (relocations_rules found 0 (table_place (find is_table found)) (relocations_of file)) =
    rw (read.relocations, same) (relocations-hold p.segments (front_of p) 0 (table_place (find is_table headers)) tail p.relocations is.relocations) in
    hold-append (headers_rules (length file) 0 true file_header_bytes found) _ fifth (hold-append (entry_rules (entry_of file) found) _ sixth seventh)

-- all rules
rules-hold : (p : Program) → IsProgram p → AllHold (rules (file_of p))
unfolding rules
rules-hold p is =
    let room = has-room p is in
    let read = file-read p is in
    hold-append (front_rules (file_of p)) (rules_with (file_of p) (image.headers_of (file_of p))) (front-holds p room read) (with-holds p is room read)

-- the file of a program is an image
pub files-are-images : (p : Program) → IsProgram p → IsImage (file_of p)
files-are-images p is = holding-none (rules (file_of p)) (rules-hold p is)
