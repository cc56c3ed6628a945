-- The file that is written part by part is the file of the program.
use Rattle.std.proofs.Common.{◌≡◌, refl, ℕ, ◌+◌, ◌*◌, None, List, [], ◌∷◌, ◌++◌, length, ap, sym, ◌∙◌, arith, length-append}
use Rattle.std.specs.Prelude.{flat_map}
use Rattle.std.proofs.lemmas.List.{append_assoc}
use Rattle.std.proofs.lemmas.Grind.{flat_map-append}
use Rattle.cap_format.specs.Numbers.{file_header_bytes, program_header_bytes}
use Rattle.cap_format.specs.declared.image.ProgramHeader.{ProgramHeader}
use Rattle.cap_format.specs.declared.image.Relocation.{Relocation}
use Rattle.asm_text.specs.declared.listing.Item.{Item}
use Rattle.asm_image.specs.declared.place.OpenSegment.{OpenSegment}
use Rattle.asm_image.specs.Pieces.{Piece, piece_bytes, bytes_of}
use Rattle.asm_image.specs.Program.{Segment, Program, file_header, header_pieces, segment_headers, segment_pieces, table_headers, table_pieces, after_all, count_of, front_of, program_headers, file_of}
use Rattle.asm_image.specs.Faults.{AllMet}
use Rattle.asm_image.specs.Labels.{Offsets}
use Rattle.asm_image.specs.Rules.{places_rules}
use Rattle.asm_image.specs.Assembled.{segments_from}
use Rattle.asm_image.specs.Layout.{closed_from, closed_after, closed_headers, closed_after_all, count_closed, front_closed, front_pieces, body_from}
use Rattle.asm_image.proofs.Standing.{size-append, length-pieces}
use Rattle.asm_image.proofs.Sizes.{size-headers, length-table, size-segments}
use Rattle.asm_image.proofs.Room.{headers-are}
use Rattle.asm_image.proofs.SegmentsInOrder.{AllInRange}
use Rattle.asm_image.proofs.AtTheirEnds.{AreAtEnds, at-ends, headers-same, ends-same, count-same}
use Rattle.asm_image.proofs.Bodies.{body-pieces}

-- pieces behind others add their bytes
pub bytes-append : (before after : List Piece) → bytes_of (before ++ after) ≡ bytes_of before ++ bytes_of after
bytes-append [] after = refl
bytes-append (piece ∷ before) after =
    ap (λ bytes. piece_bytes piece ++ bytes) (bytes-append before after) ∙ sym (append_assoc (piece_bytes piece) (bytes_of before) (bytes_of after))

-- there are as many headers as segments
length-closed : (at : ℕ) (segments : List OpenSegment) → length (closed_headers at segments) ≡ length segments
length-closed at [] = refl
length-closed at (segment ∷ segments) = omega (arith, length-closed (closed_after at segment) segments)

-- The program headers end where the first part may begin.
pub front-length : (entry : ℕ) (segments : List OpenSegment) (relocations : List Relocation) → length (bytes_of (front_pieces entry segments relocations)) ≡ front_closed segments relocations
front-length entry segments relocations =
    let front : ℕ = front_closed segments relocations in
    let own : List ProgramHeader = closed_headers front segments in
    let table : List ProgramHeader = table_headers (closed_after_all front segments) relocations in
    let whole = size-append (file_header entry (count_closed segments relocations)) (flat_map header_pieces own ++ flat_map header_pieces table) in
    let both = size-append (flat_map header_pieces own) (flat_map header_pieces table) in
    omega (arith, length-pieces (front_pieces entry segments relocations), whole, both, size-headers own, size-headers table, length-closed front segments, length-table (closed_after_all front segments) relocations)

-- the file of a program, in the code's order
parts-of : (p : Program) → file_of p
    ≡ (bytes_of (file_header p.entry (count_of p) ++ (flat_map header_pieces (segment_headers (front_of p) p.segments) ++ flat_map header_pieces (table_headers (after_all (front_of p) p.segments) p.relocations)))
    ++ bytes_of (segment_pieces (front_of p) p.segments)) ++ bytes_of (table_pieces (after_all (front_of p) p.segments) p.relocations)
unfolding file_of
parts-of p =
    let first : List Piece = file_header p.entry (count_of p) in
    let own : List ProgramHeader = segment_headers (front_of p) p.segments in
    let table : List ProgramHeader = table_headers (after_all (front_of p) p.segments) p.relocations in
    let parts : List Piece = segment_pieces (front_of p) p.segments in
    let last : List Piece = table_pieces (after_all (front_of p) p.segments) p.relocations in
    let headers : List Piece = flat_map header_pieces own ++ flat_map header_pieces table in
    let same : flat_map header_pieces (program_headers p) ≡ headers = ap (flat_map header_pieces) (headers-are p) ∙ flat_map-append header_pieces own table in
    ap (λ pieces. bytes_of (first ++ (pieces ++ (parts ++ last)))) same
    ∙ ap bytes_of (sym (append_assoc first headers (parts ++ last)) ∙ sym (append_assoc (first ++ headers) parts last))
    ∙ bytes-append ((first ++ headers) ++ parts) last ∙ ap (λ bytes. bytes ++ bytes_of last) (bytes-append (first ++ headers) parts)

-- What is written of a listing that keeps the rules on places is the file of its program.
pub file-written : (text : List ℕ) (offsets : Offsets) (entry : ℕ) (items : List Item) (relocations : List Relocation) → AllInRange items → AllMet (places_rules text 0 None items)
    → (front body table : List ℕ) → front ≡ bytes_of (front_pieces entry (closed_from text None items) relocations) → body ≡ body_from text offsets None (length front) items
    → table ≡ bytes_of (table_pieces (length (front ++ body)) relocations)
    → (front ++ body) ++ table ≡ file_of (record { segments = segments_from text offsets None [] items; relocations = relocations; entry = entry })
unfolding count_of front_of
file-written text offsets entry items relocations ranges places front body table front-is body-is table-is =
    let ends : List OpenSegment = closed_from text None items in
    let segments : List Segment = segments_from text offsets None [] items in
    let p : Program = record { segments = segments; relocations = relocations; entry = entry } in
    let start : ℕ = front_closed ends relocations in
    let are : AreAtEnds segments ends = at-ends text offsets None [] items ranges tt in
    let count : count_closed ends relocations ≡ count_of p = omega (arith, count-same segments ends are) in
    let starts : start ≡ front_of p = ap (λ n. file_header_bytes + program_header_bytes * n) count in
    let long : length front ≡ front_of p = ap length front-is ∙ front-length entry ends relocations ∙ starts in
    let parts : body ≡ bytes_of (segment_pieces (front_of p) segments) =
    body-is ∙ ap (λ at. body_from text offsets None at items) long ∙ sym (body-pieces text offsets 0 None [] (front_of p) items places) in
    let end : length (front ++ body) ≡ after_all (front_of p) segments =
    omega (arith, length-append front body, long, ap length parts, length-pieces (segment_pieces (front_of p) segments), size-segments (front_of p) segments) in
    let headers : front_pieces entry ends relocations
    ≡ file_header entry (count_of p) ++ (flat_map header_pieces (segment_headers (front_of p) segments) ++ flat_map header_pieces (table_headers (after_all (front_of p) segments) relocations)) =
    rw (headers-same (front_of p) segments ends are, ends-same (front_of p) segments ends are, sym starts, sym count) refl in
    let shown : List ℕ = bytes_of (file_header entry (count_of p) ++ (flat_map header_pieces (segment_headers (front_of p) segments) ++ flat_map header_pieces (table_headers (after_all (front_of p) segments) relocations))) in
    ap (λ list. (list ++ body) ++ table) (front-is ∙ ap bytes_of headers) ∙ ap (λ list. (shown ++ list) ++ table) parts
    ∙ ap (λ list. (shown ++ bytes_of (segment_pieces (front_of p) segments)) ++ list) (table-is ∙ ap (λ at. bytes_of (table_pieces at relocations)) end) ∙ sym (parts-of p)

-- What stands before the segments is put part by part.
pub front-put : (entry count front end : ℕ) (segments : List OpenSegment) (relocations : List Relocation) (out first second third : List ℕ) → count ≡ count_closed segments relocations
    → front ≡ front_closed segments relocations → end ≡ closed_after_all front segments → first ≡ out ++ bytes_of (file_header entry count)
    → second ≡ first ++ bytes_of (flat_map header_pieces (closed_headers front segments)) → third ≡ second ++ bytes_of (flat_map header_pieces (table_headers end relocations))
    → third ≡ out ++ bytes_of (front_pieces entry segments relocations)
front-put entry count front end segments relocations out first second third count-is front-is end-is first-is second-is third-is =
    let start : ℕ = front_closed segments relocations in
    let header : List Piece = file_header entry (count_closed segments relocations) in
    let own : List Piece = flat_map header_pieces (closed_headers start segments) in
    let table : List Piece = flat_map header_pieces (table_headers (closed_after_all start segments) relocations) in
    let one : first ≡ out ++ bytes_of header = rw count-is at first-is in
    let two : second ≡ first ++ bytes_of own = rw front-is at second-is in
    let three : third ≡ second ++ bytes_of table = rw (end-is, front-is) at third-is in
    three ∙ ap (λ list. list ++ bytes_of table) (two ∙ ap (λ list. list ++ bytes_of own) one)
    ∙ append_assoc (out ++ bytes_of header) (bytes_of own) (bytes_of table) ∙ append_assoc out (bytes_of header) (bytes_of own ++ bytes_of table)
    ∙ ap (λ list. out ++ list) (ap (λ list. bytes_of header ++ list) (sym (bytes-append own table)) ∙ sym (bytes-append header (own ++ table)))

-- So is what is put part by part.
pub file-put : (text : List ℕ) (offsets : Offsets) (entry : ℕ) (items : List Item) (relocations : List Relocation) → AllInRange items → AllMet (places_rules text 0 None items)
    → (out first second third : List ℕ) → out ≡ [] → first ≡ out ++ bytes_of (front_pieces entry (closed_from text None items) relocations)
    → second ≡ first ++ body_from text offsets None (length first) items → third ≡ second ++ bytes_of (table_pieces (length second) relocations)
    → third ≡ file_of (record { segments = segments_from text offsets None [] items; relocations = relocations; entry = entry })
file-put text offsets entry items relocations ranges places out first second third none first-is second-is third-is =
    let body : List ℕ = body_from text offsets None (length first) items in
    let table : List ℕ = bytes_of (table_pieces (length (first ++ body)) relocations) in
    let shown : third ≡ (first ++ body) ++ table = rw second-is at third-is in
    shown ∙ file-written text offsets entry items relocations ranges places first body table (rw none at first-is) refl refl
