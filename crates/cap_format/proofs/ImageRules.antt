-- What follows for a file of which all rules hold: of its length, its segments, its table, its entry and its relocations.
use Rattle.std.proofs.Common.{◌≡◌, ◌≢◌, ◌⊎◌, inl, inr, ℕ, zero, suc, ◌+◌, ◌*◌, ◌%◌, ◌<◌, ◌≤◌, IsTrue, Bool, true, false, List, [], ◌∷◌, ◌++◌, length, filter, find, refl, sym, ◌∙◌, arith}
use Rattle.std.specs.List.{list_any, Contains}
use Rattle.std.specs.Prelude.{slice_index_or}
use Rattle.std.proofs.lemmas.Grind.{common_steps}
use Rattle.std.proofs.lemmas.Bool.{eqb-true}
use Rattle.std.proofs.lemmas.List.Elements.{Contains-append_right}
use Rattle.cap_format.specs.Numbers.{region_bytes, region_pages, page_bytes, image_bytes, table_bytes, file_header_bytes, program_header_bytes, relocation_bytes, table_type}
use Rattle.cap_format.specs.Rules.{AllHold}
use Rattle.cap_format.specs.declared.image.ProgramHeader.{ProgramHeader}
use Rattle.cap_format.specs.declared.image.Relocation.{Relocation}
use Rattle.cap_format.specs.Image.{IsImage, front_rules, rules, rules_with, length_rules, byte_rules, identification, field_rules, room_rules, segment_rules, table_rules, header_rules, headers_rules, past_after, first_after, entry_rules, relocation_rules, relocations_rules, table_place, is_segment, is_table, covers, covers_code, end_of, pages_of, header_count, entry_of, headers_of, segments_of, relocations_of}
use Rattle.cap_format.specs.ImageLaws.{IsSegmentBehind, AreSegmentsBehind, IsRelocationBehind, AreRelocationsBehind, IsEntry}
use Rattle.cap_format.proofs.Holding.{none-holding, hold-left, hold-right}

module _ {X : Type 0} where
  -- an element of a list is its head or one of the others
  contains-at : (x : X) (xs : List X) (y : X) (k : ℕ) → k < length (x ∷ xs) → slice_index_or (x ∷ xs) k y ≡ y → (x ≡ y) ⊎ Contains xs y
  contains-at x xs y zero below e = inl e
  contains-at x xs y (suc k) below e = inr (k, omega arith, e)

  contains-cases : (x : X) (xs : List X) (y : X) → Contains (x ∷ xs) y → (x ≡ y) ⊎ Contains xs y
  contains-cases x xs y h = contains-at x xs y h.0 h.1 h.2

  contains-none : (y : X) → Contains [] y → ⊥
  contains-none y h = let below : h.0 < 0 = h.1 in omega arith

  -- where an element passes a test, there is one among those that pass a weaker test
  found-in : (p q : X → Bool) (xs : List X) → ((x : X) → p x ≡ true → q x ≡ true) → list_any p xs ≡ true
      → (x : X) × Contains (filter q xs) x × (p x ≡ true)
  found-in p q [] f h = absurd (cc)
  found-in p q (x ∷ xs) f h = by (p x) refl h (found-in p q xs f)
    where
      later : (b : Bool) → q x ≡ b → (y : X) × Contains (filter q xs) y × (p y ≡ true) → (y : X) × Contains (filter q (x ∷ xs)) y × (p y ≡ true)
      later true e (y, one, passes) = rw e (y, Contains-append_right (x ∷ []) (filter q xs) y one, passes)
      later false e found = rw e found

      by : (b : Bool) → p x ≡ b → list_any p (x ∷ xs) ≡ true → (list_any p xs ≡ true → (y : X) × Contains (filter q xs) y × (p y ≡ true))
          → (y : X) × Contains (filter q (x ∷ xs)) y × (p y ≡ true)
      by true e h k = rw (f x e) (x, (0, omega arith, refl), e)
      by false e h k = later (q x) refl (k (rw e at h))

-- what holds of a header, of all headers, and of those behind the first
abbrev Holds : ℕ → ℕ → Bool → ℕ → ProgramHeader → Type 0
Holds n past first h header = AllHold (header_rules n past first h header)

abbrev HoldFrom : ℕ → ℕ → Bool → ℕ → List ProgramHeader → Type 0
HoldFrom n past first h headers = AllHold (headers_rules n past first h headers)

abbrev HoldBehind : ℕ → ℕ → Bool → ℕ → ProgramHeader → List ProgramHeader → Type 0
HoldBehind n past first h header headers = HoldFrom n (past_after past header) (first_after first header) (h + program_header_bytes) headers

first-holds : (n past : ℕ) (first : Bool) (h : ℕ) (header : ProgramHeader) (headers : List ProgramHeader) → HoldFrom n past first h (header ∷ headers) → Holds n past first h header
first-holds n past first h header headers m =
    hold-left (header_rules n past first h header) (headers_rules n (past_after past header) (first_after first header) (h + program_header_bytes) headers) m

rest-holds : (n past : ℕ) (first : Bool) (h : ℕ) (header : ProgramHeader) (headers : List ProgramHeader) → HoldFrom n past first h (header ∷ headers) → HoldBehind n past first h header headers
rest-holds n past first h header headers m =
    hold-right (header_rules n past first h header) (headers_rules n (past_after past header) (first_after first header) (h + program_header_bytes) headers) m

-- the rules of a segment, and of a table
segment-holds : (n past : ℕ) (first : Bool) (h : ℕ) (header : ProgramHeader) → is_segment header ≡ true → Holds n past first h header → AllHold (segment_rules n past h header)
segment-holds n past first h header e m = rw e at m

table-holds : (n past : ℕ) (first : Bool) (h : ℕ) (header : ProgramHeader) → is_table header ≡ true → Holds n past first h header → AllHold (table_rules n first h header)
table-holds n past first h header e m =
    let kind : header.kind ≡ table_type = eqb-true header.kind table_type e in
    rw kind at m

-- segments
segment-behind : (n past h : ℕ) (header : ProgramHeader) → AllHold (segment_rules n past h header) → IsSegmentBehind n past header
segment-behind n past h header (flags, (start, (memory, (part, (behind, (file, m)))))) = record {
  behind = grind (arith, common_steps, behind);
  at_page = grind (arith, common_steps, start);
  some = grind (arith, common_steps, memory);
  within = grind (arith, common_steps, start, memory);
  part = grind (arith, common_steps, part);
  in_file = grind (arith, common_steps, file);
  readable = grind (arith, common_steps, flags);
  rights = grind (arith, common_steps, flags);
}

segments-behind : (n past : ℕ) (first : Bool) (h : ℕ) (headers : List ProgramHeader) → HoldFrom n past first h headers → AreSegmentsBehind n past (filter is_segment headers)
segments-behind n past first h [] m = tt
segments-behind n past first h (header ∷ headers) m =
    by (is_segment header) refl (first-holds n past first h header headers m) (rest-holds n past first h header headers m)
    (λ past first. segments-behind n past first (h + program_header_bytes) headers)
  where
    by : (b : Bool) → is_segment header ≡ b → Holds n past first h header → HoldBehind n past first h header headers
        → ((past : ℕ) (first : Bool) → HoldFrom n past first (h + program_header_bytes) headers → AreSegmentsBehind n past (filter is_segment headers))
        → AreSegmentsBehind n past (filter is_segment (header ∷ headers))
    by true e here there k = rw e (segment-behind n past h header (segment-holds n past first h header e here), k (end_of header) (first_after first header) (rw e at there))
    by false e here there k = rw e (k past (first_after first header) (rw e at there))

-- a page of the region is at most one segment's
pages-most : (n past : ℕ) (segments : List ProgramHeader) → past ≤ region_bytes → AreSegmentsBehind n past segments → page_bytes * pages_of segments + past ≤ region_bytes
pages-most n past [] below s = omega arith
pages-most n past (segment ∷ segments) below (here, there) =
    let rest : page_bytes * pages_of segments + end_of segment ≤ region_bytes = pages-most n (end_of segment) segments here.within there in
    omega (arith, here.behind, rest)

-- a table's part of a file of n bytes
abbrev Fits : ℕ → ProgramHeader → Type 0
Fits n header = (header.from + header.in_file ≤ n) × (header.in_file ≤ table_bytes) × (header.in_file % relocation_bytes ≡ 0)

table-fits : (n h : ℕ) (first : Bool) (header : ProgramHeader) → AllHold (table_rules n first h header) → Fits n header
table-fits n h first header (one, (size, (file, m))) = (grind (arith, common_steps, file), grind (arith, common_steps, size), grind (arith, common_steps, size))

tables-fit : (n past : ℕ) (first : Bool) (h : ℕ) (headers : List ProgramHeader) (header : ProgramHeader) → HoldFrom n past first h headers → Contains headers header
    → is_table header ≡ true → Fits n header
tables-fit n past first h [] header m one t = absurd (contains-none header one)
tables-fit n past first h (head ∷ headers) header m one t =
    by (contains-cases head headers header one)
    (tables-fit n (past_after past head) (first_after first head) (h + program_header_bytes) headers header (rest-holds n past first h head headers m))
  where
    by : (head ≡ header) ⊎ Contains headers header → (Contains headers header → is_table header ≡ true → Fits n header) → Fits n header
    by (inl e) k = table-fits n h first header (table-holds n past first h header t (rw e at (first-holds n past first h head headers m)))
    by (inr there) k = k there t

-- behind a table there is no other
no-more : (n past h : ℕ) (headers : List ProgramHeader) (header : ProgramHeader) → HoldFrom n past false h headers → Contains headers header → is_table header ≡ true → ⊥
no-more n past h [] header m one t = contains-none header one
no-more n past h (head ∷ headers) header m one t =
    by (contains-cases head headers header one)
    (no-more n (past_after past head) (h + program_header_bytes) headers header (rest-holds n past false h head headers m))
  where
    by : (head ≡ header) ⊎ Contains headers header → (Contains headers header → is_table header ≡ true → ⊥) → ⊥
    by (inl e) k = let (first, more) = table-holds n past false h header t (rw e at (first-holds n past false h head headers m)) in cc
    by (inr there) k = k there t

behind-table : (n past : ℕ) (first : Bool) (h : ℕ) (head : ProgramHeader) (headers : List ProgramHeader) (header : ProgramHeader) → HoldFrom n past first h (head ∷ headers)
    → is_table head ≡ true → Contains headers header → is_table header ≡ true → ⊥
behind-table n past first h head headers header m t there u =
    let none : first_after first head ≡ false = by first in
    no-more n (past_after past head) (h + program_header_bytes) headers header (rw none at (rest-holds n past first h head headers m)) there u
  where
    by : (b : Bool) → first_after b head ≡ false
    by true = rw t refl
    by false = refl

only-table : (n past : ℕ) (first : Bool) (h : ℕ) (headers : List ProgramHeader) (one other : ProgramHeader) → HoldFrom n past first h headers → Contains headers one
    → Contains headers other → is_table one ≡ true → is_table other ≡ true → one ≡ other
only-table n past first h [] one other m c d t u = absurd (contains-none one c)
only-table n past first h (head ∷ headers) one other m c d t u =
    by (contains-cases head headers one c) (contains-cases head headers other d)
    (λ c d. only-table n (past_after past head) (first_after first head) (h + program_header_bytes) headers one other
    (rest-holds n past first h head headers m) c d t u)
  where
    by : (head ≡ one) ⊎ Contains headers one → (head ≡ other) ⊎ Contains headers other → (Contains headers one → Contains headers other → one ≡ other) → one ≡ other
    by (inl e) (inl f) k = sym e ∙ f
    by (inl e) (inr d) k = absurd (behind-table n past first h head headers other m (rw e t) d u)
    by (inr c) (inl f) k = absurd (behind-table n past first h head headers one m (rw f u) c t)
    by (inr c) (inr d) k = k c d

-- the entry
entry-there : (entry : ℕ) (headers : List ProgramHeader) → AllHold (entry_rules entry headers) → IsEntry (filter is_segment headers) entry
entry-there entry headers (some, (place, m)) =
    let aligned : entry % 4 ≡ 0 = grind (arith, common_steps, place) in
    let code : list_any (covers_code entry) headers ≡ true = grind (arith, common_steps, place) in
    let (segment, one, covered) = found-in (covers_code entry) is_segment headers (λ x h. grind (arith, common_steps, h)) code in
    record {
      aligned = aligned;
      segment = segment;
      one = one;
      code = grind (arith, common_steps, covered);
      from = grind (arith, common_steps, covered);
      to = grind (arith, common_steps, covered);
    }

-- relocations
relocation-behind : (headers : List ProgramHeader) (least r : ℕ) (relocation : Relocation) → AllHold (relocation_rules headers least r relocation)
    → IsRelocationBehind (filter is_segment headers) least relocation
relocation-behind headers least r relocation (place, (bounds, (offset, (perms, m)))) =
    let on_page : list_any (covers relocation.place) headers ≡ true = grind (arith, common_steps, place) in
    let (segment, one, covered) = found-in (covers relocation.place) is_segment headers (λ x h. grind (arith, common_steps, h)) on_page in
    record {
      behind = grind (arith, common_steps, place);
      at_granule = grind (arith, common_steps, place);
      segment = segment;
      one = one;
      from = grind (arith, common_steps, covered);
      to = grind (arith, common_steps, covered);
      within = grind (arith, common_steps, bounds);
      exact = grind (arith, common_steps, bounds);
      offset = grind (arith, common_steps, offset);
      perms = grind (arith, common_steps, perms);
    }

relocations-behind : (headers : List ProgramHeader) (least r : ℕ) (relocations : List Relocation) → AllHold (relocations_rules headers least r relocations)
    → AreRelocationsBehind (filter is_segment headers) least relocations
relocations-behind headers least r [] m = tt
relocations-behind headers least r (relocation ∷ relocations) m =
    let rest = relocations_rules headers (relocation.place + 1) (r + relocation_bytes) relocations in (
      relocation-behind headers least r relocation (hold-left (relocation_rules headers least r relocation) rest m),
      relocations-behind headers (relocation.place + 1) (r + relocation_bytes) relocations (hold-right (relocation_rules headers least r relocation) rest m),
    )

-- the rules of an image, part by part
pub record Held (file : List ℕ) : Type 0 where
  pub sizes : AllHold (length_rules (length file))
  pub room : AllHold (room_rules file)
  pub headers : AllHold (headers_rules (length file) 0 true file_header_bytes (headers_of file))
  pub entry : AllHold (entry_rules (entry_of file) (headers_of file))
  pub relocations : AllHold (relocations_rules (headers_of file) 0 (table_place (find is_table (headers_of file))) (relocations_of file))

held : (file : List ℕ) → IsImage file → Held file
unfolding rules
held file image =
    let rest = rules_with file (headers_of file) in
    let three = field_rules file ++ room_rules file in
    let two = byte_rules file 0 identification ++ three in
    let all : AllHold (front_rules file ++ rest) = none-holding (rules file) image in
    let front : AllHold (length_rules (length file) ++ two) = hold-left (front_rules file) rest all in
    let from_fields : AllHold three = hold-right (byte_rules file 0 identification) three (hold-right (length_rules (length file)) two front) in
    let from_headers : AllHold rest = hold-right (front_rules file) rest all in
    let last = relocations_rules (headers_of file) 0 (table_place (find is_table (headers_of file))) (relocations_of file) in
    let behind = entry_rules (entry_of file) (headers_of file) ++ last in
    let from_entry : AllHold behind = hold-right (headers_rules (length file) 0 true file_header_bytes (headers_of file)) behind from_headers in
    record {
      sizes = hold-left (length_rules (length file)) two front;
      room = hold-right (field_rules file) (room_rules file) from_fields;
      headers = hold-left (headers_rules (length file) 0 true file_header_bytes (headers_of file)) behind from_headers;
      entry = hold-left (entry_rules (entry_of file) (headers_of file)) last from_entry;
      relocations = hold-right (entry_rules (entry_of file) (headers_of file)) last from_entry;
    }

-- an image
module _ (file : List ℕ) (image : IsImage file) where
  pub image-most : length file ≤ image_bytes
  image-most = let (most, least) = (held file image).sizes in grind (arith, common_steps, most)

  pub image-headers : file_header_bytes + program_header_bytes * header_count file ≤ length file
  image-headers = let (room, m) = (held file image).room in grind (arith, common_steps, room)

  pub image-segments : AreSegmentsBehind (length file) 0 (segments_of file)
  image-segments = segments-behind (length file) 0 true file_header_bytes (headers_of file) (held file image).headers

  pub image-some : segments_of file ≢ []
  image-some none =
      let (some, m) = (held file image).entry in
      let (segment, one, is) = found-in is_segment is_segment (headers_of file) (λ x h. h) some in
      contains-none segment (rw none at one)

  pub image-pages : pages_of (segments_of file) ≤ region_pages
  image-pages = omega (arith, pages-most (length file) 0 (segments_of file) (omega arith) image-segments)

  pub image-entry : IsEntry (segments_of file) (entry_of file)
  image-entry = entry-there (entry_of file) (headers_of file) (held file image).entry

  pub image-relocations : AreRelocationsBehind (segments_of file) 0 (relocations_of file)
  image-relocations = relocations-behind (headers_of file) 0 (table_place (find is_table (headers_of file))) (relocations_of file) (held file image).relocations

  pub image-table : (header : ProgramHeader) → Contains (headers_of file) header → IsTrue (is_table header) → Fits (length file) header
  image-table header one t = tables-fit (length file) 0 true file_header_bytes (headers_of file) header (held file image).headers one t

  pub image-one-table : (one other : ProgramHeader) → Contains (headers_of file) one → Contains (headers_of file) other → IsTrue (is_table one) → IsTrue (is_table other) → one ≡ other
  image-one-table one other c d t u = only-table (length file) 0 true file_header_bytes (headers_of file) one other (held file image).headers c d t u
