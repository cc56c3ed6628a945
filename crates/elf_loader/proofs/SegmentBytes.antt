-- The bytes of a segment's pages: those of the file, and then zeros.
use Rattle.std.proofs.Common.{◌≡◌, ◌∙◌, ◌⊎◌, inl, inr, ℕ, ◌+◌, ◌*◌, ◌/◌, ◌%◌, ◌<◌, ◌≤◌, nat_lt, true, false, Option, Some, List, length, get_or, drop, ap, sym, arith}
use Rattle.std.proofs.lemmas.Bool.{cases_lt}
use Rattle.std.proofs.lemmas.Bool.Decides.{nat_tests}
use Rattle.std.proofs.lemmas.List.{length-take, get_or-take, get_or-drop, get_or_past}
use Rattle.std.proofs.lemmas.List.Elements.{All-take, All-drop}
use Rattle.cap_format.specs.Numbers.{page_bytes}
use Rattle.machine_types.specs.Granules.{number_at}
use Rattle.machine_types.specs.MemoryLaws.{AreBytes, NumbersAreBytes, PagesAreMade}
use Rattle.machine_types.specs.Stores.{Page, page_of_bytes}
use Rattle.contents.specs.Content.{Content, page_at}
use Rattle.contents.specs.Accesses.{page_of_place, byte_of_place}
use Rattle.contents.specs.Transfers.{byte_in}
use Rattle.contents.specs.Writing.{byte_seen}
use Rattle.elf_loader.specs.declared.image.Segment.{Segment}
use Rattle.elf_loader.specs.Start.{first_page, part_of, page_part}
use Rattle.elf_loader.specs.StartLaws.{byte_of}

-- a byte of the part of a segment that stands in the file, and zero past it
part-byte : (file : List ℕ) (segment : Segment) (k : ℕ) → get_or (part_of file segment) k 0 ≡ byte_of file segment k
part-byte file segment k = by (cases_lt k segment.file_size)
  where
    by : (k < segment.file_size) ⊎ (segment.file_size ≤ k) → get_or (part_of file segment) k 0 ≡ byte_of file segment k
    by (inl below) =
        let test : nat_lt k segment.file_size ≡ true = grind (arith, nat_tests) in
        rw test (get_or-take segment.file_size (drop segment.from file) k 0 below ∙ get_or-drop segment.from file k 0)
    by (inr past) =
        let test : nat_lt k segment.file_size ≡ false = grind (arith, nat_tests) in
        rw test (get_or_past (part_of file segment) k 0 (omega (arith, length-take segment.file_size (drop segment.from file))))

-- a byte of what is on one of its pages
page_part-byte : (file : List ℕ) (segment : Segment) (number k : ℕ) → k < page_bytes → get_or (page_part file segment number) k 0 ≡ byte_of file segment (number * page_bytes + k)
page_part-byte file segment number k below =
    get_or-take page_bytes (drop (number * page_bytes) (part_of file segment)) k 0 below
    ∙ get_or-drop (number * page_bytes) (part_of file segment) k 0 ∙ part-byte file segment (number * page_bytes + k)

-- they are no more than a page has
page_part-fits : (file : List ℕ) (segment : Segment) (number : ℕ) → length (page_part file segment number) ≤ page_bytes
page_part-fits file segment number = omega (arith, length-take page_bytes (drop (number * page_bytes) (part_of file segment)))

-- and they are bytes
page_part-bytes : (file : List ℕ) (segment : Segment) (number : ℕ) → AreBytes file → AreBytes (page_part file segment number)
page_part-bytes file segment number are =
    All-take (λ byte. byte < 256) page_bytes (drop (number * page_bytes) (part_of file segment))
    (All-drop (λ byte. byte < 256) (number * page_bytes) (part_of file segment)
    (All-take (λ byte. byte < 256) segment.file_size (drop segment.from file) (All-drop (λ byte. byte < 256) segment.from file are)))

module _ (made : PagesAreMade) (numbers : NumbersAreBytes) where
  -- a byte of a page that is made of bytes, and zero past them
  page-byte : (rights : ℕ) (bytes : List ℕ) (k : ℕ) → length bytes ≤ page_bytes → AreBytes bytes → number_at (page_of_bytes rights bytes).granules k 1 ≡ get_or bytes k 0
  page-byte rights bytes k fit are = by (cases_lt k (length bytes))
    where
      by : (k < length bytes) ⊎ (length bytes ≤ k) → number_at (page_of_bytes rights bytes).granules k 1 ≡ get_or bytes k 0
      by (inl below) =
          let same : k ≡ 0 + k = omega arith in
          ap (λ (j : ℕ). number_at (page_of_bytes rights bytes).granules j 1) same ∙ sym (numbers.each (page_of_bytes rights bytes).granules 0 (length bytes) k below)
          ∙ ap (λ (xs : List ℕ). get_or xs k 0) (made.front rights bytes fit are)
      by (inr past) = made.zeros rights bytes k fit past ∙ sym (get_or_past bytes k 0 past)

  -- a byte that is seen on a page of a segment is that of the segment
  pub segment-byte : (file : List ℕ) (segment : Segment) (c : Content) (region k : ℕ) → AreBytes file → segment.start ≡ first_page segment * page_bytes
      → page_at c region (first_page segment + k / page_bytes) ≡ Some (page_of_bytes segment.rights (page_part file segment (k / page_bytes)))
      → byte_seen c region (segment.start + k) ≡ byte_of file segment k
  segment-byte file segment c region k are at_page there =
      let here : page_of_place (segment.start + k) ≡ first_page segment + k / page_bytes = omega arith in
      let byte : byte_of_place (segment.start + k) ≡ k % page_bytes = omega arith in
      let whole : k / page_bytes * page_bytes + k % page_bytes ≡ k = omega arith in
      ap (λ (q : ℕ). byte_in (page_at c region q) (segment.start + k)) here
      ∙ ap (λ (o : Option Page). byte_in o (segment.start + k)) there
      ∙ ap (λ (j : ℕ). number_at (page_of_bytes segment.rights (page_part file segment (k / page_bytes))).granules j 1) byte
      ∙ page-byte segment.rights (page_part file segment (k / page_bytes)) (k % page_bytes) (page_part-fits file segment (k / page_bytes)) (page_part-bytes file segment (k / page_bytes) are)
      ∙ page_part-byte file segment (k / page_bytes) (k % page_bytes) (omega arith)
      ∙ ap (byte_of file segment) whole
