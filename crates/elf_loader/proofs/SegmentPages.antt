-- The pages of the process's region where pages of segments were added, one after another.
use Rattle.std.proofs.Common.{◌≡◌, ◌≢◌, ◌∙◌, ◌⊎◌, inl, inr, ℕ, zero, suc, ◌+◌, ◌<◌, ◌≤◌, is_some, Option, Some, List, [], ◌∷◌, All, refl, ap, sym, subst, arith}
use Rattle.std.specs.Prelude.{Contains, IsSome}
use Rattle.std.proofs.Math.Nat.{eq-or-lt_of_le}
use Rattle.std.proofs.lemmas.List.Elements.{All-nil, All-cons, All-head, All-tail}
use Rattle.machine_types.specs.Stores.{Page, page_of_bytes}
use Rattle.contents.specs.Content.{Content, page_at}
use Rattle.contents.specs.Accesses.{page_of_place}
use Rattle.contents.specs.Conditions.{HasStore}
use Rattle.elf_loader.specs.declared.image.Segment.{Segment}
use Rattle.elf_loader.specs.declared.image.Reloc.{Reloc}
use Rattle.elf_loader.specs.Numbers.{process_region}
use Rattle.elf_loader.specs.Start.{first_page, page_count, page_part, with_pages, with_segments}
use Rattle.elf_loader.specs.StartLaws.{IsOffSegment}
use Rattle.elf_loader.specs.Adding.{ArePlaced}
use Rattle.elf_loader.proofs.ImageParts.{IsOnPage}
use Rattle.elf_loader.proofs.AddedPage.{put-store, put-there, put-elsewhere}
use Rattle.elf_loader.proofs.StartedSteps.{by-pages}

-- pages of a segment leave the region its store
pages-store : (file : List ℕ) (segment : Segment) (c : Content) (n : ℕ) → HasStore process_region c → HasStore process_region (with_pages file segment c n)
pages-store = by-pages (HasStore process_region) (λ c. put-store c process_region)

-- each of so many pages of a segment is there
pages-there : (file : List ℕ) (segment : Segment) (c : Content) (n k : ℕ) → HasStore process_region c → k < n
    → page_at (with_pages file segment c n) process_region (first_page segment + k) ≡ Some (page_of_bytes segment.rights (page_part file segment k))
unfolding with_pages
pages-there file segment c zero k store below = absurd (omega arith)
pages-there file segment c (suc n) k store below = by (eq-or-lt_of_le (let near : k ≤ n = omega arith in near)) (pages-there file segment c n k store)
  where
    by : (k ≡ n) ⊎ (k < n) → (k < n → page_at (with_pages file segment c n) process_region (first_page segment + k) ≡ Some (page_of_bytes segment.rights (page_part file segment k)))
        → page_at (with_pages file segment c (suc n)) process_region (first_page segment + k) ≡ Some (page_of_bytes segment.rights (page_part file segment k))
    by (inl last) rest =
        put-there (with_pages file segment c n) process_region (first_page segment + n) segment.rights (page_part file segment n) (first_page segment + k) (omega arith)
        (pages-store file segment c n store)
        ∙ ap (λ (j : ℕ). Some (page_of_bytes segment.rights (page_part file segment j))) (sym last)
    by (inr earlier) rest =
        put-elsewhere (with_pages file segment c n) process_region (first_page segment + n) segment.rights (page_part file segment n) (first_page segment + k) (λ same. omega arith)
        (pages-store file segment c n store)
        ∙ rest earlier

-- so many pages before the first page or behind the last one are as they were
pages-off : (file : List ℕ) (segment : Segment) (c : Content) (n q : ℕ) → HasStore process_region c → (q < first_page segment) ⊎ (first_page segment + n ≤ q)
    → page_at (with_pages file segment c n) process_region q ≡ page_at c process_region q
unfolding with_pages
pages-off file segment c zero q store off = refl
pages-off file segment c (suc n) q store off =
    put-elsewhere (with_pages file segment c n) process_region (first_page segment + n) segment.rights (page_part file segment n) q (apart off) (pages-store file segment c n store)
    ∙ pages-off file segment c n q store (earlier off)
  where
    apart : (q < first_page segment) ⊎ (first_page segment + suc n ≤ q) → q ≢ first_page segment + n
    apart (inl before) same = omega arith
    apart (inr behind) same = omega arith

    earlier : (q < first_page segment) ⊎ (first_page segment + suc n ≤ q) → (q < first_page segment) ⊎ (first_page segment + n ≤ q)
    earlier (inl before) = inl before
    earlier (inr behind) = inr (omega arith)

-- a page before those of segments in a row is none of theirs
segments-behind : (n past q : ℕ) (segments : List Segment) → ArePlaced n past segments → q < past → All (IsOffSegment q) segments
segments-behind n past q [] are before = All-nil (IsOffSegment q)
segments-behind n past q (segment ∷ segments) are before =
    let behind = are.1 in
    All-cons (IsOffSegment q) segment segments (inl (omega arith)) (segments-behind n (first_page segment + page_count segment) q segments are.2 (omega arith))

-- pages of none of the segments are as they were
pub segments-off : (file : List ℕ) (segments : List Segment) (c : Content) (q : ℕ) → HasStore process_region c → All (IsOffSegment q) segments
    → page_at (with_segments file c segments) process_region q ≡ page_at c process_region q
unfolding with_segments
segments-off file [] c q store off = refl
segments-off file (segment ∷ segments) c q store off =
    segments-off file segments (with_pages file segment c (page_count segment)) q (pages-store file segment c (page_count segment) store) (All-tail (IsOffSegment q) segment segments off)
    ∙ pages-off file segment c (page_count segment) q store (All-head (IsOffSegment q) segment segments off)

-- each page of each segment is there
pub segments-there : (file : List ℕ) (segments : List Segment) (c : Content) (n past k : ℕ) (segment : Segment) → HasStore process_region c → ArePlaced n past segments → Contains segments segment
    → k < page_count segment → page_at (with_segments file c segments) process_region (first_page segment + k) ≡ Some (page_of_bytes segment.rights (page_part file segment k))
unfolding with_segments
segments-there file [] c n past k segment store are (i, below, same) within = absurd (omega arith)
segments-there file (first ∷ segments) c n past k segment store are (zero, below, same) within =
    let mid = with_pages file first c (page_count first) in
    let mine : k < page_count first = subst (λ (s : Segment). k < page_count s) (sym same) within in
    subst (λ (s : Segment). page_at (with_segments file mid segments) process_region (first_page s + k) ≡ Some (page_of_bytes s.rights (page_part file s k))) same
    (segments-off file segments mid (first_page first + k) (pages-store file first c (page_count first) store)
    (segments-behind n (first_page first + page_count first) (first_page first + k) segments are.2 (omega arith))
    ∙ pages-there file first c (page_count first) k store mine)
segments-there file (first ∷ segments) c n past k segment store are (suc i, below, same) within =
    segments-there file segments (with_pages file first c (page_count first)) n (first_page first + page_count first) k segment (pages-store file first c (page_count first) store) are.2
    (i, omega arith, same) within

-- so is the page on which a place lies
pub on-page-there : (file : List ℕ) (segments : List Segment) (c : Content) (n past place : ℕ) → HasStore process_region c → ArePlaced n past segments → IsOnPage segments place
    → IsSome (page_at (with_segments file c segments) process_region (page_of_place place))
on-page-there file segments c n past place store are on =
    ap (λ (q : ℕ). is_some (page_at (with_segments file c segments) process_region q)) on.here
    ∙ ap (λ (o : Option Page). is_some o) (segments-there file segments c n past on.number on.segment store are on.one on.below)
