-- The headers of a program's segments keep the rules of segments and of the entry.
use Rattle.std.proofs.Common.{◌≡◌, ℕ, ◌+◌, ◌%◌, ◌≤◌, Bool, true, false, ◌||◌, List, [], ◌∷◌, ◌++◌, length, refl, arith}
use Rattle.std.specs.List.{list_any}
use Rattle.std.proofs.lemmas.Grind.{common_steps}
use Rattle.cap_format.specs.Numbers.{program_header_bytes}
use Rattle.cap_format.specs.Rules.{AllHold}
use Rattle.cap_format.specs.Image.{is_segment, segment_rules, headers_rules, covers, covers_code, entry_rules}
use Rattle.cap_format.specs.declared.image.ProgramHeader.{ProgramHeader}
use Rattle.asm_image.specs.Program.{Segment, segment_end, holds_place, holds_code, segment_header, segment_headers, after, after_all}
use Rattle.asm_image.specs.Sound.{IsSegment, AreSegments}
use Rattle.asm_image.proofs.Holding.{hold-append}
use Rattle.asm_image.proofs.Sizes.{after-all-above}

segment-holds : (n past at h : ℕ) (segment : Segment) → IsSegment past segment → after at segment ≤ n → AllHold (segment_rules n past h (segment_header at segment))
segment-holds n past at h segment is within = (
  grind (arith, common_steps, is.readable, is.rights),
  (
    grind (arith, common_steps, is.aligned, is.inside, is.some),
    (
      grind (arith, common_steps, is.inside, is.some),
      (
        grind (arith, common_steps),
        (
          grind (arith, common_steps, is.behind),
          (
            grind (arith, common_steps, within),
            tt,
          ),
        ),
      ),
    ),
  ),
)

-- the headers of segments keep the rules, before others that keep them behind any segments
pub segments-hold : (n past at h : ℕ) (segments : List Segment) (tail : List ProgramHeader) → AreSegments past segments → after_all at segments ≤ n
    → ((past h : ℕ) → AllHold (headers_rules n past true h tail)) → AllHold (headers_rules n past true h (segment_headers at segments ++ tail))
segments-hold n past at h [] tail are within others = others past h
segments-hold n past at h (segment ∷ segments) tail (here, there) within others =
    hold-append (segment_rules n past h (segment_header at segment)) _
    (segment-holds n past at h segment here (omega (arith, after-all-above (after at segment) segments)))
    (segments-hold n (segment_end segment) (after at segment) (h + program_header_bytes) segments tail there within others)

or-right : (a b c : Bool) → (b ≡ true → c ≡ true) → (a || b) ≡ true → (a || c) ≡ true
or-right true b c more either = refl
or-right false b c more either = more either

any-header : (p : ProgramHeader → Bool) (q : Segment → Bool) (at : ℕ) (segments : List Segment) (tail : List ProgramHeader)
    → ((at : ℕ) (segment : Segment) → p (segment_header at segment) ≡ q segment) → list_any q segments ≡ true → list_any p (segment_headers at segments ++ tail) ≡ true
any-header p q at [] tail same some = absurd (grind arith)
any-header p q at (segment ∷ segments) tail same some =
    rw (same at segment) (or-right (q segment) _ _ (any-header p q (after at segment) segments tail same) some)

-- a place on a page of a segment is on that of its header
pub on-page : (place at : ℕ) (segments : List Segment) (tail : List ProgramHeader) → list_any (holds_place place) segments ≡ true
    → list_any (covers place) (segment_headers at segments ++ tail) ≡ true
on-page place at segments tail on = any-header (covers place) (holds_place place) at segments tail (λ at segment. refl) on

some-segment : (at : ℕ) (segments : List Segment) (tail : List ProgramHeader) → 1 ≤ length segments → list_any is_segment (segment_headers at segments ++ tail) ≡ true
some-segment at [] tail some = absurd (omega arith)
some-segment at (segment ∷ segments) tail some = refl

-- and so are the rules of the entry kept
pub entry-holds : (entry at : ℕ) (segments : List Segment) (tail : List ProgramHeader) → 1 ≤ length segments → entry % 4 ≡ 0 → list_any (holds_code entry) segments ≡ true
    → AllHold (entry_rules entry (segment_headers at segments ++ tail))
entry-holds entry at segments tail some aligned on =
    let code : list_any (covers_code entry) (segment_headers at segments ++ tail) ≡ true =
    any-header (covers_code entry) (holds_code entry) at segments tail (λ at segment. refl) on in
    (some-segment at segments tail some, (grind (arith, common_steps, code, aligned), tt))
