-- The first line of a text ends at its first line feed.
use Rattle.std.proofs.Common.{◌≡◌, ap, refl, ℕ, zero, suc, ◌+◌, ◌-◌, ◌<◌, ◌≤◌, false, List, [], ◌∷◌, Some, length, take, drop, eqb, arith, zero-add, length-drop}
use Rattle.std.proofs.lemmas.Bool.{ne_eqb}
use Rattle.std.proofs.lemmas.List.{drop-drop}
use Rattle.std.specs.Prelude.{slice_get}
use Rattle.asm_text.specs.Lines.{Line, lines_from}
use Rattle.asm_text.specs.Cursors.{IsNoLineEnd, IsLineEnd}

-- a line of these bytes at a place
abbrev pub line-of : ℕ → List ℕ → Line
line-of place bytes = record { place = place; bytes = bytes }

-- so many bytes stand before the first line feed, or make the text
record IsFirst (text : List ℕ) (count : ℕ) : Type 0 where
  to : count ≤ length text
  before : (k : ℕ) → k < count → IsNoLineEnd (slice_get text k)
  here : count < length text → slice_get text count ≡ Some 10

-- the same behind the first byte
first-tail : (byte : ℕ) (text : List ℕ) (count : ℕ) → IsFirst (byte ∷ text) (suc count) → IsFirst text count
first-tail byte text count first = record {
  to = omega (arith, first.to);
  before = λ k below. first.before (suc k) (omega arith);
  here = λ below. first.here (omega arith);
}

-- a byte is none of another
not-feed : (byte : ℕ) → IsNoLineEnd (Some byte) → eqb byte 10 ≡ false
not-feed byte other = ne_eqb byte 10 (λ same. other (ap Some same))

-- a text that isn't empty begins with that line
first-line : (place : ℕ) (text : List ℕ) (count : ℕ) → 0 < length text → IsFirst text count
    → lines_from place text ≡ line-of place (take count text) ∷ lines_from (place + suc count) (drop (suc count) text)
first-line place [] count some first = absurd (omega arith)
first-line place (byte ∷ text) zero some first =
    let feed : byte ≡ 10 = let h = first.here (omega arith) in cc in
    rw feed refl
first-line place (byte ∷ []) (suc count) some first =
    let none : count ≡ 0 = omega (arith, first.to) in
    rw (not-feed byte (first.before 0 (omega arith)), none) refl
first-line place (byte ∷ next ∷ text) (suc count) some first =
    let behind = first-line (place + 1) (next ∷ text) count (omega arith) (first-tail byte (next ∷ text) count first) in
    let same : place + 1 + suc count ≡ place + suc (suc count) = omega arith in
    rw (not-feed byte (first.before 0 (omega arith)), behind, same) refl

-- a byte behind the first ones
slice_get-drop : (at : ℕ) (text : List ℕ) (k : ℕ) → slice_get (drop at text) k ≡ slice_get text (at + k)
slice_get-drop zero text k = rw (zero-add k) refl
slice_get-drop (suc at) [] k = refl
slice_get-drop (suc at) (byte ∷ text) k =
    let same : suc at + k ≡ suc (at + k) = omega arith in
    rw (same, slice_get-drop at text k) refl

-- where the line that stands at a place ends there are the other lines
pub line-at : (text : List ℕ) (at past : ℕ) → at < length text → IsLineEnd text at past
    → lines_from at (drop at text) ≡ line-of at (take (past - at) (drop at text)) ∷ lines_from (past + 1) (drop (past + 1) text)
line-at text at past some end =
    let all : at + (past - at) ≡ past = omega (arith, end.from) in
    let next : at + suc (past - at) ≡ past + 1 = omega (arith, end.from) in
    let left = length-drop at text in
    let first : IsFirst (drop at text) (past - at) = record {
      to = omega (arith, left, end.to);
      before = λ k below. rw (slice_get-drop at text k) (end.before (at + k) (omega arith) (omega (arith, end.from)));
      here = λ below. rw (slice_get-drop at text (past - at), all) (end.here (omega (arith, left, end.from)));
    } in
    rw (first-line at (drop at text) (past - at) (omega (arith, left)) first, drop-drop (suc (past - at)) at text, next) refl
