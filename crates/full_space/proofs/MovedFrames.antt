-- Frames of which the granules below a number are moved.
use Rattle.std.proofs.Common.{◌≡◌, ◌∙◌, ◌⊎◌, inl, inr, ℕ, zero, suc, ◌+◌, ◌<◌, ◌≤◌, false, List, [], ◌∷◌, length, set, refl, ap, sym, arith}
use Rattle.std.proofs.Math.Nat.{eq-or-lt_of_le}
use Rattle.std.proofs.lemmas.List.{set-set, set-get_or}
use Rattle.cap_format.specs.declared.cap.Cap.{Cap}
use Rattle.cap_format.specs.Made.{null}
use Rattle.cap_format.specs.Moves.{moved}
use Rattle.cap_format.specs.Numbers.{page_granules}
use Rattle.machine_types.specs.Granules.{granule, is_tagged}
use Rattle.machine_types.specs.Stores.{moved_granules}
use Rattle.machine_types.specs.Held.{IsHeld, AreHeld}
use Rattle.machine_types.proofs.MovedPages.{moved-untagged}
use Rattle.tagged_memory.specs.Frames.{frame, with_frame, IsFrame, IsNextTag}
use Rattle.stores.proofs.BoardParts.{frame-with_frame_same}
use Rattle.full_space.specs.Steps.{moved_below}

-- the granules from the number on are as they were
granule-moved_below : (from to n k : ℕ) (granules : List Cap) → n ≤ k → granule (moved_below from to n granules) k ≡ granule granules k
unfolding moved_below
granule-moved_below from to zero k granules past = refl
granule-moved_below from to (suc n) k [] past = refl
granule-moved_below from to (suc n) zero (cap ∷ granules) past = absurd (omega arith)
granule-moved_below from to (suc n) (suc k) (cap ∷ granules) past = granule-moved_below from to n k granules (omega arith)

-- one granule more is moved
moved_below-more : (from to n : ℕ) (granules : List Cap) → n < length granules → moved_below from to (suc n) granules ≡ set (moved_below from to n granules) n (moved (granule granules n) from to)
unfolding moved_below
moved_below-more from to n [] below = absurd (omega arith)
moved_below-more from to zero (cap ∷ granules) below = refl
moved_below-more from to (suc n) (cap ∷ granules) below = ap (λ (rest : List Cap). moved cap from to ∷ rest) (moved_below-more from to n granules (omega arith))

-- one without a tag moves to itself
moved_below-untagged : (from to n : ℕ) (granules : List Cap) → is_tagged granules n ≡ false → moved_below from to (suc n) granules ≡ moved_below from to n granules
unfolding moved_below
moved_below-untagged from to zero [] untagged = refl
moved_below-untagged from to (suc n) [] untagged = refl
moved_below-untagged from to zero (cap ∷ granules) untagged = ap (λ (first : Cap). first ∷ granules) (moved-untagged cap from to untagged)
moved_below-untagged from to (suc n) (cap ∷ granules) untagged = ap (λ (rest : List Cap). moved cap from to ∷ rest) (moved_below-untagged from to n granules untagged)

-- and so do all between two numbers that are without a tag
moved_below-skip : (from to first n : ℕ) (granules : List Cap) → first ≤ n → ((k : ℕ) → first ≤ k → k < n → is_tagged granules k ≡ false) → moved_below from to n granules ≡ moved_below from to first granules
moved_below-skip from to first zero granules least none = let same : zero ≡ first = omega arith in ap (λ (k : ℕ). moved_below from to k granules) same
moved_below-skip from to first (suc n) granules least none = by (eq-or-lt_of_le least) (λ rest. moved_below-skip from to first n granules rest (λ k past below. none k past (omega arith)))
  where
    by : (first ≡ suc n) ⊎ (first < suc n) → (first ≤ n → moved_below from to n granules ≡ moved_below from to first granules) → moved_below from to (suc n) granules ≡ moved_below from to first granules
    by (inl same) rest = ap (λ (k : ℕ). moved_below from to k granules) (sym same)
    by (inr below) rest = moved_below-untagged from to n granules (none n (omega arith) (omega arith)) ∙ rest (omega arith)

-- all are moved
moved_below-all : (from to n : ℕ) (granules : List Cap) → length granules ≤ n → moved_below from to n granules ≡ moved_granules from to granules
unfolding moved_below
moved_below-all from to zero [] all = refl
moved_below-all from to zero (cap ∷ granules) all = absurd (omega arith)
moved_below-all from to (suc n) [] all = refl
moved_below-all from to (suc n) (cap ∷ granules) all = ap (λ (rest : List Cap). moved cap from to ∷ rest) (moved_below-all from to n granules (omega arith))

-- there are as many granules
length-moved_below : (from to n : ℕ) (granules : List Cap) → length (moved_below from to n granules) ≡ length granules
unfolding moved_below
length-moved_below from to zero granules = refl
length-moved_below from to (suc n) [] = refl
length-moved_below from to (suc n) (cap ∷ granules) = ap suc (length-moved_below from to n granules)

-- at first none is moved
pub none-moved : (memory : List (List Cap)) (f from to : ℕ) → memory ≡ with_frame memory f (moved_below from to 0 (frame memory f))
unfolding moved_below
none-moved memory f from to = sym (set-get_or memory f [])

-- The later memory is the first one with a frame of which the granules below a number are moved.
module _ (memory later : List (List Cap)) (f from to first : ℕ) (below : f < length memory) (whole : IsFrame (frame later f))
    (is : later ≡ with_frame memory f (moved_below from to first (frame memory f))) where
  frame-later : frame later f ≡ moved_below from to first (frame memory f)
  frame-later = ap (λ (m : List (List Cap)). frame m f) is ∙ frame-with_frame_same memory f (moved_below from to first (frame memory f)) below

  whole-first : length (frame memory f) ≡ page_granules
  whole-first = sym (length-moved_below from to first (frame memory f)) ∙ ap length (sym frame-later) ∙ whole.whole

  -- a granule from the number on is as it was
  granule-later : (g : ℕ) → first ≤ g → granule (frame later f) g ≡ granule (frame memory f) g
  granule-later g past = ap (λ (granules : List Cap). granule granules g) frame-later ∙ granule-moved_below from to first g (frame memory f) past

  -- what it holds the region may hold, where that may hold all
  pub held-later : (g : ℕ) → IsNextTag (frame later f) first g → AreHeld from (frame memory f) → IsHeld from (granule (frame later f) g)
  held-later g next held =
      let all = whole-first in
      let short = next.below in
      rw (granule-later g next.from) (held g null (omega arith))

  -- so those without a tag can be skipped
  skipped : (g : ℕ) → first ≤ g → ((k : ℕ) → first ≤ k → k < g → is_tagged (frame later f) k ≡ false) → moved_below from to g (frame memory f) ≡ moved_below from to first (frame memory f)
  skipped g past none = moved_below-skip from to first g (frame memory f) past (λ k least most. ap (λ (cap : Cap). cap.tag) (sym (granule-later k least)) ∙ none k least most)

  -- the next one with a tag is moved
  pub next-moved : (g : ℕ) → IsNextTag (frame later f) first g
      → with_frame later f (set (frame later f) g (moved (granule (frame later f) g) from to)) ≡ with_frame memory f (moved_below from to (g + 1) (frame memory f))
  next-moved g next =
      let all = whole-first in
      let short = next.below in
      let further : g + 1 ≡ suc g = omega arith in
      let more = moved_below-more from to g (frame memory f) (omega arith) in
      let filled : set (frame later f) g (moved (granule (frame later f) g) from to) ≡ moved_below from to (g + 1) (frame memory f)
      = rw (further, more, skipped g next.from next.least, granule-later g next.from, frame-later) refl in
      ap (λ (granules : List Cap). with_frame later f granules) filled
      ∙ ap (λ (m : List (List Cap)). with_frame m f (moved_below from to (g + 1) (frame memory f))) is
      ∙ set-set memory f (moved_below from to first (frame memory f)) (moved_below from to (g + 1) (frame memory f))

  -- where none is left with a tag, all are moved
  pub all-moved : first ≤ page_granules → ((k : ℕ) → first ≤ k → k < page_granules → is_tagged (frame later f) k ≡ false) → later ≡ with_frame memory f (moved_granules from to (frame memory f))
  all-moved most none =
      let all = whole-first in
      is ∙ ap (λ (granules : List Cap). with_frame memory f granules) (sym (skipped page_granules most none) ∙ moved_below-all from to page_granules (frame memory f) (omega arith))
