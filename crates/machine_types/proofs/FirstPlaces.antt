-- The first line of a text, and the parts of a line at its first star.
use Rattle.std.proofs.Common.{◌≡◌, ◌≢◌, ℕ, zero, suc, ◌<◌, ◌≤◌, ◌+◌, eqb, false, Some, None, List, [], ◌∷◌, length, get_or, take, drop, refl, sym, ap, length-drop, ◌∙◌, ⊎_elim, ◌-◌, add-one, arith}
use Rattle.std.proofs.lemmas.Bool.{eq-eqb, ne_eqb, cases_lt}
use Rattle.std.proofs.lemmas.List.{take_all, drop_all, take_rest, drop-drop}
use Rattle.machine_types.specs.NumberLists.{lines_of, continued, before_star, behind_star}

-- Where the first line feed is at k, the first line is what stands before it, and the others are those of what stands behind it.
pub first-line : (k : ℕ) (text : List ℕ) → k < length text → ((j : ℕ) → j < k → get_or text j 0 ≢ 10) → get_or text k 0 ≡ 10
    → lines_of text ≡ take k text ∷ lines_of (drop (suc k) text)
first-line k [] within none here = absurd (omega arith)
first-line zero (byte ∷ text) within none here = rw (eq-eqb byte 10 here) refl
first-line (suc k) (byte ∷ text) within none here =
    let other : eqb byte 10 ≡ false = ne_eqb byte 10 (none 0 (omega arith)) in
    rw other (ap (continued byte) (first-line k text (omega arith) (λ j below. none (suc j) (omega arith)) here))

-- A text that isn't empty and has no line feed is one line.
pub last-line : (byte : ℕ) (text : List ℕ) → ((j : ℕ) → j < length (byte ∷ text) → get_or (byte ∷ text) j 0 ≢ 10)
    → lines_of (byte ∷ text) ≡ (byte ∷ text) ∷ []
last-line byte [] none =
    let other : eqb byte 10 ≡ false = ne_eqb byte 10 (none 0 (omega arith)) in
    rw other refl
last-line byte (next ∷ text) none =
    let other : eqb byte 10 ≡ false = ne_eqb byte 10 (none 0 (omega arith)) in
    rw other (ap (continued byte) (last-line next text (λ j below. none (suc j) (omega arith))))

-- what stands before the first star, which is at k
pub before-star : (k : ℕ) (line : List ℕ) → k < length line → ((j : ℕ) → j < k → get_or line j 0 ≢ 42) → get_or line k 0 ≡ 42
    → before_star line ≡ take k line
before-star k [] within none here = absurd (omega arith)
before-star zero (byte ∷ line) within none here = rw (eq-eqb byte 42 here) refl
before-star (suc k) (byte ∷ line) within none here =
    let other : eqb byte 42 ≡ false = ne_eqb byte 42 (none 0 (omega arith)) in
    rw other (ap (λ (rest : List ℕ). byte ∷ rest) (before-star k line (omega arith) (λ j below. none (suc j) (omega arith)) here))

-- what stands behind it
pub behind-star : (k : ℕ) (line : List ℕ) → k < length line → ((j : ℕ) → j < k → get_or line j 0 ≢ 42) → get_or line k 0 ≡ 42
    → behind_star line ≡ Some (drop (suc k) line)
behind-star k [] within none here = absurd (omega arith)
behind-star zero (byte ∷ line) within none here = rw (eq-eqb byte 42 here) refl
behind-star (suc k) (byte ∷ line) within none here =
    let other : eqb byte 42 ≡ false = ne_eqb byte 42 (none 0 (omega arith)) in
    rw other (behind-star k line (omega arith) (λ j below. none (suc j) (omega arith)) here)

-- All of a line without a star stands before the first star.
pub before-no-star : (line : List ℕ) → ((j : ℕ) → j < length line → get_or line j 0 ≢ 42) → before_star line ≡ line
before-no-star [] none = refl
before-no-star (byte ∷ line) none =
    let other : eqb byte 42 ≡ false = ne_eqb byte 42 (none 0 (omega arith)) in
    rw other (ap (λ (rest : List ℕ). byte ∷ rest) (before-no-star line (λ j below. none (suc j) (omega arith))))

-- Nothing stands behind the first star of a line without one.
pub behind-no-star : (line : List ℕ) → ((j : ℕ) → j < length line → get_or line j 0 ≢ 42) → behind_star line ≡ None
behind-no-star [] none = refl
behind-no-star (byte ∷ line) none =
    let other : eqb byte 42 ≡ false = ne_eqb byte 42 (none 0 (omega arith)) in
    rw other (behind-no-star line (λ j below. none (suc j) (omega arith)))

-- The first line is what stands before the first line feed or the end; the others are those of what stands behind it.
pub lines-at : (k : ℕ) (text : List ℕ) → 0 < length text → k ≤ length text → ((j : ℕ) → j < k → get_or text j 0 ≢ 10)
    → (k < length text → get_or text k 0 ≡ 10) → lines_of text ≡ take k text ∷ lines_of (drop (k + 1) text)
lines-at k [] some within none found = absurd (omega arith)
lines-at k (byte ∷ text) some within none found = ⊎_elim fed ended (cases_lt k (length (byte ∷ text)))
  where
    fed : k < length (byte ∷ text) → lines_of (byte ∷ text) ≡ take k (byte ∷ text) ∷ lines_of (drop (k + 1) (byte ∷ text))
    fed below = rw (add-one k) (first-line k (byte ∷ text) below none (found below))

    ended : length (byte ∷ text) ≤ k → lines_of (byte ∷ text) ≡ take k (byte ∷ text) ∷ lines_of (drop (k + 1) (byte ∷ text))
    ended end =
        let past : length (byte ∷ text) ≤ k + 1 = omega arith in
        rw (take_all k (byte ∷ text) end, drop_all (k + 1) (byte ∷ text) past) (last-line byte text (λ j below. none j (omega arith)))

-- the same, where the text is the rest of one
pub lines-from : (k at : ℕ) (text rest : List ℕ) → rest ≡ take (length text - at) (drop at text) → at < length text → k ≤ length rest
    → ((j : ℕ) → j < k → get_or rest j 0 ≢ 10) → (k < length rest → get_or rest k 0 ≡ 10)
    → lines_of (drop at text) ≡ take k rest ∷ lines_of (drop (at + (k + 1)) text)
lines-from k at text rest same inside within none found =
    let whole : rest ≡ drop at text = same ∙ take_rest text at in
    let behind : drop (k + 1) rest ≡ drop (at + (k + 1)) text = ap (drop (k + 1)) whole ∙ drop-drop (k + 1) at text in
    let some : 0 < length rest = rw whole (omega (arith, length-drop at text)) in
    ap lines_of (sym whole) ∙ lines-at k rest some within none found ∙ ap (λ (others : List ℕ). take k rest ∷ lines_of others) behind

-- what stands before the first star or the end
pub before-star-at : (k : ℕ) (line : List ℕ) → k ≤ length line → ((j : ℕ) → j < k → get_or line j 0 ≢ 42)
    → (k < length line → get_or line k 0 ≡ 42) → before_star line ≡ take k line
before-star-at k line within none found = ⊎_elim starred ended (cases_lt k (length line))
  where
    starred : k < length line → before_star line ≡ take k line
    starred below = before-star k line below none (found below)

    ended : length line ≤ k → before_star line ≡ take k line
    ended end = rw (take_all k line end) (before-no-star line (λ j below. none j (omega arith)))
