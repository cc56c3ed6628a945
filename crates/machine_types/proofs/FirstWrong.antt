-- The line at which a list is refused is the first wrong one.
use Rattle.std.proofs.Common.{◌≡◌, ◌⊎◌, inl, inr, ⊎_elim, ℕ, zero, suc, ◌≤◌, ◌<◌, ◌+◌, ◌-◌, ◌&&◌, leb, true, false, refl, arith}
use Rattle.std.proofs.Common.{is_some, IsSome, Option, Some, None, Err, List, [], ◌∷◌, length, get_or}
use Rattle.std.proofs.lemmas.Bool.{cases_Bool, cases_order, false≢true, and_parts, and_cases, leb-true, leb-false}
use Rattle.machine_types.specs.Numbers.{most_lines, list_bytes}
use Rattle.machine_types.specs.NumberLists.{lines_of, entry_of, first_wrong, list_with, list_of, IsFirstWrong}
use Rattle.machine_types.proofs.LinesRead.{list_from, short-text}

-- an option that is none
is-none : (entry : Option (ℕ × ℕ)) → is_some entry ≡ false → entry ≡ None
is-none None without = refl
is-none (Some entry) without = cc

-- The first line is wrong.
wrong-here : (least most m n : ℕ) (line : List ℕ) (lines : List (List ℕ)) → m ≤ most_lines + 1 → (leb m most_lines && is_some (entry_of least most line)) ≡ false → m ≡ n
    → IsFirstWrong least most m n (line ∷ lines)
wrong-here least most m n line lines begun fails same = record {
  from = omega arith;
  to = omega arith;
  early = omega arith;
  before = λ k below. absurd (omega arith);
  here = ⊎_elim late nothing (and_cases (leb m most_lines) (is_some (entry_of least most line)) fails);
}
  where
    late : leb m most_lines ≡ false → (most_lines < n) ⊎ (entry_of least most (get_or (line ∷ lines) (n - m) []) ≡ None)
    late after = inl (omega (arith, leb-false m most_lines after))

    nothing : is_some (entry_of least most line) ≡ false → (most_lines < n) ⊎ (entry_of least most (get_or (line ∷ lines) (n - m) []) ≡ None)
    nothing none =
        let first : n - m ≡ 0 = omega arith in
        inr (rw first (is-none (entry_of least most line) none))

-- The first line is right, and the wrong one is among the others.
wrong-there : (least most m n : ℕ) (line : List ℕ) (lines : List (List ℕ)) → is_some (entry_of least most line) ≡ true
    → IsFirstWrong least most (m + 1) n lines → IsFirstWrong least most m n (line ∷ lines)
wrong-there least most m n line lines said rest = record {
  from = omega (arith, rest.from);
  to = omega (arith, rest.to);
  early = rest.early;
  before = before;
  here = ⊎_elim (λ late. inl late) nothing rest.here;
}
  where
    before : (k : ℕ) → k + m < n → IsSome (entry_of least most (get_or (line ∷ lines) k []))
    before zero below = said
    before (suc k) below = rest.before k (omega arith)

    nothing : entry_of least most (get_or lines (n - (m + 1)) []) ≡ None → (most_lines < n) ⊎ (entry_of least most (get_or (line ∷ lines) (n - m) []) ≡ None)
    nothing none =
        let next : n - m ≡ suc (n - (m + 1)) = omega (arith, rest.from) in
        inr (rw next none)

-- The number that is found is that of the first wrong line.
pub first-wrong-is : (least most m n : ℕ) (lines : List (List ℕ)) → m ≤ most_lines + 1 → first_wrong least most m lines ≡ Some n → IsFirstWrong least most m n lines
first-wrong-is least most m n [] begun found = cc
first-wrong-is least most m n (line ∷ lines) begun found =
    ⊎_elim (λ passes. right passes (first-wrong-is least most (m + 1) n lines)) wrong (cases_Bool (leb m most_lines && is_some (entry_of least most line)))
  where
    right : (leb m most_lines && is_some (entry_of least most line)) ≡ true
        → (m + 1 ≤ most_lines + 1 → first_wrong least most (m + 1) lines ≡ Some n → IsFirstWrong least most (m + 1) n lines) → IsFirstWrong least most m n (line ∷ lines)
    right passes others =
        let parts : (leb m most_lines ≡ true) × (is_some (entry_of least most line) ≡ true) = and_parts (leb m most_lines) (is_some (entry_of least most line)) passes in
        let early : m ≤ most_lines = leb-true m most_lines parts.0 in
        wrong-there least most m n line lines parts.1 (others (omega arith) (rw passes at found))

    wrong : (leb m most_lines && is_some (entry_of least most line)) ≡ false → IsFirstWrong least most m n (line ∷ lines)
    wrong fails =
        let first : Some m ≡ Some n = rw fails at found in
        wrong-here least most m n line lines begun fails cc

-- a list that is refused has a wrong line
refused-wrong : (least most n : ℕ) (lines : List (List ℕ)) (wrong : Option ℕ) → list_with least most lines wrong ≡ Err n → wrong ≡ Some n
refused-wrong least most n lines None refused = cc
refused-wrong least most n lines (Some wrong) refused = cc

-- The line at which a text is refused is its first wrong one.
pub text-refused : (least most n : ℕ) (text : List ℕ) → length text ≤ list_bytes → list_of least most text ≡ Err n → IsFirstWrong least most 1 n (lines_of text)
text-refused least most n text short refused =
    let from : list_from least most 1 (lines_of text) ≡ Err n = rw (short-text least most text short) at refused in
    first-wrong-is least most 1 n (lines_of text) (omega arith) (refused-wrong least most n (lines_of text) (first_wrong least most 1 (lines_of text)) from)

-- of two first wrong lines none is before the other
not-before : (least most p q : ℕ) (lines : List (List ℕ)) → IsFirstWrong least most 1 p lines → IsFirstWrong least most 1 q lines → p < q → ⊥
not-before least most p q lines first second below = ⊎_elim (λ late. omega (arith, second.early)) nothing first.here
  where
    nothing : entry_of least most (get_or lines (p - 1) []) ≡ None → ⊥
    nothing none =
        let some : is_some (entry_of least most (get_or lines (p - 1) [])) ≡ true = second.before (p - 1) (omega (arith, first.from)) in
        let wrong : false ≡ true = rw none at some in
        false≢true wrong

-- lines have one first wrong line
pub one-wrong : (least most p q : ℕ) (lines : List (List ℕ)) → IsFirstWrong least most 1 p lines → IsFirstWrong least most 1 q lines → p ≡ q
one-wrong least most p q lines first second = elim (cases_order p q) [
  | inl same ↦ same
  | inr apart ↦ elim apart [
    | inl below ↦ absurd (not-before least most p q lines first second below)
    | inr above ↦ absurd (not-before least most q p lines second first above)
  ]
]
