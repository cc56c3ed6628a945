-- What a line says, by the place of its first star.
use Rattle.std.proofs.Common.{◌≡◌, ◌≢◌, ◌∙◌, ℕ, suc, ◌<◌, ◌≤◌, ◌+◌, ◌-◌, Option, Some, None, List, length, get_or, take, drop, add-one, sym, ap, arith}
use Rattle.std.proofs.lemmas.List.{take_rest}
use Rattle.machine_types.specs.Numbers.{most_repeats}
use Rattle.machine_types.specs.DecimalNumbers.{number_in}
use Rattle.machine_types.specs.NumberLists.{entry_of, paired, repeats_of, behind_star}
use Rattle.machine_types.proofs.FirstPlaces.{before-star-at, behind-star, behind-no-star}

-- the first star of a line is at k, or there is none before its end, which is at k
pub record IsStarAt (line : List ℕ) (k : ℕ) : Type 0 where
  pub within : k ≤ length line
  pub before : (j : ℕ) → j < k → get_or line j 0 ≢ 42
  pub found : k < length line → get_or line k 0 ≡ 42

-- the number stands before the star
number-before : (least most k : ℕ) (line : List ℕ) → IsStarAt line k
    → entry_of least most line ≡ paired (number_in least most (take k line)) (repeats_of (behind_star line))
number-before least most k line star =
    ap (λ (text : List ℕ). paired (number_in least most text) (repeats_of (behind_star line))) (before-star-at k line star.within star.before star.found)

-- Without a star the number stands once.
alone-before : (k : ℕ) (line : List ℕ) → IsStarAt line k → k ≡ length line → repeats_of (behind_star line) ≡ Some 1
alone-before k line star end = ap repeats_of (behind-no-star line (λ j below. star.before j (omega arith)))

-- how often it is repeated stands behind the star
repeats-behind : (k : ℕ) (line : List ℕ) → IsStarAt line k → k ≢ length line
    → repeats_of (behind_star line) ≡ number_in 1 most_repeats (take (length line - (k + 1)) (drop (k + 1) line))
repeats-behind k line star inside =
    let below : k < length line = omega (arith, star.within) in
    let rest : drop (suc k) line ≡ take (length line - (k + 1)) (drop (k + 1) line) = sym (take_rest line (k + 1) ∙ ap (λ (place : ℕ). drop place line) (add-one k)) in
    ap repeats_of (behind-star k line below star.before (star.found below) ∙ ap (λ (text : List ℕ). Some text) rest)

-- A line whose number is none says nothing.
pub no-number : (least most k : ℕ) (line : List ℕ) → IsStarAt line k → number_in least most (take k line) ≡ None → entry_of least most line ≡ None
no-number least most k line star none =
    number-before least most k line star ∙ ap (λ (number : Option ℕ). paired number (repeats_of (behind_star line))) none

-- a number alone
pub number-alone : (least most k n : ℕ) (line : List ℕ) → IsStarAt line k → number_in least most (take k line) ≡ Some n → k ≡ length line
    → entry_of least most line ≡ Some (n, 1)
number-alone least most k n line star number end =
    number-before least most k line star ∙ ap (λ (read : Option ℕ). paired read (repeats_of (behind_star line))) number ∙ ap (paired (Some n)) (alone-before k line star end)

-- a number that is repeated, or whose repeats are wrong
pub number-repeated : (least most k n : ℕ) (repeats : Option ℕ) (line : List ℕ) → IsStarAt line k → number_in least most (take k line) ≡ Some n → k ≢ length line
    → number_in 1 most_repeats (take (length line - (k + 1)) (drop (k + 1) line)) ≡ repeats → entry_of least most line ≡ paired (Some n) repeats
number-repeated least most k n repeats line star number inside often =
    number-before least most k line star ∙ ap (λ (read : Option ℕ). paired read (repeats_of (behind_star line))) number
    ∙ ap (paired (Some n)) (repeats-behind k line star inside ∙ often)
