-- The text of an entry is read back, and a line that says an entry is a text of it.
use Rattle.std.proofs.Common.{◌≡◌, ◌≢◌, ◌∙◌, ◌⊎◌, inl, inr, ⊎_elim, ℕ, ◌≤◌, ◌<◌, ◌^◌, eqb, true, false, Option, Some, None, List, [], ◌∷◌, ◌++◌, length, get_or, refl, sym, ap, arith}
use Rattle.std.specs.Prelude.{decimal}
use Rattle.std.specs.List.{AllByRecursion}
use Rattle.std.specs.Str.Parse.{AllDigits, digits_value}
use Rattle.std.proofs.lemmas.Bool.{eq-eqb, ne_eqb, cases_eq}
use Rattle.std.proofs.lemmas.List.Elements.{recursion_from_All, All-from_get_or}
use Rattle.std.proofs.lemmas.Str.Parse.{IsNumeralModel, numerals_by_value, tells_digits, not_in_digits}
use Rattle.std.proofs.lemmas.Fmt.{digits_decimal}
use Rattle.machine_types.specs.Numbers.{most_repeats}
use Rattle.machine_types.specs.DecimalNumbers.{number_in, NumbersAreDecimal}
use Rattle.machine_types.specs.NumberLists.{entry_of, paired, repeats_of, before_star, behind_star, entry_text}
use Rattle.machine_types.proofs.FirstPlaces.{before-no-star, behind-no-star}

-- the digits of a number, as they are
digits-model : IsNumeralModel (AllDigits 10) (digits_value 10)
digits-model = numerals_by_value (AllDigits 10) tells_digits

-- No star is among the digits of a number.
no-star : (n : ℕ) → n < 2 ^ 64 → (j : ℕ) → j < length (decimal n) → get_or (decimal n) j 0 ≢ 42
no-star n small = not_in_digits digits-model (decimal n) 42 (digits_decimal digits-model n small) (λ within. omega (arith, within))

-- what stands before a star that nothing but other bytes stand before
before-first : (bytes rest : List ℕ) → AllByRecursion (λ byte. byte ≢ 42) bytes → before_star (bytes ++ (42 ∷ rest)) ≡ bytes
before-first [] rest none = refl
before-first (byte ∷ bytes) rest none =
    let other : eqb byte 42 ≡ false = ne_eqb byte 42 none.0 in
    rw other (ap (λ (others : List ℕ). byte ∷ others) (before-first bytes rest none.1))

-- and what stands behind it
behind-first : (bytes rest : List ℕ) → AllByRecursion (λ byte. byte ≢ 42) bytes → behind_star (bytes ++ (42 ∷ rest)) ≡ Some rest
behind-first [] rest none = refl
behind-first (byte ∷ bytes) rest none =
    let other : eqb byte 42 ≡ false = ne_eqb byte 42 none.0 in
    rw other (behind-first bytes rest none.1)

-- the digits of a number by recursion
other-bytes : (n : ℕ) → n < 2 ^ 64 → AllByRecursion (λ byte. byte ≢ 42) (decimal n)
other-bytes n small = recursion_from_All (λ byte. byte ≢ 42) (decimal n) (All-from_get_or (λ byte. byte ≢ 42) (decimal n) 0 (no-star n small))

-- A number alone is read back, and stands once.
pub alone-back : NumbersAreDecimal → (least most n : ℕ) → least ≤ n → n ≤ most → n < 2 ^ 64 → entry_of least most (decimal n) ≡ Some (n, 1)
alone-back numbers least most n from to small =
    rw (before-no-star (decimal n) (no-star n small), behind-no-star (decimal n) (no-star n small), numbers.read least most n from to small) refl

-- A number that is repeated is read back with its repeats.
pub repeated-back : NumbersAreDecimal → (least most n k : ℕ) → least ≤ n → n ≤ most → n < 2 ^ 64 → 1 ≤ k → k ≤ most_repeats → entry_of least most (entry_text (n, k)) ≡ Some (n, k)
repeated-back numbers least most n k from to small once often =
    let few : k < 2 ^ 64 = omega arith in
    rw (
      before-first (decimal n) (decimal k) (other-bytes n small),
      behind-first (decimal n) (decimal k) (other-bytes n small),
      numbers.read least most n from to small,
      numbers.read 1 most_repeats k once often few,
    ) refl

-- a line without a star
pub record HasNoStar (line : List ℕ) : Type 0 where
  pub none : behind_star line ≡ None
  pub all : line ≡ before_star line

-- a line with a star, and what stands behind it
pub record HasStar (line rest : List ℕ) : Type 0 where
  pub some : behind_star line ≡ Some rest
  pub all : line ≡ before_star line ++ (42 ∷ rest)

-- a byte more before a line
byte-more : (byte : ℕ) (line : List ℕ) → byte ≢ 42 → HasNoStar line ⊎ ((rest : List ℕ) × HasStar line rest)
    → HasNoStar (byte ∷ line) ⊎ ((rest : List ℕ) × HasStar (byte ∷ line) rest)
byte-more byte line apart (inl without) =
    let other : eqb byte 42 ≡ false = ne_eqb byte 42 apart in
    inl (record { none = rw other without.none; all = rw other (ap (λ (bytes : List ℕ). byte ∷ bytes) without.all) })
byte-more byte line apart (inr (rest, with')) =
    let other : eqb byte 42 ≡ false = ne_eqb byte 42 apart in
    inr (rest, record { some = rw other with'.some; all = rw other (ap (λ (bytes : List ℕ). byte ∷ bytes) with'.all) })

-- A line has a star or none.
pub star-or-none : (line : List ℕ) → HasNoStar line ⊎ ((rest : List ℕ) × HasStar line rest)
star-or-none [] = inl (record { none = refl; all = refl })
star-or-none (byte ∷ line) = ⊎_elim here (λ apart. byte-more byte line apart (star-or-none line)) (cases_eq byte 42)
  where
    here : byte ≡ 42 → HasNoStar (byte ∷ line) ⊎ ((rest : List ℕ) × HasStar (byte ∷ line) rest)
    here star =
        let same : eqb byte 42 ≡ true = eq-eqb byte 42 star in
        inr (line, record { some = rw same refl; all = rw same (ap (λ (first : ℕ). first ∷ line) star) })

-- the number of an entry
pub paired-number : (number repeats : Option ℕ) (n k : ℕ) → paired number repeats ≡ Some (n, k) → number ≡ Some n
paired-number None repeats n k same = cc
paired-number (Some number) None n k same = cc
paired-number (Some number) (Some repeats) n k same =
    let pairs : (n, k) ≡ (number, repeats) = cc in
    ap (λ (pair : ℕ × ℕ). Some pair.0) (sym pairs)

-- the repeats of an entry
pub paired-repeats : (number repeats : Option ℕ) (n k : ℕ) → paired number repeats ≡ Some (n, k) → repeats ≡ Some k
paired-repeats None repeats n k same = cc
paired-repeats (Some number) None n k same = cc
paired-repeats (Some number) (Some repeats) n k same =
    let pairs : (n, k) ≡ (number, repeats) = cc in
    ap (λ (pair : ℕ × ℕ). Some pair.1) (sym pairs)

-- A line that says an entry is its number alone, which stands once, or the text of the entry.
pub line-of-entry : NumbersAreDecimal → (least most n k : ℕ) (line : List ℕ) → entry_of least most line ≡ Some (n, k)
    → ((line ≡ decimal n) × (k ≡ 1)) ⊎ (line ≡ entry_text (n, k))
line-of-entry numbers least most n k line said = by (star-or-none line)
  where
    number : before_star line ≡ decimal n
    number = numbers.text least most n (before_star line) (paired-number (number_in least most (before_star line)) (repeats_of (behind_star line)) n k said)

    repeats : repeats_of (behind_star line) ≡ Some k
    repeats = paired-repeats (number_in least most (before_star line)) (repeats_of (behind_star line)) n k said

    by : HasNoStar line ⊎ ((rest : List ℕ) × HasStar line rest) → ((line ≡ decimal n) × (k ≡ 1)) ⊎ (line ≡ entry_text (n, k))
    by (inl without) =
        let once : Some 1 ≡ Some k = ap repeats_of (sym without.none) ∙ repeats in
        inl (without.all ∙ number, cc)
    by (inr (rest, with')) =
        let often : number_in 1 most_repeats rest ≡ Some k = ap repeats_of (sym with'.some) ∙ repeats in
        inr (with'.all ∙ ap (λ (front : List ℕ). front ++ (42 ∷ rest)) number
        ∙ ap (λ (back : List ℕ). decimal n ++ (42 ∷ back)) (numbers.text 1 most_repeats k rest often))
