-- The numbers and the repeats of a list that is read are in their ranges.
use Rattle.std.proofs.Common.{◌≡◌, ℕ, ◌≤◌, ◌&&◌, leb, true, false, Option, Some, None, Ok, List, [], ◌∷◌, map, sym, ⊎_elim, arith}
use Rattle.std.specs.List.{All}
use Rattle.std.proofs.lemmas.Bool.{and_parts, cases_Bool, leb-true}
use Rattle.std.proofs.lemmas.List.Elements.{All-nil, All-cons}
use Rattle.machine_types.specs.Numbers.{most_repeats}
use Rattle.machine_types.specs.DecimalNumbers.{number_in, kept_in, number_of}
use Rattle.machine_types.specs.NumberLists.{lines_of, entry_of, repeats_of, before_star, behind_star, list_of}
use Rattle.machine_types.proofs.EntriesBack.{paired-number, paired-repeats}
use Rattle.machine_types.proofs.LinesSaid.{text-read}

-- a number from the least to the most
pub record IsWithin (least most n : ℕ) : Type 0 where
  pub from : least ≤ n
  pub to : n ≤ most

-- What is kept is from the least to the most.
kept-within : (least most n : ℕ) (number : Option ℕ) → kept_in least most number ≡ Some n → IsWithin least most n
kept-within least most n None kept = cc
kept-within least most n (Some number) kept = ⊎_elim inside outside (cases_Bool (leb least number && leb number most))
  where
    inside : (leb least number && leb number most) ≡ true → IsWithin least most n
    inside passes =
        let found : Some number ≡ Some n = rw passes at kept in
        let same : number ≡ n = cc in
        let parts : (leb least number ≡ true) × (leb number most ≡ true) = and_parts (leb least number) (leb number most) passes in
        record { from = omega (arith, leb-true least number parts.0); to = omega (arith, leb-true number most parts.1) }

    outside : (leb least number && leb number most) ≡ false → IsWithin least most n
    outside fails =
        let found : None ≡ Some n = rw fails at kept in
        cc

-- A number that is read is from the least to the most.
pub number-within : (least most n : ℕ) (text : List ℕ) → number_in least most text ≡ Some n → IsWithin least most n
unfolding number_in
number-within least most n text found = kept-within least most n (number_of text) found

-- the ranges of an entry
pub record IsEntryWithin (least most : ℕ) (entry : ℕ × ℕ) : Type 0 where
  pub number : IsWithin least most entry.0
  pub repeats : IsWithin 1 most_repeats entry.1

-- how often a number is repeated
repeats-within : (k : ℕ) (text : Option (List ℕ)) → repeats_of text ≡ Some k → IsWithin 1 most_repeats k
repeats-within k None found =
    let once : 1 ≡ k = cc in
    record { from = omega arith; to = omega arith }
repeats-within k (Some text) found = number-within 1 most_repeats k text found

-- what a line says
pub entry-within : (least most n k : ℕ) (line : List ℕ) → entry_of least most line ≡ Some (n, k) → IsEntryWithin least most (n, k)
entry-within least most n k line said = record {
  number = number-within least most n (before_star line) (paired-number (number_in least most (before_star line)) (repeats_of (behind_star line)) n k said);
  repeats = repeats-within k (behind_star line) (paired-repeats (number_in least most (before_star line)) (repeats_of (behind_star line)) n k said);
}

-- what lines say
said-within : (least most : ℕ) (entries : List (ℕ × ℕ)) (lines : List (List ℕ)) → map (λ entry. Some entry) entries ≡ map (entry_of least most) lines
    → All (IsEntryWithin least most) entries
said-within least most [] lines same = All-nil (IsEntryWithin least most)
said-within least most (entry ∷ entries) [] same = cc
said-within least most (entry ∷ entries) (line ∷ lines) same =
    let first : Some entry ≡ entry_of least most line = cc in
    let others : map (λ (said : ℕ × ℕ). Some said) entries ≡ map (entry_of least most) lines = cc in
    All-cons (IsEntryWithin least most) entry entries (entry-within least most entry.0 entry.1 line (sym first)) (said-within least most entries lines others)

-- what a text says
pub list-within : (least most : ℕ) (text : List ℕ) (entries : List (ℕ × ℕ)) → list_of least most text ≡ Ok entries → All (IsEntryWithin least most) entries
list-within least most text entries read = said-within least most entries (lines_of text) ((text-read least most text entries read).1)
