-- The words before the name of an option.
use Rattle.std.proofs.Common.{◌≡◌, ◌∙◌, ap, refl, subst, ℕ, ◌+◌, true, false, List, [], ◌∷◌, ◌++◌, length, Some, inl, inr, arith}
use Rattle.std.specs.Prelude.{bytes_eq, codes}
use Rattle.std.proofs.lemmas.Bool.{cases_Bool, both_ways}
use Rattle.command_words.specs.Grammar.{Word, OptionRow, is_file_name, options_but, run_options, are_arguments}
use Rattle.command_words.specs.Commands.{word_behind, place_behind}
use Rattle.command_words.proofs.Tables.{AreRows, rows-but, other-text, text-itself, taken}
use Rattle.command_words.proofs.RunTable.{run-rows}
use Rattle.command_words.proofs.OptionsSaid.{Lacks, lacks-gone}
use Rattle.command_words.proofs.RunArguments.{first-option}

-- words with a name don't lack it
not-lacking : (name : Word) (before more : List Word) → Lacks name (before ++ (name ∷ more)) → ⊥
not-lacking name [] more lacks = both_ways (bytes_eq name name) lacks.0 (text-itself name)
not-lacking name (word ∷ before) more lacks = not-lacking name before more lacks.1

-- an option's name isn't one that stands behind it
other-before : (left : List OptionRow) (name word : Word) (before more : List Word) → AreRows left → is_file_name name ≡ false
    → are_arguments (options_but left word) (is_file_name ∷ []) (before ++ (name ∷ more)) ≡ true → bytes_eq word name ≡ false
other-before left name word before more known other are = elim (cases_Bool (bytes_eq word name)) [
  | inl same ↦
      let lacks = lacks-gone (options_but left word) name (before ++ (name ∷ more)) (rows-but left word known) other (taken left word name same) are in
      absurd (not-lacking name before more lacks)
  | inr differs ↦ differs
]

-- arguments before the name of an option lack it
lacks-before : (left : List OptionRow) (name : Word) (before more : List Word) → AreRows left → is_file_name name ≡ false
    → are_arguments left (is_file_name ∷ []) (before ++ (name ∷ more)) ≡ true → Lacks name before
lacks-before left name [] more known other are = tt
lacks-before left name (word ∷ []) more known other are =
    let first = first-option left word name more known are in
    absurd (both_ways (is_file_name name) other first.plain)
lacks-before left name (word ∷ value ∷ before) more known other are =
    let first = first-option left word value (before ++ (name ∷ more)) known are in (
      other-before left name word before more known other first.behind,
      (other-text value name first.plain other, lacks-before (options_but left word) name before more (rows-but left word known) other first.behind),
    )

-- the words of a command before the name of an option lack it
pub words-lack : (name : Word) (arguments before more : List Word) → is_file_name name ≡ false → bytes_eq (codes "run") name ≡ false
    → are_arguments run_options (is_file_name ∷ []) arguments ≡ true → codes "run" ∷ arguments ≡ before ++ (name ∷ more) → Lacks name before
words-lack name arguments [] more other apart are words = tt
words-lack name arguments (word ∷ before) more other apart are words =
    let first : codes "run" ≡ word = cc in
    let others : arguments ≡ before ++ (name ∷ more) = cc in
    let behind : are_arguments run_options (is_file_name ∷ []) (before ++ (name ∷ more)) ≡ true = subst (λ (x : List Word). are_arguments run_options (is_file_name ∷ []) x ≡ true) others are in
    (subst (λ (x : Word). bytes_eq x name ≡ false) first apart, lacks-before run_options name before more run-rows other behind)

-- the word behind a name is the one that stands behind the first such
pub behind-first : (name value : Word) (before after : List Word) → Lacks name before → word_behind name (before ++ (name ∷ value ∷ after)) ≡ Some value
behind-first name value [] after lacks = rw (text-itself name) refl
behind-first name value (word ∷ before) after lacks = rw lacks.0 (behind-first name value before after lacks.1)

-- and its place is one more than the number of words before that
pub place-first : (name : Word) (at : ℕ) (before more : List Word) → Lacks name before → place_behind name at (before ++ (name ∷ more)) ≡ Some (at + length before + 1)
place-first name at [] more lacks = rw (text-itself name) (let index : at + 1 ≡ at + 0 + 1 = omega arith in ap Some index)
place-first name at (word ∷ before) more lacks =
    let index : at + 1 + length before + 1 ≡ at + length (word ∷ before) + 1 = omega arith in
    rw lacks.0 (place-first name (at + 1) before more lacks.1 ∙ ap Some index)
