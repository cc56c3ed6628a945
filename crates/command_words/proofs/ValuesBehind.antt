-- The values that stand behind the names of options.
use Rattle.std.proofs.Common.{◌≡◌, ◌∙◌, sym, ap, subst, ℕ, ◌+◌, ◌<◌, true, false, List, [], ◌∷◌, length, Option, Some, None, inl, inr, arith}
use Rattle.std.specs.Prelude.{bytes_eq, IfSome}
use Rattle.std.proofs.lemmas.Bool.{cases_Bool, false≢true, and_parts}
use Rattle.std.proofs.lemmas.Option.{IfSome_then}
use Rattle.command_words.specs.Grammar.{Word, Kind, OptionRow, is_file_name, option_named, options_but, are_arguments}
use Rattle.command_words.specs.Commands.{word_behind, place_behind}
use Rattle.command_words.proofs.Tables.{AreRows, rows-but, found-but, other-text, same-text}
use Rattle.command_words.proofs.RunArguments.{first-option}

-- the word is of a kind, where there is one
abbrev pub IsOfKind : Kind → Option Word → Type 0
IsOfKind kind None = Unit {0}
IsOfKind kind (Some word) = kind word ≡ true

-- equal words are found in one row
one-row : (left : List OptionRow) (word name : Word) (first row : OptionRow) → option_named left word ≡ Some first → option_named left name ≡ Some row → bytes_eq word name ≡ true → first ≡ row
one-row left word name first row found is same =
    let both : Some first ≡ Some row = sym found ∙ ap (λ x. option_named left x) (same-text word name same) ∙ is in
    cc

-- an option is found still once another is taken out
found-still : (left : List OptionRow) (word name : Word) (row : OptionRow) → option_named left name ≡ Some row → bytes_eq word name ≡ false → option_named (options_but left word) name ≡ Some row
found-still left word name row is differs = rw (found-but left word name, differs) is

-- the word behind the name of an option is a value that the option may have
pub value-behind : (left : List OptionRow) (name : Word) (row : OptionRow) (words : List Word) → AreRows left → is_file_name name ≡ false → option_named left name ≡ Some row
    → are_arguments left (is_file_name ∷ []) words ≡ true → IsOfKind row.value (word_behind name words)
value-behind left name row [] known other is are = tt
value-behind left name row (word ∷ []) known other is are = rw (other-text word name (and_parts (is_file_name word) true are).0 other) tt
value-behind left name row (word ∷ value ∷ words) known other is are =
    let first = first-option left word value words known are in
    elim (cases_Bool (bytes_eq word name)) [
      | inl same ↦
          let fits = subst (λ (r : OptionRow). r.value value ≡ true) (one-row left word name first.row row first.found is same) first.fits in
          rw same fits
      | inr differs ↦
          let behind = value-behind (options_but left word) name row words (rows-but left word known) other (found-still left word name row is differs) first.behind in
          rw (differs, other-text value name first.plain other) behind
    ]

-- arguments aren't empty
some-arguments : (left : List OptionRow) (words : List Word) → are_arguments left (is_file_name ∷ []) words ≡ true → 0 < length words
some-arguments left [] are = absurd (false≢true are)
some-arguments left (word ∷ words) are = omega arith

-- the word behind the name of an option stands before the last of the arguments
pub place-before : (left : List OptionRow) (name : Word) (at : ℕ) (words : List Word) → AreRows left → is_file_name name ≡ false
    → are_arguments left (is_file_name ∷ []) words ≡ true → IfSome (place_behind name at words) (λ place. place + 1 < at + length words)
place-before left name at [] known other are = tt
place-before left name at (word ∷ []) known other are = rw (other-text word name (and_parts (is_file_name word) true are).0 other) tt
place-before left name at (word ∷ value ∷ words) known other are =
    let first = first-option left word value words known are in
    elim (cases_Bool (bytes_eq word name)) [
      | inl same ↦ rw same (omega (arith, some-arguments (options_but left word) words first.behind))
      | inr differs ↦
          let behind = place-before (options_but left word) name (at + 1 + 1) words (rows-but left word known) other first.behind in
          rw (differs, other-text value name first.plain other) (IfSome_then (place_behind name (at + 1 + 1) words) behind (λ place before. omega arith))
    ]
