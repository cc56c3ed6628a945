-- What the options of arguments say: each name stands once, and no value is a name.
use Rattle.std.proofs.Common.{◌≡◌, ◌∙◌, sym, ap, refl, ℕ, ◌+◌, add_assoc, true, false, cond, ◌&&◌, List, [], ◌∷◌, Option, Some, None, inl, inr}
use Rattle.std.specs.Prelude.{bytes_eq}
use Rattle.std.proofs.lemmas.Bool.{cases_Bool, false≢true, and_parts}
use Rattle.machine_types.specs.DecimalNumbers.{number_of}
use Rattle.command_words.specs.declared.words.Options.{Options}
use Rattle.command_words.specs.Grammar.{Word, OptionRow, is_file_name, frames_name, regions_name, slots_name, steps_name, schedule_name, option_named, options_but, by_option, are_arguments}
use Rattle.command_words.specs.Commands.{place_behind, word_behind, value_or, number_or}
use Rattle.command_words.specs.Reading.{put}
use Rattle.command_words.proofs.Tables.{AreRows, found-row, rows-but, found-but, other-text, same-text}

-- no word is this name
abbrev pub Lacks : Word → List Word → Type 0
Lacks name [] = Unit {0}
Lacks name (word ∷ words) = (bytes_eq word name ≡ false) × Lacks name words

-- the place in the second, where there is one, and else the first
abbrev pub place_or : Option ℕ → Option ℕ → Option ℕ
place_or default None = default
place_or default (Some place) = Some place

-- What the words say, where the options said something before.
abbrev pub said : Options → ℕ → List Word → Options
said options at words = record {
  config = record {
    frames = number_or options.config.frames (word_behind frames_name words);
    regions = number_or options.config.regions (word_behind regions_name words);
    slots = number_or options.config.slots (word_behind slots_name words);
    steps = number_or options.config.steps (word_behind steps_name words);
    rule = options.config.rule;
  };
  schedule = place_or options.schedule (place_behind schedule_name at words);
}

-- no word stands behind a name that words lack
pub lacks-word : (name : Word) (words : List Word) → Lacks name words → word_behind name words ≡ None
lacks-word name [] lacks = refl
lacks-word name (word ∷ words) lacks = rw lacks.0 (lacks-word name words lacks.1)

-- and no place
pub lacks-place : (name : Word) (at : ℕ) (words : List Word) → Lacks name words → place_behind name at words ≡ None
lacks-place name at [] lacks = refl
lacks-place name at (word ∷ words) lacks = rw lacks.0 (lacks-place name (at + 1) words lacks.1)

-- a name of an option that is left isn't that of one that isn't
other-name : (options : List OptionRow) (word name : Word) (row : OptionRow) → option_named options word ≡ Some row → option_named options name ≡ None → bytes_eq word name ≡ false
other-name options word name row found gone = elim (cases_Bool (bytes_eq word name)) [
  | inl same ↦ let none : Some row ≡ None = sym found ∙ ap (λ x. option_named options x) (same-text word name same) ∙ gone in cc
  | inr differs ↦ differs
]

-- a name that isn't found stays so
gone-but : (options : List OptionRow) (word name : Word) → option_named options name ≡ None → option_named (options_but options word) name ≡ None
gone-but options word name gone = rw (found-but options word name, gone) (elim (cases_Bool (bytes_eq word name)) [ inl same ↦ rw same refl | inr differs ↦ rw differs refl ])

-- a word with its value lacks such a name where the words behind do
lacks-step : (options : List OptionRow) (name word value : Word) (words : List Word) (found : Option OptionRow) → AreRows options → is_file_name name ≡ false
    → option_named options name ≡ None → option_named options word ≡ found → (are_arguments (options_but options word) (is_file_name ∷ []) words ≡ true → Lacks name words)
    → by_option found value (are_arguments (options_but options word) (is_file_name ∷ []) words) (is_file_name word && false) ≡ true → Lacks name (word ∷ value ∷ words)
lacks-step options name word value words None known other gone is behind are = absurd (false≢true (and_parts (is_file_name word) false are).1)
lacks-step options name word value words (Some row) known other gone is behind are =
    let parts = and_parts (row.value value) (are_arguments (options_but options word) (is_file_name ∷ []) words) are in
    let row-known = (found-row options word row known is).0 in
    (other-name options word name row is gone, (other-text value name (row-known.values value parts.0) other, behind parts.1))

-- arguments lack the names of options that aren't left
pub lacks-gone : (options : List OptionRow) (name : Word) (words : List Word) → AreRows options → is_file_name name ≡ false → option_named options name ≡ None
    → are_arguments options (is_file_name ∷ []) words ≡ true → Lacks name words
lacks-gone options name [] known other gone are = tt
lacks-gone options name (word ∷ []) known other gone are = (other-text word name (and_parts (is_file_name word) true are).0 other, tt)
lacks-gone options name (word ∷ value ∷ words) known other gone are = lacks-step options name word value words (option_named options word) known other gone refl
    (lacks-gone (options_but options word) name words (rows-but options word known) other (gone-but options word name gone)) are

-- the number that an option and the words behind it say
pub number-step : (default : ℕ) (name word value : Word) (words : List Word) → bytes_eq value name ≡ false → (bytes_eq word name ≡ true → Lacks name words)
    → number_or (cond (bytes_eq word name) (value_or default (number_of value)) default) (word_behind name words) ≡ number_or default (word_behind name (word ∷ value ∷ words))
number-step default name word value words other lacks = elim (cases_Bool (bytes_eq word name)) [
  | inl same ↦ rw (same, lacks-word name words (lacks same)) refl
  | inr differs ↦ rw (differs, other) refl
]

-- the place that they say
pub place-step : (default : Option ℕ) (at : ℕ) (name word value : Word) (words : List Word) → bytes_eq value name ≡ false → (bytes_eq word name ≡ true → Lacks name words)
    → place_or (cond (bytes_eq word name) (Some (at + 1)) default) (place_behind name (at + 2) words) ≡ place_or default (place_behind name at (word ∷ value ∷ words))
place-step default at name word value words other lacks = elim (cases_Bool (bytes_eq word name)) [
  | inl same ↦ rw (same, lacks-place name (at + 2) words (lacks same)) refl
  | inr differs ↦ rw (differs, other, add_assoc at 1 1) refl
]

-- nothing is said where the words lack all names
said-nothing : (options : Options) (at : ℕ) (words : List Word)
    → Lacks frames_name words → Lacks regions_name words → Lacks slots_name words → Lacks steps_name words → Lacks schedule_name words → said options at words ≡ options
said-nothing options at words frames regions slots steps schedule =
    rw (
      lacks-word frames_name words frames,
      lacks-word regions_name words regions,
      lacks-word slots_name words slots,
      lacks-word steps_name words steps,
      lacks-place schedule_name at words schedule,
    ) refl

-- an image's name says nothing
pub said-by-image : (options : Options) (at : ℕ) (word : Word) → is_file_name word ≡ true → said options at (word ∷ []) ≡ options
said-by-image options at word file =
    let lacks = λ (name : Word) (other : is_file_name name ≡ false). (let both : Lacks name (word ∷ []) = (other-text word name file other, tt) in both) in
    said-nothing options at (word ∷ []) (lacks frames_name refl) (lacks regions_name refl) (lacks slots_name refl) (lacks steps_name refl) (lacks schedule_name refl)

-- What an option says, and then the words behind it, is what they say together.
pub said-by-option : (options : Options) (at : ℕ) (word value : Word) (words : List Word) → is_file_name value ≡ true
    → ((name : Word) → is_file_name name ≡ false → bytes_eq word name ≡ true → Lacks name words)
    → said (put options (at + 1) word value) (at + 2) words ≡ said options at (word ∷ value ∷ words)
unfolding put
said-by-option options at word value words file lacks =
    let number = λ (default : ℕ) (name : Word) (other : is_file_name name ≡ false).
    number-step default name word value words (other-text value name file other) (lacks name other) in
    rw (
      number options.config.frames frames_name refl,
      number options.config.regions regions_name refl,
      number options.config.slots slots_name refl,
      number options.config.steps steps_name refl,
      place-step options.schedule at schedule_name word value words (other-text value schedule_name file refl) (lacks schedule_name refl),
    ) refl
