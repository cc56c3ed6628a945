-- Arguments that are no command are read as the fault that stands first in them.
use Rattle.std.proofs.Common.{◌≡◌, ◌∙◌, ap, refl, ℕ, zero, suc, ◌+◌, ◌<◌, ◌≤◌, Bool, true, false, ◌&&◌, List, [], ◌∷◌, length, take, Option, Some, None, inl, inr, arith}
use Rattle.std.proofs.lemmas.Bool.{cases_Bool}
use Rattle.command_words.specs.declared.words.Options.{Options}
use Rattle.command_words.specs.Grammar.{Word, OptionRow, is_file_name, option_named, options_but, by_option, are_arguments, begin_arguments}
use Rattle.command_words.specs.Reading.{put, fault_at, read_last}
use Rattle.command_words.proofs.Reader.{read_from}

-- the words are arguments with the options that are left
abbrev are-whole : List OptionRow → List Word → Bool
are-whole left words = are_arguments left (is_file_name ∷ []) words

-- or they begin some
abbrev pub begin-whole : List OptionRow → List Word → Bool
begin-whole left words = begin_arguments left (is_file_name ∷ []) words

-- the words up to a place are the first that begin no arguments, or they all begin some
pub record IsFirst (left : List OptionRow) (words : List Word) (place : ℕ) : Type 0 where
  pub some : 1 ≤ place
  pub within : place ≤ length words + 1
  pub before : (k : ℕ) → k < place → begin-whole left (take k words) ≡ true
  pub at : place ≤ length words → begin-whole left (take place words) ≡ false

-- the first fault of arguments is what they are read as
pub record ReadFault (command : Word) (left : List OptionRow) (options : Options) (at : ℕ) (words : List Word) : Type 0 where
  pub place : ℕ
  pub read : read_from command left options at words ≡ fault_at (at + place)
  pub first : IsFirst left words place

-- no words are at fault behind them
no-words : (command : Word) (left : List OptionRow) (options : Options) (at : ℕ) → ReadFault command left options at []
unfolding read_from
no-words command left options at = record {
  place = 1;
  read = refl;
  first = record { some = omega arith; within = omega arith; before = λ k small. (let none : k ≡ 0 = omega arith in rw none refl); at = λ within. absurd (omega arith) };
}

-- the words begin with one that begins no arguments
first-word : (left : List OptionRow) (word : Word) (words : List Word) → begin-whole left (word ∷ []) ≡ false → IsFirst left (word ∷ words) 1
first-word left word words none = record {
  some = omega arith;
  within = omega arith;
  before = λ k small. (let first : k ≡ 0 = omega arith in rw first refl);
  at = λ within. none;
}

-- the first two words begin no arguments, and the first does
second-word : (left : List OptionRow) (word value : Word) (words : List Word)
    → begin-whole left (word ∷ []) ≡ true → begin-whole left (word ∷ value ∷ []) ≡ false → IsFirst left (word ∷ value ∷ words) 2
second-word left word value words begins none = record {
  some = omega arith;
  within = omega arith;
  before = before;
  at = λ within. none;
}
  where
    before : (k : ℕ) → k < 2 → begin-whole left (take k (word ∷ value ∷ words)) ≡ true
    before zero small = refl
    before (suc zero) small = begins
    before (suc (suc k)) small = absurd (omega arith)

-- one word that begins arguments is at fault behind it
behind-word : (left : List OptionRow) (word : Word) → begin-whole left (word ∷ []) ≡ true → IsFirst left (word ∷ []) 2
behind-word left word begins = record {
  some = omega arith;
  within = omega arith;
  before = before;
  at = λ within. absurd (omega arith);
}
  where
    before : (k : ℕ) → k < 2 → begin-whole left (take k (word ∷ [])) ≡ true
    before zero small = refl
    before (suc zero) small = begins
    before (suc (suc k)) small = absurd (omega arith)

-- behind an option with its value the fault is that of what is behind them
behind-option : (left : List OptionRow) (word value : Word) (words : List Word) (row : OptionRow) (place : ℕ) → option_named left word ≡ Some row → row.value value ≡ true
    → IsFirst (options_but left word) words place → IsFirst left (word ∷ value ∷ words) (suc (suc place))
behind-option left word value words row place is fits first = record {
  some = omega arith;
  within = omega (arith, first.within);
  before = before;
  at = λ within. rw (is, fits) (first.at (omega arith));
}
  where
    before : (k : ℕ) → k < suc (suc place) → begin-whole left (take k (word ∷ value ∷ words)) ≡ true
    before zero small = refl
    before (suc zero) small = rw is refl
    before (suc (suc k)) small = rw (is, fits) (first.before k (omega arith))

-- one word that is no file name is at fault, or it is an option that lacks its value
one-word : (command : Word) (left : List OptionRow) (options : Options) (at : ℕ) (word : Word) (found : Option OptionRow) → option_named left word ≡ found → is_file_name word ≡ false
    → ReadFault command left options at (word ∷ [])
unfolding read_from read_last
one-word command left options at word None is other = record {
  place = 1;
  read = rw (is, other) refl;
  first = first-word left word [] (rw (is, other) refl);
}
one-word command left options at word (Some row) is other = record {
  place = 2;
  read = rw is refl;
  first = behind-word left word (rw is refl);
}

-- two words that begin with no option are at fault
two-words : (command : Word) (left : List OptionRow) (options : Options) (at : ℕ) (word value : Word) (words : List Word) → option_named left word ≡ None → ReadFault command left options at (word ∷ value ∷ words)
unfolding read_from read_last
two-words command left options at word value words is = elim (cases_Bool (is_file_name word)) [
  | inl file ↦ record {
    place = 2;
    read = rw (is, file) refl;
    first = second-word left word value words (rw (is, file) refl) (rw (is, file) refl);
  }
  | inr other ↦ record {
    place = 1;
    read = rw (is, other) refl;
    first = first-word left word (value ∷ words) (rw (is, other) refl);
  }
]

-- the value of an option is at fault, or what is behind it
option-words : (command : Word) (left : List OptionRow) (options : Options) (at : ℕ) (word value : Word) (words : List Word) (row : OptionRow) → option_named left word ≡ Some row
    → (are-whole (options_but left word) words ≡ false → ReadFault command (options_but left word) (put options (at + 1) word value) (at + 2) words)
    → row.value value && are-whole (options_but left word) words ≡ false → ReadFault command left options at (word ∷ value ∷ words)
unfolding read_from
option-words command left options at word value words row is behind aren't = elim (cases_Bool (row.value value)) [
  | inl fits ↦
      let rest : ReadFault command (options_but left word) (put options (at + 1) word value) (at + 2) words = behind (rw fits at aren't) in
      let index : at + 2 + rest.place ≡ at + suc (suc rest.place) = omega arith in
      record {
        place = suc (suc rest.place);
        read = rw (is, fits) (rest.read ∙ ap fault_at index);
        first = behind-option left word value words row rest.place is fits rest.first;
      }
  | inr wrong ↦ record {
    place = 2;
    read = rw (is, wrong) refl;
    first = second-word left word value words (rw is refl) (rw (is, wrong) refl);
  }
]

-- words that begin with a word and its value are at fault
more-words : (command : Word) (left : List OptionRow) (options : Options) (at : ℕ) (word value : Word) (words : List Word) (found : Option OptionRow) → option_named left word ≡ found
    → (are-whole (options_but left word) words ≡ false → ReadFault command (options_but left word) (put options (at + 1) word value) (at + 2) words)
    → by_option found value (are-whole (options_but left word) words) (is_file_name word && false) ≡ false → ReadFault command left options at (word ∷ value ∷ words)
more-words command left options at word value words None is behind aren't = two-words command left options at word value words is
more-words command left options at word value words (Some row) is behind aren't = option-words command left options at word value words row is behind aren't

-- arguments that are no command are read as their first fault
pub fault-read : (command : Word) (left : List OptionRow) (options : Options) (at : ℕ) (words : List Word) → are-whole left words ≡ false → ReadFault command left options at words
fault-read command left options at [] aren't = no-words command left options at
fault-read command left options at (word ∷ []) aren't = one-word command left options at word (option_named left word) refl (not-operand (is_file_name word) aren't)
  where
    not-operand : (file : Bool) → file && true ≡ false → file ≡ false
    not-operand false is = refl
    not-operand true is = is
fault-read command left options at (word ∷ value ∷ words) aren't = more-words command left options at word value words (option_named left word) refl
    (fault-read command (options_but left word) (put options (at + 1) word value) (at + 2) words) aren't
