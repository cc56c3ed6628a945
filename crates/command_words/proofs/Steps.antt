-- One step of the reading.
use Rattle.std.proofs.Common.{◌≡◌, ◌∙◌, sym, ap, refl, ℕ, ◌+◌, ◌<◌, ◌≤◌, true, false, List, [], ◌∷◌, length, get_or, drop, map, Some, None, Ok, inl, inr, arith}
use Rattle.std.proofs.Math.ListN.{get_or-map, drop_of_length-le}
use Rattle.std.proofs.lemmas.Bool.{cases_Bool}
use Rattle.std.proofs.lemmas.List.{drop_more, length-map}
use Rattle.command_words.specs.declared.words.Options.{Options}
use Rattle.command_words.specs.declared.words.OptionName.{OptionName}
use Rattle.command_words.specs.declared.words.Command.{Command}
use Rattle.command_words.specs.Grammar.{Word, OptionRow, is_file_name, option_named, options_but}
use Rattle.command_words.specs.Commands.{command_by}
use Rattle.command_words.specs.Reading.{row_of, put, valued, fault_at, read_last}
use Rattle.command_words.proofs.Reader.{read_from}

-- the words from an index on are that word and those behind it
pub word-and-more : {X : Type 0} (f : X → Word) (words : List X) (at : ℕ) (word : X) → word ≡ get_or words at word → at < length words
    → drop at (map f words) ≡ f word ∷ drop (at + 1) (map f words)
word-and-more f words at word is within =
    drop_more (map f words) at (f word) (simp length-map (omega arith)) ∙ ap (λ x. x ∷ drop (at + 1) (map f words)) (get_or-map f words at word ∙ ap f (sym is))

-- where there are words from an index on, there is a first
pub some-word : {X : Type 0} (f : X → Word) (words : List X) (at : ℕ) → at < length words → drop at (map f words) ≡ get_or (map f words) at [] ∷ drop (at + 1) (map f words)
some-word f words at within = drop_more (map f words) at [] (simp length-map (omega arith))

-- behind the words there are none
pub no-word : {X : Type 0} (f : X → Word) (words : List X) (at : ℕ) → length words ≤ at → drop at (map f words) ≡ []
no-word f words at behind = drop_of_length-le (map f words) (simp length-map (omega arith))

-- a word that is no option that is left is the last
pub last-step : (command : Word) (left : List OptionRow) (options : Options) (at : ℕ) (word : Word) (words : List Word) → option_named left word ≡ None
    → read_from command left options at (word ∷ words) ≡ read_last (command_by command options at) at (word ∷ words)
unfolding read_from
last-step command left options at word [] is = rw is refl
last-step command left options at word (value ∷ words) is = rw is refl

-- an option without a value is at fault behind it
pub lacking-step : (command : Word) (left : List OptionRow) (options : Options) (at : ℕ) (word : Word) (row : OptionRow) → option_named left word ≡ Some row → read_from command left options at (word ∷ []) ≡ fault_at (at + 2)
unfolding read_from
lacking-step command left options at word row is = rw is refl

-- an option with a value that it may not have is at fault there
pub wrong-step : (command : Word) (left : List OptionRow) (options : Options) (at : ℕ) (name : OptionName) (value : Word) (words : List Word) → option_named left (row_of name).name ≡ Some (row_of name)
    → valued options (at + 1) name value ≡ None → read_from command left options at ((row_of name).name ∷ value ∷ words) ≡ fault_at (at + 2)
unfolding read_from
wrong-step command left options at name value words is none = elim (cases_Bool ((row_of name).value value)) [
  | inl fits ↦ let some : Some (put options (at + 1) (row_of name).name value) ≡ None = rw fits at none in cc
  | inr wrong ↦ rw (is, wrong) refl
]

-- an option with its value is read, and the reading goes on behind it
pub option-step : (command : Word) (left : List OptionRow) (options more : Options) (at : ℕ) (name : OptionName) (value : Word) (words : List Word) → option_named left (row_of name).name ≡ Some (row_of name)
    → valued options (at + 1) name value ≡ Some more → read_from command left options at ((row_of name).name ∷ value ∷ words) ≡ read_from command (options_but left (row_of name).name) more (at + 2) words
unfolding read_from
option-step command left options more at name value words is some = elim (cases_Bool ((row_of name).value value)) [
  | inl fits ↦
      let put-is : Some (put options (at + 1) (row_of name).name value) ≡ Some more = rw fits at some in
      let more-is : put options (at + 1) (row_of name).name value ≡ more = cc in
      rw (is, fits, more-is) refl
  | inr wrong ↦ let none : None ≡ Some more = rw wrong at some in cc
]

-- there is no last word
pub none-last : (command : Command) (at : ℕ) → read_last command at [] ≡ fault_at (at + 1)
unfolding read_last
none-last command at = refl

-- the last word is no file name
pub other-last : (command : Command) (at : ℕ) (word : Word) (words : List Word) → is_file_name word ≡ false → read_last command at (word ∷ words) ≡ fault_at (at + 1)
unfolding read_last
other-last command at word words other = rw other refl

-- a word stands behind the last
pub more-last : (command : Command) (at : ℕ) (word value : Word) (words : List Word) → is_file_name word ≡ true → read_last command at (word ∷ value ∷ words) ≡ fault_at (at + 2)
unfolding read_last
more-last command at word value words file = rw file refl

-- the last word is the file's name
pub file-last : (command : Command) (at : ℕ) (word : Word) → is_file_name word ≡ true → read_last command at (word ∷ []) ≡ Ok command
unfolding read_last
file-last command at word file = rw file refl

-- no words are at fault behind them
pub none-step : (command : Word) (left : List OptionRow) (options : Options) (at : ℕ) → read_from command left options at [] ≡ fault_at (at + 1)
unfolding read_from
none-step command left options at = refl

-- where no options are left the first word is the last
pub no-options : (command : Word) (options : Options) (at : ℕ) (words : List Word) → read_from command [] options at words ≡ read_last (command_by command options at) at words
unfolding read_from read_last
no-options command options at [] = refl
no-options command options at (word ∷ []) = refl
no-options command options at (word ∷ value ∷ words) = refl
