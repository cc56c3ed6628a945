-- A command is a name with its arguments, and those of `run` are options and a file name.
use Rattle.std.proofs.Common.{◌≡◌, ◌∙◌, sym, ap, refl, subst, ◌⊎◌, ℕ, true, false, ◌&&◌, List, [], ◌∷◌, Option, Some, None, Result, Ok, inl, inr}
use Rattle.std.specs.Prelude.{codes}
use Rattle.std.proofs.lemmas.Bool.{cases_Bool, false≢true, and_parts}
use Rattle.command_words.specs.declared.words.Options.{Options}
use Rattle.command_words.specs.declared.words.Command.{Command}
use Rattle.command_words.specs.declared.words.Command.TheVariants.{Run}
use Rattle.command_words.specs.declared.words.WordFault.{WordFault}
use Rattle.command_words.specs.Grammar.{Word, OptionRow, CommandRow, is_file_name, run_options, option_named, options_but, by_option, are_arguments, command_named, is_command}
use Rattle.command_words.specs.Commands.{options_of, command_of, fault_place, read_of}
use Rattle.command_words.specs.Reading.{fault_at}
use Rattle.command_words.proofs.Tables.{AreRows, found-row}
use Rattle.command_words.proofs.CommandTable.{IsToolName, run-row, command-row, is-by-row, no-row-is}

-- words are `run` and arguments of it
pub record RunArguments (words : List Word) : Type 0 where
  pub arguments : List Word
  pub is : words ≡ codes "run" ∷ arguments
  pub are : are_arguments run_options (is_file_name ∷ []) arguments ≡ true

-- words are a tool's name and a file's
pub record ToolArguments (words : List Word) : Type 0 where
  pub tool : Word
  pub name : Word
  pub known : IsToolName tool
  pub file : is_file_name name ≡ true
  pub is : words ≡ tool ∷ name ∷ []

-- the arguments of a tool are a file's name
tool-arguments : (word : Word) (words : List Word) → IsToolName word → are_arguments [] (is_file_name ∷ []) words ≡ true → ToolArguments (word ∷ words)
tool-arguments word [] known are = absurd (false≢true are)
tool-arguments word (name ∷ []) known are = record { tool = word; name = name; known = known; file = (and_parts (is_file_name name) true are).0; is = refl }
tool-arguments word (name ∷ value ∷ words) known are = absurd (false≢true (and_parts (is_file_name name) false are).1)

-- `run` and words that make it a command are `run` and arguments
run-arguments : (words : List Word) → is_command (codes "run" ∷ words) ≡ true → RunArguments (codes "run" ∷ words)
run-arguments words is = record { arguments = words; is = refl; are = sym (is-by-row (codes "run") words run-row refl) ∙ is }

-- a command is `run` and arguments of it, or a tool's name and a file's
pub arguments-of : (words : List Word) → is_command words ≡ true → RunArguments words ⊎ ToolArguments words
unfolding is_command
arguments-of [] is = absurd (false≢true is)
arguments-of (word ∷ words) is = by-row (command_named word) refl
  where
    by-row : (found : Option CommandRow) → command_named word ≡ found → RunArguments (word ∷ words) ⊎ ToolArguments (word ∷ words)
    by-row None none = absurd (false≢true (sym (no-row-is word words none) ∙ is))
    by-row (Some row) found =
        let known = command-row word row found in
        elim known.0.which [
          | inl run ↦
              let name : word ≡ codes "run" = sym known.1 ∙ run in
              inl (rw name (run-arguments words (rw name at is)))
          | inr tool ↦
              let name : IsToolName word = subst IsToolName known.1 tool in
              inr (tool-arguments word words name (sym (is-by-row word words _ name.row) ∙ is))
        ]

-- words that are read as a command are one, and it is what they say
pub command-parts : (words : List Word) (command : Command) → read_of words ≡ Ok command → (is_command words ≡ true) × (command_of words ≡ command)
unfolding read_of
command-parts words command read = elim (cases_Bool (is_command words)) [
  | inl is ↦
      let ok : ◌≡◌ {A = Result Command WordFault} (Ok (command_of words)) (Ok command) = rw is at read in
      (is, cc)
  | inr none ↦ let fault : fault_at (fault_place words) ≡ Ok command = rw none at read in cc
]

-- words that are read as `run` are `run` and arguments of it
pub run-arguments-of : (words : List Word) (options : Options) (image : ℕ) → read_of words ≡ Ok (Run options image) → RunArguments words
run-arguments-of words options image read =
    let parts = command-parts words (Run options image) read in
    elim (arguments-of words parts.0) [
      | inl run ↦ run
      | inr tool ↦ absurd (tool.known.other (options_of (tool.tool ∷ tool.name ∷ [])) options 1 image (ap command_of (sym tool.is) ∙ parts.1))
    ]

-- The first of several arguments is the name of an option that is left, and behind it stands a value that it may have, which is a file
-- name. Behind both stand arguments with the options that are left then.
pub record FirstOption (left : List OptionRow) (word value : Word) (words : List Word) : Type 0 where
  pub row : OptionRow
  pub found : option_named left word ≡ Some row
  pub fits : row.value value ≡ true
  pub name : is_file_name word ≡ false
  pub plain : is_file_name value ≡ true
  pub behind : are_arguments (options_but left word) (is_file_name ∷ []) words ≡ true

-- the first of several arguments, where it is found or isn't
first-found : (left : List OptionRow) (word value : Word) (words : List Word) (found : Option OptionRow) → AreRows left → option_named left word ≡ found
    → by_option found value (are_arguments (options_but left word) (is_file_name ∷ []) words) (is_file_name word && false) ≡ true → FirstOption left word value words
first-found left word value words None known is are = absurd (false≢true (and_parts (is_file_name word) false are).1)
first-found left word value words (Some row) known is are =
    let parts = and_parts (row.value value) (are_arguments (options_but left word) (is_file_name ∷ []) words) are in
    let row-known = found-row left word row known is in
    record {
      row = row;
      found = is;
      fits = parts.0;
      name = ap is_file_name (sym row-known.1) ∙ row-known.0.name;
      plain = row-known.0.values value parts.0;
      behind = parts.1;
    }

-- the first of several arguments is an option
pub first-option : (left : List OptionRow) (word value : Word) (words : List Word) → AreRows left → are_arguments left (is_file_name ∷ []) (word ∷ value ∷ words) ≡ true
    → FirstOption left word value words
first-option left word value words known are = first-found left word value words (option_named left word) known refl are
