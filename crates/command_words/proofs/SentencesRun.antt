-- What the sentences say is a command: `run`, options of different names with their values, and a file name are one, and so are a tool's name and a
-- file name.
use Rattle.std.proofs.Common.{◌≡◌, ◌≢◌, ◌∙◌, sym, ap, refl, ℕ, ◌-◌, ◌^◌, ◌<◌, length, true, false, List, [], ◌∷◌, ◌++◌, slice_index_or, Some, Ok, inl, inr, arith}
use Rattle.std.specs.Prelude.{All, bytes_eq, codes, is_some}
use Rattle.std.proofs.lemmas.Bool.{false_from_ne_true, ne_eqb, and_from}
use Rattle.std.proofs.lemmas.List.Elements.{All-head, All-tail, All-weaker}
use Rattle.machine_types.proofs.DecimalTexts.{number-in-decimal}
use Rattle.command_words.specs.declared.words.Options.{Options}
use Rattle.command_words.specs.declared.words.Command.TheVariants.{Run}
use Rattle.command_words.specs.declared.words.OptionName.TheVariants.{Frames, Regions, Slots, Steps, Copy, Schedule}
use Rattle.command_words.specs.Grammar.{Word, OptionRow, is_number, is_file_name, run_options, option_named, options_but, tool, are_arguments, is_command}
use Rattle.command_words.specs.Commands.{options_of, command_of, read_of}
use Rattle.command_words.specs.Reading.{row_of}
use Rattle.command_words.specs.Sayings.{IsNumber, IsFileName, IsOption, AreApart, option_words, IsRun, IsTool}
use Rattle.command_words.specs.Sayings.AreApart.{none, more}
use Rattle.command_words.proofs.Tables.{found-but, same-text}
use Rattle.command_words.proofs.CommandTable.{NamesTool, tool-name, run-row, is-by-row}
use Rattle.command_words.proofs.CommandsRead.{command-read-of}

-- a number of a range is one by the test
number-test : (least most : ℕ) (word : Word) → most < 2 ^ 64 → IsNumber least most word → is_number least most word ≡ true
number-test least most word small is = rw is.text (ap is_some (number-in-decimal least most is.number is.from is.to (omega (arith, is.to))))

-- a file name is one by the test
file-test : (word : Word) → IsFileName word → is_file_name word ≡ true
file-test word file = rw (file.is, ne_eqb file.first 45 file.plain) refl

-- an option is in a table, and its value is one that it may have
record IsHeld (left : List OptionRow) (option : Word × Word) : Type 0 where
  row : OptionRow
  found : option_named left option.0 ≡ Some row
  fits : row.value option.1 ≡ true

-- each option by the sentences is in the table of `run`, with a value that it may have
run-holds : (option : Word × Word) → IsOption option → IsHeld run_options option
run-holds option (inl is) = record { row = row_of Frames; found = rw is.0 refl; fits = number-test _ _ option.1 (omega arith) is.1 }
run-holds option (inr (inl is)) = record { row = row_of Regions; found = rw is.0 refl; fits = number-test _ _ option.1 (omega arith) is.1 }
run-holds option (inr (inr (inl is))) = record { row = row_of Slots; found = rw is.0 refl; fits = number-test _ _ option.1 (omega arith) is.1 }
run-holds option (inr (inr (inr (inl is)))) = record { row = row_of Steps; found = rw is.0 refl; fits = number-test _ _ option.1 (omega arith) is.1 }
run-holds option (inr (inr (inr (inr (inl is))))) = record { row = row_of Copy; found = rw is.0 refl; fits = rw is.1 refl }
run-holds option (inr (inr (inr (inr (inr is))))) = record { row = row_of Schedule; found = rw is.0 refl; fits = file-test option.1 is.1 }

-- once an option is taken out of a table one of another name is in it still
held-still : (left : List OptionRow) (gone : Word) (option : Word × Word) → option.0 ≢ gone → IsHeld left option → IsHeld (options_but left gone) option
held-still left gone option other held =
    let differs : bytes_eq gone option.0 ≡ false = false_from_ne_true (bytes_eq gone option.0) (λ same. other (sym (same-text gone option.0 same))) in
    record { row = held.row; found = found-but left gone option.0 ∙ rw differs held.found; fits = held.fits }

-- once an option is taken out of a table all options of other names are in it still
all-held-still : (left : List OptionRow) (gone : Word) (options : List (Word × Word)) → All (λ other. other.0 ≢ gone) options → All (IsHeld left) options
    → All (IsHeld (options_but left gone)) options
all-held-still left gone options others held = λ k d below. held-still left gone (slice_index_or options k d) (others k d below) (held k d below)

-- options of different names that are in a table, and a file name behind them, are arguments
are-arguments : (left : List OptionRow) (options : List (Word × Word)) (name : Word) → All (IsHeld left) options → AreApart options → is_file_name name ≡ true
    → are_arguments left (is_file_name ∷ []) (option_words options ++ (name ∷ [])) ≡ true
are-arguments left [] name held none file = and_from (is_file_name name) true file refl
are-arguments left (option ∷ options) name held (more others apart) file =
    let first = All-head (IsHeld left) option options held in
    let still = all-held-still left option.0 options others (All-tail (IsHeld left) option options held) in
    let behind = are-arguments (options_but left option.0) options name still apart file in
    rw first.found (and_from (first.row.value option.1) _ first.fits behind)

-- `run`, options and a file name are a command.
pub run-is-command : (words : List Word) → IsRun words → is_command words ≡ true
run-is-command words run =
    let held = All-weaker IsOption (IsHeld run_options) run-holds run.options run.are in
    let are = are-arguments run_options run.options run.name held run.apart (file-test run.name run.file) in
    rw run.words_are (is-by-row (codes "run") (option_words run.options ++ (run.name ∷ [])) run-row refl ∙ are)

-- a tool's name and a file name are a command
named-is-command : (word name : Word) → NamesTool word → IsFileName name → is_command (word ∷ name ∷ []) ≡ true
named-is-command word name which file =
    is-by-row word (name ∷ []) (tool word) (tool-name word which).row ∙ and_from (is_file_name name) true (file-test name file) refl

-- What the sentences say of a tool is a command.
pub tool-is-command : (words : List Word) → IsTool words → is_command words ≡ true
tool-is-command words is = rw is.words_are (named-is-command is.tool is.name is.which is.file)

-- A tool's name and a file name are read as what they say.
pub tool-read : (word name : Word) → NamesTool word → IsFileName name → read_of (word ∷ name ∷ []) ≡ Ok (command_of (word ∷ name ∷ []))
tool-read word name which file = command-read-of (word ∷ name ∷ []) (named-is-command word name which file)

-- `run`, options and a file name are read as `run`.
pub run-read-as : (words : List Word) → IsRun words → (options : Options) × (image : ℕ) × (read_of words ≡ Ok (Run options image))
run-read-as words run =
    let said : command_of words ≡ Run (options_of words) (length words - 1) = rw run.words_are refl in
    (options_of words, length words - 1, command-read-of words (run-is-command words run) ∙ ap Ok said)
