-- Arguments that are a command are read as what it says.
use Rattle.std.proofs.Common.{◌≡◌, ◌∙◌, sym, ap, refl, ℕ, ◌+◌, ◌-◌, true, false, ◌&&◌, List, [], ◌∷◌, length, Option, Some, None, Result, Ok, arith}
use Rattle.std.specs.Prelude.{bytes_eq}
use Rattle.std.proofs.lemmas.Bool.{false≢true, both_ways, and_parts}
use Rattle.command_words.specs.declared.words.Options.{Options}
use Rattle.command_words.specs.declared.words.Command.{Command}
use Rattle.command_words.specs.declared.words.WordFault.{WordFault}
use Rattle.command_words.specs.Grammar.{Word, OptionRow, is_file_name, option_named, options_but, by_option, are_arguments}
use Rattle.command_words.specs.Commands.{command_by}
use Rattle.command_words.specs.Reading.{put, read_last}
use Rattle.command_words.proofs.Reader.{read_by, read_from}
use Rattle.command_words.proofs.Tables.{AreRows, found-row, rows-but, taken}
use Rattle.command_words.proofs.OptionsSaid.{said, said-by-image, said-by-option, lacks-gone}

-- the command that a name and its arguments from an index on are
abbrev pub named-of : Word → Options → ℕ → List Word → Result Command WordFault
named-of command options at words = Ok (command_by command (said options at words) (at + length words - 1))

-- a file name is no option
file-unfound : (options : List OptionRow) (word : Word) (found : Option OptionRow) → AreRows options → is_file_name word ≡ true → option_named options word ≡ found → None ≡ found
file-unfound options word None known file is = refl
file-unfound options word (Some row) known file is =
    let parts = found-row options word row known is in
    absurd (both_ways (is_file_name word) (ap is_file_name (sym parts.1) ∙ parts.0.name) file)

-- the file's name is read
image-read : (command : Word) (left : List OptionRow) (options : Options) (at : ℕ) (word : Word) → AreRows left → is_file_name word ≡ true → read_from command left options at (word ∷ []) ≡ named-of command options at (word ∷ [])
unfolding read_from read_last
image-read command left options at word known file =
    let unfound = file-unfound left word (option_named left word) known file refl in
    let index : at + 1 - 1 ≡ at = omega arith in
    rw (← unfound, file, said-by-image options at word file, index) refl

-- an option and its value are read, and then what is behind them
option-read : (command : Word) (left : List OptionRow) (options : Options) (at : ℕ) (word value : Word) (words : List Word) (found : Option OptionRow) → AreRows left → option_named left word ≡ found
    → (are_arguments (options_but left word) (is_file_name ∷ []) words ≡ true
    → read_from command (options_but left word) (put options (at + 1) word value) (at + 2) words ≡ named-of command (put options (at + 1) word value) (at + 2) words)
    → by_option found value (are_arguments (options_but left word) (is_file_name ∷ []) words) (is_file_name word && false) ≡ true
    → read_by found value at (read_from command (options_but left word) (put options (at + 1) word value) (at + 2) words) (read_last (command_by command options at) at (word ∷ value ∷ words))
    ≡ named-of command options at (word ∷ value ∷ words)
option-read command left options at word value words None known is behind are = absurd (false≢true (and_parts (is_file_name word) false are).1)
option-read command left options at word value words (Some row) known is behind are =
    let parts = and_parts (row.value value) (are_arguments (options_but left word) (is_file_name ∷ []) words) are in
    let row-known = (found-row left word row known is).0 in
    let lacks = λ (name : Word) (other : is_file_name name ≡ false) (same : bytes_eq word name ≡ true).
    lacks-gone (options_but left word) name words (rows-but left word known) other (taken left word name same) parts.1 in
    let says = said-by-option options at word value words (row-known.values value parts.0) lacks in
    let index : at + 2 + length words - 1 ≡ at + length (word ∷ value ∷ words) - 1 = omega arith in
    rw (parts.0, behind parts.1, says, index) refl

-- arguments are read as the command that they are
pub arguments-read : (command : Word) (left : List OptionRow) (options : Options) (at : ℕ) (words : List Word) → AreRows left → are_arguments left (is_file_name ∷ []) words ≡ true
    → read_from command left options at words ≡ named-of command options at words
unfolding read_from
arguments-read command left options at [] known are = absurd (false≢true are)
arguments-read command left options at (word ∷ []) known are = image-read command left options at word known (and_parts (is_file_name word) true are).0
arguments-read command left options at (word ∷ value ∷ words) known are = option-read command left options at word value words (option_named left word) known refl
    (arguments-read command (options_but left word) (put options (at + 1) word value) (at + 2) words (rows-but left word known)) are
