-- The reading of arguments, one option after another.
use Rattle.std.specs.Prelude.{ℕ, ◌+◌, if◌then◌else◌, Option, Some, None, Result, List, [], ◌∷◌, is_some}
use Rattle.command_words.specs.declared.words.Options.{Options}
use Rattle.command_words.specs.declared.words.Command.{Command}
use Rattle.command_words.specs.declared.words.WordFault.{WordFault}
use Rattle.command_words.specs.Grammar.{Word, OptionRow, option_named, options_but}
use Rattle.command_words.specs.Commands.{command_by}
use Rattle.command_words.specs.Reading.{put, fault_at, read_last}

-- a word with its value is an option, and the reading goes on behind it, or the value may not be that; or the word is the last
abbrev pub read_by : Option OptionRow → Word → ℕ → Result Command WordFault → Result Command WordFault → Result Command WordFault
read_by None value at behind last = last
read_by (Some option) value at behind last = if option.value value then behind else fault_at (at + 2)

-- Reads the arguments of a command's name from an index on, with the options that are left and what the options said so far.
unfoldable pub read_from : Word → List OptionRow → Options → ℕ → List Word → Result Command WordFault
read_from command left options at [] = fault_at (at + 1)
read_from command left options at (word ∷ []) = if is_some (option_named left word) then fault_at (at + 2) else read_last (command_by command options at) at (word ∷ [])
read_from command left options at (word ∷ value ∷ words) =
    read_by (option_named left word) value at (read_from command (options_but left word) (put options (at + 1) word value) (at + 2) words) (read_last (command_by command options at) at (word ∷ value ∷ words))
