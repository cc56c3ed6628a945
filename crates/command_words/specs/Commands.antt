-- What a command line says, or where it is at fault. This project's own.
use Rattle.std.specs.Prelude.{◌≡◌, ℕ, zero, suc, ◌+◌, ◌-◌, ◌≤◌, ◌<◌, true, false, if◌then◌else◌, Option, Some, None, Result, Ok, Err, List, [], ◌∷◌, ◌++◌, length, take, bytes_eq, slice_index_or}
use Rattle.machine_types.specs.declared.config.Config.{Config}
use Rattle.machine_types.specs.declared.config.Rule.TheVariants.{Full}
use Rattle.machine_types.specs.DecimalNumbers.{number_of}
use Rattle.command_words.specs.declared.words.Options.{Options}
use Rattle.command_words.specs.declared.words.Command.{Command}
use Rattle.command_words.specs.declared.words.Command.TheVariants.{Run, Asm, Disasm, Check}
use Rattle.command_words.specs.declared.words.WordFault.{WordFault}
use Rattle.command_words.specs.Numbers.{default_frames, default_regions, default_slots, default_steps}
use Rattle.command_words.specs.Grammar.{Word, frames_name, regions_name, slots_name, steps_name, schedule_name, asm_name, disasm_name, check_name, is_command, begins_command}

-- the place of the word behind the first one that is this name, from a place on
abbrev pub place_behind : Word → ℕ → List Word → Option ℕ
place_behind name place [] = None
place_behind name place (word ∷ words) = if bytes_eq word name then Some (place + 1) else place_behind name (place + 1) words

-- that word
abbrev pub first_of : List Word → Option Word
first_of [] = None
first_of (word ∷ words) = Some word

abbrev pub word_behind : Word → List Word → Option Word
word_behind name [] = None
word_behind name (word ∷ words) = if bytes_eq word name then first_of words else word_behind name words

-- the number that a word is, or this one
abbrev pub value_or : ℕ → Option ℕ → ℕ
value_or default None = default
value_or default (Some n) = n

abbrev pub number_or : ℕ → Option Word → ℕ
number_or default None = default
number_or default (Some word) = value_or default (number_of word)

-- What the options of a command say: the value of each is the word behind its name. There is one copy rule so far.
abbrev pub config_of : List Word → Config
config_of words = record {
  frames = number_or default_frames (word_behind frames_name words);
  regions = number_or default_regions (word_behind regions_name words);
  slots = number_or default_slots (word_behind slots_name words);
  steps = number_or default_steps (word_behind steps_name words);
  rule = Full;
}

abbrev pub options_of : List Word → Options
options_of words = record { config = config_of words; schedule = place_behind schedule_name 0 words }

-- what the name of a command says, with these options and the file that the word at an index names
abbrev pub command_by : Word → Options → ℕ → Command
command_by name options file =
    if bytes_eq name asm_name then Asm file
    else (if bytes_eq name disasm_name then Disasm file
    else (if bytes_eq name check_name then Check file
    else Run options file))

-- the command's name is the first word, and the file's name the last
abbrev pub command_of : List Word → Command
command_of words = command_by (slice_index_or words 0 []) (options_of words) (length words - 1)

-- The place of a fault, from 1, of so many words from a place on: that of the first word such that the words up to it begin no command,
-- and one more than their number where all begin one.
abbrev pub fault_from : List Word → ℕ → ℕ → ℕ
fault_from words place zero = place + 1
fault_from words place (suc left) = if begins_command (take (place + 1) words) then fault_from words (place + 1) left else place + 1

abbrev pub fault_place : List Word → ℕ
fault_place words = fault_from words 0 (length words)

-- a command line is a command, or it is at fault
unfoldable pub read_of : List Word → Result Command WordFault
read_of words = if is_command words then Ok (command_of words) else Err (record { place = fault_place words })

-- The words up to a place are the first that begin no command, or they all begin one and the place is behind them.
pub record IsFaultAt (words : List Word) (place : ℕ) : Type 0 where
  pub some : 1 ≤ place
  pub within : place ≤ length words + 1
  pub before : (k : ℕ) → k < place → begins_command (take k words) ≡ true
  pub at : place ≤ length words → begins_command (take place words) ≡ false

-- A list of words begins a command exactly where there are words that make it one. The place of a fault is what the sentence says, and
-- there is one such place; a command has none but the one behind it. A command is read as what it says, and everything else is refused at
-- that place.
pub record CommandsAreExact : Type 0 where
  pub begins : (words more : List Word) → is_command (words ++ more) ≡ true → begins_command words ≡ true
  pub completed : (words : List Word) → begins_command words ≡ true → (more : List Word) × (is_command (words ++ more) ≡ true)
  pub place : (words : List Word) → is_command words ≡ false → IsFaultAt words (fault_place words)
  pub one : (words : List Word) (p q : ℕ) → IsFaultAt words p → IsFaultAt words q → p ≡ q
  pub accepted : (words : List Word) → is_command words ≡ true → read_of words ≡ Ok (command_of words)
  pub refused : (words : List Word) (place : ℕ) → is_command words ≡ false → IsFaultAt words place → read_of words ≡ Err (record { place = place })
