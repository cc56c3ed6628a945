-- The grammar of command lines: which lists of words are a command, and which begin one. This project's own.
use Rattle.std.specs.Prelude.{ℕ, Bool, true, false, not, ◌==◌, ◌&&◌, ◌||◌, is_some, Option, Some, None, List, [], ◌∷◌, bytes_eq, codes, filter, find}
use Rattle.cap_format.specs.Numbers.{most_frames, most_regions}
use Rattle.machine_types.specs.Numbers.{most_slots, most_steps}
use Rattle.machine_types.specs.DecimalNumbers.{number_in}

-- a word, and what it may be
abbrev pub Word : Type 0
Word = List ℕ

abbrev pub Kind : Type 0
Kind = Word → Bool

-- a number from the least to the most
abbrev pub is_number : ℕ → ℕ → Kind
is_number least most word = is_some (number_in least most word)

-- a file name isn't empty and doesn't begin with `-`
abbrev pub is_file_name : Kind
is_file_name [] = false
is_file_name (byte ∷ word) = not (byte == 45)

-- a copy rule that is built
abbrev pub is_rule : Kind
is_rule word = bytes_eq word (codes "full")

-- an option: its name, and what its value may be
pub record OptionRow : Type 0 where
  pub name : Word
  pub value : Kind

-- a command: its name, the options that it takes, and what its other words may be
pub record CommandRow : Type 0 where
  pub name : Word
  pub options : List OptionRow
  pub operands : List Kind

-- the options
abbrev pub frames_name : Word
frames_name = codes "--frames"

abbrev pub regions_name : Word
regions_name = codes "--regions"

abbrev pub slots_name : Word
slots_name = codes "--slots"

abbrev pub steps_name : Word
steps_name = codes "--steps"

abbrev pub copy_name : Word
copy_name = codes "--copy"

abbrev pub schedule_name : Word
schedule_name = codes "--schedule"

abbrev pub run_options : List OptionRow
run_options =
    record { name = frames_name; value = is_number 1 most_frames }
    ∷ record { name = regions_name; value = is_number 1 most_regions }
    ∷ record { name = slots_name; value = is_number 1 most_slots }
    ∷ record { name = steps_name; value = is_number 0 most_steps }
    ∷ record { name = copy_name; value = is_rule }
    ∷ record { name = schedule_name; value = is_file_name }
    ∷ []

-- the names of commands
abbrev pub run_name : Word
run_name = codes "run"

abbrev pub asm_name : Word
asm_name = codes "asm"

abbrev pub disasm_name : Word
disasm_name = codes "disasm"

abbrev pub check_name : Word
check_name = codes "check"

-- a command without options on one file
abbrev pub tool : Word → CommandRow
tool name = record { name = name; options = []; operands = is_file_name ∷ [] }

-- the commands
abbrev pub commands : List CommandRow
commands =
    record { name = run_name; options = run_options; operands = is_file_name ∷ [] }
    ∷ tool asm_name
    ∷ tool disasm_name
    ∷ tool check_name
    ∷ []

-- an option of this name, and the others
abbrev pub option_named : List OptionRow → Word → Option OptionRow
option_named options word = find (λ option. bytes_eq option.name word) options

abbrev pub options_but : List OptionRow → Word → List OptionRow
options_but options word = filter (λ option. not (bytes_eq option.name word)) options

-- the words are the operands, or begin them
abbrev pub are_operands : List Kind → List Word → Bool
are_operands [] [] = true
are_operands [] (word ∷ words) = false
are_operands (kind ∷ kinds) [] = false
are_operands (kind ∷ kinds) (word ∷ words) = kind word && are_operands kinds words

abbrev pub begin_operands : List Kind → List Word → Bool
begin_operands kinds [] = true
begin_operands [] (word ∷ words) = false
begin_operands (kind ∷ kinds) (word ∷ words) = kind word && begin_operands kinds words

-- a word with its value is an option, behind which others may stand, or it is an operand, behind which none may
abbrev pub by_option : Option OptionRow → Word → Bool → Bool → Bool
by_option None value behind operands = operands
by_option (Some option) value behind operands = option.value value && behind

-- Behind the command's name stand options, each at most once and with its value, and then the operands: the words are that.
abbrev pub are_arguments : List OptionRow → List Kind → List Word → Bool
are_arguments options operands [] = are_operands operands []
are_arguments options operands (word ∷ []) = are_operands operands (word ∷ [])
are_arguments options operands (word ∷ value ∷ words) =
    by_option (option_named options word) value (are_arguments (options_but options word) operands words) (are_operands operands (word ∷ value ∷ words))

-- Or they begin that: an option's name without its value does, too.
abbrev pub begin_arguments : List OptionRow → List Kind → List Word → Bool
begin_arguments options operands [] = true
begin_arguments options operands (word ∷ []) = is_some (option_named options word) || begin_operands operands (word ∷ [])
begin_arguments options operands (word ∷ value ∷ words) =
    by_option (option_named options word) value (begin_arguments (options_but options word) operands words) (begin_operands operands (word ∷ value ∷ words))

-- the command of this name
abbrev pub command_named : Word → Option CommandRow
command_named word = find (λ command. bytes_eq command.name word) commands

abbrev pub has_arguments : Option CommandRow → List Word → Bool
has_arguments None words = false
has_arguments (Some command) words = are_arguments command.options command.operands words

abbrev pub begins_arguments : Option CommandRow → List Word → Bool
begins_arguments None words = false
begins_arguments (Some command) words = begin_arguments command.options command.operands words

-- a list of words is a command
unfoldable pub is_command : List Word → Bool
is_command [] = false
is_command (word ∷ words) = has_arguments (command_named word) words

-- a list of words begins one
unfoldable pub begins_command : List Word → Bool
begins_command [] = true
begins_command (word ∷ words) = begins_arguments (command_named word) words
