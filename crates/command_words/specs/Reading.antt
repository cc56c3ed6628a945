-- How the words are read, one after another: what the private functions give. The grammar is `Grammar`, and what it says `Commands`.
use Rattle.std.specs.Prelude.{ℕ, ◌+◌, Bool, false, if◌then◌else◌, Option, Some, None, Result, Ok, Err, List, [], ◌∷◌, bytes_eq, slice_index_or}
use Rattle.cap_format.specs.Numbers.{most_frames, most_regions}
use Rattle.machine_types.specs.Numbers.{most_slots, most_steps}
use Rattle.machine_types.specs.DecimalNumbers.{number_of}
use Rattle.command_words.specs.declared.words.Options.{Options}
use Rattle.command_words.specs.declared.words.OptionName.{OptionName}
use Rattle.command_words.specs.declared.words.OptionName.TheVariants.{Frames, Regions, Slots, Steps, Copy, Schedule}
use Rattle.command_words.specs.declared.words.Command.{Command}
use Rattle.command_words.specs.declared.words.Command.TheVariants.{Asm, Disasm, Check}
use Rattle.command_words.specs.declared.words.WordFault.{WordFault}
use Rattle.command_words.specs.Grammar.{Word, OptionRow, is_number, is_rule, is_file_name, frames_name, regions_name, slots_name, steps_name, copy_name, schedule_name, asm_name, disasm_name, check_name}
use Rattle.command_words.specs.Commands.{value_or}

-- the row of an option in the grammar's table
abbrev pub row_of : OptionName → OptionRow
row_of Frames = record { name = frames_name; value = is_number 1 most_frames }
row_of Regions = record { name = regions_name; value = is_number 1 most_regions }
row_of Slots = record { name = slots_name; value = is_number 1 most_slots }
row_of Steps = record { name = steps_name; value = is_number 0 most_steps }
row_of Copy = record { name = copy_name; value = is_rule }
row_of Schedule = record { name = schedule_name; value = is_file_name }

-- its place in the table
abbrev pub place_of : OptionName → ℕ
place_of Frames = 0
place_of Regions = 1
place_of Slots = 2
place_of Steps = 3
place_of Copy = 4
place_of Schedule = 5

-- the option of this name
abbrev pub name_of : Word → Option OptionName
name_of word =
    if bytes_eq frames_name word then Some Frames else
    if bytes_eq regions_name word then Some Regions else
    if bytes_eq slots_name word then Some Slots else
    if bytes_eq steps_name word then Some Steps else
    if bytes_eq copy_name word then Some Copy else
    if bytes_eq schedule_name word then Some Schedule else None

-- an option, where it wasn't used yet
abbrev pub left_of : List Bool → Option OptionName → Option OptionName
left_of used None = None
left_of used (Some name) = if slice_index_or used (place_of name) false then None else Some name

-- What the options say behind an option's name and its value, which is the word at an index.
unfoldable pub put : Options → ℕ → Word → Word → Options
put options index name value = record {
  config = record {
    frames = if bytes_eq name frames_name then value_or options.config.frames (number_of value) else options.config.frames;
    regions = if bytes_eq name regions_name then value_or options.config.regions (number_of value) else options.config.regions;
    slots = if bytes_eq name slots_name then value_or options.config.slots (number_of value) else options.config.slots;
    steps = if bytes_eq name steps_name then value_or options.config.steps (number_of value) else options.config.steps;
    rule = options.config.rule;
  };
  schedule = if bytes_eq name schedule_name then Some index else options.schedule;
}

-- the options behind an option with its value, where it may be that
abbrev pub valued : Options → ℕ → OptionName → Word → Option Options
valued options index name value = if (row_of name).value value then Some (put options index (row_of name).name value) else None

-- the words are at fault at a place
abbrev pub fault_at : ℕ → Result Command WordFault
fault_at place = Err (record { place = place })

-- behind the file's name, which stands at an index, there is nothing, or the words are at fault
abbrev pub ends_with : Command → ℕ → List Word → Result Command WordFault
ends_with command at [] = Ok command
ends_with command at (word ∷ words) = fault_at (at + 2)

-- the words of a command from an index on begin with the file's name, or they are at fault
unfoldable pub read_last : Command → ℕ → List Word → Result Command WordFault
read_last command at [] = fault_at (at + 1)
read_last command at (word ∷ words) = if is_file_name word then ends_with command at words else fault_at (at + 1)

-- the command of a tool's name, on the file that the second word names
abbrev pub tool_of : Word → Option Command
tool_of word =
    if bytes_eq word asm_name then Some (Asm 1)
    else (if bytes_eq word disasm_name then Some (Disasm 1)
    else (if bytes_eq word check_name then Some (Check 1) else None))
