-- What the program does, by its words, the contents of files and the console's input: what it answers, and the machine that stands meanwhile.
use Rattle.std.specs.Prelude.{ℕ, List, [], nat_lt, if◌then◌else◌, Some, None, Result, Ok, Err, length, slice_index_or}
use Rattle.std.specs.declared.option.Option.{Option}
use Rattle.outside_io.specs.Parts.{Part}
use Rattle.outside_io.specs.Answers.{Answer, refusal}
use Rattle.outside_io.specs.Moments.{Course, steady}
use Rattle.cap_format.specs.declared.image.ImageFault.{ImageFault}
use Rattle.cap_format.specs.Image.{fault_of}
use Rattle.asm_text.specs.declared.source.SourceFault.{SourceFault}
use Rattle.asm_image.specs.Assembled.{file_from}
use Rattle.machine_types.specs.declared.config.Config.{Config}
use Rattle.elf_loader.specs.Loaded.{image_of}
use Rattle.command_words.specs.declared.words.Options.{Options}
use Rattle.command_words.specs.declared.words.Command.{Command}
use Rattle.command_words.specs.declared.words.Command.TheVariants.{Run, Asm, Disasm, Check}
use Rattle.command_words.specs.declared.words.WordFault.{WordFault}
use Rattle.command_words.specs.Commands.{read_of}
use Rattle.run_texts.specs.Schedules.{schedule_of}
use Rattle.ufork_program.specs.Numbers.{most_input}
use Rattle.ufork_program.specs.Lines.{usage_line, cannot_read_line, image_refused_line, schedule_refused_line, input_failed_line, input_too_long_line, frames_lacked_line, source_refused_line}
use Rattle.machine.specs.Machines.{Machine}
use Rattle.machine_steps.specs.Runs.{Setup}
use Rattle.ufork_program.specs.Run.{run_course}
use Rattle.ufork_program.specs.Tools.{file_parts, instr_parts, summary_parts}

-- the word at an index
abbrev pub word_at : List (List ℕ) → ℕ → List ℕ
word_at words index = slice_index_or words index []

-- The contents of files by the words that name them: that of the file that the word at an index names, if it is one that is read.
abbrev pub Files : Type 0
Files = ℕ → Option (List ℕ)

abbrev pub named_by : List (List ℕ) → (List ℕ → Option (List ℕ)) → Files
named_by words contents index = contents (word_at words index)

-- what the program reads: those contents, and the bytes that the console's input has left
pub record Sources : Type 0 where
  pub files : Files
  pub input : List ℕ

-- the refusals, with their statuses
abbrev pub usage : ℕ → Answer
usage place = refusal 2 (usage_line place)

abbrev pub cannot_read : List ℕ → Answer
cannot_read name = refusal 3 (cannot_read_line name)

abbrev pub image_refused : ImageFault → Answer
image_refused fault = refusal 4 (image_refused_line fault)

abbrev pub schedule_refused : ℕ → Answer
schedule_refused line = refusal 5 (schedule_refused_line line)

abbrev pub input_failed : Answer
input_failed = refusal 6 input_failed_line

abbrev pub input_too_long : Answer
input_too_long = refusal 11 input_too_long_line

abbrev pub frames_lacked : ℕ → ℕ → Answer
frames_lacked pages frames = refusal 12 (frames_lacked_line pages frames)

abbrev pub source_refused : SourceFault → Answer
source_refused fault = refusal 13 (source_refused_line fault)

-- what is shown of a file, with the status 0
abbrev pub shown_answer : List Part → Answer
shown_answer parts = record { status = 0; parts = parts }

-- no machine stands while this is answered
abbrev pub refused : Answer → Course (Option Machine)
refused = steady None

-- and none while this is shown
abbrev pub shown : List Part → Course (Option Machine)
shown parts = steady None (shown_answer parts)

-- The courses of `run`, in the order in which its parts are read. Last the frames are counted: there has to be one for each page.
abbrev pub frames_course : Setup → Course (Option Machine)
frames_course setup =
    if nat_lt setup.config.frames (image_of setup.file).pages then refused (frames_lacked (image_of setup.file).pages setup.config.frames) else run_course setup

-- the console's input, and how long it is
abbrev pub input_course : Setup → Course (Option Machine)
input_course setup = if nat_lt most_input (length setup.input) then refused input_too_long else frames_course setup

-- the schedule's text
abbrev pub text_course : Sources → Config → List ℕ → Result (List (ℕ × ℕ)) ℕ → Course (Option Machine)
text_course sources config file (Ok schedule) = input_course (record { config = config; schedule = schedule; file = file; input = sources.input })
text_course sources config file (Err line) = refused (schedule_refused line)

-- the schedule's file
abbrev pub schedule_course : Sources → Config → List ℕ → List ℕ → Option (List ℕ) → Course (Option Machine)
schedule_course sources config file name None = refused (cannot_read name)
schedule_course sources config file name (Some text) = text_course sources config file (schedule_of text)

-- the schedule is empty where no option names it
abbrev pub option_course : List (List ℕ) → Sources → Config → List ℕ → Option ℕ → Course (Option Machine)
option_course words sources config file None = text_course sources config file (Ok [])
option_course words sources config file (Some index) = schedule_course sources config file (word_at words index) (sources.files index)

-- the image, which every other file is none of, by the first rule that it breaks
abbrev pub image_course : List (List ℕ) → Sources → Options → List ℕ → Option ImageFault → Course (Option Machine)
image_course words sources options file None = option_course words sources options.config file options.schedule
image_course words sources options file (Some fault) = refused (image_refused fault)

-- the image's file
abbrev pub file_course : List (List ℕ) → Sources → Options → List ℕ → Option (List ℕ) → Course (Option Machine)
file_course words sources options name None = refused (cannot_read name)
file_course words sources options name (Some file) = image_course words sources options file (fault_of file)

-- the source of `asm`, which is a file in the assembler's language, or has a first fault
abbrev pub source_course : Result (List ℕ) SourceFault → Course (Option Machine)
source_course (Ok file) = shown (file_parts file)
source_course (Err fault) = refused (source_refused fault)

-- its file
abbrev pub asm_course : List ℕ → Option (List ℕ) → Course (Option Machine)
asm_course name None = refused (cannot_read name)
asm_course name (Some text) = source_course (file_from text)

-- the image of a tool that shows parts of it
abbrev pub shown_course : (List ℕ → List Part) → List ℕ → Option ImageFault → Course (Option Machine)
shown_course parts file None = shown (parts file)
shown_course parts file (Some fault) = refused (image_refused fault)

-- its file
abbrev pub tool_course : (List ℕ → List Part) → List ℕ → Option (List ℕ) → Course (Option Machine)
tool_course parts name None = refused (cannot_read name)
tool_course parts name (Some file) = shown_course parts file (fault_of file)

-- the words
abbrev pub command_course : List (List ℕ) → Sources → Result Command WordFault → Course (Option Machine)
command_course words sources (Err fault) = refused (usage fault.place)
command_course words sources (Ok (Run options image)) = file_course words sources options (word_at words image) (sources.files image)
command_course words sources (Ok (Asm file)) = asm_course (word_at words file) (sources.files file)
command_course words sources (Ok (Disasm file)) = tool_course instr_parts (word_at words file) (sources.files file)
command_course words sources (Ok (Check file)) = tool_course summary_parts (word_at words file) (sources.files file)

-- the course of the program for these words, where what it reads is this
abbrev pub course : List (List ℕ) → Sources → Course (Option Machine)
course words sources = command_course words sources (read_of words)
