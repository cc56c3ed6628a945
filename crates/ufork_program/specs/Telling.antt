-- What follows from what a call promises, where the contents of files and the bytes of the input are told: a second meaning of the promise.
use Rattle.std.specs.Prelude.{◌≡◌, ℕ, ◌+◌, ◌≤◌, ◌≢◌, ◌⊎◌, Ok, List, [], ◌++◌, length, Some}
use Rattle.std.specs.declared.option.Option.{Option}
use Rattle.outside_io.specs.Faults.{Rose}
use Rattle.outside_io.specs.States.{NoneRose}
use Rattle.outside_io.specs.Parts.{Part, console_of, Written}
use Rattle.outside_io.specs.Answers.{Answer, memory_wanted}
use Rattle.outside_io.specs.Moments.{parts_of}
use Rattle.stores.specs.Boards.{IsEmpty, Stands}
use Rattle.cap_format.specs.declared.image.ImageFault.{ImageFault}
use Rattle.asm_text.specs.declared.source.SourceFault.{SourceFault}
use Rattle.elf_loader.specs.Loaded.{image_of}
use Rattle.machine_types.specs.declared.config.Config.{Config}
use Rattle.command_words.specs.declared.words.Command.{Command}
use Rattle.command_words.specs.declared.words.Command.TheVariants as command
use Rattle.command_words.specs.Commands.{read_of}
use Rattle.ufork_program.specs.Numbers.{most_input}
use Rattle.machine_types.specs.declared.config.Outcome.{Outcome}
use Rattle.machine_types.specs.declared.config.Outcome.TheVariants.{Running, Done, Stuck}
use Rattle.machine.specs.Readiness.{outcome_of}
use Rattle.machine_steps.specs.Runs.{Setup, start}
use Rattle.ufork_program.specs.Run.{run_end, status_at, run_course}
use Rattle.ufork_program.specs.Answer.{word_at, named_by, Sources, course, refused}
use Rattle.ufork_program.specs.Request.{file_index, NamesFiles, NamesImage, NamesNoImage, NamesNoSchedule, NamesNoSource, NamesShown, NamesTooMany, NamesGuest, ReadsInput, HasLongInput, IsReadAt}
use Rattle.ufork_program.specs.Headline.{Call, Promises}

-- the contents of the files that the words name are told, and the bytes that the input has left
pub record Tells (call : Call) (sources : Sources) : Type 0 where
  pub contents : List ℕ → Option (List ℕ)
  pub told : call.old.files.contents ≡ Some contents
  pub files_are : sources.files ≡ named_by call.words contents
  pub input_told : call.old.input.left ≡ Some sources.input

-- What the words name was run to the configured steps, or until the machine didn't run, and it stands so there: the parts of the run are written,
-- the board stands for the machine at its end, and nothing of the input is left.
pub record RanThem (outcome : Outcome) (call : Call) (sources : Sources) : Type 0 where
  pub setup : Setup
  pub named : NamesGuest call.words sources setup
  pub room : (image_of setup.file).pages ≤ setup.config.frames
  pub outcome_is : outcome_of (run_end (start setup) setup.config.steps) ≡ outcome
  pub written : Written (parts_of (run_course setup).moments) (console_of call.old) (console_of call.new)
  pub stands : Stands call.left (run_end (start setup) setup.config.steps).content
  pub end : call.new.input.left ≡ Some []

-- A file that the command reads, by the contents that are told, failed last. The input was not asked for.
pub record FailedThere (call : Call) (sources : Sources) : Type 0 where
  pub index : ℕ
  pub read : IsReadAt call.words sources.files index
  pub rose : Rose call.old.files.faults call.new.files.faults
  pub last : call.new.files.failed_last ≡ Some (word_at call.words index)
  pub unasked : call.new.input ≡ call.old.input

-- The input failed, which the words ask for: at most so many bytes as it may have were taken from its front.
pub record BrokeThere (call : Call) (sources : Sources) : Type 0 where
  pub read : ReadsInput call.words sources.files
  pub rose : Rose call.old.input.faults call.new.input.faults
  pub taken : List ℕ
  pub rest : List ℕ
  pub front : sources.input ≡ taken ++ rest
  pub few : length taken ≤ most_input
  pub left : call.new.input.left ≡ Some rest

-- The input is too long, and one byte more than it may have was taken from its front.
pub record TookThere (call : Call) (sources : Sources) : Type 0 where
  pub long : HasLongInput call.words sources
  pub taken : List ℕ
  pub rest : List ℕ
  pub front : sources.input ≡ taken ++ rest
  pub number : length taken ≡ most_input + 1
  pub left : call.new.input.left ≡ Some rest

-- The status is that of the course by what is told, and its parts are written.
pub record IsByCourse (call : Call) (sources : Sources) : Type 0 where
  pub status : call.status ≡ (course call.words sources).status
  pub written : Written (parts_of (course call.words sources).moments) (console_of call.old) (console_of call.new)

-- The words name an image and, if at all, a schedule, by what is told.
pub record NamedThere (call : Call) (sources : Sources) : Type 0 where
  pub config : Config
  pub schedule : List (ℕ × ℕ)
  pub file : List ℕ
  pub names : NamesFiles call.words sources.files config schedule file

-- the word at an index names the schedule of `run`, and what is told of the image's file is an image
abbrev pub IsScheduleThere : Call → Sources → Command → ℕ → Type 0
IsScheduleThere call sources (command.Run options image) index = (options.schedule ≡ Some index) × (file : List ℕ) × NamesImage call.words sources.files options file
IsScheduleThere call sources _ index = ⊥

-- The file that failed last is that of the command, or the schedule's, where what is told of the image's is an image.
pub record FailedAt (call : Call) (sources : Sources) : Type 0 where
  pub command : Command
  pub index : ℕ
  pub is : read_of call.words ≡ Ok command
  pub last : call.new.files.failed_last ≡ Some (word_at call.words index)
  pub which : (index ≡ file_index command) ⊎ IsScheduleThere call sources command index

-- The words are a command that runs nothing, on a file in its grammar by what is told: what it shows is written, the board comes back as it
-- was, empty, and so does the input.
pub record ShownThere (call : Call) (sources : Sources) : Type 0 where
  pub parts : List Part
  pub named : NamesShown call.words sources.files parts
  pub written : Written parts (console_of call.old) (console_of call.new)
  pub given : call.left ≡ call.given
  pub empty : IsEmpty call.left
  pub unasked : call.new.input ≡ call.old.input

-- What a promise tells: with 0, 8 and 9 what is told was run, or with 0 shown, with 3 and 6 a file or the input failed, and with 4, 5, 11, 12 and
-- 13 it is what was refused. Where nothing is refused and no count rose, it was run or shown; where something is refused, the status is that of
-- the refusal; or memory was wanted. The input is as it was, unless the words name an image and a schedule.
pub record PromisesTell : Type 0 where
  pub done : (call : Call) (sources : Sources) → Promises call → Tells call sources → call.status ≡ 0 → RanThem Done call sources ⊎ ShownThere call sources
  pub stopped : (call : Call) (sources : Sources) → Promises call → Tells call sources → call.status ≡ 8 → RanThem Running call sources
  pub stuck : (call : Call) (sources : Sources) → Promises call → Tells call sources → call.status ≡ 9 → RanThem Stuck call sources
  pub failed : (call : Call) (sources : Sources) → Promises call → Tells call sources → call.status ≡ 3 → FailedThere call sources
  pub broke : (call : Call) (sources : Sources) → Promises call → Tells call sources → call.status ≡ 6 → BrokeThere call sources
  pub no_image : (call : Call) (sources : Sources) → Promises call → Tells call sources → call.status ≡ 4
      → (fault : ImageFault) × NamesNoImage call.words sources.files fault
  pub no_schedule : (call : Call) (sources : Sources) → Promises call → Tells call sources → call.status ≡ 5
      → (line : ℕ) × NamesNoSchedule call.words sources.files line
  pub too_long : (call : Call) (sources : Sources) → Promises call → Tells call sources → call.status ≡ 11 → TookThere call sources
  pub no_frames : (call : Call) (sources : Sources) → Promises call → Tells call sources → call.status ≡ 12
      → (pages : ℕ) × (frames : ℕ) × NamesTooMany call.words sources pages frames × (call.new.input.left ≡ Some [])
  pub no_source : (call : Call) (sources : Sources) → Promises call → Tells call sources → call.status ≡ 13
      → (fault : SourceFault) × NamesNoSource call.words sources.files fault
  pub shows : (call : Call) (contents : List ℕ → Option (List ℕ)) (parts : List Part) → Promises call → call.old.files.contents ≡ Some contents → NoneRose call.old call.new
      → NamesShown call.words (named_by call.words contents) parts
      → ((call.status ≡ 0) × Written parts (console_of call.old) (console_of call.new)) ⊎ (call.status ≡ memory_wanted.status)
  pub complete : (call : Call) (sources : Sources) (setup : Setup) → Promises call → Tells call sources → NoneRose call.old call.new
      → NamesGuest call.words sources setup → (image_of setup.file).pages ≤ setup.config.frames
      → (call.status ≡ status_at (run_end (start setup) setup.config.steps)) ⊎ (call.status ≡ memory_wanted.status)
  pub refuses : (call : Call) (sources : Sources) (answer : Answer) → Promises call → Tells call sources → NoneRose call.old call.new
      → course call.words sources ≡ refused answer → (call.status ≡ answer.status) ⊎ (call.status ≡ memory_wanted.status)
  pub by_course : (call : Call) (sources : Sources) → Promises call → Tells call sources → NoneRose call.old call.new → call.status ≢ 10 → IsByCourse call sources
  pub unasked : (call : Call) (sources : Sources) → Promises call → Tells call sources → (ReadsInput call.words sources.files → ⊥)
      → call.new.input ≡ call.old.input
  pub asked : (call : Call) (sources : Sources) → Promises call → Tells call sources → (call.new.input ≡ call.old.input) ⊎ NamedThere call sources
  pub broke_after : (call : Call) (sources : Sources) → Promises call → Tells call sources → call.status ≡ 6 → NamedThere call sources
  pub failed_at : (call : Call) (sources : Sources) → Promises call → Tells call sources → call.status ≡ 3 → FailedAt call sources
