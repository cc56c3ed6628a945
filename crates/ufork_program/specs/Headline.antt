-- What a call of the program promises.
use Rattle.std.specs.Prelude.{◌≡◌, ◌≢◌, ◌≤◌, ℕ, ◌⊎◌, List, [], ◌∷◌, Contains, Some, None, Err}
use Rattle.std.specs.declared.option.Option.{Option}
use Rattle.outside_io.specs.Faults.{Rose}
use Rattle.outside_io.specs.States.{Outside, NoneRose, SinksStill, SinkRose, CountsBelowLast}
use Rattle.outside_io.specs.Parts.{Part, Console, console_of, Written, Quiet, Later}
use Rattle.outside_io.specs.Answers.{memory_wanted, write_fault}
use Rattle.outside_io.specs.Moments.{Course, parts_of, CutAt, EndsAt}
use Rattle.stores.specs.declared.board.Board.{Board}
use Rattle.stores.specs.Boards.{IsEmpty, Stands}
use Rattle.cap_format.specs.declared.image.ImageFault.{ImageFault}
use Rattle.asm_text.specs.declared.source.SourceFault.{SourceFault}
use Rattle.elf_loader.specs.Loaded.{image_of}
use Rattle.command_words.specs.Commands.{read_of}
use Rattle.machine_types.specs.declared.config.Outcome.{Outcome}
use Rattle.machine_types.specs.declared.config.Outcome.TheVariants.{Running, Done, Stuck}
use Rattle.machine.specs.Machines.{Machine}
use Rattle.machine.specs.Readiness.{outcome_of}
use Rattle.machine_steps.specs.Runs.{Setup, start}
use Rattle.ufork_program.specs.Run.{run_course, run_end}
use Rattle.ufork_program.specs.Input.{TookAll, TookTooMany, TookUntilFault}
use Rattle.ufork_program.specs.Answer.{word_at, Sources, course, usage, cannot_read, image_refused, schedule_refused, input_failed, input_too_long, frames_lacked, source_refused, refused, shown}
use Rattle.ufork_program.specs.Request.{course_of, NamesNoImage, NamesNoSchedule, NamesGuest, NamesTooMany, NamesNoSource, NamesShown, ReadsInput, HasLongInput, IsReadAt, IsUsable, AreTold, ComesOf, HasFilesCause, TookSome, IsInputAfter}
use Rattle.ufork_program.specs.declared.request.Request.{Request}
use Rattle.ufork_program.specs.declared.request.Request.TheVariants as request

-- A call of the program: its words, what stood outside before and after it, the board that it was handed and the one that it
-- gives back, and the status.
pub record Call : Type 0 where
  pub words : List (List ℕ)
  pub old : Outside
  pub new : Outside
  pub given : Board
  pub left : Board
  pub status : ℕ

abbrev pub call : List (List ℕ) → Outside → Outside → Board → Board → ℕ → Call
call words old new given left status = record { words = words; old = old; new = new; given = given; left = left; status = status }

-- The board that was handed over comes back as it was, and is empty, where no machine stands; and else one that stands for the
-- machine's stores.
abbrev pub IsLeftOn : Board → Board → Option Machine → Type 0
IsLeftOn given left None = (left ≡ given) × IsEmpty left
IsLeftOn given left (Some m) = Stands left m.content

-- what the call left stands for this
abbrev pub Left : Call → Option Machine → Type 0
Left call = IsLeftOn call.given call.left

-- the sinks hold what they held, followed by the parts of this course
abbrev pub HasWritten : Call → Course (Option Machine) → Type 0
HasWritten call c = Written (parts_of c.moments) (console_of call.old) (console_of call.new)

-- the status is that of the course, its parts are written, and the board is that of its end
pub record WentWhole (call : Call) (c : Course (Option Machine)) : Type 0 where
  pub status : call.status ≡ c.status
  pub written : HasWritten call c
  pub left : Left call c.end

-- a part of the course was cut, and the board is that of the moment
abbrev pub WasCut : Call → Course (Option Machine) → Type 0
WasCut call c = CutAt c.moments (Left call) (console_of call.old) (console_of call.new)

-- A fact of what the program reads, which are the contents of the files that the words name and the bytes of the input: of those that are
-- told, and of some where none are.
pub record OfSources (call : Call) (P : Sources → Type 0) : Type 0 where
  pub sources : Sources
  pub told : AreTold call.words call.old.files.contents call.old.input.left sources
  pub holds : P sources

-- a fact of the course for the words and these sources
abbrev pub OfCourse : Call → (Course (Option Machine) → Type 0) → Type 0
OfCourse call P = OfSources call (λ sources. P (course call.words sources))

-- Memory was wanted, and nothing was written or run. The input was not asked for; or, where the words name an image and a schedule, it was read to
-- its end.
pub record WantedMemory (call : Call) : Type 0 where
  pub whole : WentWhole call (refused memory_wanted)
  pub input : (call.new.input ≡ call.old.input) ⊎ (TookSome call.old.input call.new.input × OfSources call (λ sources. ReadsInput call.words sources.files))

-- the words are no command, from this place on
abbrev pub HasFault : Call → ℕ → Type 0
HasFault call place = read_of call.words ≡ Err (record { place = place })

-- its line alone was written, and nothing was run
pub record TellsOfWords (call : Call) : Type 0 where
  pub place : ℕ
  pub fault : HasFault call place
  pub whole : WentWhole call (refused (usage place))

-- The count of files rose, and the name that failed last is that of a file that the command reads: of its own file, or of its schedule,
-- where the image is one. The input was not asked for.
pub record FileFailed (call : Call) (name : List ℕ) : Type 0 where
  pub rose : Rose call.old.files.faults call.new.files.faults
  pub index : ℕ
  pub word : word_at call.words index ≡ name
  pub read : OfSources call (λ sources. IsReadAt call.words sources.files index)
  pub last : call.new.files.failed_last ≡ Some name
  pub unasked : call.new.input ≡ call.old.input

-- a file failed, its line alone was written, and nothing was run
pub record TellsOfFile (call : Call) : Type 0 where
  pub name : List ℕ
  pub failed : FileFailed call name
  pub whole : WentWhole call (refused (cannot_read name))

-- a file failed, and then its line was cut
pub record LineCut (call : Call) : Type 0 where
  pub name : List ℕ
  pub failed : FileFailed call name
  pub cut : WasCut call (refused (cannot_read name))

-- The count of the input rose, which the words ask for, and no earlier refusal stands.
pub record InputBroke (call : Call) : Type 0 where
  pub read : OfSources call (λ sources. ReadsInput call.words sources.files)
  pub took : TookUntilFault call.old.input call.new.input
  pub kept : call.new.files ≡ call.old.files

-- the input failed, its line alone was written, and nothing was run
pub record TellsOfInput (call : Call) : Type 0 where
  pub broke : InputBroke call
  pub whole : WentWhole call (refused input_failed)

-- the input failed, and then its line was cut
pub record InputLineCut (call : Call) : Type 0 where
  pub broke : InputBroke call
  pub cut : WasCut call (refused input_failed)

-- A part of the course for the words and these sources was cut. The input was read before that, as far as it is to be.
pub record CutWith (call : Call) (sources : Sources) : Type 0 where
  pub cut : WasCut call (course call.words sources)
  pub all : (setup : Setup) → NamesGuest call.words sources setup → TookAll setup.input call.old.input call.new.input
  pub too_many : HasLongInput call.words sources → TookTooMany call.old.input call.new.input

-- no file failed, no read of the input did, and a part of the course was cut
pub record CourseCut (call : Call) : Type 0 where
  pub kept : call.new.files ≡ call.old.files
  pub unbroken : call.new.input.faults ≡ call.old.input.faults
  pub cut : OfSources call (CutWith call)

-- The words name an image and a schedule, which were run to the configured steps, or until the machine didn't run, and it stands so there. Its
-- parts are written, the board stands for the machine there, and the input was read to its end.
pub record Ran (outcome : Outcome) (call : Call) : Type 0 where
  pub setup : Setup
  pub named : OfSources call (λ sources. NamesGuest call.words sources setup)
  pub room : (image_of setup.file).pages ≤ setup.config.frames
  pub outcome_is : outcome_of (run_end (start setup) setup.config.steps) ≡ outcome
  pub written : HasWritten call (run_course setup)
  pub left : Stands call.left (run_end (start setup) setup.config.steps).content
  pub read : TookAll setup.input call.old.input call.new.input

-- The words are a command that runs nothing, on a file in its grammar. What it shows of the file is written, and the input was not asked for.
pub record Showed (call : Call) : Type 0 where
  pub parts : List Part
  pub named : OfSources call (λ sources. NamesShown call.words sources.files parts)
  pub whole : WentWhole call (shown parts)
  pub unasked : call.new.input ≡ call.old.input

-- The image's file is no image. It was refused by the first rule that it breaks, in one line, and nothing was run.
pub record TellsOfImage (call : Call) : Type 0 where
  pub fault : ImageFault
  pub named : OfSources call (λ sources. NamesNoImage call.words sources.files fault)
  pub whole : WentWhole call (refused (image_refused fault))

-- the schedule's text is none, and was refused by its first wrong line
pub record TellsOfSchedule (call : Call) : Type 0 where
  pub line : ℕ
  pub named : OfSources call (λ sources. NamesNoSchedule call.words sources.files line)
  pub whole : WentWhole call (refused (schedule_refused line))

-- The input has more bytes than it may have. One more than that was taken.
pub record TellsOfLength (call : Call) : Type 0 where
  pub named : OfSources call (HasLongInput call.words)
  pub took : TookTooMany call.old.input call.new.input
  pub whole : WentWhole call (refused input_too_long)

-- the image has more pages than there are frames, and the input was read to its end
pub record TellsOfFrames (call : Call) : Type 0 where
  pub pages : ℕ
  pub frames : ℕ
  pub named : OfSources call (λ sources. NamesTooMany call.words sources pages frames)
  pub read : TookSome call.old.input call.new.input
  pub whole : WentWhole call (refused (frames_lacked pages frames))

-- The text is no source. It was refused by its first fault, in one line, and the input was not asked for.
pub record TellsOfSource (call : Call) : Type 0 where
  pub fault : SourceFault
  pub named : OfSources call (λ sources. NamesNoSource call.words sources.files fault)
  pub whole : WentWhole call (refused (source_refused fault))
  pub unasked : call.new.input ≡ call.old.input

-- the statuses that there are
abbrev pub statuses : List ℕ
statuses = 0 ∷ 2 ∷ 3 ∷ 4 ∷ 5 ∷ 6 ∷ write_fault ∷ 8 ∷ 9 ∷ memory_wanted.status ∷ 11 ∷ 12 ∷ 13 ∷ []

-- What the call promises.
pub record Promises (call : Call) : Type 0 where
  -- Where no count rose, the status, the bytes and the board are those of the course; or memory was wanted.
  pub answered : NoneRose call.old call.new → OfCourse call (WentWhole call) ⊎ WantedMemory call
  -- Where no write failed, they are those of the course, memory was wanted, a file failed or the input did; and no sink met a fault.
  pub whole : call.status ≢ write_fault → OfCourse call (WentWhole call) ⊎ (WantedMemory call ⊎ (TellsOfFile call ⊎ TellsOfInput call))
  pub quiet : call.status ≢ write_fault → Quiet (console_of call.old) (console_of call.new)
  -- With 7 one part was cut: all before it are written whole, a prefix of it is written, and nothing after it is. The board is that
  -- of the moment: it stands for the machine after the step whose part was cut, or at the run's end where that was the last line,
  -- and it is empty where it was the line of a refusal. Where a file or the input had failed first, it was that line.
  pub cut_short : call.status ≡ write_fault → CourseCut call ⊎ (LineCut call ⊎ InputLineCut call)
  -- 0 comes only where no process is live at the end of the run, or where something was shown of a file and nothing was run; 8 only where a live
  -- process is ready after the configured steps; and 9 only where processes are live and none is ready.
  pub done : call.status ≡ 0 → Ran Done call ⊎ Showed call
  pub stopped : call.status ≡ 8 → Ran Running call
  pub stuck : call.status ≡ 9 → Ran Stuck call
  -- 2 comes exactly where the words are no command, but for a failing sink, and names the place.
  pub usage : call.status ≡ 2 → TellsOfWords call
  pub no_command : (place : ℕ) → HasFault call place → call.status ≢ write_fault → call.status ≡ 2
  -- 3 comes only where the file failed, and names it.
  pub file_failed : call.status ≡ 3 → TellsOfFile call
  -- 4 comes only where the file is no image, and names the first rule that it breaks.
  pub image_refused : call.status ≡ 4 → TellsOfImage call
  -- 5 comes only where the schedule's text is none, and names its first wrong line.
  pub schedule_refused : call.status ≡ 5 → TellsOfSchedule call
  -- 6 comes only where the input failed.
  pub input_failed : call.status ≡ 6 → TellsOfInput call
  -- 11 comes only where it has more bytes than it may have.
  pub input_too_long : call.status ≡ 11 → TellsOfLength call
  -- 12 comes only where the image has more pages than there are frames, and names both numbers.
  pub frames_lacked : call.status ≡ 12 → TellsOfFrames call
  -- 13 comes only where the text is no source, and names its first fault.
  pub source_refused : call.status ≡ 13 → TellsOfSource call
  -- 7 comes only where a sink failed.
  pub sink_failed : call.status ≡ write_fault → SinkRose call.old call.new
  -- Where a count rose, and all stood below their last values, the status is that of the fault.
  pub sink_passed : CountsBelowLast call.old → SinkRose call.old call.new → call.status ≡ write_fault
  pub file_passed : CountsBelowLast call.old → SinksStill call.old call.new → Rose call.old.files.faults call.new.files.faults → call.status ≡ 3
  pub input_passed : CountsBelowLast call.old → SinksStill call.old call.new → Rose call.old.input.faults call.new.input.faults → call.status ≡ 6
  -- With 10 nothing was written.
  pub memory_wanted : call.status ≡ memory_wanted.status → WantedMemory call
  -- With every other status nothing was run, and the board is empty.
  pub not_run : call.status ≢ write_fault → call.status ≢ 0 → call.status ≢ 8 → call.status ≢ 9 → Left call None
  -- There are no further statuses.
  pub known : Contains statuses call.status
  -- No count of a sink falls. No file is asked for where the words are no command, and no content changes. Unless a file failed the
  -- files are as they were. The input is as it was, unless the words name an image and a schedule, so that it is read.
  pub later : Later (console_of call.old) (console_of call.new)
  pub unasked : (place : ℕ) → HasFault call place → call.new.files ≡ call.old.files
  pub contents : call.new.files.contents ≡ call.old.files.contents
  pub files_kept : call.status ≢ write_fault → call.status ≢ 3 → call.new.files ≡ call.old.files
  pub input_kept : (call.new.input ≡ call.old.input) ⊎ OfSources call (λ sources. ReadsInput call.words sources.files)

-- A run ended at its course, or there was no memory for the kernel, and nothing was written.
abbrev pub IsRunOr : Course (Option Machine) → (Option Machine → Type 0) → Console → Console → ℕ → Type 0
IsRunOr c stands old new status = EndsAt c stands old new status ⊎ EndsAt (refused memory_wanted) stands old new status

-- A request was answered by its course; and that of a run, where there was no memory for the kernel, by want of memory.
abbrev pub IsAnswered : List (List ℕ) → Request → (Option Machine → Type 0) → Console → Console → ℕ → Type 0
IsAnswered words (request.Run guest) stands old new status = IsRunOr (course_of words (request.Run guest)) stands old new status
IsAnswered words request stands old new status = EndsAt (course_of words request) stands old new status

-- how a call went, from which all that it promises follows
pub record Went (call : Call) : Type 0 where
  pub request : Request
  pub usable : IsUsable call.words request
  pub comes : ComesOf call.words call.old.files.contents call.old.input.left request
  pub files_cause : HasFilesCause call.words call.old.files call.new.files request
  pub input_after : IsInputAfter call.old.input call.new.input request
  pub input_kept : (call.new.input ≡ call.old.input) ⊎ OfSources call (λ sources. ReadsInput call.words sources.files)
  pub contents_kept : call.new.files.contents ≡ call.old.files.contents
  pub ends : EndsAt (course_of call.words request) (Left call) (console_of call.old) (console_of call.new) call.status
