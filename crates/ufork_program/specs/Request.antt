-- What the program comes to before it writes anything, and why.
use Rattle.std.specs.Prelude.{◌≡◌, ℕ, ◌<◌, ◌≤◌, ◌⊎◌, List, [], Some, None, IsOk, IfSome, IsSomeAnd, Ok, Err, All, length, ⊤}
use Rattle.std.specs.declared.option.Option.{Option}
use Rattle.outside_io.specs.Faults.{Rose}
use Rattle.outside_io.specs.States.{FilesState, SourceState}
use Rattle.outside_io.specs.Parts.{Part}
use Rattle.outside_io.specs.Answers.{Answer, memory_wanted}
use Rattle.outside_io.specs.Moments.{Course}
use Rattle.cap_format.specs.declared.image.ImageFault.{ImageFault}
use Rattle.cap_format.specs.Image.{IsImage, fault_of}
use Rattle.asm_text.specs.declared.source.SourceFault.{SourceFault}
use Rattle.asm_image.specs.Assembled.{file_from}
use Rattle.machine_types.specs.declared.config.Config.{Config}
use Rattle.elf_loader.specs.Loaded.{IsRead, image_of}
use Rattle.command_words.specs.declared.words.Options.{Options}
use Rattle.command_words.specs.declared.words.Command.{Command}
use Rattle.command_words.specs.declared.words.Command.TheVariants.{Run, Asm, Disasm, Check}
use Rattle.command_words.specs.Commands.{read_of}
use Rattle.command_words.specs.Sayings.{IsWithinLimits}
use Rattle.run_texts.specs.Schedules.{schedule_of}
use Rattle.ufork_program.specs.Numbers.{most_input}
use Rattle.machine.specs.Machines.{Machine}
use Rattle.machine.specs.Sound.{IsQuantum}
use Rattle.machine_steps.specs.Runs.{Setup, quanta_of}
use Rattle.ufork_program.specs.Run.{run_course}
use Rattle.ufork_program.specs.Tools.{file_parts, instr_parts, summary_parts}
use Rattle.ufork_program.specs.Input.{TookAll, TookTooMany, TookUntilFault}
use Rattle.ufork_program.specs.Answer.{word_at, Files, named_by, Sources, usage, cannot_read, image_refused, schedule_refused, input_failed, input_too_long, frames_lacked, source_refused, refused, shown}
use Rattle.ufork_program.specs.declared.request.Guest.{Guest}
use Rattle.ufork_program.specs.declared.request.Request.{Request}
use Rattle.ufork_program.specs.declared.request.Request.TheVariants as request
use Rattle.ufork_program.specs.declared.request.CommandRefusal.{CommandRefusal}
use Rattle.ufork_program.specs.declared.request.CommandRefusal.TheVariants.{Usage, CannotRead, NoImage, NoSchedule, InputFailed, InputTooLong, NoFrames, NoSource}
use Rattle.ufork_program.specs.declared.request.Shown.{Shown}
use Rattle.ufork_program.specs.declared.request.Shown.TheVariants.{Assembled, Instrs, Summary}

-- the answer to a refusal
abbrev pub refusal_of : List (List ℕ) → CommandRefusal → Answer
refusal_of words (Usage place) = usage place
refusal_of words (CannotRead index) = cannot_read (word_at words index)
refusal_of words (NoImage fault) = image_refused fault
refusal_of words (NoSchedule line) = schedule_refused line
refusal_of words InputFailed = input_failed
refusal_of words InputTooLong = input_too_long
refusal_of words (NoFrames pages frames) = frames_lacked pages frames
refusal_of words (NoSource fault) = source_refused fault

-- what is shown of a file
abbrev pub parts_shown : Shown → List Part
parts_shown (Assembled file) = file_parts file.items
parts_shown (Instrs found) = instr_parts found.bytes.items
parts_shown (Summary found) = summary_parts found.bytes.items

-- what a guest is set up with
abbrev pub setup_of : Guest → Setup
setup_of guest = record { config = guest.config; schedule = guest.schedule; file = guest.bytes.items; input = guest.input.items }

-- the course from there
abbrev pub course_of : List (List ℕ) → Request → Course (Option Machine)
course_of words (request.Refused refusal) = refused (refusal_of words refusal)
course_of words request.NoMemory = refused memory_wanted
course_of words (request.Run guest) = run_course (setup_of guest)
course_of words (request.Show parts) = shown (parts_shown parts)

-- the index of the word that names the file of a command: of the source of `asm`, and of an image
abbrev pub file_index : Command → ℕ
file_index (Run options image) = image
file_index (Asm file) = file
file_index (Disasm file) = file
file_index (Check file) = file

-- The words are this command, and its file has this content.
pub record NamesContent (words : List (List ℕ)) (files : Files) (command : Command) (content : List ℕ) : Type 0 where
  pub is : read_of words ≡ Ok command
  pub found : files (file_index command) ≡ Some content

-- a command reads an image, as all do but `asm`
abbrev pub ReadsImage : Command → Type 0
ReadsImage (Asm file) = ⊥
ReadsImage _ = ⊤

-- the file is no image, by this fault
pub record NamesNoImage (words : List (List ℕ)) (files : Files) (fault : ImageFault) : Type 0 where
  pub command : Command
  pub file : List ℕ
  pub names : NamesContent words files command file
  pub reads : ReadsImage command
  pub fault_is : fault_of file ≡ Some fault

-- the words are `asm` on a text that is no source, by this fault
pub record NamesNoSource (words : List (List ℕ)) (files : Files) (fault : SourceFault) : Type 0 where
  pub index : ℕ
  pub text : List ℕ
  pub names : NamesContent words files (Asm index) text
  pub fault_is : file_from text ≡ Err fault

-- what a command that runs nothing shows of its file
abbrev pub IsShownOf : Command → List ℕ → List Part → Type 0
IsShownOf (Run options image) content parts = ⊥
IsShownOf (Asm index) text parts = (file : List ℕ) × (file_from text ≡ Ok file) × (parts ≡ file_parts file)
IsShownOf (Disasm index) file parts = IsImage file × (parts ≡ instr_parts file)
IsShownOf (Check index) file parts = IsImage file × (parts ≡ summary_parts file)

-- the words are such a command on such a file
pub record NamesShown (words : List (List ℕ)) (files : Files) (parts : List Part) : Type 0 where
  pub command : Command
  pub content : List ℕ
  pub names : NamesContent words files command content
  pub shown_is : IsShownOf command content parts

-- The words are `run`, and the file of its image has this content.
pub record NamesFile (words : List (List ℕ)) (files : Files) (options : Options) (file : List ℕ) : Type 0 where
  pub image : ℕ
  pub command : read_of words ≡ Ok (Run options image)
  pub content : files image ≡ Some file

-- that file is an image
pub record NamesImage (words : List (List ℕ)) (files : Files) (options : Options) (file : List ℕ) : Type 0 where
  pub names : NamesFile words files options file
  pub image : IsImage file

-- and the schedule's file, which an option names, has this text
pub record NamesText (words : List (List ℕ)) (files : Files) (text : List ℕ) : Type 0 where
  pub options : Options
  pub file : List ℕ
  pub names : NamesImage words files options file
  pub index : ℕ
  pub named : options.schedule ≡ Some index
  pub content : files index ≡ Some text

-- the text is no schedule, by its first wrong line
pub record NamesNoSchedule (words : List (List ℕ)) (files : Files) (line : ℕ) : Type 0 where
  pub text : List ℕ
  pub names : NamesText words files text
  pub wrong : schedule_of text ≡ Err line

-- a text is this schedule
abbrev pub HasSchedule : Option (List ℕ) → List (ℕ × ℕ) → Type 0
HasSchedule None schedule = ⊥
HasSchedule (Some text) schedule = schedule_of text ≡ Ok schedule

-- what the option says: an empty schedule where there is none
abbrev pub IsScheduleAt : Files → Option ℕ → List (ℕ × ℕ) → Type 0
IsScheduleAt files None schedule = schedule ≡ []
IsScheduleAt files (Some index) schedule = HasSchedule (files index) schedule

-- The words name an image and, if at all, a schedule, with this configuration. So the console's input is read.
pub record NamesFiles (words : List (List ℕ)) (files : Files) (config : Config) (schedule : List (ℕ × ℕ)) (file : List ℕ) : Type 0 where
  pub options : Options
  pub names : NamesImage words files options file
  pub config_is : options.config ≡ config
  pub schedule_is : IsScheduleAt files options.schedule schedule

-- for some configuration, schedule and image
pub record ReadsInput (words : List (List ℕ)) (files : Files) : Type 0 where
  pub config : Config
  pub schedule : List (ℕ × ℕ)
  pub file : List ℕ
  pub names : NamesFiles words files config schedule file

-- the input is read, and has more bytes than it may have
pub record HasLongInput (words : List (List ℕ)) (sources : Sources) : Type 0 where
  pub reads : ReadsInput words sources.files
  pub longer : most_input < length sources.input

-- The words name what is set up, and the input has no more bytes than it may have.
pub record NamesGuest (words : List (List ℕ)) (sources : Sources) (setup : Setup) : Type 0 where
  pub names : NamesFiles words sources.files setup.config setup.schedule setup.file
  pub input_is : setup.input ≡ sources.input
  pub fits : length setup.input ≤ most_input

-- and the image has more pages than there are frames
pub record NamesTooMany (words : List (List ℕ)) (sources : Sources) (pages frames : ℕ) : Type 0 where
  pub setup : Setup
  pub names : NamesGuest words sources setup
  pub pages_are : (image_of setup.file).pages ≡ pages
  pub frames_are : setup.config.frames ≡ frames
  pub fewer : frames < pages

-- a word of `run` names the schedule, and the image's file is an image
abbrev pub IsScheduleOf : Files → Command → ℕ → Type 0
IsScheduleOf files (Run options image) index = (options.schedule ≡ Some index) × IsSomeAnd (files image) IsImage
IsScheduleOf files _ index = ⊥

-- The word at an index names a file that is read: that of the command, or the schedule's, where the image's is an image.
pub record IsReadAt (words : List (List ℕ)) (files : Files) (index : ℕ) : Type 0 where
  pub command : Command
  pub is : read_of words ≡ Ok command
  pub which : (index ≡ file_index command) ⊎ IsScheduleOf files command index

-- It is what these sources lead to, but for a file or an input that failed and for want of memory.
abbrev pub IsRequestOf : List (List ℕ) → Sources → Request → Type 0
IsRequestOf words sources (request.Refused (Usage place)) = read_of words ≡ Err (record { place = place })
IsRequestOf words sources (request.Refused (CannotRead index)) = IsReadAt words sources.files index
IsRequestOf words sources (request.Refused (NoImage fault)) = NamesNoImage words sources.files fault
IsRequestOf words sources (request.Refused (NoSchedule line)) = NamesNoSchedule words sources.files line
IsRequestOf words sources (request.Refused InputFailed) = ReadsInput words sources.files
IsRequestOf words sources (request.Refused InputTooLong) = HasLongInput words sources
IsRequestOf words sources (request.Refused (NoFrames pages frames)) = NamesTooMany words sources pages frames
IsRequestOf words sources (request.Refused (NoSource fault)) = NamesNoSource words sources.files fault
IsRequestOf words sources request.NoMemory = IsOk (read_of words)
IsRequestOf words sources (request.Run guest) = NamesGuest words sources (setup_of guest)
IsRequestOf words sources (request.Show parts) = NamesShown words sources.files (parts_shown parts)

-- They are those that are told: the contents of files, and what the input has left.
pub record AreTold (words : List (List ℕ)) (contents : Option (List ℕ → Option (List ℕ))) (left : Option (List ℕ)) (sources : Sources) : Type 0 where
  pub files : IfSome contents (λ contents. sources.files ≡ named_by words contents)
  pub input : IfSome left (λ left. sources.input ≡ left)

-- the request is that of the sources that are told, and of some where none are
pub record ComesOf (words : List (List ℕ)) (contents : Option (List ℕ → Option (List ℕ))) (left : Option (List ℕ)) (request : Request) : Type 0 where
  pub sources : Sources
  pub told : AreTold words contents left sources
  pub is : IsRequestOf words sources request

-- A file that was not read raised the count, and its name failed last. Else the files are as they were.
abbrev pub HasFilesCause : List (List ℕ) → FilesState → FilesState → Request → Type 0
HasFilesCause words old new (request.Refused (CannotRead index)) = Rose old.faults new.faults × (new.failed_last ≡ Some (word_at words index))
HasFilesCause words old new _ = new ≡ old

-- some input was read to its end
pub record TookSome (old new : SourceState) : Type 0 where
  pub bytes : List ℕ
  pub all : TookAll bytes old new

-- The input was read where nothing else was refused before, and is else as it was.
abbrev pub HasInputCause : SourceState → SourceState → Request → Type 0
HasInputCause old new (request.Refused InputFailed) = TookUntilFault old new
HasInputCause old new (request.Refused InputTooLong) = TookTooMany old new
HasInputCause old new (request.Refused (NoFrames pages frames)) = TookSome old new
HasInputCause old new (request.Run guest) = TookAll guest.input.items old new
HasInputCause old new _ = new ≡ old

-- The input after a request was answered. Memory for the kernel is wanted after the input was read, and all other memory before.
abbrev pub IsInputAfter : SourceState → SourceState → Request → Type 0
IsInputAfter old new request.NoMemory = (new ≡ old) ⊎ TookSome old new
IsInputAfter old new request = HasInputCause old new request

-- A guest's image was read from its bytes, its configuration is within the limits, so are the quanta of its schedule, and there is a frame
-- for each page.
pub record CanRun (guest : Guest) : Type 0 where
  pub read : IsRead guest.bytes.items (Ok guest.image)
  pub within : IsWithinLimits guest.config
  pub quanta : All IsQuantum (quanta_of guest.schedule)
  pub room : guest.image.pages ≤ guest.config.frames

-- what was assembled is an image, and an image that is shown was read from its bytes
abbrev pub CanShow : Shown → Type 0
CanShow (Assembled file) = IsImage file.items
CanShow (Instrs found) = IsRead found.bytes.items (Ok found.image)
CanShow (Summary found) = IsRead found.bytes.items (Ok found.image)

-- An index is that of one of the words, and what is run was read from its bytes and has a frame for each page, within the limits.
abbrev pub IsUsable : List (List ℕ) → Request → Type 0
IsUsable words (request.Refused (CannotRead index)) = index < length words
IsUsable words (request.Run guest) = CanRun guest
IsUsable words (request.Show parts) = CanShow parts
IsUsable words _ = ⊤
