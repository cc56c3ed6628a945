-- What each file that a command names comes to, before a request is made of it.
use Rattle.std.specs.Prelude.{◌≡◌, ◌<◌, ℕ, List, [], Some, None, IfSome, IsOk, Result, Ok, Err, MatchResult, All, length, ⊤}
use Rattle.std.specs.declared.option.Option.{Option}
use Rattle.outside_io.specs.States.{FilesState, SourceState}
use Rattle.cap_format.specs.declared.image.ImageFault.{ImageFault}
use Rattle.cap_format.specs.Image.{fault_of}
use Rattle.elf_loader.specs.Loaded.{IsRead}
use Rattle.asm_text.specs.declared.source.SourceFault.{SourceFault}
use Rattle.asm_image.specs.Assembled.{file_from}
use Rattle.command_words.specs.declared.words.Options.{Options}
use Rattle.command_words.specs.declared.words.Command.{Command}
use Rattle.command_words.specs.declared.words.Command.TheVariants as command
use Rattle.command_words.specs.Commands.{read_of}
use Rattle.command_words.specs.Sayings.{IsCommandOf, IsWithinLimits}
use Rattle.machine.specs.Sound.{IsQuantum}
use Rattle.machine_steps.specs.Runs.{quanta_of}
use Rattle.run_texts.specs.Schedules.{schedule_of}
use Rattle.ufork_program.specs.Input.{TookTooMany, TookUntilFault}
use Rattle.ufork_program.specs.Answer.{Files, named_by}
use Rattle.ufork_program.specs.Request.{file_index, NamesNoImage, NamesNoSchedule, NamesFiles, IsReadAt, IsUsable, HasFilesCause}
use Rattle.ufork_program.specs.declared.request.Guest.{Guest}
use Rattle.ufork_program.specs.declared.request.Request.{Request}
use Rattle.ufork_program.specs.declared.request.Request.TheVariants as request
use Rattle.ufork_program.specs.declared.request.CommandRefusal.TheVariants.{CannotRead, NoImage, NoSchedule, InputFailed, InputTooLong, NoSource}
use Rattle.ufork_program.specs.declared.request.Shown.{Shown}
use Rattle.ufork_program.specs.declared.request.Stop.{Stop}
use Rattle.ufork_program.specs.declared.request.Stop.TheVariants.{Refused, NoMemory}
use Rattle.ufork_program.specs.declared.request.ImageFile.{ImageFile}
use Rattle.ufork_program.specs.declared.request.NamedFiles.{NamedFiles}

-- what names hold, where that is told
abbrev pub Told : Type 0
Told = Option (List ℕ → Option (List ℕ))

-- the words are a command with these options, and the word at this index names its image's file
pub record IsCommand (words : List (List ℕ)) (options : Options) (image : ℕ) : Type 0 where
  pub is : read_of words ≡ Ok (command.Run options image)
  pub within : IsCommandOf (length words) (command.Run options image)

-- where contents are told, the file that the word at an index names has this content
pub record IsToldAt (words : List (List ℕ)) (told : Told) (index : ℕ) (content : List ℕ) : Type 0 where
  pub content_is : IfSome told (λ contents. named_by words contents index ≡ Some content)

-- some content that may stand there is no image, by this fault
pub record IsNoImageAt (words : List (List ℕ)) (told : Told) (index : ℕ) (fault : ImageFault) : Type 0 where
  pub file : List ℕ
  pub told_is : IsToldAt words told index file
  pub fault_is : fault_of file ≡ Some fault

-- some text that may stand there is this schedule, or is wrong at this line
pub record IsScheduleTextAt (words : List (List ℕ)) (told : Told) (index : ℕ) (schedule : Result (List (ℕ × ℕ)) ℕ) : Type 0 where
  pub text : List ℕ
  pub told_is : IsToldAt words told index text
  pub is : schedule_of text ≡ schedule

-- some text that may stand there is assembled to this, or has this fault
pub record IsSourceTextAt (words : List (List ℕ)) (told : Told) (index : ℕ) (assembled : Result (List ℕ) SourceFault) : Type 0 where
  pub text : List ℕ
  pub told_is : IsToldAt words told index text
  pub is : file_from text ≡ assembled

-- An image was read from bytes that may stand at this index; or what stands there is none, its file failed, or memory was wanted.
abbrev pub IsImageAt : List (List ℕ) → Told → ℕ → Result ImageFile Stop → Type 0
IsImageAt words told index (Ok found) = IsRead found.bytes.items (Ok found.image) × IsToldAt words told index found.bytes.items
IsImageAt words told index (Err (Refused (CannotRead failed))) = failed ≡ index
IsImageAt words told index (Err (Refused (NoImage fault))) = IsNoImageAt words told index fault
IsImageAt words told index (Err (Refused _)) = ⊥
IsImageAt words told index (Err NoMemory) = ⊤

-- The same of a schedule
abbrev pub IsScheduleFileAt : List (List ℕ) → Told → ℕ → Result (List (ℕ × ℕ)) Stop → Type 0
IsScheduleFileAt words told index (Ok schedule) = IsScheduleTextAt words told index (Ok schedule)
IsScheduleFileAt words told index (Err (Refused (CannotRead failed))) = failed ≡ index
IsScheduleFileAt words told index (Err (Refused (NoSchedule line))) = IsScheduleTextAt words told index (Err line)
IsScheduleFileAt words told index (Err (Refused _)) = ⊥
IsScheduleFileAt words told index (Err NoMemory) = ⊤

-- and of a source, of which the file was made
abbrev pub IsSourceFileAt : {V : Type 0} → (V → List ℕ) → List (List ℕ) → Told → ℕ → Result V Stop → Type 0
IsSourceFileAt bytes words told index (Ok file) = IsSourceTextAt words told index (Ok (bytes file))
IsSourceFileAt bytes words told index (Err (Refused (CannotRead failed))) = failed ≡ index
IsSourceFileAt bytes words told index (Err (Refused (NoSource fault))) = IsSourceTextAt words told index (Err fault)
IsSourceFileAt bytes words told index (Err (Refused _)) = ⊥
IsSourceFileAt bytes words told index (Err NoMemory) = ⊤

-- the schedule is empty where no option names one
abbrev pub IsEmptySchedule : Result (List (ℕ × ℕ)) Stop → Type 0
IsEmptySchedule (Ok schedule) = schedule ≡ []
IsEmptySchedule (Err stop) = ⊥

-- what was read for the option
abbrev pub IsOptionRead : List (List ℕ) → Told → Option ℕ → Result (List (ℕ × ℕ)) Stop → Type 0
IsOptionRead words told None result = IsEmptySchedule result
IsOptionRead words told (Some index) result = IsScheduleFileAt words told index result

-- What the files of a command say was read from contents that may stand there; or one of them was refused, failed, or memory was wanted.
abbrev pub AreFilesOf : List (List ℕ) → Files → Result NamedFiles Stop → Type 0
AreFilesOf words files (Ok named) = NamesFiles words files named.config named.schedule named.bytes.items
AreFilesOf words files (Err (Refused (CannotRead index))) = IsReadAt words files index
AreFilesOf words files (Err (Refused (NoImage fault))) = NamesNoImage words files fault
AreFilesOf words files (Err (Refused (NoSchedule line))) = NamesNoSchedule words files line
AreFilesOf words files (Err (Refused _)) = ⊥
AreFilesOf words files (Err NoMemory) = IsOk (read_of words)

-- so it is for the contents that are told, and for some where none are
pub record ComesOfFiles (words : List (List ℕ)) (told : Told) (result : Result NamedFiles Stop) : Type 0 where
  pub files : Files
  pub told_is : IfSome told (λ contents. files ≡ named_by words contents)
  pub is : AreFilesOf words files result

-- the image was read from its bytes, and the configuration and the quanta are within the limits
pub record IsNamed (named : NamedFiles) : Type 0 where
  pub read : IsRead named.bytes.items (Ok named.image)
  pub within : IsWithinLimits named.config
  pub quanta : All IsQuantum (quanta_of named.schedule)

-- why there is no input, and what was taken of it
abbrev pub IsInputStop : SourceState → SourceState → Stop → Type 0
IsInputStop old new (Refused InputFailed) = TookUntilFault old new
IsInputStop old new (Refused InputTooLong) = TookTooMany old new
IsInputStop old new (Refused _) = ⊥
IsInputStop old new NoMemory = new ≡ old

-- what is answered where no guest was read
abbrev pub stopped : Stop → Request
stopped (Refused refusal) = request.Refused refusal
stopped NoMemory = request.NoMemory

-- what was read can be used, and so can what is answered else
abbrev pub AreUsable : List (List ℕ) → Result NamedFiles Stop → Type 0
AreUsable words result = MatchResult result IsNamed (λ stop. IsUsable words (stopped stop))

-- and in each case
abbrev pub request_by : Result Guest Stop → Request
request_by (Ok guest) = request.Run guest
request_by (Err stop) = stopped stop

abbrev pub shown_by : Result Shown Stop → Request
shown_by (Ok shown) = request.Show shown
shown_by (Err stop) = stopped stop

-- the words are this command, and the word of its file is one of them
pub record IsTool (words : List (List ℕ)) (tool : Command) : Type 0 where
  pub is : read_of words ≡ Ok tool
  pub within : file_index tool < length words

-- where something was read the files are as they were, and what was not read has its cause
abbrev pub HasReadCause : {T : Type 0} → List (List ℕ) → FilesState → FilesState → Result T Stop → Type 0
HasReadCause words old new result = MatchResult result (λ _. new ≡ old) (λ stop. HasFilesCause words old new (stopped stop))
