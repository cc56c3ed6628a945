-- The course for the words and what is read, where its parts are known; and the sources of which a request comes.
use Rattle.std.proofs.Common.{◌≡◌, ℕ, ◌<◌, ◌≤◌, List, length, Some, None, Ok, Err, IsOk, refl, sym, ap, ◌∙◌, subst, arith, inl, inr, ◌⊎◌}
use Rattle.std.specs.declared.option.Option.{Option}
use Rattle.outside_io.specs.Moments.{Course}
use Rattle.cap_format.specs.Image.{fault_of}
use Rattle.cap_format.specs.declared.image.ImageFault.{ImageFault}
use Rattle.machine_types.specs.declared.config.Config.{Config}
use Rattle.elf_loader.specs.Loaded.{image_of}
use Rattle.command_words.specs.declared.words.Options.{Options}
use Rattle.command_words.specs.declared.words.Command.{Command}
use Rattle.command_words.specs.declared.words.Command.TheVariants as command
use Rattle.command_words.specs.Commands.{read_of}
use Rattle.ufork_program.specs.Numbers.{most_input}
use Rattle.machine.specs.Machines.{Machine}
use Rattle.machine_steps.specs.Runs.{Setup}
use Rattle.ufork_program.specs.Run.{run_course}
use Rattle.ufork_program.specs.Answer.{word_at, Sources, usage, cannot_read, image_refused, schedule_refused, input_too_long, frames_lacked, refused}
use Rattle.ufork_program.specs.Answer.{frames_course, input_course, text_course, schedule_course, option_course, image_course, file_course, command_course, course}
use Rattle.ufork_program.specs.Request.{setup_of, parts_shown, course_of, file_index, ReadsImage, NamesFile, NamesNoImage, NamesImage, NamesNoSchedule, HasSchedule, IsScheduleAt, NamesFiles}
use Rattle.ufork_program.specs.Request.{HasLongInput, NamesGuest, NamesTooMany, CanRun, IsUsable, IsRequestOf, ComesOf, HasFilesCause, IsInputAfter}
use Rattle.ufork_program.specs.Headline.{Call, OfSources, OfCourse, Went}
use Rattle.ufork_program.specs.declared.request.Guest.{Guest}
use Rattle.ufork_program.specs.declared.request.Request.{Request}
use Rattle.ufork_program.specs.declared.request.Request.TheVariants.{Refused, NoMemory, Run, Show}
use Rattle.ufork_program.specs.declared.request.CommandRefusal.TheVariants.{Usage, CannotRead, NoImage, NoSchedule, InputFailed, InputTooLong, NoFrames, NoSource}
use Rattle.ufork_program.proofs.ToolCourses.{no-image-tool, no-source-leads, shown-leads}

module _ (words : List (List ℕ)) (sources : Sources) where
  -- words that are no command
  pub words_lead : (place : ℕ) → read_of words ≡ Err (record { place = place }) → course words sources ≡ refused (usage place)
  words_lead place is = ap (command_course words sources) is

  -- words that are a command lead to the course of the image's file
  command_leads : (options : Options) (image : ℕ) → read_of words ≡ Ok (command.Run options image)
      → course words sources ≡ file_course words sources options (word_at words image) (sources.files image)
  command_leads options image is = ap (command_course words sources) is

  -- which failed
  pub unread_leads : (options : Options) (image : ℕ) → read_of words ≡ Ok (command.Run options image) → sources.files image ≡ None
      → course words sources ≡ refused (cannot_read (word_at words image))
  unread_leads options image is none = command_leads options image is ∙ ap (file_course words sources options (word_at words image)) none

  -- or has a content
  file_leads : (options : Options) (file : List ℕ) → NamesFile words sources.files options file → course words sources ≡ image_course words sources options file (fault_of file)
  file_leads options file names = command_leads options names.image names.command ∙ ap (file_course words sources options (word_at words names.image)) names.content

  -- which is no image, for any command that reads one
  pub no_image_leads : (fault : ImageFault) → NamesNoImage words sources.files fault → course words sources ≡ refused (image_refused fault)
  no_image_leads fault h = by h.command h.names.is h.names.found h.reads
    where
      by : (read : Command) → read_of words ≡ Ok read → sources.files (file_index read) ≡ Some h.file → ReadsImage read → course words sources ≡ refused (image_refused fault)
      by (command.Run options image) is content reads =
          file_leads options h.file (record { image = image; command = is; content = content }) ∙ ap (image_course words sources options h.file) h.fault_is
      by (command.Asm index) is content reads = absurd reads
      by (command.Disasm index) is content reads = no-image-tool words sources (command.Disasm index) index h.file fault (inl refl) is content h.fault_is
      by (command.Check index) is content reads = no-image-tool words sources (command.Check index) index h.file fault (inr refl) is content h.fault_is

  -- or is one, which leads to what the option says
  image_leads : (options : Options) (file : List ℕ) → NamesImage words sources.files options file
      → course words sources ≡ option_course words sources options.config file options.schedule
  image_leads options file names = file_leads options file names.names ∙ ap (image_course words sources options file) names.image

  -- the schedule's file
  text_leads : (options : Options) (file : List ℕ) (index : ℕ) → NamesImage words sources.files options file → options.schedule ≡ Some index
      → course words sources ≡ schedule_course sources options.config file (word_at words index) (sources.files index)
  text_leads options file index names named = image_leads options file names ∙ ap (option_course words sources options.config file) named

  -- which failed
  pub no_text_leads : (options : Options) (file : List ℕ) (index : ℕ) → NamesImage words sources.files options file → options.schedule ≡ Some index → sources.files index ≡ None
      → course words sources ≡ refused (cannot_read (word_at words index))
  no_text_leads options file index names named none = text_leads options file index names named ∙ ap (schedule_course sources options.config file (word_at words index)) none

  -- or is no schedule
  pub no_schedule_leads : (line : ℕ) → NamesNoSchedule words sources.files line → course words sources ≡ refused (schedule_refused line)
  no_schedule_leads line h =
      let n = h.names in
      text_leads n.options n.file n.index n.names n.named ∙ ap (schedule_course sources n.options.config n.file (word_at words n.index)) n.content
      ∙ ap (text_course sources n.options.config n.file) h.wrong

  -- what is set up where the files are these
  abbrev setup_from : Config → List (ℕ × ℕ) → List ℕ → Setup
  setup_from config schedule file = record { config = config; schedule = schedule; file = file; input = sources.input }

  -- a schedule's content leads to the input
  has_leads : (config : Config) (schedule : List (ℕ × ℕ)) (file name : List ℕ) (found : Option (List ℕ)) → HasSchedule found schedule
      → schedule_course sources config file name found ≡ input_course (setup_from config schedule file)
  has_leads config schedule file name None h = absurd h
  has_leads config schedule file name (Some text) h = ap (text_course sources config file) h

  -- and so does the option
  option_leads : (config : Config) (schedule : List (ℕ × ℕ)) (file : List ℕ) (option : Option ℕ) → IsScheduleAt sources.files option schedule
      → option_course words sources config file option ≡ input_course (setup_from config schedule file)
  option_leads config schedule file None h = ap (λ (s : List (ℕ × ℕ)). input_course (setup_from config s file)) (sym h)
  option_leads config schedule file (Some index) h = has_leads config schedule file (word_at words index) (sources.files index) h

  -- the files that are named lead to the input
  files_lead : (config : Config) (schedule : List (ℕ × ℕ)) (file : List ℕ) → NamesFiles words sources.files config schedule file
      → course words sources ≡ input_course (setup_from config schedule file)
  files_lead config schedule file h =
      image_leads h.options file h.names ∙ option_leads h.options.config schedule file h.options.schedule h.schedule_is
      ∙ ap (λ (c : Config). input_course (setup_from c schedule file)) h.config_is

  -- an input that is too long is refused
  too_long_leads : (setup : Setup) → most_input < length setup.input → input_course setup ≡ refused input_too_long
  too_long_leads setup longer = grind (arith, longer)

  -- and so it is where it is read
  pub long_leads : HasLongInput words sources → course words sources ≡ refused input_too_long
  long_leads h =
      let r = h.reads in
      files_lead r.config r.schedule r.file r.names ∙ too_long_leads (setup_from r.config r.schedule r.file) h.longer

  -- any other leads to the count of frames
  short_leads : (setup : Setup) → length setup.input ≤ most_input → input_course setup ≡ frames_course setup
  short_leads setup fits = grind (arith, fits)

  -- and so does a guest that is named
  guest_leads : (setup : Setup) → NamesGuest words sources setup → course words sources ≡ frames_course setup
  guest_leads setup h =
      files_lead setup.config setup.schedule setup.file h.names
      ∙ ap (λ (input : List ℕ). input_course (record setup { input = input })) (sym h.input_is) ∙ short_leads setup h.fits

  -- an image with too many pages is refused
  too_many_lead : (setup : Setup) → setup.config.frames < (image_of setup.file).pages
      → frames_course setup ≡ refused (frames_lacked (image_of setup.file).pages setup.config.frames)
  too_many_lead setup fewer = grind (arith, fewer)

  -- so is a guest with one
  pub no_frames_lead : (pages frames : ℕ) → NamesTooMany words sources pages frames → course words sources ≡ refused (frames_lacked pages frames)
  no_frames_lead pages frames h =
      guest_leads h.setup h.names ∙ rw (← h.pages_are, ← h.frames_are) (too_many_lead h.setup (rw (h.pages_are, h.frames_are) h.fewer))

  -- one that has room is run
  room_leads : (setup : Setup) → (image_of setup.file).pages ≤ setup.config.frames → frames_course setup ≡ run_course setup
  room_leads setup room = grind (arith, room)

  -- so is a guest with it
  pub run_leads : (setup : Setup) → NamesGuest words sources setup → (image_of setup.file).pages ≤ setup.config.frames → course words sources ≡ run_course setup
  run_leads setup h room = guest_leads setup h ∙ room_leads setup room

-- no file and no input failed, and no memory was wanted
abbrev pub IsOfCourse : Request → Type 0
IsOfCourse (Refused (CannotRead index)) = ⊥
IsOfCourse (Refused InputFailed) = ⊥
IsOfCourse NoMemory = ⊥
IsOfCourse _ = Unit {0}

-- the facts of a call that went by this request
pub record WentBy (call : Call) (request : Request) : Type 0 where
  pub usable : IsUsable call.words request
  pub comes : ComesOf call.words call.old.files.contents call.old.input.left request
  pub files_cause : HasFilesCause call.words call.old.files call.new.files request
  pub input_after : IsInputAfter call.old.input call.new.input request

-- those of a call that went so
pub went_by : (call : Call) (h : Went call) → WentBy call h.request
went_by call h = record { usable = h.usable; comes = h.comes; files_cause = h.files_cause; input_after = h.input_after }

-- there is a frame for each page of the bytes of a guest that can run
pub has_room : (guest : Guest) → CanRun guest → (image_of guest.bytes.items).pages ≤ guest.config.frames
has_room guest can = subst (λ pages. pages ≤ guest.config.frames) (ap (λ image. image.pages) can.read.1) can.room

-- the request leads to the course of the sources from which it comes
pub came_leads : (words : List (List ℕ)) (sources : Sources) (request : Request) → IsOfCourse request → IsUsable words request → IsRequestOf words sources request
    → course words sources ≡ course_of words request
came_leads words sources (Refused (Usage place)) of usable is = words_lead words sources place is
came_leads words sources (Refused (CannotRead index)) of usable is = absurd of
came_leads words sources (Refused (NoImage fault)) of usable is = no_image_leads words sources fault is
came_leads words sources (Refused (NoSchedule line)) of usable is = no_schedule_leads words sources line is
came_leads words sources (Refused InputFailed) of usable is = absurd of
came_leads words sources (Refused InputTooLong) of usable is = long_leads words sources is
came_leads words sources (Refused (NoFrames pages frames)) of usable is = no_frames_lead words sources pages frames is
came_leads words sources (Refused (NoSource fault)) of usable is = no-source-leads words sources fault is
came_leads words sources NoMemory of usable is = absurd of
came_leads words sources (Run guest) of usable is = run_leads words sources (setup_of guest) is (has_room guest usable)
came_leads words sources (Show parts) of usable is = shown-leads words sources (parts_shown parts) is

-- what is so of the sources of a request is so of those of the call
pub request-told : (call : Call) (request : Request) (P : Sources → Type 0) (by : WentBy call request) → P by.comes.sources → OfSources call P
request-told call request P by p = record { sources = by.comes.sources; told = by.comes.told; holds = p }

-- what is so of the course of the request is so of that of the sources
pub course-told : (call : Call) (request : Request) (P : Course (Option Machine) → Type 0) → IsOfCourse request → WentBy call request
    → P (course_of call.words request) → OfCourse call P
course-told call request P of by p =
    request-told call request (λ sources. P (course call.words sources)) by (subst P (sym (came_leads call.words by.comes.sources request of by.usable by.comes.is)) p)

-- a request is a usage fault, or the words are a command
pub is_usage_or_command : (words : List (List ℕ)) (sources : Sources) (request : Request) → IsRequestOf words sources request
    → ((place : ℕ) × (request ≡ Refused (Usage place))) ⊎ IsOk (read_of words)
is_usage_or_command words sources (Refused (Usage place)) is = inl (place, refl)
is_usage_or_command words sources (Refused (CannotRead index)) is = inr (rw is.is refl)
is_usage_or_command words sources (Refused (NoImage fault)) is = inr (rw is.names.is refl)
is_usage_or_command words sources (Refused (NoSchedule line)) is = inr (rw is.names.names.names.command refl)
is_usage_or_command words sources (Refused InputFailed) is = inr (rw is.names.names.names.command refl)
is_usage_or_command words sources (Refused InputTooLong) is = inr (rw is.reads.names.names.names.command refl)
is_usage_or_command words sources (Refused (NoFrames pages frames)) is = inr (rw is.names.names.names.names.command refl)
is_usage_or_command words sources (Refused (NoSource fault)) is = inr (rw is.names.is refl)
is_usage_or_command words sources NoMemory is = inr is
is_usage_or_command words sources (Show parts) is = inr (rw is.names.is refl)
is_usage_or_command words sources (Run guest) is = inr (rw is.names.names.names.command refl)
