-- Laws of courses and listings.
use Rattle.std.specs.Prelude.{◌≡◌, ℕ, ◌+◌, ◌*◌, ◌/◌, ◌%◌, ◌⊎◌, ◌<◌, ◌≤◌, List, [], ◌∷◌, length, Some, None, Ok, Err}
use Rattle.cap_format.specs.declared.image.ImageFault.{ImageFault}
use Rattle.machine_types.specs.declared.config.Config.{Config}
use Rattle.cap_format.specs.FileNumbers.{u32_at}
use Rattle.asm_text.specs.declared.source.SourceFault.{SourceFault}
use Rattle.asm_image.specs.Assembled.{file_from}
use Rattle.trace_tools.specs.Statements.{instr_line}
use Rattle.elf_loader.specs.declared.image.Segment.{Segment}
use Rattle.elf_loader.specs.Loaded.{image_of}
use Rattle.command_words.specs.declared.words.Options.{Options}
use Rattle.command_words.specs.declared.words.Command.{Command}
use Rattle.command_words.specs.declared.words.Command.TheVariants.{Run, Asm, Disasm, Check}
use Rattle.command_words.specs.Commands.{read_of}
use Rattle.std.specs.Prelude.{slice_index_or, slice_get, flat_map, codes}
use Rattle.std.specs.declared.option.Option.{Option}
use Rattle.cap_format.specs.Image.{IsImage, fault_of}
use Rattle.run_texts.specs.Schedules.{schedule_of}
use Rattle.machine_steps.specs.Runs.{Setup}
use Rattle.ufork_program.specs.Lines.{usage_line, cannot_read_line, image_refused_line, schedule_refused_line, input_too_long_line, frames_lacked_line, source_refused_line, image_line}
use Rattle.ufork_program.specs.Tools.{segment_parts, instr_parts}
use Rattle.outside_io.specs.Answers.{refusal}
use Rattle.outside_io.specs.Parts.{Part, out_part, err_part}
use Rattle.ufork_program.specs.Run.{run_course}
use Rattle.ufork_program.specs.Answer.{word_at, named_by, Sources, course, refused, shown}
use Rattle.ufork_program.specs.Request.{NamesImage, NamesNoImage, NamesNoSchedule, NamesFiles, NamesTooMany}

-- a command that runs nothing, and one that shows an image, on the file that the word at an index names
abbrev pub IsToolOn : Command → ℕ → Type 0
IsToolOn tool index = (tool ≡ Asm index) ⊎ ((tool ≡ Disasm index) ⊎ (tool ≡ Check index))

abbrev pub ShowsImage : Command → ℕ → Type 0
ShowsImage tool index = (tool ≡ Disasm index) ⊎ (tool ≡ Check index)

-- What is listed of a segment: nothing, where its pages may not be executed; else as many lines as its part of the file has whole words, and
-- each is that of the word there, with the word's offset in the region.
pub record ListingsAreExact : Type 0 where
  pub none : (file : List ℕ) (segment : Segment) → segment.rights % 2 ≡ 0 → segment_parts file segment ≡ []
  pub count : (file : List ℕ) (segment : Segment) → segment.rights % 2 ≡ 1 → length (segment_parts file segment) ≡ segment.file_size / 4
  pub word : (file : List ℕ) (segment : Segment) (at : ℕ) (part : Part) → segment.rights % 2 ≡ 1 → slice_get (segment_parts file segment) at ≡ Some part
      → part ≡ out_part (instr_line (segment.start + 4 * at) (u32_at file (segment.from + 4 * at)))
  pub order : (file : List ℕ) → instr_parts file ≡ flat_map (segment_parts file) (image_of file).segments

-- The course by the words and what is read: a refusal has a status and a line, during which no machine stands. What stands later in the
-- order isn't looked at. An input of 1048577 bytes is too long, and one of 1048576 isn't.
pub record CoursesAreExact : Type 0 where
  pub words : (words : List (List ℕ)) (sources : Sources) (place : ℕ) → read_of words ≡ Err (record { place = place }) → course words sources ≡ refused (refusal 2 (usage_line place))
  pub unread : (words : List (List ℕ)) (sources : Sources) (options : Options) (image : ℕ) → read_of words ≡ Ok (Run options image) → sources.files image ≡ None
      → course words sources ≡ refused (refusal 3 (cannot_read_line (word_at words image)))
  pub image : (words : List (List ℕ)) (sources : Sources) (fault : ImageFault) → NamesNoImage words sources.files fault → course words sources ≡ refused (refusal 4 (image_refused_line fault))
  pub no_text : (words : List (List ℕ)) (sources : Sources) (options : Options) (file : List ℕ) (index : ℕ) → NamesImage words sources.files options file → options.schedule ≡ Some index
      → sources.files index ≡ None → course words sources ≡ refused (refusal 3 (cannot_read_line (word_at words index)))
  pub schedule : (words : List (List ℕ)) (sources : Sources) (line : ℕ) → NamesNoSchedule words sources.files line → course words sources ≡ refused (refusal 5 (schedule_refused_line line))
  pub long : (words : List (List ℕ)) (sources : Sources) (config : Config) (schedule : List (ℕ × ℕ)) (file : List ℕ) → NamesFiles words sources.files config schedule file
      → 1048577 ≤ length sources.input → course words sources ≡ refused (refusal 11 input_too_long_line)
  pub frames : (words : List (List ℕ)) (sources : Sources) (pages frames : ℕ) → NamesTooMany words sources pages frames → course words sources ≡ refused (refusal 12 (frames_lacked_line pages frames))
  pub run : (words : List (List ℕ)) (sources : Sources) (setup : Setup) → NamesFiles words sources.files setup.config setup.schedule setup.file → setup.input ≡ sources.input
      → length sources.input ≤ 1048576 → (image_of setup.file).pages ≤ setup.config.frames → course words sources ≡ run_course setup
  pub line : (status : ℕ) (line : List ℕ) → refused (refusal status line) ≡ record { status = status; moments = (err_part line, None) ∷ []; end = None }
  pub named : (words : List (List ℕ)) (contents : List ℕ → Option (List ℕ)) (index : ℕ) → named_by words contents index ≡ contents (slice_index_or words index [])
  pub wrong_line : (words : List (List ℕ)) (sources : Sources) (options : Options) (image index line : ℕ) (file text : List ℕ) → read_of words ≡ Ok (Run options image)
      → sources.files image ≡ Some file → IsImage file → options.schedule ≡ Some index → sources.files index ≡ Some text → schedule_of text ≡ Err line
      → course words sources ≡ refused (refusal 5 (schedule_refused_line line))
  pub wrong_image : (words : List (List ℕ)) (sources : Sources) (options : Options) (image : ℕ) (file : List ℕ) (fault : ImageFault) → read_of words ≡ Ok (Run options image)
      → sources.files image ≡ Some file → fault_of file ≡ Some fault → course words sources ≡ refused (refusal 4 (image_refused_line fault))
  pub unread_tool : (words : List (List ℕ)) (sources : Sources) (tool : Command) (index : ℕ) → IsToolOn tool index → read_of words ≡ Ok tool → sources.files index ≡ None
      → course words sources ≡ refused (refusal 3 (cannot_read_line (word_at words index)))
  pub no_source : (words : List (List ℕ)) (sources : Sources) (index : ℕ) (text : List ℕ) (fault : SourceFault) → read_of words ≡ Ok (Asm index)
      → sources.files index ≡ Some text → file_from text ≡ Err fault → course words sources ≡ refused (refusal 13 (source_refused_line fault))
  pub assembled : (words : List (List ℕ)) (sources : Sources) (index : ℕ) (text file : List ℕ) → read_of words ≡ Ok (Asm index)
      → sources.files index ≡ Some text → file_from text ≡ Ok file → course words sources ≡ shown (out_part file ∷ [])
  pub no_image : (words : List (List ℕ)) (sources : Sources) (tool : Command) (index : ℕ) (file : List ℕ) (fault : ImageFault) → ShowsImage tool index → read_of words ≡ Ok tool
      → sources.files index ≡ Some file → fault_of file ≡ Some fault → course words sources ≡ refused (refusal 4 (image_refused_line fault))
  pub long_source : (words : List (List ℕ)) (sources : Sources) (index : ℕ) (text : List ℕ) → read_of words ≡ Ok (Asm index) → sources.files index ≡ Some text
      → 1048577 ≤ length text → course words sources ≡ refused (refusal 13 (codes "ufork: source refused: line 0: TooLong\n"))
  pub long_image : (words : List (List ℕ)) (sources : Sources) (tool : Command) (index : ℕ) (file : List ℕ) → ShowsImage tool index → read_of words ≡ Ok tool
      → sources.files index ≡ Some file → 4194305 ≤ length file → course words sources ≡ refused (refusal 4 (codes "ufork: image refused: TooLong at 4194304\n"))
  pub listed : (words : List (List ℕ)) (sources : Sources) (index : ℕ) (file : List ℕ) → read_of words ≡ Ok (Disasm index)
      → sources.files index ≡ Some file → IsImage file → course words sources ≡ shown (instr_parts file)
  pub checked : (words : List (List ℕ)) (sources : Sources) (index : ℕ) (file : List ℕ) → read_of words ≡ Ok (Check index)
      → sources.files index ≡ Some file → IsImage file
      → course words sources ≡ shown (out_part (image_line (image_of file).pages (length (image_of file).relocs) (image_of file).entry) ∷ [])
  pub part : (bytes : List ℕ) → shown (out_part bytes ∷ []) ≡ record { status = 0; moments = (out_part bytes, None) ∷ []; end = None }
  pub few_frames : (words : List (List ℕ)) (sources : Sources) (setup : Setup) → NamesFiles words sources.files setup.config setup.schedule setup.file → setup.input ≡ sources.input
      → length sources.input ≤ 1048576 → setup.config.frames < (image_of setup.file).pages
      → course words sources ≡ refused (refusal 12 (frames_lacked_line (image_of setup.file).pages setup.config.frames))
