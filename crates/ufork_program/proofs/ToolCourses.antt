-- The courses of the commands that run nothing.
use Rattle.std.proofs.Common.{◌≡◌, ◌∙◌, sym, ap, ℕ, List, Option, Some, None, Result, Ok, Err, inl, inr}
use Rattle.cap_format.specs.declared.image.ImageFault.{ImageFault}
use Rattle.cap_format.specs.Image.{fault_of}
use Rattle.outside_io.specs.Parts.{Part}
use Rattle.asm_text.specs.declared.source.SourceFault.{SourceFault}
use Rattle.asm_image.specs.Assembled.{file_from}
use Rattle.command_words.specs.declared.words.Command.{Command}
use Rattle.command_words.specs.declared.words.Command.TheVariants.{Run, Asm, Disasm, Check}
use Rattle.command_words.specs.Commands.{read_of}
use Rattle.ufork_program.specs.Tools.{instr_parts, summary_parts}
use Rattle.ufork_program.specs.Answer.{word_at, Sources, cannot_read, image_refused, source_refused, refused, shown, source_course, asm_course, shown_course, tool_course, command_course, course}
use Rattle.ufork_program.specs.Request.{file_index, NamesNoSource, IsShownOf, NamesShown}
use Rattle.ufork_program.specs.Laws.{IsToolOn, ShowsImage}

module _ (words : List (List ℕ)) (sources : Sources) where
  -- `asm` leads to the course of its file
  pub asm-leads : (index : ℕ) (found : Option (List ℕ)) → read_of words ≡ Ok (Asm index) → sources.files index ≡ found → course words sources ≡ asm_course (word_at words index) found
  asm-leads index found command content = ap (command_course words sources) command ∙ ap (asm_course (word_at words index)) content

  -- and so do `disasm` and `check`
  pub disasm-leads : (index : ℕ) (found : Option (List ℕ)) → read_of words ≡ Ok (Disasm index) → sources.files index ≡ found
      → course words sources ≡ tool_course instr_parts (word_at words index) found
  disasm-leads index found command content = ap (command_course words sources) command ∙ ap (tool_course instr_parts (word_at words index)) content

  pub check-leads : (index : ℕ) (found : Option (List ℕ)) → read_of words ≡ Ok (Check index) → sources.files index ≡ found
      → course words sources ≡ tool_course summary_parts (word_at words index) found
  check-leads index found command content = ap (command_course words sources) command ∙ ap (tool_course summary_parts (word_at words index)) content

  -- a file that failed
  pub unread-tool : (tool : Command) (index : ℕ) → IsToolOn tool index → read_of words ≡ Ok tool → sources.files index ≡ None → course words sources ≡ refused (cannot_read (word_at words index))
  unread-tool tool index (inl is) command none = asm-leads index None (command ∙ ap Ok is) none
  unread-tool tool index (inr (inl is)) command none = disasm-leads index None (command ∙ ap Ok is) none
  unread-tool tool index (inr (inr is)) command none = check-leads index None (command ∙ ap Ok is) none

  -- a source, by what it is assembled to
  pub source-leads : (index : ℕ) (text : List ℕ) (assembled : Result (List ℕ) SourceFault) → read_of words ≡ Ok (Asm index) → sources.files index ≡ Some text → file_from text ≡ assembled
      → course words sources ≡ source_course assembled
  source-leads index text assembled command content is = asm-leads index (Some text) command content ∙ ap source_course is

  -- an image, or a file that is none
  pub listed-leads : (index : ℕ) (file : List ℕ) (fault : Option ImageFault) → read_of words ≡ Ok (Disasm index) → sources.files index ≡ Some file → fault_of file ≡ fault
      → course words sources ≡ shown_course instr_parts file fault
  listed-leads index file fault command content is = disasm-leads index (Some file) command content ∙ ap (shown_course instr_parts file) is

  pub checked-leads : (index : ℕ) (file : List ℕ) (fault : Option ImageFault) → read_of words ≡ Ok (Check index) → sources.files index ≡ Some file → fault_of file ≡ fault
      → course words sources ≡ shown_course summary_parts file fault
  checked-leads index file fault command content is = check-leads index (Some file) command content ∙ ap (shown_course summary_parts file) is

  -- a file that is no image is refused by both
  pub no-image-tool : (tool : Command) (index : ℕ) (file : List ℕ) (fault : ImageFault) → ShowsImage tool index → read_of words ≡ Ok tool → sources.files index ≡ Some file
      → fault_of file ≡ Some fault → course words sources ≡ refused (image_refused fault)
  no-image-tool tool index file fault (inl is) command content wrong = listed-leads index file (Some fault) (command ∙ ap Ok is) content wrong
  no-image-tool tool index file fault (inr is) command content wrong = checked-leads index file (Some fault) (command ∙ ap Ok is) content wrong

  -- a text that is no source
  pub no-source-leads : (fault : SourceFault) → NamesNoSource words sources.files fault → course words sources ≡ refused (source_refused fault)
  no-source-leads fault h = source-leads h.index h.text (Err fault) h.names.is h.names.found h.fault_is

  -- what is shown of a file in its grammar
  pub shown-leads : (parts : List Part) → NamesShown words sources.files parts → course words sources ≡ shown parts
  shown-leads parts h = by h.command h.names.is h.names.found h.shown_is
    where
      by : (tool : Command) → read_of words ≡ Ok tool → sources.files (file_index tool) ≡ Some h.content → IsShownOf tool h.content parts → course words sources ≡ shown parts
      by (Run options image) command content is = absurd is
      by (Asm index) command content is = source-leads index h.content (Ok is.0) command content is.1 ∙ ap shown (sym is.2)
      by (Disasm index) command content is = listed-leads index h.content None command content is.0 ∙ ap shown (sym is.1)
      by (Check index) command content is = checked-leads index h.content None command content is.0 ∙ ap shown (sym is.1)
