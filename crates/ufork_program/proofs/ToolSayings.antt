-- A command that runs nothing leaves the input and the board as they were.
use Rattle.std.proofs.Common.{◌≡◌, ◌∙◌, refl, ap, ℕ, List, Option, Some, None, Result, Ok, Err, inl, inr, ◌⊎◌, subst}
use Rattle.machine_types.specs.declared.config.Outcome.{Outcome}
use Rattle.machine_types.specs.declared.config.Outcome.TheVariants.{Running, Done, Stuck}
use Rattle.std.proofs.lemmas.Bool.{cases_eq}
use Rattle.cap_format.specs.declared.image.ImageFault.{ImageFault}
use Rattle.cap_format.specs.Image.{fault_of}
use Rattle.outside_io.specs.Parts.{Part}
use Rattle.outside_io.specs.Answers.{Answer, write_fault}
use Rattle.asm_text.specs.declared.source.SourceFault.{SourceFault}
use Rattle.asm_image.specs.Assembled.{file_from}
use Rattle.command_words.specs.declared.words.Command.{Command}
use Rattle.command_words.specs.Commands.{read_of}
use Rattle.ufork_program.specs.Tools.{file_parts, instr_parts, summary_parts}
use Rattle.ufork_program.specs.Answer.{word_at, Sources, cannot_read, image_refused, source_refused, shown_answer, refused, source_course, asm_course, shown_course, tool_course, course}
use Rattle.ufork_program.specs.Request.{ReadsInput}
use Rattle.ufork_program.specs.Headline.{Call, Left, WasCut, CourseCut, LineCut, InputLineCut, Ran, Showed, Promises}
use Rattle.ufork_program.specs.Laws.{IsToolOn}
use Rattle.ufork_program.proofs.ToolCourses.{asm-leads, disasm-leads, check-leads}
use Rattle.ufork_program.proofs.CutTellings.{refusal-left, line-left}

-- an answer during which no machine stands
abbrev IsAnswerOnly : List (List ℕ) → Sources → Type 0
IsAnswerOnly words sources = (answer : Answer) × (course words sources ≡ refused answer)

module _ (words : List (List ℕ)) (sources : Sources) where
  -- what `asm` comes to is one
  source-answer : (assembled : Result (List ℕ) SourceFault) → course words sources ≡ source_course assembled → IsAnswerOnly words sources
  source-answer (Ok file) is = (shown_answer (file_parts file), is)
  source-answer (Err fault) is = (source_refused fault, is)

  asm-answer : (name : List ℕ) (found : Option (List ℕ)) → course words sources ≡ asm_course name found → IsAnswerOnly words sources
  asm-answer name None is = (cannot_read name, is)
  asm-answer name (Some text) is = source-answer (file_from text) is

  -- and so is what is shown of an image
  shown-answer : (parts : List ℕ → List Part) (file : List ℕ) (fault : Option ImageFault) → course words sources ≡ shown_course parts file fault → IsAnswerOnly words sources
  shown-answer parts file None is = (shown_answer (parts file), is)
  shown-answer parts file (Some fault) is = (image_refused fault, is)

  tool-answer : (parts : List ℕ → List Part) (name : List ℕ) (found : Option (List ℕ)) → course words sources ≡ tool_course parts name found → IsAnswerOnly words sources
  tool-answer parts name None is = (cannot_read name, is)
  tool-answer parts name (Some file) is = shown-answer parts file (fault_of file) is

  -- so it is for each of the three
  answer-only : (tool : Command) (index : ℕ) → read_of words ≡ Ok tool → IsToolOn tool index → IsAnswerOnly words sources
  answer-only tool index command (inl is) = asm-answer (word_at words index) (sources.files index) (asm-leads words sources index (sources.files index) (command ∙ ap Ok is) refl)
  answer-only tool index command (inr (inl is)) =
      tool-answer instr_parts (word_at words index) (sources.files index) (disasm-leads words sources index (sources.files index) (command ∙ ap Ok is) refl)
  answer-only tool index command (inr (inr is)) =
      tool-answer summary_parts (word_at words index) (sources.files index) (check-leads words sources index (sources.files index) (command ∙ ap Ok is) refl)

-- a tool isn't `run`
runs-nothing : (words : List (List ℕ)) (tool : Command) (index : ℕ) → read_of words ≡ Ok tool → IsToolOn tool index → (sources : Sources) → ReadsInput words sources.files → ⊥
runs-nothing words tool index command which sources reads = let run = reads.names.names.names.command in by which
  where
    by : IsToolOn tool index → ⊥
    by (inl is) = let run = reads.names.names.names.command in cc
    by (inr (inl is)) = let run = reads.names.names.names.command in cc
    by (inr (inr is)) = let run = reads.names.names.names.command in cc

module _ (call : Call) (tool : Command) (index : ℕ) (promises : Promises call) (command : read_of call.words ≡ Ok tool) (which : IsToolOn tool index) where
  -- so the input isn't read
  pub input-left : call.new.input ≡ call.old.input
  input-left = elim promises.input_kept [ inl kept ↦ kept | inr reads ↦ absurd (runs-nothing call.words tool index command which reads.sources reads.holds) ]

  -- and nothing was run
  never-ran : (outcome : Outcome) → Ran outcome call → ⊥
  never-ran outcome h = runs-nothing call.words tool index command which h.named.sources (let n = h.named.holds in record { config = h.setup.config; schedule = h.setup.schedule; file = h.setup.file; names = n.names })

  -- where a part was cut no machine stood
  cut-left : CourseCut call ⊎ (LineCut call ⊎ InputLineCut call) → Left call None
  cut-left (inl h) =
      let only = answer-only call.words h.cut.sources tool index command which in
      refusal-left call only.0 (subst (λ c. WasCut call c) only.1 h.cut.holds.cut)
  cut-left (inr h) = line-left call h

  -- nor where all was written
  done-left : Ran Done call ⊎ Showed call → Left call None
  done-left (inl h) = absurd (never-ran Done h)
  done-left (inr h) = h.whole.left

  -- so the board is left as it was
  pub board-left : Left call None
  board-left = elim (cases_eq call.status write_fault) [
    | inl fault ↦ cut-left (promises.cut_short fault)
    | inr other ↦ elim (cases_eq call.status 0) [
      | inl done ↦ done-left (promises.done done)
      | inr some ↦ elim (cases_eq call.status 8) [
        | inl stopped ↦ absurd (never-ran Running (promises.stopped stopped))
        | inr neither ↦ elim (cases_eq call.status 9) [
          | inl stuck ↦ absurd (never-ran Stuck (promises.stuck stuck))
          | inr none ↦ promises.not_run other some neither none
        ]
      ]
    ]
  ]
