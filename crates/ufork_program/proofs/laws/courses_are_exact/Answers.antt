use Rattle.asm_text.specs.declared.source.SourceReason.TheVariants.{TooLong}
use Rattle.asm_text.specs.Source.{fault}
use Rattle.std.specs.Prelude.{codes}
use Rattle.std.specs.Fmt.{digits}
use Rattle.std.proofs.Common.{◌≡◌, ◌∙◌, arith, refl, None, Ok, Err}
use Rattle.command_words.specs.declared.words.Command.TheVariants.{Run}
use Rattle.ufork_program.proofs.CourseLemmas.{words_lead, unread_leads, no_image_leads, no_text_leads, no_schedule_leads, long_leads, no_frames_lead, run_leads}
use Rattle.cap_format.specs.declared.image.ImageReason.TheVariants as image
use Rattle.outside_io.specs.Answers.{refusal}
use Rattle.ufork_program.specs.Answer.{image_refused, source_refused, refused}
use Rattle.ufork_program.proofs.SourceTexts.{long-file}
use Rattle.ufork_program.proofs.ToolCourses.{unread-tool, source-leads, no-image-tool, listed-leads, checked-leads}
use Rattle.ufork_program.proofs.laws.courses_are_exact.Goals as goal

-- the line on a text that is too long
long-source-line : refused (source_refused (fault 0 TooLong)) ≡ refused (refusal 13 (codes "ufork: source refused: line 0: TooLong\n"))
unfolding digits
long-source-line = refl

-- and on a file that is
long-image-line : refused (image_refused (record { reason = image.TooLong; place = 4194304 })) ≡ refused (refusal 4 (codes "ufork: image refused: TooLong at 4194304\n"))
unfolding digits
long-image-line = refl

pub returns : goal.returns
returns c = record {
  words = words_lead;
  unread = unread_leads;
  image = no_image_leads;
  no_text = no_text_leads;
  schedule = no_schedule_leads;
  long = λ words sources config schedule file names longer.
      long_leads words sources (record { reads = record { config = config; schedule = schedule; file = file; names = names }; longer = omega arith });
  frames = no_frames_lead;
  run = λ words sources setup names input_is few room. run_leads words sources setup (record { names = names; input_is = input_is; fits = rw input_is few }) room;
  line = λ status line. refl;
  named = λ words contents index. refl;
  wrong_line = λ words sources options image index line file text command found is_image option content wrong.
      no_schedule_leads words sources line (record { text = text; names = record { options = options; file = file; names = record { names = record { image = image; command = command; content = found }; image = is_image }; index = index; named = option; content = content }; wrong = wrong });
  wrong_image = λ words sources options image file fault command found wrong.
      no_image_leads words sources fault (record { command = Run options image; file = file; names = record { is = command; found = found }; reads = tt; fault_is = wrong });
  unread_tool = unread-tool;
  no_source = λ words sources index text fault command found wrong. source-leads words sources index text (Err fault) command found wrong;
  assembled = λ words sources index text file command found is. source-leads words sources index text (Ok file) command found is;
  no_image = no-image-tool;
  long_source = λ words sources index text command found longer.
      source-leads words sources index text (Err (fault 0 TooLong)) command found (long-file text (omega (arith, longer))) ∙ long-source-line;
  long_image = λ words sources tool index file shows command found longer.
      no-image-tool words sources tool index file _ shows command found (c.long_files_are_none.ensures.none file (omega (arith, longer))) ∙ long-image-line;
  listed = λ words sources index file command found is. listed-leads words sources index file None command found is;
  checked = λ words sources index file command found is. checked-leads words sources index file None command found is;
  part = λ bytes. refl;
  few_frames = λ words sources setup names input_is few fewer.
      no_frames_lead words sources _ _ (record { setup = setup; names = record { names = names; input_is = input_is; fits = rw input_is few }; pages_are = refl; frames_are = refl; fewer = fewer });
}
