-- What a promise says of a call whatever is told.
use Rattle.std.specs.Prelude.{◌≡◌, ◌≢◌, ℕ, List, [], ◌∷◌, Some, Ok, Err}
use Rattle.outside_io.specs.Faults.{Rose}
use Rattle.outside_io.specs.States.{SinksStill, SinkRose, CountsBelowLast}
use Rattle.outside_io.specs.Parts.{err_part, console_of, Written}
use Rattle.stores.specs.Boards.{IsEmpty}
use Rattle.cap_format.specs.declared.image.ImageFault.{ImageFault}
use Rattle.asm_text.specs.declared.source.SourceFault.{SourceFault}
use Rattle.command_words.specs.declared.words.Command.{Command}
use Rattle.command_words.specs.Commands.{read_of}
use Rattle.ufork_program.specs.Lines.{cannot_read_line, image_refused_line, source_refused_line, input_failed_line}
use Rattle.ufork_program.specs.Headline.{Call, OfSources, Promises}
use Rattle.ufork_program.specs.Request.{NamesNoImage, NamesNoSource}
use Rattle.ufork_program.specs.Laws.{IsToolOn}

-- With 10 nothing is written. But for 7, 0, 8 and 9 the board comes back as it was, empty. With 3 the line of the name that failed last is
-- written, and with 6 that of the input, and nothing else. With 4 the line of the first rule is written that the image breaks, and with 13 that
-- of the source's first fault. A command that runs nothing leaves the input and the board as they were. With 2 the words are no command. 7 comes only where a sink failed, and where no
-- count stood at its last value a fault of a sink, of a file or of the input is not passed over.
pub record PromisesSay : Type 0 where
  pub nothing : (call : Call) → Promises call → call.status ≡ 10 → Written [] (console_of call.old) (console_of call.new)
  pub empty : (call : Call) → Promises call → call.status ≢ 7 → call.status ≢ 0 → call.status ≢ 8 → call.status ≢ 9 → (call.left ≡ call.given) × IsEmpty call.left
  pub failed_line : (call : Call) → Promises call → call.status ≡ 3
      → (name : List ℕ) × (call.new.files.failed_last ≡ Some name) × Written (err_part (cannot_read_line name) ∷ []) (console_of call.old) (console_of call.new)
  pub broke_line : (call : Call) → Promises call → call.status ≡ 6 → Written (err_part input_failed_line ∷ []) (console_of call.old) (console_of call.new)
  pub tool : (call : Call) (tool : Command) (index : ℕ) → Promises call → read_of call.words ≡ Ok tool → IsToolOn tool index
      → (call.new.input ≡ call.old.input) × (call.left ≡ call.given) × IsEmpty call.left
  pub no_image_line : (call : Call) → Promises call → call.status ≡ 4
      → (fault : ImageFault) × OfSources call (λ sources. NamesNoImage call.words sources.files fault) × Written (err_part (image_refused_line fault) ∷ []) (console_of call.old) (console_of call.new)
  pub no_source_line : (call : Call) → Promises call → call.status ≡ 13
      → (fault : SourceFault) × OfSources call (λ sources. NamesNoSource call.words sources.files fault) × Written (err_part (source_refused_line fault) ∷ []) (console_of call.old) (console_of call.new)
  pub no_command : (call : Call) → Promises call → call.status ≡ 2 → (place : ℕ) × (read_of call.words ≡ Err (record { place = place }))
  pub sink : (call : Call) → Promises call → call.status ≡ 7 → SinkRose call.old call.new
  pub sinks : (call : Call) → Promises call → CountsBelowLast call.old → SinkRose call.old call.new → call.status ≡ 7
  pub files : (call : Call) → Promises call → CountsBelowLast call.old → SinksStill call.old call.new → Rose call.old.files.faults call.new.files.faults → call.status ≡ 3
  pub input : (call : Call) → Promises call → CountsBelowLast call.old → SinksStill call.old call.new → Rose call.old.input.faults call.new.input.faults → call.status ≡ 6
