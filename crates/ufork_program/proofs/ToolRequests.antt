-- What request comes of the file of a command that runs nothing.
use Rattle.std.proofs.Common.{ℕ, List, [], Some, None, Err, refl, inl}
use Rattle.std.specs.declared.option.Option.{Option}
use Rattle.outside_io.specs.States.{SourceState}
use Rattle.command_words.specs.declared.words.Command.{Command}
use Rattle.command_words.specs.declared.words.Command.TheVariants.{Asm}
use Rattle.ufork_program.specs.Answer.{Files}
use Rattle.ufork_program.specs.Request.{file_index, ReadsImage, NamesContent, IsShownOf, parts_shown, IsRequestOf, ComesOf, HasInputCause}
use Rattle.ufork_program.specs.Reading.{Told, IsTool, IsToldAt, IsImageAt, IsSourceFileAt, stopped}
use Rattle.ufork_program.specs.declared.request.Shown.{Shown}
use Rattle.ufork_program.specs.declared.request.Request.{Request}
use Rattle.ufork_program.specs.declared.request.Request.TheVariants as request
use Rattle.ufork_program.specs.declared.request.CommandRefusal.TheVariants.{Usage, CannotRead, NoImage, NoSchedule, InputFailed, InputTooLong, NoFrames, NoSource}
use Rattle.ufork_program.specs.declared.request.Stop.{Stop}
use Rattle.ufork_program.specs.declared.request.Stop.TheVariants.{Refused, NoMemory}
use Rattle.ufork_program.proofs.RequestLemmas.{files_of, files_of-told, files_of-at}
use Rattle.ufork_program.proofs.SourceLemmas.{input_of, came_from}

module _ (words : List (List ℕ)) (told : Told) (left : Option (List ℕ)) (tool : Command) (is : IsTool words tool) where
  -- the contents that are told, and else this everywhere
  abbrev files_with : Option (List ℕ) → Files
  files_with content = files_of words told (λ _. content)

  -- a request comes of them, and of the input that is told
  came-with : (content : Option (List ℕ)) (asked : Request) → IsRequestOf words (record { files = files_with content; input = input_of left [] }) asked → ComesOf words told left asked
  came-with content asked h = came_from words told left (files_with content) (files_of-told words told (λ _. content)) [] asked h

  -- the words name a content that may stand there
  names-content : (content : List ℕ) → IsToldAt words told (file_index tool) content → NamesContent words (files_with (Some content)) tool content
  names-content content at = record { is = is.is; found = files_of-at words told (λ _. Some content) (file_index tool) content at refl }

  -- the file failed
  tool-failed : ComesOf words told left (request.Refused (CannotRead (file_index tool)))
  tool-failed = came-with None (request.Refused (CannotRead (file_index tool))) (record { command = tool; is = is.is; which = inl refl })

  -- memory was wanted
  tool-memory : ComesOf words told left request.NoMemory
  tool-memory = came-with None request.NoMemory (rw is.is refl)

  -- an image that was not read
  pub image-stop : ReadsImage tool → (stop : Stop) → IsImageAt words told (file_index tool) (Err stop) → ComesOf words told left (stopped stop)
  image-stop reads (Refused (Usage place)) h = absurd h
  image-stop reads (Refused (CannotRead failed)) h = rw h tool-failed
  image-stop reads (Refused (NoImage fault)) h = came-with (Some h.file) (request.Refused (NoImage fault))
      (record { command = tool; file = h.file; names = names-content h.file h.told_is; reads = reads; fault_is = h.fault_is })
  image-stop reads (Refused (NoSchedule line)) h = absurd h
  image-stop reads (Refused InputFailed) h = absurd h
  image-stop reads (Refused InputTooLong) h = absurd h
  image-stop reads (Refused (NoFrames pages frames)) h = absurd h
  image-stop reads (Refused (NoSource fault)) h = absurd h
  image-stop reads NoMemory h = tool-memory

  -- what is shown of a content
  pub shown-comes : (content : List ℕ) (parts : Shown) → IsToldAt words told (file_index tool) content → IsShownOf tool content (parts_shown parts) → ComesOf words told left (request.Show parts)
  shown-comes content parts at shows = came-with (Some content) (request.Show parts) (record { command = tool; content = content; names = names-content content at; shown_is = shows })

-- a source that was not assembled
pub source-stop : {V : Type 0} (bytes : V → List ℕ) (words : List (List ℕ)) (told : Told) (left : Option (List ℕ)) (index : ℕ) → IsTool words (Asm index)
    → (stop : Stop) → IsSourceFileAt bytes words told index (Err stop) → ComesOf words told left (stopped stop)
source-stop bytes words told left index is (Refused (Usage place)) h = absurd h
source-stop bytes words told left index is (Refused (CannotRead failed)) h = rw h (tool-failed words told left (Asm index) is)
source-stop bytes words told left index is (Refused (NoImage fault)) h = absurd h
source-stop bytes words told left index is (Refused (NoSchedule line)) h = absurd h
source-stop bytes words told left index is (Refused InputFailed) h = absurd h
source-stop bytes words told left index is (Refused InputTooLong) h = absurd h
source-stop bytes words told left index is (Refused (NoFrames pages frames)) h = absurd h
source-stop bytes words told left index is (Refused (NoSource fault)) h = came-with words told left (Asm index) is (Some h.text) (request.Refused (NoSource fault))
    (record { index = index; text = h.text; names = names-content words told left (Asm index) is h.text h.told_is; fault_is = h.is })
source-stop bytes words told left index is NoMemory h = tool-memory words told left (Asm index) is

-- of an image that was not read the input is not asked for
pub image-unasked : (words : List (List ℕ)) (told : Told) (index : ℕ) (now : SourceState) (stop : Stop) → IsImageAt words told index (Err stop) → HasInputCause now now (stopped stop)
image-unasked words told index now (Refused (Usage place)) h = absurd h
image-unasked words told index now (Refused (CannotRead failed)) h = refl
image-unasked words told index now (Refused (NoImage fault)) h = refl
image-unasked words told index now (Refused (NoSchedule line)) h = absurd h
image-unasked words told index now (Refused InputFailed) h = absurd h
image-unasked words told index now (Refused InputTooLong) h = absurd h
image-unasked words told index now (Refused (NoFrames pages frames)) h = absurd h
image-unasked words told index now (Refused (NoSource fault)) h = absurd h
image-unasked words told index now NoMemory h = refl

-- nor of a source that was not assembled
pub source-unasked : {V : Type 0} (bytes : V → List ℕ) (words : List (List ℕ)) (told : Told) (index : ℕ) (now : SourceState) (stop : Stop)
    → IsSourceFileAt bytes words told index (Err stop) → HasInputCause now now (stopped stop)
source-unasked bytes words told index now (Refused (Usage place)) h = absurd h
source-unasked bytes words told index now (Refused (CannotRead failed)) h = refl
source-unasked bytes words told index now (Refused (NoImage fault)) h = absurd h
source-unasked bytes words told index now (Refused (NoSchedule line)) h = absurd h
source-unasked bytes words told index now (Refused InputFailed) h = absurd h
source-unasked bytes words told index now (Refused InputTooLong) h = absurd h
source-unasked bytes words told index now (Refused (NoFrames pages frames)) h = absurd h
source-unasked bytes words told index now (Refused (NoSource fault)) h = refl
source-unasked bytes words told index now NoMemory h = refl
