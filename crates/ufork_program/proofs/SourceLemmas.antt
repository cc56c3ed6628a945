-- What request comes of what was read of the files, and of what was taken of the console's input.
use Rattle.std.proofs.Common.{◌≡◌, ℕ, ◌<◌, ◌≤◌, List, [], length, Some, None, IfSome, Ok, Err, refl, arith, length-append}
use Rattle.std.specs.declared.option.Option.{Option}
use Rattle.std.specs.Io.KnownBytes.{Consumes, IsAtEnd}
use Rattle.std.proofs.KnownBytes.{Consumes-whole}
use Rattle.outside_io.specs.States.{SourceState}
use Rattle.elf_loader.specs.Loaded.{image_of}
use Rattle.command_words.specs.Commands.{read_of}
use Rattle.machine_steps.specs.Runs.{Setup}
use Rattle.ufork_program.specs.Input.{TookAll}
use Rattle.ufork_program.specs.Answer.{Files, Sources, named_by}
use Rattle.ufork_program.specs.Request.{ComesOf, IsRequestOf, NamesGuest, ReadsInput, setup_of}
use Rattle.ufork_program.specs.Reading.{Told, ComesOfFiles, IsInputStop, stopped}
use Rattle.ufork_program.specs.declared.request.Guest.{Guest}
use Rattle.ufork_program.specs.declared.request.NamedFiles.{NamedFiles}
use Rattle.ufork_program.specs.declared.request.Request.{Request}
use Rattle.ufork_program.specs.declared.request.Request.TheVariants as request
use Rattle.ufork_program.specs.declared.request.CommandRefusal.TheVariants.{Usage, CannotRead, NoImage, NoSchedule, InputFailed, InputTooLong, NoFrames, NoSource}
use Rattle.ufork_program.specs.declared.request.Stop.{Stop}
use Rattle.ufork_program.specs.declared.request.Stop.TheVariants.{Refused, NoMemory}
use Rattle.ufork_program.proofs.RequestLemmas.{files_of, files_of-told}

-- the bytes that are told, and these where none are
pub input_of : Option (List ℕ) → List ℕ → List ℕ
input_of None others = others
input_of (Some left) others = left

-- they are told
input_of-told : (left : Option (List ℕ)) (others : List ℕ) → IfSome left (λ bytes. input_of left others ≡ bytes)
unfolding input_of
input_of-told None others = tt
input_of-told (Some left) others = refl

-- they are no fewer than were taken
input_of-more : (left after : Option (List ℕ)) (taken : List ℕ) → Consumes left after taken → length taken ≤ length (input_of left taken)
unfolding input_of
input_of-more None after taken took = omega arith
input_of-more (Some left) None taken took = absurd took
input_of-more (Some left) (Some after) taken took = rw (took, length-append) (omega arith)

-- and are what was taken, where nothing is left
input_of-all : (left after : Option (List ℕ)) (taken : List ℕ) → Consumes left after taken → IsAtEnd after → taken ≡ input_of left taken
unfolding input_of
input_of-all None after taken took end = refl
input_of-all (Some left) after taken took end = Consumes-whole (Some left) after taken (λ (all : List ℕ). taken ≡ all) took end refl

module _ (words : List (List ℕ)) (told : Told) where
  module _ (left : Option (List ℕ)) where
    -- a request comes of these files, and of the bytes that are told
    pub came_from : (files : Files) → IfSome told (λ contents. files ≡ named_by words contents) → (others : List ℕ) (asked : Request)
        → IsRequestOf words (record { files = files; input = input_of left others }) asked → ComesOf words told left asked
    came_from files told_is others asked is = record {
      sources = record { files = files; input = input_of left others };
      told = record { files = told_is; input = input_of-told left others };
      is = is;
    }

    -- words that are no command
    pub usage_comes : (place : ℕ) → read_of words ≡ Err (record { place = place }) → ComesOf words told left (request.Refused (Usage place))
    usage_comes place is = came_from (files_of words told (λ _. None)) (files_of-told words told (λ _. None)) [] (request.Refused (Usage place)) is

    -- files that were not read
    pub files_stop_comes : (stop : Stop) → ComesOfFiles words told (Err stop) → ComesOf words told left (stopped stop)
    files_stop_comes (Refused (Usage place)) h = absurd h.is
    files_stop_comes (Refused (CannotRead index)) h = came_from h.files h.told_is [] (request.Refused (CannotRead index)) h.is
    files_stop_comes (Refused (NoImage fault)) h = came_from h.files h.told_is [] (request.Refused (NoImage fault)) h.is
    files_stop_comes (Refused (NoSchedule line)) h = came_from h.files h.told_is [] (request.Refused (NoSchedule line)) h.is
    files_stop_comes (Refused InputFailed) h = absurd h.is
    files_stop_comes (Refused InputTooLong) h = absurd h.is
    files_stop_comes (Refused (NoFrames pages frames)) h = absurd h.is
    files_stop_comes (Refused (NoSource fault)) h = absurd h.is
    files_stop_comes NoMemory h = came_from h.files h.told_is [] request.NoMemory h.is

  module _ (old new : SourceState) (named : NamedFiles) (h : ComesOfFiles words told (Ok named)) where
    -- the files are read, and so is the input
    reads : ReadsInput words h.files
    reads = record { config = named.config; schedule = named.schedule; file = named.bytes.items; names = h.is }

    -- the input that was not taken
    pub input_stop_comes : (stop : Stop) → IsInputStop old new stop → ComesOf words told old.left (stopped stop)
    input_stop_comes (Refused (Usage place)) took = absurd took
    input_stop_comes (Refused (CannotRead index)) took = absurd took
    input_stop_comes (Refused (NoImage fault)) took = absurd took
    input_stop_comes (Refused (NoSchedule line)) took = absurd took
    input_stop_comes (Refused InputFailed) took = came_from old.left h.files h.told_is [] (request.Refused InputFailed) reads
    input_stop_comes (Refused InputTooLong) took = came_from old.left h.files h.told_is took.bytes (request.Refused InputTooLong) (record {
      reads = reads;
      longer = (let more = input_of-more old.left new.left took.bytes took.took in omega arith);
    })
    input_stop_comes (Refused (NoFrames pages frames)) took = absurd took
    input_stop_comes (Refused (NoSource fault)) took = absurd took
    input_stop_comes NoMemory took = came_from old.left h.files h.told_is [] request.NoMemory (rw h.is.names.names.command refl)

    module _ (input : List ℕ) (took : TookAll input old new) where
      -- what is set up with the input
      abbrev set_up : Setup
      set_up = record { config = named.config; schedule = named.schedule; file = named.bytes.items; input = input }

      -- the whole input was taken
      guest_comes : (asked : Request) → ((sources : Sources) → NamesGuest words sources set_up → IsRequestOf words sources asked) → ComesOf words told old.left asked
      guest_comes asked leads = came_from old.left h.files h.told_is input asked (leads (record { files = h.files; input = input_of old.left input }) (record {
        names = h.is;
        input_is = input_of-all old.left new.left input took.took took.end;
        fits = took.few;
      }))

      -- it is run
      pub run_comes : (guest : Guest) → setup_of guest ≡ set_up → ComesOf words told old.left (request.Run guest)
      run_comes guest is = guest_comes (request.Run guest) (λ sources names. rw is names)

      -- or there are too few frames
      pub too_many_come : (pages frames : ℕ) → (image_of named.bytes.items).pages ≡ pages → named.config.frames ≡ frames → frames < pages
          → ComesOf words told old.left (request.Refused (NoFrames pages frames))
      too_many_come pages frames pages_are frames_are fewer = guest_comes (request.Refused (NoFrames pages frames)) (λ sources names. record {
        setup = set_up;
        names = names;
        pages_are = pages_are;
        frames_are = frames_are;
        fewer = fewer;
      })
