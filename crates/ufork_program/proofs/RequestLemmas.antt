-- What a file leads to that is longer than its limit, and what comes of the files that were read.
use Rattle.std.proofs.Common.{◌≡◌, ℕ, suc, ◌<◌, List, length, replicate, Some, None, IfSome, IsSomeAnd, Result, Ok, Err, nat_eq, if◌then◌else◌, arith, refl, sym, subst, inl, inr}
use Rattle.std.proofs.lemmas.List.{length-replicate}
use Rattle.std.specs.declared.option.Option.{Option}
use Rattle.cap_format.specs.Image.{IsImage, fault_of}
use Rattle.cap_format.specs.Numbers.{image_bytes}
use Rattle.cap_format.specs.declared.image.ImageFault.{ImageFault}
use Rattle.command_words.specs.declared.words.Options.{Options}
use Rattle.command_words.specs.declared.words.Command.TheVariants.{Run}
use Rattle.machine_types.specs.Numbers.{list_bytes, most_quantum}
use Rattle.machine_types.proofs.LinesRead.{long-text}
use Rattle.ufork_program.specs.Answer.{Files, named_by}
use Rattle.ufork_program.specs.Request.{NamesFile, NamesImage, IsScheduleAt, HasSchedule}
use Rattle.ufork_program.specs.Reading.{Told, IsCommand, IsToldAt, IsNoImageAt, IsScheduleTextAt, IsImageAt, IsScheduleFileAt, IsOptionRead, AreFilesOf, ComesOfFiles}
use Rattle.ufork_program.specs.declared.request.NamedFiles.{NamedFiles}
use Rattle.ufork_program.specs.declared.request.CommandRefusal.TheVariants.{Usage, CannotRead, NoImage, NoSchedule, InputFailed, InputTooLong, NoFrames, NoSource}
use Rattle.ufork_program.specs.declared.request.Stop.{Stop}
use Rattle.ufork_program.specs.declared.request.Stop.TheVariants.{Refused, NoMemory}

-- some content that may stand at an index is longer than this
pub record IsLongAt (words : List (List ℕ)) (told : Told) (index limit : ℕ) : Type 0 where
  pub content : List ℕ
  pub told_is : IsToldAt words told index content
  pub longer : limit < length content

-- a list that is longer than this
record Longer (limit : ℕ) : Type 0 where
  content : List ℕ
  longer : limit < length content

-- there is one for each limit
some_longer : (limit : ℕ) → Longer limit
some_longer limit = record { content = replicate (suc limit) 0; longer = rw length-replicate (omega arith) }

-- what a read tells that found too many bytes
abbrev pub TellsLong : List (List ℕ) → Told → ℕ → ℕ → Type 0
TellsLong words told index limit = IfSome told (λ contents. (content : List ℕ) × (named_by words contents index ≡ Some content) × (limit < length content))

-- so such a content may stand there
pub long_at : (words : List (List ℕ)) (told : Told) (index limit : ℕ) → TellsLong words told index limit → IsLongAt words told index limit
long_at words None index limit tells = let long = some_longer limit in record { content = long.content; told_is = record { content_is = tt }; longer = long.longer }
long_at words (Some contents) index limit tells = record { content = tells.0; told_is = record { content_is = tells.1 }; longer = tells.2 }

-- a longer file is no image, by the fault of all longer files
pub long_image : (words : List (List ℕ)) (told : Told) (index : ℕ) (fault : ImageFault) → ((file : List ℕ) → image_bytes < length file → fault_of file ≡ Some fault)
    → TellsLong words told index image_bytes → IsNoImageAt words told index fault
long_image words told index fault none tells =
    let long = long_at words told index image_bytes tells in
    record { file = long.content; told_is = long.told_is; fault_is = none long.content long.longer }

-- a text that is longer than a schedule may be is wrong at line 0
pub long_text : (words : List (List ℕ)) (told : Told) (index : ℕ) → TellsLong words told index list_bytes → IsScheduleTextAt words told index (Err 0)
long_text words told index tells =
    let long = long_at words told index list_bytes tells in
    record { text = long.content; told_is = long.told_is; is = long-text 1 most_quantum long.content long.longer }

-- the contents that are told, and these where none are
pub files_of : List (List ℕ) → Told → Files → Files
files_of words None others = others
files_of words (Some contents) others = named_by words contents

-- they are told
pub files_of-told : (words : List (List ℕ)) (told : Told) (others : Files) → IfSome told (λ contents. files_of words told others ≡ named_by words contents)
unfolding files_of
files_of-told words None others = tt
files_of-told words (Some contents) others = refl

-- and have a content that may stand at an index
pub files_of-at : (words : List (List ℕ)) (told : Told) (others : Files) (index : ℕ) (content : List ℕ) → IsToldAt words told index content
    → others index ≡ Some content → files_of words told others index ≡ Some content
unfolding files_of
files_of-at words None others index content is at = at
files_of-at words (Some contents) others index content is at = is.content_is

-- this content at one index, and that at all others
one_of : ℕ → List ℕ → Option (List ℕ) → Files
one_of image file other index = if nat_eq index image then Some file else other

-- the one
one_of-same : (image : ℕ) (file : List ℕ) (other : Option (List ℕ)) → one_of image file other image ≡ Some file
unfolding one_of
one_of-same image file other = grind arith

-- and another
one_of-other : (image : ℕ) (file : List ℕ) (other : Option (List ℕ)) (index : ℕ) → index < image → one_of image file other index ≡ other
unfolding one_of
one_of-other image file other index below = grind (arith, below)

module _ (words : List (List ℕ)) (told : Told) where
  -- what was read comes of these contents
  came_of : (others : Files) (result : Result NamedFiles Stop) → AreFilesOf words (files_of words told others) result → ComesOfFiles words told result
  came_of others result is = record { files = files_of words told others; told_is = files_of-told words told others; is = is }

  module _ (options : Options) (image : ℕ) (is : IsCommand words options image) where
    -- memory was wanted
    no_memory_comes : ComesOfFiles words told (Err NoMemory)
    no_memory_comes = came_of (λ _. None) (Err NoMemory) (rw is.is refl)

    -- the image's file failed
    no_file_comes : ComesOfFiles words told (Err (Refused (CannotRead image)))
    no_file_comes = came_of (λ _. None) (Err (Refused (CannotRead image))) (record { command = Run options image; is = is.is; which = inl refl })

    -- the image's file has the one content
    has_one : (file : List ℕ) (other : Option (List ℕ)) → IsToldAt words told image file → files_of words told (one_of image file other) image ≡ Some file
    has_one file other at = files_of-at words told (one_of image file other) image file at (one_of-same image file other)

    -- so the words name it
    names_one : (file : List ℕ) (other : Option (List ℕ)) → IsToldAt words told image file → NamesFile words (files_of words told (one_of image file other)) options file
    names_one file other at = record { image = image; command = is.is; content = has_one file other at }

    -- it is no image
    no_image_comes : (fault : ImageFault) → IsNoImageAt words told image fault → ComesOfFiles words told (Err (Refused (NoImage fault)))
    no_image_comes fault wrong = came_of (one_of image wrong.file None) (Err (Refused (NoImage fault))) (record {
      command = Run options image;
      file = wrong.file;
      names = record { is = is.is; found = has_one wrong.file None wrong.told_is };
      reads = tt;
      fault_is = wrong.fault_is;
    })

    -- so an image that was not read comes of some contents
    pub image_stop_comes : (stop : Stop) → IsImageAt words told image (Err stop) → ComesOfFiles words told (Err stop)
    image_stop_comes (Refused (Usage place)) h = absurd h
    image_stop_comes (Refused (CannotRead failed)) h = rw h no_file_comes
    image_stop_comes (Refused (NoImage fault)) h = no_image_comes fault h
    image_stop_comes (Refused (NoSchedule line)) h = absurd h
    image_stop_comes (Refused InputFailed) h = absurd h
    image_stop_comes (Refused InputTooLong) h = absurd h
    image_stop_comes (Refused (NoFrames pages frames)) h = absurd h
    image_stop_comes (Refused (NoSource fault)) h = absurd h
    image_stop_comes NoMemory h = no_memory_comes

    module _ (file : List ℕ) (at : IsToldAt words told image file) (fit : IsImage file) where
      -- the contents that are told, and else this file and this text
      with_text : Option (List ℕ) → Files
      with_text text = files_of words told (one_of image file text)

      -- the file is an image
      names_image : (text : Option (List ℕ)) → NamesImage words (with_text text) options file
      unfolding with_text
      names_image text = record { names = names_one file text at; image = fit }

      -- a text that may stand at the schedule's index
      with_text-at : (index : ℕ) (text : List ℕ) → options.schedule ≡ Some index → IsToldAt words told index text → with_text (Some text) index ≡ Some text
      unfolding with_text
      with_text-at index text named told_is =
          let below : IfSome options.schedule (λ index. index < image) = is.within.2 in
          files_of-at words told (one_of image file (Some text)) index text told_is (one_of-other image file (Some text) index (rw named at below))

      -- the schedule's file failed
      no_text_comes : (index : ℕ) → options.schedule ≡ Some index → ComesOfFiles words told (Err (Refused (CannotRead index)))
      unfolding with_text
      no_text_comes index named = came_of (one_of image file None) (Err (Refused (CannotRead index))) (record {
        command = Run options image;
        is = is.is;
        which = inr (named, subst (λ (found : Option (List ℕ)). IsSomeAnd found IsImage) (sym (has_one file None at)) fit);
      })

      -- its text is no schedule
      no_schedule_comes : (index line : ℕ) → options.schedule ≡ Some index → IsScheduleTextAt words told index (Err line) → ComesOfFiles words told (Err (Refused (NoSchedule line)))
      unfolding with_text
      no_schedule_comes index line named wrong = came_of (one_of image file (Some wrong.text)) (Err (Refused (NoSchedule line))) (record {
        text = wrong.text;
        names = record {
          options = options;
          file = file;
          names = names_image (Some wrong.text);
          index = index;
          named = named;
          content = with_text-at index wrong.text named wrong.told_is;
        };
        wrong = wrong.is;
      })

      -- so does a schedule's file that was not read
      schedule_stop_comes : (index : ℕ) → options.schedule ≡ Some index → (stop : Stop) → IsScheduleFileAt words told index (Err stop) → ComesOfFiles words told (Err stop)
      schedule_stop_comes index named (Refused (Usage place)) h = absurd h
      schedule_stop_comes index named (Refused (CannotRead failed)) h = rw h (no_text_comes index named)
      schedule_stop_comes index named (Refused (NoImage fault)) h = absurd h
      schedule_stop_comes index named (Refused (NoSchedule line)) h = no_schedule_comes index line named h
      schedule_stop_comes index named (Refused InputFailed) h = absurd h
      schedule_stop_comes index named (Refused InputTooLong) h = absurd h
      schedule_stop_comes index named (Refused (NoFrames pages frames)) h = absurd h
      schedule_stop_comes index named (Refused (NoSource fault)) h = absurd h
      schedule_stop_comes index named NoMemory h = no_memory_comes

      -- and what an option names
      option_stop_at : (option : Option ℕ) → options.schedule ≡ option → (stop : Stop) → IsOptionRead words told option (Err stop) → ComesOfFiles words told (Err stop)
      option_stop_at None named stop h = absurd h
      option_stop_at (Some index) named stop h = schedule_stop_comes index named stop h

      -- the one that the command has
      pub option_stop_comes : (stop : Stop) → IsOptionRead words told options.schedule (Err stop) → ComesOfFiles words told (Err stop)
      option_stop_comes stop h = option_stop_at options.schedule refl stop h

      -- contents by which an option says this schedule
      record IsSaid (option : Option ℕ) (schedule : List (ℕ × ℕ)) : Type 0 where
        text : Option (List ℕ)
        said : IsScheduleAt (with_text text) option schedule

      -- there are some
      said_at : (option : Option ℕ) → options.schedule ≡ option → (schedule : List (ℕ × ℕ)) → IsOptionRead words told option (Ok schedule) → IsSaid option schedule
      said_at None named schedule h = record { text = None; said = h }
      said_at (Some index) named schedule h = record {
        text = Some h.text;
        said = subst (λ (found : Option (List ℕ)). HasSchedule found schedule) (sym (with_text-at index h.text named h.told_is)) h.is;
      }

      -- the words name what was read, by some contents
      pub named_comes : (named : NamedFiles) → named.config ≡ options.config → named.bytes.items ≡ file → IsOptionRead words told options.schedule (Ok named.schedule)
          → ComesOfFiles words told (Ok named)
      unfolding with_text
      named_comes named config_is bytes_is h =
          let said = said_at options.schedule refl named.schedule h in
          came_of (one_of image file said.text) (Ok named) (rw (config_is, bytes_is) (record {
            options = options;
            names = names_image said.text;
            config_is = refl;
            schedule_is = said.said;
          }))
