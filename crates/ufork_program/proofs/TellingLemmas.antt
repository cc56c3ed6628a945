-- What follows from a promise where the contents of files and the bytes of the input are told.
use Rattle.std.proofs.Common.{◌≡◌, ℕ, ◌⊎◌, inl, inr, List, [], ◌++◌, Option, Some, None, Ok, IsSomeAnd, refl, sym, ap, ◌∙◌, subst}
use Rattle.std.specs.Io.KnownBytes.{Consumes, IsAtEnd}
use Rattle.outside_io.specs.States.{NoneRose}
use Rattle.outside_io.specs.Answers.{memory_wanted}
use Rattle.outside_io.specs.Parts.{Part, console_of, Written}
use Rattle.outside_io.specs.Moments.{Course}
use Rattle.outside_io.proofs.MomentLemmas.{parts_of-while}
use Rattle.cap_format.specs.Image.{IsImage}
use Rattle.command_words.specs.declared.words.Options.{Options}
use Rattle.command_words.specs.declared.words.Command.{Command}
use Rattle.command_words.specs.declared.words.Command.TheVariants as command
use Rattle.command_words.specs.Commands.{read_of}
use Rattle.machine_types.specs.declared.config.Outcome.{Outcome}
use Rattle.machine_types.specs.declared.config.Outcome.TheVariants.{Done}
use Rattle.machine.specs.Machines.{Machine}
use Rattle.ufork_program.specs.Input.{Took, TookAll}
use Rattle.ufork_program.specs.Request.{file_index, NamesImage, IsScheduleOf, NamesShown, ReadsInput, NamesTooMany}
use Rattle.ufork_program.specs.Answer.{Files, named_by, Sources, course}
use Rattle.ufork_program.specs.Headline.{Call, OfSources, WentWhole, Ran, Showed, TellsOfFile, InputBroke, TellsOfInput, TellsOfLength, TellsOfFrames, Promises}
use Rattle.ufork_program.specs.Telling.{Tells, RanThem, FailedThere, FailedAt, BrokeThere, TookThere, NamedThere, IsScheduleThere, ShownThere}
use Rattle.ufork_program.proofs.ToolCourses.{shown-leads}

-- Sources with the same files and the same input are the same.
same-sources : (a b : Sources) → a.files ≡ b.files → a.input ≡ b.input → a ≡ b
same-sources a b files input =
    ap (λ (f : Files). let s : Sources = record { files = f; input = a.input } in s) files ∙ ap (λ (i : List ℕ). let s : Sources = record { files = b.files; input = i } in s) input

-- What is so of what is read is so of what is told.
pub told-holds : (call : Call) (sources : Sources) (P : Sources → Type 0) → Tells call sources → OfSources call P → P sources
told-holds call sources P told h =
    let files : h.sources.files ≡ sources.files = (rw told.told at h.told.files) ∙ sym told.files_are in
    let input : h.sources.input ≡ sources.input = rw told.input_told at h.told.input in
    subst P (same-sources h.sources sources files input) h.holds

-- What was taken of bytes that are known is their front, and the rest is left.
pub record IsFront (taken known : List ℕ) (left : Option (List ℕ)) : Type 0 where
  pub rest : List ℕ
  pub front : known ≡ taken ++ rest
  pub left_is : left ≡ Some rest

-- So it is where a read took them.
front-of : (taken known : List ℕ) (left : Option (List ℕ)) → Consumes (Some known) left taken → IsFront taken known left
front-of taken known None h = absurd h
front-of taken known (Some rest) h = record { rest = rest; front = h; left_is = refl }

-- At the end of bytes that are known nothing is left.
none-left : (taken known : List ℕ) (left : Option (List ℕ)) → Consumes (Some known) left taken → IsAtEnd left → left ≡ Some []
none-left taken known None h end = absurd h
none-left taken known (Some rest) h end = ap Some end

module _ (call : Call) (sources : Sources) (told : Tells call sources) where
  -- What was taken of the input is the front of what is told.
  pub took-front : (taken : List ℕ) → Took taken call.old.input call.new.input → IsFront taken sources.input call.new.input.left
  took-front taken h = front-of taken sources.input call.new.input.left (rw told.input_told at h)

  -- Nothing is left of an input that was read to its end.
  pub read-told : (bytes : List ℕ) → TookAll bytes call.old.input call.new.input → call.new.input.left ≡ Some []
  read-told bytes h = none-left bytes sources.input call.new.input.left (rw told.input_told at h.took) h.end

  -- What was run is what is told.
  pub ran-told : (outcome : Outcome) → Ran outcome call → RanThem outcome call sources
  ran-told outcome h = record {
    setup = h.setup;
    named = told-holds call sources _ told h.named;
    room = h.room;
    outcome_is = h.outcome_is;
    written = h.written;
    stands = h.left;
    end = read-told h.setup.input h.read;
  }

  -- The file that failed is one that is read by what is told.
  pub failed-told : TellsOfFile call → FailedThere call sources
  failed-told h = record {
    index = h.failed.index;
    read = told-holds call sources _ told h.failed.read;
    rose = h.failed.rose;
    last = h.failed.last ∙ ap Some (sym h.failed.word);
    unasked = h.failed.unasked;
  }

  -- The input that failed is read by what is told, and its front was taken.
  pub broke-taken : InputBroke call → BrokeThere call sources
  broke-taken h =
      let front = took-front h.took.bytes h.took.took in
      record {
        read = told-holds call sources _ told h.read;
        rose = h.took.rose;
        taken = h.took.bytes;
        rest = front.rest;
        front = front.front;
        few = h.took.few;
        left = front.left_is;
      }

  -- So it is with its status.
  pub broke-told : TellsOfInput call → BrokeThere call sources
  broke-told h = broke-taken h.broke

  -- The input that is too long is so by what is told, and its front was taken.
  pub long-told : TellsOfLength call → TookThere call sources
  long-told h =
      let front = took-front h.took.bytes h.took.took in
      record {
        long = told-holds call sources _ told h.named;
        taken = h.took.bytes;
        rest = front.rest;
        front = front.front;
        number = h.took.number;
        left = front.left_is;
      }

  -- The image that has too many pages is what is told, and the input was read to its end.
  pub frames-told : TellsOfFrames call → (pages : ℕ) × (frames : ℕ) × NamesTooMany call.words sources pages frames × (call.new.input.left ≡ Some [])
  frames-told h = (h.pages, h.frames, told-holds call sources _ told h.named, read-told h.read.bytes h.read.all)

  -- Where no count rose the status is that of the course by what is told, or memory was wanted.
  pub status-told : (c : Course (Option Machine)) → Promises call → NoneRose call.old call.new → course call.words sources ≡ c
      → (call.status ≡ c.status) ⊎ (call.status ≡ memory_wanted.status)
  status-told c promises none is = elim (promises.answered none) [
    | inl h ↦ inl ((told-holds call sources _ told h).status ∙ ap (λ (d : Course (Option Machine)). d.status) is)
    | inr h ↦ inr h.whole.status
  ]

  -- The input that isn't read by what is told is as it was.
  pub input-told : Promises call → (ReadsInput call.words sources.files → ⊥) → call.new.input ≡ call.old.input
  input-told promises never = elim promises.input_kept [ inl h ↦ h | inr h ↦ absurd (never (told-holds call sources _ told h)) ]

  -- The words name an image and a schedule where the input is read.
  pub named-there : ReadsInput call.words sources.files → NamedThere call sources
  named-there h = record { config = h.config; schedule = h.schedule; file = h.file; names = h.names }

  -- The file of an image that was read is named.
  image-found : (options : Options) (image : ℕ) (found : Option (List ℕ)) → read_of call.words ≡ Ok (command.Run options image) → sources.files image ≡ found
      → IsSomeAnd found IsImage → (file : List ℕ) × NamesImage call.words sources.files options file
  image-found options image None command is h = absurd h
  image-found options image (Some file) command is h = (file, record { names = record { image = image; command = command; content = is }; image = h })

  -- The file that failed is that of the command, or of the schedule behind an image.
  which-read : (read : Command) (index : ℕ) → read_of call.words ≡ Ok read → (index ≡ file_index read) ⊎ IsScheduleOf sources.files read index
      → (index ≡ file_index read) ⊎ IsScheduleThere call sources read index
  which-read read index is (inl h) = inl h
  which-read (command.Run options image) index is (inr h) = let found = image-found options image (sources.files image) is refl h.1 in inr (h.0, found.0, found.1)
  which-read (command.Asm file) index is (inr h) = absurd h
  which-read (command.Disasm file) index is (inr h) = absurd h
  which-read (command.Check file) index is (inr h) = absurd h

  -- So it is by what is told.
  pub failed-at : TellsOfFile call → FailedAt call sources
  failed-at h =
      let read = told-holds call sources _ told h.failed.read in
      record {
        command = read.command;
        index = h.failed.index;
        is = read.is;
        last = h.failed.last ∙ ap Some (sym h.failed.word);
        which = which-read read.command h.failed.index read.is read.which;
      }

  -- What was shown is shown by what is told.
  pub shown-told : Showed call → ShownThere call sources
  shown-told h = record {
    parts = h.parts;
    named = told-holds call sources _ told h.named;
    written = subst (λ parts. Written parts (console_of call.old) (console_of call.new)) (parts_of-while None h.parts) h.whole.written;
    given = h.whole.left.0;
    empty = h.whole.left.1;
    unasked = h.unasked;
  }

  -- With 0 it was that, or a process was run to its end.
  pub done-told : Ran Done call ⊎ Showed call → RanThem Done call sources ⊎ ShownThere call sources
  done-told (inl h) = inl (ran-told Done h)
  done-told (inr h) = inr (shown-told h)

-- What the words name by the contents that are told is shown where no count rose, or memory was wanted.
pub shows-told : (call : Call) (contents : List ℕ → Option (List ℕ)) (parts : List Part) → Promises call → call.old.files.contents ≡ Some contents → NoneRose call.old call.new
    → NamesShown call.words (named_by call.words contents) parts
    → ((call.status ≡ 0) × Written parts (console_of call.old) (console_of call.new)) ⊎ (call.status ≡ memory_wanted.status)
shows-told call contents parts promises told none names = elim (promises.answered none) [
  | inl h ↦
      let files : h.sources.files ≡ named_by call.words contents = rw told at h.told.files in
      let there : NamesShown call.words h.sources.files parts = subst (λ files. NamesShown call.words files parts) (sym files) names in
      let whole = subst (WentWhole call) (shown-leads call.words h.sources parts there) h.holds in
      inl (whole.status, subst (λ p. Written p (console_of call.old) (console_of call.new)) (parts_of-while None parts) whole.written)
  | inr h ↦ inr h.whole.status
]
