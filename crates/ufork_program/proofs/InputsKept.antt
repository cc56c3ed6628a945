-- How a call went, by what was read and by how it was answered.
use Rattle.std.proofs.Common.{◌≡◌, ◌⊎◌, inl, inr, refl}
use Rattle.outside_io.specs.Parts.{console_of}
use Rattle.outside_io.specs.Answers.{memory_wanted}
use Rattle.outside_io.specs.Moments.{EndsAt}
use Rattle.ufork_program.specs.Answer.{refused}
use Rattle.ufork_program.specs.Request.{setup_of, course_of, ReadsInput, IsUsable, ComesOf, HasFilesCause, HasInputCause}
use Rattle.ufork_program.specs.Headline.{Call, Left, OfSources, IsAnswered, Went}
use Rattle.ufork_program.specs.declared.request.Guest.{Guest}
use Rattle.ufork_program.specs.declared.request.Request.{Request}
use Rattle.ufork_program.specs.declared.request.Request.TheVariants.{Refused, NoMemory, Run, Show}
use Rattle.ufork_program.specs.declared.request.CommandRefusal.TheVariants.{InputFailed, InputTooLong, NoFrames}
use Rattle.ufork_program.proofs.CourseLemmas.{WentBy, request-told}
use Rattle.ufork_program.proofs.CutLemmas.{guest_reads}

module _ (c : Call) where
  -- the input is as it was, unless it is read
  abbrev IsKept : Type 0
  IsKept = (c.new.input ≡ c.old.input) ⊎ OfSources c (λ sources. ReadsInput c.words sources.files)

  -- it is read by the sources of the request
  read_by : (request : Request) (by : WentBy c request) → ReadsInput c.words by.comes.sources.files → IsKept
  read_by request by reads = inr (request-told c request (λ sources. ReadsInput c.words sources.files) by reads)

  -- so it is for each request
  pub input_kept_by : (request : Request) → WentBy c request → HasInputCause c.old.input c.new.input request → IsKept
  input_kept_by (Refused InputFailed) by cause = read_by (Refused InputFailed) by by.comes.is
  input_kept_by (Refused InputTooLong) by cause = read_by (Refused InputTooLong) by by.comes.is.reads
  input_kept_by (Refused (NoFrames pages frames)) by cause =
      read_by (Refused (NoFrames pages frames)) by (guest_reads c.words by.comes.sources by.comes.is.setup by.comes.is.names)
  input_kept_by (Run guest) by cause = read_by (Run guest) by (guest_reads c.words by.comes.sources (setup_of guest) by.comes.is)
  input_kept_by request by cause = inl cause

  -- what was answered by the course of what was read
  went-as : (request : Request) → WentBy c request → HasInputCause c.old.input c.new.input request → c.new.files.contents ≡ c.old.files.contents
      → EndsAt (course_of c.words request) (Left c) (console_of c.old) (console_of c.new) c.status → Went c
  went-as request by cause contents ends = record {
    request = request;
    usable = by.usable;
    comes = by.comes;
    files_cause = by.files_cause;
    input_after = by.input_after;
    input_kept = input_kept_by request by cause;
    contents_kept = contents;
    ends = ends;
  }

  -- or by want of memory for the kernel
  went-lacking : (guest : Guest) → WentBy c (Run guest) → HasInputCause c.old.input c.new.input (Run guest) → c.new.files.contents ≡ c.old.files.contents
      → EndsAt (refused memory_wanted) (Left c) (console_of c.old) (console_of c.new) c.status → Went c
  went-lacking guest by cause contents ends = record {
    request = NoMemory;
    usable = tt;
    comes = record { sources = by.comes.sources; told = by.comes.told; is = rw by.comes.is.names.names.names.command refl };
    files_cause = by.files_cause;
    input_after = inr (record { bytes = guest.input.items; all = cause });
    input_kept = input_kept_by (Run guest) by cause;
    contents_kept = contents;
    ends = ends;
  }

  -- so it went
  pub went : (request : Request) → IsUsable c.words request → ComesOf c.words c.old.files.contents c.old.input.left request → HasFilesCause c.words c.old.files c.new.files request
      → HasInputCause c.old.input c.new.input request → c.new.files.contents ≡ c.old.files.contents
      → IsAnswered c.words request (Left c) (console_of c.old) (console_of c.new) c.status → Went c
  went (Run guest) usable comes files cause contents (inl ends) = went-as (Run guest) (record { usable = usable; comes = comes; files_cause = files; input_after = cause }) cause contents ends
  went (Run guest) usable comes files cause contents (inr ends) = went-lacking guest (record { usable = usable; comes = comes; files_cause = files; input_after = cause }) cause contents ends
  went (Refused refusal) usable comes files cause contents ends = went-as (Refused refusal) (record { usable = usable; comes = comes; files_cause = files; input_after = cause }) cause contents ends
  went NoMemory usable comes files cause contents ends = went-as NoMemory (record { usable = usable; comes = comes; files_cause = files; input_after = inl cause }) cause contents ends
  went (Show parts) usable comes files cause contents ends = went-as (Show parts) (record { usable = usable; comes = comes; files_cause = files; input_after = cause }) cause contents ends
