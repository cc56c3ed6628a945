use Rattle.std.proofs.Common.{inl, inr}
use Rattle.machine_types.specs.declared.config.Outcome.TheVariants.{Running, Stuck}
use Rattle.ufork_program.specs.Run.{run_course}
use Rattle.ufork_program.specs.Answer.{refused}
use Rattle.ufork_program.proofs.CourseLemmas.{run_leads}
use Rattle.ufork_program.proofs.TellingLemmas.{told-holds, ran-told, failed-told, broke-told, long-told, frames-told, status-told, input-told, named-there, failed-at, done-told, shows-told}
use Rattle.ufork_program.proofs.laws.promises_tell.Goals as goal

pub returns : goal.returns
returns c = record {
  done = λ call sources promises told is. done-told call sources told (promises.done is);
  stopped = λ call sources promises told is. ran-told call sources told Running (promises.stopped is);
  stuck = λ call sources promises told is. ran-told call sources told Stuck (promises.stuck is);
  failed = λ call sources promises told is. failed-told call sources told (promises.file_failed is);
  broke = λ call sources promises told is. broke-told call sources told (promises.input_failed is);
  no_image = λ call sources promises told is. let h = promises.image_refused is in (h.fault, told-holds call sources _ told h.named);
  no_schedule = λ call sources promises told is. let h = promises.schedule_refused is in (h.line, told-holds call sources _ told h.named);
  too_long = λ call sources promises told is. long-told call sources told (promises.input_too_long is);
  no_frames = λ call sources promises told is. frames-told call sources told (promises.frames_lacked is);
  no_source = λ call sources promises told is. let h = promises.source_refused is in (h.fault, told-holds call sources _ told h.named);
  shows = λ call contents parts promises told none names. shows-told call contents parts promises told none names;
  complete = λ call sources setup promises told none named room.
      status-told call sources told (run_course setup) promises none (run_leads call.words sources setup named room);
  refuses = λ call sources answer promises told none leads. status-told call sources told (refused answer) promises none leads;
  by_course = λ call sources promises told none other. elim (promises.answered none) [
    | inl h ↦ let w = told-holds call sources _ told h in record { status = w.status; written = w.written }
    | inr h ↦ absurd (other h.whole.status)
  ];
  unasked = λ call sources promises told never. input-told call sources told promises never;
  asked = λ call sources promises told. elim promises.input_kept [
    | inl h ↦ inl h
    | inr h ↦ let r = told-holds call sources _ told h in inr (named-there call sources told r)
  ];
  broke_after = λ call sources promises told is. named-there call sources told (told-holds call sources _ told (promises.input_failed is).broke.read);
  failed_at = λ call sources promises told is. failed-at call sources told (promises.file_failed is);
}
