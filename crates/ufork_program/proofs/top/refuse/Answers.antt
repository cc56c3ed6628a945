use Rattle.std.proofs.Common.{◌≡◌, ◌<◌, ◌∙◌, sym, ap, map, length, [], string_bytes, arith}
use Rattle.std.proofs.lemmas.List.{get_or-map, length-map}
use Rattle.ufork_program.specs.Answer.{word_at}
use Rattle.ufork_program.specs.Lines.{usage_line, cannot_read_line, image_refused_line, schedule_refused_line, input_failed_line, input_too_long_line, frames_lacked_line, source_refused_line}
use Rattle.ufork_program.proofs.LeftLemmas.{line_answered}
use Rattle.ufork_program.proofs.top.refuse.Goals as goal

pub returns-in-Usage : goal.returns-in-Usage
returns-in-Usage g c =
    rw c.in-Usage.is (line_answered _ (usage_line c.in-Usage.place) _ _ _ _ _ (λ e. cc) c.write_usage.ensures c.answered.ensures)

pub returns-in-CannotRead : goal.returns-in-CannotRead
returns-in-CannotRead g c =
    let within : c.in-CannotRead.index < length (map string_bytes c.args.words.now) = rw c.in-CannotRead.is at c.requires in
    let word : word_at (map string_bytes c.args.words.now) c.in-CannotRead.index ≡ string_bytes c.index-words-index.result
    = get_or-map string_bytes c.args.words.now c.in-CannotRead.index c.index-words-index.result [] (omega (arith, within, length-map c.args.words.now string_bytes)) ∙ ap string_bytes (sym c.index-words-index.is) in
    let named : word_at (map string_bytes c.args.words.now) c.in-CannotRead.index ≡ c.as_str.result.now = word ∙ sym c.as_str.ensures.value in
    rw (c.in-CannotRead.is, named) (line_answered _ (cannot_read_line c.as_str.result.now) _ _ _ _ _ (λ e. cc) c.write_cannot_read.ensures c.answered-in-CannotRead.ensures)

pub returns-in-NoImage : goal.returns-in-NoImage
returns-in-NoImage g c =
    rw c.in-NoImage.is (line_answered _ (image_refused_line c.in-NoImage.fault) _ _ _ _ _ (λ e. cc) c.write_image_refused.ensures c.answered-in-NoImage.ensures)

pub returns-in-NoSchedule : goal.returns-in-NoSchedule
returns-in-NoSchedule g c =
    rw c.in-NoSchedule.is (line_answered _ (schedule_refused_line c.in-NoSchedule.line) _ _ _ _ _ (λ e. cc) c.write_schedule_refused.ensures c.answered-in-NoSchedule.ensures)

pub returns-in-InputFailed : goal.returns-in-InputFailed
returns-in-InputFailed g c =
    rw c.in-InputFailed.is (line_answered _ input_failed_line _ _ _ _ _ (λ e. cc) c.write_input_failed.ensures c.answered-in-InputFailed.ensures)

pub returns-in-InputTooLong : goal.returns-in-InputTooLong
returns-in-InputTooLong g c =
    rw c.in-InputTooLong.is (line_answered _ input_too_long_line _ _ _ _ _ (λ e. cc) c.write_input_too_long.ensures c.answered-in-InputTooLong.ensures)

pub returns-in-NoFrames : goal.returns-in-NoFrames
returns-in-NoFrames g c =
    rw (c.in-NoFrames.is, sym c.from.ensures, sym c.from-in-NoFrames.ensures) (line_answered _ (frames_lacked_line c.from.result c.from-in-NoFrames.result) _ _ _ _ _ (λ e. cc) c.write_frames_lacked.ensures c.answered-in-NoFrames.ensures)

pub returns-in-NoSource : goal.returns-in-NoSource
returns-in-NoSource g c =
    rw c.in-NoSource.is (line_answered _ (source_refused_line c.in-NoSource.fault) _ _ _ _ _ (λ e. cc) c.write_source_refused.ensures c.answered-in-NoSource.ensures)
