use Rattle.std.proofs.Common.{◌≡◌, sym, Some}
use Rattle.std.proofs.lemmas.Bool.{not-false}
use Rattle.machine_types.specs.Numbers.{most_steps}
use Rattle.machine_types.specs.DecimalNumbers.{number_in}
use Rattle.command_words.proofs.Values.{frames-valued, regions-valued, slots-valued, steps-valued, copy-valued, schedule-valued}
use Rattle.command_words.proofs.words.with_value.Goals as goal

pub returns-in_ok-options-in-Frames : goal.returns-in_ok-options-in-Frames
returns-in_ok-options-in-Frames c = rw c.in-Frames.is (frames-valued c.args.options c.args.index c.in_ok-options-in-Frames.field-0 c.args.word.now (sym c.in_ok-options-in-Frames.ensures))

pub returns-in_ok-options-in-Regions : goal.returns-in_ok-options-in-Regions
returns-in_ok-options-in-Regions c = rw c.in-Regions.is (regions-valued c.args.options c.args.index c.in_ok-options-in-Regions.field-0 c.args.word.now (sym c.in_ok-options-in-Regions.ensures))

pub returns-in_ok-options-in-Slots : goal.returns-in_ok-options-in-Slots
returns-in_ok-options-in-Slots c = rw c.in-Slots.is (slots-valued c.args.options c.args.index c.in_ok-options-in-Slots.field-0 c.args.word.now (sym c.in_ok-options-in-Slots.ensures))

pub returns-in_ok-options-in-Steps : goal.returns-in_ok-options-in-Steps
returns-in_ok-options-in-Steps c =
    let is : number_in 0 most_steps c.args.word.now ≡ Some c.in_ok-options-in-Steps.field-0 = cc (c.in_ok-options-in-Steps.ensures, c.as_bytes.ensures.value) in
    rw c.in-Steps.is (steps-valued c.args.options c.args.index c.in_ok-options-in-Steps.field-0 c.args.word.now is)

pub returns-else-ne : goal.returns-else-ne
returns-else-ne c = rw c.in-Copy.is (copy-valued c.args.options c.args.index c.args.word.now (not-false _ (sym c.if-ne.ensures)))

pub returns-else-not-is_file_name : goal.returns-else-not-is_file_name
returns-else-not-is_file_name c = rw c.in-Schedule.is (schedule-valued c.args.options c.args.index c.args.word.now (sym c.if-not-is_file_name.ensures))
