use Rattle.std.proofs.Common.{refl}
use Rattle.machine_types.specs.DecimalNumbers.{number_in}
use Rattle.command_words.specs.Grammar.{is_command, begins_command}
use Rattle.command_words.specs.Commands.{read_of}
use Rattle.std.specs.Fmt.{digits}
use Rattle.command_words.proofs.laws.worked_commands_hold.Goals as goal

pub returns : goal.returns
unfolding read_of is_command begins_command number_in digits
returns c = record {
  nothing = refl;
  name_alone = refl;
  too_many_frames = refl;
  leading_zero = refl;
  used_twice = refl;
  joined = refl;
  two_images = refl;
  no_frames = refl;
  a_frame_more = refl;
  a_region_more = refl;
  a_slot_more = refl;
  a_step_more = refl;
  defaults = refl;
  all_options = refl;
  no_source = refl;
  two_sources = refl;
  option_of_check = refl;
  asm = refl;
  disasm = refl;
  check = refl;
}
