-- The worked steps, by computing them.
use Rattle.std.proofs.Common.{refl}
use Rattle.cap_format.specs.Made.{with_address}
use Rattle.cap_format.specs.Moves.{moved_bits}
use Rattle.cap_format.specs.Pattern.{base_of, length_of, top_of}
use Rattle.cap_format.specs.SetBounds.{bounds_for, first_enough, bounded_base, bounded_top, set_bounds}
use Rattle.cap_format.specs.FileNumbers.{byte_at, u16_at, u32_at, u64_at}
use Rattle.machine_types.specs.Accounts.{account_at_fork, account_at_end}
use Rattle.machine_types.specs.Stores.{page_numbers}
use Rattle.contents.specs.Accesses.{read_of, fetch_of, write_of}
use Rattle.contents.specs.Regions.{begin_of, end_of, add_page_of, fork_of}
use Rattle.contents.specs.Transfers.{prepare_of, overlaps_tag, covers_of, read_bytes_of}
use Rattle.riscv_decode.specs.Decoded.{decoded}
use Rattle.cheri_step.specs.Access.{accessed}
use Rattle.cheri_step.specs.Effect.{effect}
use Rattle.machine.specs.Processes.{lowest_free_slot, lowest_free_region, first_ended}
use Rattle.machine.specs.Pipes.{swept}
use Rattle.machine.specs.Readiness.{is_ready, next_ready, outcome_of}
use Rattle.machine.specs.Effects.{next_pcc, ends}
use Rattle.machine.specs.Calls.{row_fork, row_wait, is_fault, console_write, row_write}
use Rattle.machine.specs.Applying.{applied, settled}
use Rattle.machine_steps.specs.Works.{effect_of}
use Rattle.machine_steps.specs.Steps.{step_in, step_of, state}
use Rattle.machine_steps.specs.Examples.{TwoProcessesTakeTurns, OneProcessCalls, AWriteGoesOn, TouchesAreReported, AnImageStarts}

pub two-processes-take-turns : TwoProcessesTakeTurns
unfolding step_of step_in state effect_of effect accessed decoded lowest_free_slot lowest_free_region first_ended swept is_ready next_ready outcome_of next_pcc ends row_fork row_wait is_fault console_write row_write applied settled begin_of add_page_of fork_of end_of read_of fetch_of write_of prepare_of overlaps_tag covers_of read_bytes_of account_at_fork account_at_end page_numbers with_address moved_bits base_of length_of top_of bounds_for first_enough byte_at u16_at u32_at u64_at bounded_base bounded_top set_bounds
two-processes-take-turns = record {
  first = refl;
  second = refl;
  third = refl;
  fourth = refl;
  free = refl;
  stays = refl;
  registers = refl;
  others = refl;
  steps = refl;
}

pub one-process-calls : OneProcessCalls
unfolding step_of step_in state effect_of effect accessed decoded lowest_free_slot lowest_free_region first_ended swept is_ready next_ready outcome_of next_pcc ends row_fork row_wait is_fault console_write row_write applied settled begin_of add_page_of fork_of end_of read_of fetch_of write_of prepare_of overlaps_tag covers_of read_bytes_of account_at_fork account_at_end page_numbers with_address moved_bits base_of length_of top_of bounds_for first_enough byte_at u16_at u32_at u64_at bounded_base bounded_top set_bounds
one-process-calls = record {
  fork = refl;
  parent = refl;
  answer = refl;
  child = refl;
  yield = refl;
  again = refl;
  number = refl;
  exit = refl;
  over = refl;
  not_over = refl;
  ended = refl;
  stopped = refl;
  bad_word = refl;
  no_page = refl;
  no_word = refl;
  done = refl;
  stuck = refl;
  running = refl;
}

pub a-write-goes-on : AWriteGoesOn
unfolding step_of step_in state effect_of effect accessed decoded lowest_free_slot lowest_free_region first_ended swept is_ready next_ready outcome_of next_pcc ends row_fork row_wait is_fault console_write row_write applied settled begin_of add_page_of fork_of end_of read_of fetch_of write_of prepare_of overlaps_tag covers_of read_bytes_of account_at_fork account_at_end page_numbers with_address moved_bits base_of length_of top_of bounds_for first_enough byte_at u16_at u32_at u64_at bounded_base bounded_top set_bounds
a-write-goes-on = record {
  work = refl;
  end = refl;
  count = refl;
  piece = refl;
  clock = refl;
  last = refl;
}

pub touches-are-reported : TouchesAreReported
unfolding step_of step_in state effect_of effect accessed decoded lowest_free_slot lowest_free_region first_ended swept is_ready next_ready outcome_of next_pcc ends row_fork row_wait is_fault console_write row_write applied settled begin_of add_page_of fork_of end_of read_of fetch_of write_of prepare_of overlaps_tag covers_of read_bytes_of account_at_fork account_at_end page_numbers with_address moved_bits base_of length_of top_of bounds_for first_enough byte_at u16_at u32_at u64_at bounded_base bounded_top set_bounds
touches-are-reported = record {
  fetch = refl;
  store = refl;
  call = refl;
  call_end = refl;
  bad_word = refl;
  bad_word_end = refl;
  killed = refl;
  none = refl;
  word = refl;
  lacks = refl;
  store_lacks = refl;
  fits = refl;
  other_lacks = refl;
}

pub an-image-starts : AnImageStarts
unfolding step_of step_in state effect_of effect accessed decoded lowest_free_slot lowest_free_region first_ended swept is_ready next_ready outcome_of next_pcc ends row_fork row_wait is_fault console_write row_write applied settled begin_of add_page_of fork_of end_of read_of fetch_of write_of prepare_of overlaps_tag covers_of read_bytes_of account_at_fork account_at_end page_numbers with_address moved_bits base_of length_of top_of bounds_for first_enough byte_at u16_at u32_at u64_at bounded_base bounded_top set_bounds
an-image-starts = record {
  processes = refl;
  tables = refl;
  pipes = refl;
  input = refl;
  forks = refl;
  clock = refl;
}
