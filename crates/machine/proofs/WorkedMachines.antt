-- The worked machines, by computing them.
use Rattle.std.proofs.Common.{refl}
use Rattle.cap_format.specs.Made.{with_address}
use Rattle.cap_format.specs.Sealing.{seal_entry}
use Rattle.cap_format.specs.Moves.{moved_bits}
use Rattle.cap_format.specs.Pattern.{base_of, length_of, top_of}
use Rattle.cap_format.specs.SetBounds.{bounds_for, first_enough, set_bounds}
use Rattle.machine_types.specs.Accounts.{account_at_fork, account_at_end}
use Rattle.machine_types.specs.Stores.{page_numbers}
use Rattle.contents.specs.Regions.{begin_of, end_of, add_page_of, seed_cap_of, fork_of}
use Rattle.contents.specs.Transfers.{prepare_of, overlaps_tag, covers_of, read_bytes_of, write_bytes_of}
use Rattle.contents.specs.Looks.{peek_of, rights_of}
use Rattle.machine.specs.Processes.{lowest_free_slot, lowest_free_region, first_ended}
use Rattle.machine.specs.Pipes.{swept}
use Rattle.machine.specs.Readiness.{is_ready, next_ready, outcome_of}
use Rattle.machine.specs.Effects.{next_pcc, ends}
use Rattle.machine.specs.Calls.{row_fork, row_wait, is_fault, console_read, row_read, console_write, row_write}
use Rattle.machine.specs.Applying.{applied, settled}
use Rattle.machine.specs.Examples.{AForkIsRefusedOrMade, AnEndLeavesOrphans, AWaitIsAnswered, ALongWriteGoesInTransfers, AReadTakesInput, TransfersAreTested, AKillMovesNothing, TheClockTurns, ReadinessIsExact}

pub fork-worked : AForkIsRefusedOrMade
unfolding lowest_free_slot lowest_free_region first_ended swept is_ready next_ready outcome_of next_pcc ends row_fork row_wait is_fault console_read row_read console_write row_write applied settled begin_of add_page_of seed_cap_of fork_of end_of prepare_of overlaps_tag covers_of read_bytes_of write_bytes_of peek_of rights_of account_at_fork account_at_end page_numbers with_address seal_entry set_bounds moved_bits base_of length_of top_of bounds_for first_enough
fork-worked = record {
  no_slot = refl;
  no_region = refl;
  no_region_lacks = refl;
  no_frame = refl;
  no_frame_lacks = refl;
  refused = refl;
  refused_forks = refl;
  shared = refl;
  made = refl;
  processes = refl;
  tables = refl;
  forks = refl;
  integers = refl;
  pointers = refl;
}

pub end-worked : AnEndLeavesOrphans
unfolding lowest_free_slot lowest_free_region first_ended swept is_ready next_ready outcome_of next_pcc ends row_fork row_wait is_fault console_read row_read console_write row_write applied settled begin_of add_page_of seed_cap_of fork_of end_of prepare_of overlaps_tag covers_of read_bytes_of write_bytes_of peek_of rights_of account_at_fork account_at_end page_numbers with_address seal_entry set_bounds moved_bits base_of length_of top_of bounds_for first_enough
end-worked = record {
  status = refl;
  fields = refl;
  left = refl;
  free = refl;
  tables = refl;
  pipes = refl;
  other_end = refl;
  page = refl;
  account = refl;
  parent_id = refl;
  orphan_id = refl;
}

pub wait-worked : AWaitIsAnswered
unfolding lowest_free_slot lowest_free_region first_ended swept is_ready next_ready outcome_of next_pcc ends row_fork row_wait is_fault console_read row_read console_write row_write applied settled begin_of add_page_of seed_cap_of fork_of end_of prepare_of overlaps_tag covers_of read_bytes_of write_bytes_of peek_of rights_of account_at_fork account_at_end page_numbers with_address seal_entry set_bounds moved_bits base_of length_of top_of bounds_for first_enough
wait-worked = record {
  answer = refl;
  reaped = refl;
  dead_alone = refl;
  waits = refl;
  waiting = refl;
  unready = refl;
  ready = refl;
  goes_on = refl;
  refused = refl;
  ready_alone = refl;
  stuck = refl;
}

pub write-worked : ALongWriteGoesInTransfers
unfolding lowest_free_slot lowest_free_region first_ended swept is_ready next_ready outcome_of next_pcc ends row_fork row_wait is_fault console_read row_read console_write row_write applied settled begin_of add_page_of seed_cap_of fork_of end_of prepare_of overlaps_tag covers_of read_bytes_of write_bytes_of peek_of rights_of account_at_fork account_at_end page_numbers with_address seal_entry set_bounds moved_bits base_of length_of top_of bounds_for first_enough
write-worked = record {
  first = refl;
  first_size = refl;
  first_end = refl;
  between = refl;
  ready = refl;
  second = refl;
  second_size = refl;
  second_end = refl;
  second_state = refl;
}

pub read-worked : AReadTakesInput
unfolding lowest_free_slot lowest_free_region first_ended swept is_ready next_ready outcome_of next_pcc ends row_fork row_wait is_fault console_read row_read console_write row_write applied settled begin_of add_page_of seed_cap_of fork_of end_of prepare_of overlaps_tag covers_of read_bytes_of write_bytes_of peek_of rights_of account_at_fork account_at_end page_numbers with_address seal_entry set_bounds moved_bits base_of length_of top_of bounds_for first_enough
read-worked = record {
  all = refl;
  all_left = refl;
  stored = refl;
  tag = refl;
  some = refl;
  some_left = refl;
  kept_tag = refl;
  past = refl;
}

pub tests-worked : TransfersAreTested
unfolding lowest_free_slot lowest_free_region first_ended swept is_ready next_ready outcome_of next_pcc ends row_fork row_wait is_fault console_read row_read console_write row_write applied settled begin_of add_page_of seed_cap_of fork_of end_of prepare_of overlaps_tag covers_of read_bytes_of write_bytes_of peek_of rights_of account_at_fork account_at_end page_numbers with_address seal_entry set_bounds moved_bits base_of length_of top_of bounds_for first_enough
tests-worked = record {
  descriptor = refl;
  unused = refl;
  output = refl;
  count = refl;
  untagged = refl;
  entry = refl;
  other_kind = refl;
  load = refl;
  store = refl;
  bounds = refl;
  within = refl;
  absent = refl;
  there = refl;
  whole_count = refl;
  none_such = refl;
  no_pipe_yet = refl;
  own_id = refl;
  yield = refl;
}

pub kill-worked : AKillMovesNothing
unfolding lowest_free_slot lowest_free_region first_ended swept is_ready next_ready outcome_of next_pcc ends row_fork row_wait is_fault console_read row_read console_write row_write applied settled begin_of add_page_of seed_cap_of fork_of end_of prepare_of overlaps_tag covers_of read_bytes_of write_bytes_of peek_of rights_of account_at_fork account_at_end page_numbers with_address seal_entry set_bounds moved_bits base_of length_of top_of bounds_for first_enough
kill-worked = record {
  end = refl;
  touches = refl;
  lacks = refl;
  input = refl;
  processes = refl;
  account = refl;
}

pub clock-worked : TheClockTurns
unfolding lowest_free_slot lowest_free_region first_ended swept is_ready next_ready outcome_of next_pcc ends row_fork row_wait is_fault console_read row_read console_write row_write applied settled begin_of add_page_of seed_cap_of fork_of end_of prepare_of overlaps_tag covers_of read_bytes_of write_bytes_of peek_of rights_of account_at_fork account_at_end page_numbers with_address seal_entry set_bounds moved_bits base_of length_of top_of bounds_for first_enough
clock-worked = record {
  after_0 = refl;
  after_1 = refl;
  after_2 = refl;
  after_3 = refl;
  itself = refl;
  none = refl;
  running = refl;
  done = refl;
  dispatch = refl;
  free = refl;
  told = refl;
  told_free = refl;
  lower = refl;
  never = refl;
  spent = refl;
  unready = refl;
  yield = refl;
}

pub readiness-worked : ReadinessIsExact
unfolding lowest_free_slot lowest_free_region first_ended swept is_ready next_ready outcome_of next_pcc ends row_fork row_wait is_fault console_read row_read console_write row_write applied settled begin_of add_page_of seed_cap_of fork_of end_of prepare_of overlaps_tag covers_of read_bytes_of write_bytes_of peek_of rights_of account_at_fork account_at_end page_numbers with_address seal_entry set_bounds moved_bits base_of length_of top_of bounds_for first_enough
readiness-worked = record {
  empty = refl;
  byte = refl;
  no_writer = refl;
  fits = refl;
  too_long = refl;
  long = refl;
  full = refl;
  whole_count = refl;
  count_decides = refl;
  no_reader = refl;
}
