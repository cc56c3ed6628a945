-- The worked contents, by computing them.
use Rattle.std.proofs.Common.{refl}
use Rattle.cap_format.specs.Moves.{moved_bits}
use Rattle.cap_format.specs.Pattern.{base_of, length_of, top_of}
use Rattle.cap_format.specs.SetBounds.{bounds_for, first_enough}
use Rattle.machine_types.specs.Accounts.{account_at_fork, account_at_end}
use Rattle.contents.specs.Accesses.{read_of}
use Rattle.contents.specs.Regions.{begin_of, end_of, add_page_of, seed_cap_of, fork_of}
use Rattle.contents.specs.Transfers.{prepare_of, overlaps_tag}
use Rattle.contents.specs.Examples.{ASecondCopyFindsNoFrame, TheLastMemberMoves, TheHomeDecides}

pub second-copy : ASecondCopyFindsNoFrame
unfolding begin_of add_page_of fork_of prepare_of overlaps_tag account_at_fork
second-copy = record { forked = refl; answer = refl; account = refl }

pub last-member : TheLastMemberMoves
unfolding begin_of end_of add_page_of seed_cap_of fork_of read_of account_at_fork account_at_end moved_bits base_of length_of top_of bounds_for first_enough
last-member = record { shared = refl; first = refl; copied = refl; ended = refl; second = refl; moved = refl }

pub home-decides : TheHomeDecides
unfolding begin_of end_of add_page_of seed_cap_of fork_of read_of account_at_fork account_at_end moved_bits base_of length_of top_of bounds_for first_enough
home-decides = record { home = refl; fit = refl; fit_too = refl; foreign = refl; moves = refl; lost = refl; moves_back = refl }
