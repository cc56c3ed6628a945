-- The worked instructions, by computing them.
use Rattle.std.proofs.Common.{refl}
use Rattle.cap_format.specs.Made.{with_address}
use Rattle.cap_format.specs.Pattern.{base_of, length_of, top_of}
use Rattle.cap_format.specs.SetBounds.{bounds_for, first_enough}
use Rattle.machine_types.specs.Accounts.{account_at_fork}
use Rattle.riscv_decode.specs.Decoded.{decoded}
use Rattle.contents.specs.Accesses.{fetch_of, write_of}
use Rattle.contents.specs.Regions.{begin_of, add_page_of, fork_of}
use Rattle.cheri_step.specs.Access.{accessed}
use Rattle.cheri_step.specs.Effect.{effect}
use Rattle.cheri_step.specs.Examples.{AnInstructionLacksAFrame}

pub lacks-a-frame : AnInstructionLacksAFrame
unfolding begin_of add_page_of fork_of fetch_of write_of account_at_fork base_of length_of top_of bounds_for first_enough with_address decoded accessed effect
lacks-a-frame = record { fetch = refl; no_word = refl; store = refl; word = refl; goes_on = refl; copied = refl; fit = refl; fit_before = refl; copied_late = refl }
