-- What calls do, in the words of those who make them.
use Rattle.std.specs.Prelude.{ℕ, ◌≡◌, ◌≢◌, ◌⊎◌, ◌↔◌, true, false, pos, neg_ℤ, Some, None, Err, []}
use Rattle.machine_types.specs.declared.errno.Errno.{Errno}
use Rattle.machine_types.specs.declared.errno.Errno.TheVariants.{Ebadf, Echild, Eagain, Enomem, Efault}
use Rattle.machine_types.specs.Errors.{error_number}
use Rattle.machine_types.specs.declared.touches.Access.TheVariants.{Read, Write}
use Rattle.contents.specs.Content.{Content}
use Rattle.contents.specs.Regions.{no_frame, fork_of}
use Rattle.machine.specs.declared.process.Target.TheVariants.{ConsoleIn, ConsoleOut}
use Rattle.machine.specs.declared.report.WorkEnd.TheVariants.{Answered}
use Rattle.machine.specs.Numbers.{fork_call, wait_call, read_call, write_call, number_register, first_argument}
use Rattle.machine.specs.Processes.{integer}
use Rattle.machine.specs.Pipes.{target}
use Rattle.machine.specs.Machines.{View}
use Rattle.machine.specs.Effects.{Goes, Refuses, answered_process}
use Rattle.machine.specs.Calls.{count_of_call, is_fault, called}

-- the call has this number
abbrev pub Calls : View → ℕ → Type 0
Calls v number = integer v.process number_register ≡ number

-- the call was refused with this error
abbrev pub IsRefused : View → Content → Errno → Type 0
IsRefused v c error = (called v c).end ≡ Answered (integer v.process number_register) (neg_ℤ (pos (error_number error)))

-- A refused call changes nothing but the answer: not the stores, not the account, not the input, no other process; and it prints and touches
-- nothing.
pub record RefusalsChangeNothing (v : View) (c : Content) (error : Errno) : Type 0 where
  pub process : (called v c).process ≡ answered_process v.process (Refuses error)
  pub content : (called v c).content ≡ c
  pub input : (called v c).input ≡ None
  pub deed : (called v c).deed ≡ Goes
  pub touches : (called v c).touches ≡ []
  pub printed : (called v c).printed ≡ []

-- fork is refused exactly where no slot is free, then where no region is, or the stores refuse it for frames. wait is refused exactly where there
-- is no child.
pub record CallsAreRefused : Type 0 where
  pub nothing : (v : View) (c : Content) (error : Errno) → IsRefused v c error → RefusalsChangeNothing v c error
  pub eagain : (v : View) (c : Content) → Calls v fork_call → IsRefused v c Eagain ↔ (v.free_slot ≡ None)
  pub enomem : (v : View) (c : Content) → Calls v fork_call → IsRefused v c Enomem
      ↔ ((v.free_slot ≢ None) × ((v.free_region ≡ None) ⊎ ((to : ℕ) × (v.free_region ≡ Some to) × ((fork_of c v.process.region to).answer ≡ Err no_frame))))
  pub echild : (v : View) (c : Content) → Calls v wait_call → IsRefused v c Echild ↔ (v.children.some ≡ false)

-- read and write are refused for the descriptor first, and for the bytes only where the count isn't 0.
pub record TransfersAreRefused : Type 0 where
  pub ebadf_read : (v : View) (c : Content) → Calls v read_call → IsRefused v c Ebadf ↔ (target v.table (integer v.process first_argument) ≢ Some ConsoleIn)
  pub ebadf_write : (v : View) (c : Content) → Calls v write_call → IsRefused v c Ebadf ↔ (target v.table (integer v.process first_argument) ≢ Some ConsoleOut)
  pub efault_read : (v : View) (c : Content) → Calls v read_call → IsRefused v c Efault
      ↔ ((target v.table (integer v.process first_argument) ≡ Some ConsoleIn) × (count_of_call v ≢ 0) × (is_fault v.process c Write (count_of_call v) ≡ true))
  pub efault_write : (v : View) (c : Content) → Calls v write_call → IsRefused v c Efault
      ↔ ((target v.table (integer v.process first_argument) ≡ Some ConsoleOut) × (count_of_call v ≢ 0) × (is_fault v.process c Read (count_of_call v) ≡ true))
