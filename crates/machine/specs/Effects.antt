-- What the work of a process comes to, before it is applied to the machine.
use Rattle.std.specs.Prelude.{ℕ, ◌+◌, ◌-◌, ◌^◌, ◌%◌, Bool, false, ℤ, pos, neg_ℤ, Option, None, List, []}
use Rattle.cap_format.specs.declared.cap.Cap.{Cap}
use Rattle.cap_format.specs.Pattern.{address_of}
use Rattle.cap_format.specs.Made.{from_int, with_address}
use Rattle.machine_types.specs.declared.cause.Cause.{Cause}
use Rattle.machine_types.specs.Causes.{cause_number}
use Rattle.machine_types.specs.declared.errno.Errno.{Errno}
use Rattle.machine_types.specs.Errors.{error_number}
use Rattle.machine_types.specs.declared.touches.Note.{Note}
use Rattle.machine_types.specs.Registers.{with_register}
use Rattle.contents.specs.Content.{Content}
use Rattle.contents.specs.Regions.{end_of}
use Rattle.machine.specs.declared.process.Process.{Process}
use Rattle.machine.specs.declared.process.State.{State}
use Rattle.machine.specs.declared.process.State.TheVariants.{Ready}
use Rattle.machine.specs.declared.report.WorkEnd.{WorkEnd}
use Rattle.machine.specs.declared.report.WorkEnd.TheVariants as report
use Rattle.machine.specs.Numbers.{number_register, first_argument}
use Rattle.machine.specs.Processes.{integer}
use Rattle.machine.specs.Pipes.{Table}
use Rattle.machine.specs.Machines.{View}

-- What a work does to the machine beyond its own process and the content.
pub data Deed : Type 0 where
  -- nothing
  Goes : Deed
  -- a new process at a slot, with these descriptors
  Adds : ℕ → Process → Table → Deed
  -- the process of this id is removed
  Removes : ℕ → Deed
  -- the process itself ends, with this status
  Ends : ℕ → Deed

-- The process and the content after the work; the input that is left, or none where it is as it was; what becomes of other processes; the
-- notes of its touches, in order; the piece that is printed; how the work ended; and whether it lacked a frame: a touch found none,
-- or a fork was refused for them.
pub record Effect : Type 0 where
  pub process : Process
  pub content : Content
  pub input : Option (List ℕ)
  pub deed : Deed
  pub touches : List Note
  pub printed : List ℕ
  pub end : WorkEnd
  pub lacks : Bool

-- only the process itself and the content change
abbrev pub works : Process → Content → List Note → WorkEnd → Effect
works p c touches end = record { process = p; content = c; input = None; deed = Goes; touches = touches; printed = []; end = end; lacks = false }

-- what a call answers: a number, or the negative of an error number
pub data Answer : Type 0 where
  Gives : ℕ → Answer
  Refuses : Errno → Answer

abbrev pub answer_bits : Answer → ℕ
answer_bits (Gives n) = n
answer_bits (Refuses error) = 2 ^ 64 - error_number error

abbrev pub answer_number : Answer → ℤ
answer_number (Gives n) = pos n
answer_number (Refuses error) = neg_ℤ (pos (error_number error))

-- PCC past the ecall
unfoldable pub next_pcc : Cap → Cap
next_pcc pcc = with_address pcc ((address_of pcc.bits + 4) % 2 ^ 64)

-- the process after a call that answered: the answer is in x10, and PCC past the call
abbrev pub answered_process : Process → Answer → Process
answered_process p answer = record p { regs = with_register p.regs first_argument (from_int (answer_bits answer)); pcc = next_pcc p.pcc; state = Ready }

-- a call answers, after these touches
abbrev pub answers : View → Content → List Note → Answer → Effect
answers v c touches answer = works (answered_process v.process answer) c touches (report.Answered (integer v.process number_register) (answer_number answer))

-- a call is refused, and made no touch
abbrev pub refuses : View → Content → Errno → Effect
refuses v c error = answers v c [] (Refuses error)

-- a call is not finished; PCC stays at it
abbrev pub waits : View → Content → List Note → State → Effect
waits v c touches state = works (record v.process { state = state }) c touches (report.Waiting (integer v.process number_register))

-- The process ends: its store and its members go.
unfoldable pub ends : View → Content → List Note → ℕ → Bool → Effect
ends v c touches status lacks = record (works v.process (end_of c v.process.region) touches (report.Ended status)) { deed = Ends status; lacks = lacks }

-- it is killed: its status is 256 plus the number of the cause
abbrev pub killed : View → Content → List Note → Cause → Bool → Effect
killed v c touches cause lacks = ends v c touches (256 + cause_number cause) lacks
