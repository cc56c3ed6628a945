-- What a process asks for by a call, and what a call leaves of it.
use Rattle.std.specs.Prelude.{ℕ, ◌<◌, ◌-◌, map, IsTrue}
use Rattle.cap_format.specs.Numbers.{most_regions}
use Rattle.cap_format.specs.Made.{from_int}
use Rattle.cap_format.specs.Moves.{moved}
use Rattle.cap_format.specs.Region.{IsInside, region_start}
use Rattle.cap_format.specs.Pattern.{address_of}
use Rattle.machine_types.specs.Registers.{with_register, IsRegisterFile, AreInside}
use Rattle.machine.specs.declared.process.Process.{Process}
use Rattle.machine.specs.declared.process.State.{State}
use Rattle.machine.specs.declared.process.State.TheVariants.{Ready}
use Rattle.machine.specs.Effects.{next_pcc}
use Rattle.machine.specs.Numbers.{number_register, first_argument, second_argument, third_argument}
use Rattle.machine.specs.Processes.{argument, integer}
use Rattle.trap_syscalls.specs.declared.call.Call.{Call}

abbrev pub call_of : ℕ → Process → Call
call_of slot p = record {
  slot = slot;
  id = p.id;
  parent = p.parent;
  region = p.region;
  state = p.state;
  number = integer p number_register;
  first = integer p first_argument;
  pointer = argument p second_argument;
  count = integer p third_argument;
}

-- where in its region the bytes lie that it points to
abbrev pub place_asked : Call → ℕ
place_asked call = address_of call.pointer.bits - region_start call.region

-- a process with a number in x10, past its call
abbrev pub with_answer : Process → ℕ → Process
with_answer p value = record p { regs = with_register p.regs first_argument (from_int value); pcc = next_pcc p.pcc; state = Ready }

-- a process in another state
abbrev pub with_state : Process → State → Process
with_state p state = record p { state = state }

-- a process with a number in x11
abbrev pub with_second : Process → ℕ → Process
with_second p value = record p { regs = with_register p.regs second_argument (from_int value) }

-- The child of a process, with an id, in a region: each register and PCC is moved there, PCC is past the call, and its answer is 0.
abbrev pub child_with : Process → ℕ → ℕ → Process
child_with p id to = record {
  id = id;
  parent = p.id;
  region = to;
  regs = with_register (map (λ cap. moved cap p.region to) p.regs) first_argument (from_int 0);
  pcc = moved (next_pcc p.pcc) p.region to;
  state = Ready;
}

-- its registers, and PCC past the call, can be moved
pub record MayMove (p : Process) : Type 0 where
  pub region : p.region < most_regions
  pub file : IsRegisterFile p.regs
  pub registers : AreInside p.regs p.region
  pub counter : IsTrue (next_pcc p.pcc).tag → IsInside (next_pcc p.pcc).bits p.region
