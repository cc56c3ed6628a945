use Rattle.std.proofs.Common.{◌≡◌, ◌<◌, ℕ}
use Rattle.cap_format.specs.Moves.{moved}
use Rattle.machine_types.specs.Registers.{IsRegisterFile, register}
use Rattle.trap_syscalls.proofs.forks.moved_registers.Given as goal

abbrev pub invariant-loop-n : goal.invariant-loop-n
invariant-loop-n l = record {
  file : IsRegisterFile l.child;
  done : (k : ℕ) → k < l.n → register l.child k ≡ moved (register l.regs k) l.from l.to;
}
