use Rattle.machine_types.specs.Registers.{AreInside, IsRegisterFile}
use Rattle.instr_tests.proofs.guests.registers.Given as goal

-- they are a register file, and those that are tagged lie inside the region
abbrev pub invariant-loop-n : goal.invariant-loop-n
invariant-loop-n l = record {
  file : IsRegisterFile l.regs;
  inside : AreInside l.regs 0;
}
