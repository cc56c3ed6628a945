use Rattle.instr_tests.proofs.guests.registers.Goals as goal

pub loop-n-init : goal.loop-n-init
loop-n-init c = record { file = c.new-regs.ensures.whole; inside = c.new-regs.ensures.inside 0 }
