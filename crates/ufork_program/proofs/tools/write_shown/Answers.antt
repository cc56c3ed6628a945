use Rattle.ufork_program.proofs.tools.write_shown.Goals as goal

pub returns-in-Assembled : goal.returns-in-Assembled
returns-in-Assembled g c = rw c.in-Assembled.is (rw c.deref.ensures.value at c.write_file.ensures _)

pub returns-in-Instrs : goal.returns-in-Instrs
returns-in-Instrs g c = rw c.in-Instrs.is (c.write_instrs.ensures _)

pub returns-in-Summary : goal.returns-in-Summary
returns-in-Summary g c = rw c.in-Summary.is (c.write_summary.ensures _)
