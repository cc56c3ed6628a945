use Rattle.std.proofs.Common.{◌∙◌, false, slice_index_or, arith}
use Rattle.process_table.proofs.Scans.{range-past}
use Rattle.process_table.proofs.processes.first_marked.Goals as goal

pub loop-slot-preserved : goal.loop-slot-preserved
loop-slot-preserved c = c.loop-slot.invariant ∙ range-past (λ slot. slice_index_or c.args.marks.now slot false) c.loop-slot.slot c.args.to (omega arith) (grind arith)
