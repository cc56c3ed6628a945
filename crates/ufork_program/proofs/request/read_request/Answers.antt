use Rattle.std.proofs.Common.{sym}
use Rattle.ufork_program.proofs.SourceLemmas.{usage_comes}
use Rattle.ufork_program.proofs.request.read_request.Goals as goal

pub returns-in-Err-clause-comes : goal.returns-in-Err-clause-comes
returns-in-Err-clause-comes g c = usage_comes _ _ _ c.in-Err.fault.place (sym c.in-Err.ensures.is)

pub returns-in-Ok-Asm-clause-input : goal.returns-in-Ok-Asm-clause-input
returns-in-Ok-Asm-clause-input g c = rw c.shown_by.ensures (c.read_assembled.ensures.unasked _)

pub returns-in-Ok-Disasm-clause-input : goal.returns-in-Ok-Disasm-clause-input
returns-in-Ok-Disasm-clause-input g c = rw c.shown_by-in-Ok-Disasm.ensures (c.read_instrs.ensures.unasked _)

pub returns-in-Ok-Check-clause-input : goal.returns-in-Ok-Check-clause-input
returns-in-Ok-Check-clause-input g c = rw c.shown_by-in-Ok-Check.ensures (c.read_summary.ensures.unasked _)
