use Rattle.elf_loader.proofs.Walks.{RelocationWalk}
use Rattle.elf_loader.proofs.rules.relocations_fault.Given as goal

abbrev pub invariant-loop-number : goal.invariant-loop-number
invariant-loop-number l = RelocationWalk l.bytes l.headers l.from l.count l.least l.r l._number
