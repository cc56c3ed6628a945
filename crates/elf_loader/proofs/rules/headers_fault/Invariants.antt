use Rattle.elf_loader.proofs.Walks.{HeaderWalk}
use Rattle.elf_loader.proofs.rules.headers_fault.Given as goal

abbrev pub invariant-loop-header : goal.invariant-loop-header
invariant-loop-header l = HeaderWalk l.n l.headers l.past l.first l.h l.header-index
