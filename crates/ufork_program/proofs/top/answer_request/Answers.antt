use Rattle.ufork_program.proofs.LeftLemmas.{refused_ends, memory_ends}
use Rattle.ufork_program.proofs.top.answer_request.Goals as goal
use Rattle.ufork_program.proofs.top.answer_request.Goals.{in-NoMemory, in-Refused, in-Show}

pub returns : goal.returns
returns g c = elim c.match-request.branch [
  | in-NoMemory w ↦ rw (w.in-NoMemory.is, w.out-is, w.err-is) (memory_ends _ _ c.args.board c.requires.empty (rw w.written-is at c.status_of.ensures))
  | in-Refused w ↦ rw (w.in-Refused.is, w.out-is, w.err-is) (refused_ends _ _ _ _ _ c.args.board c.requires.empty w.refuse-written.ensures (rw w.written-is at c.status_of.ensures))
  | in-Show w ↦ rw (w.in-Show.is, w.out-is, w.err-is) (refused_ends _ _ _ _ _ c.args.board c.requires.empty w.show-written.ensures (rw w.written-is at c.status_of.ensures))
]
