use Rattle.std.proofs.Common.{sym}
use Rattle.cheri_step.specs.Access.{accessed}
use Rattle.cheri_step.proofs.memory.perform.Goals as goal

pub returns-in-Load-clause-answer : goal.returns-in-Load-clause-answer
unfolding accessed
returns-in-Load-clause-answer g c = rw (c.in-Load.is, sym c.place_in-at.ensures) c.load_at.ensures.answer

pub returns-in-Load-clause-after : goal.returns-in-Load-clause-after
unfolding accessed
returns-in-Load-clause-after g c = rw (c.in-Load.is, sym c.place_in-at.ensures) c.load_at.ensures.after

pub returns-in-Store-clause-answer : goal.returns-in-Store-clause-answer
unfolding accessed
returns-in-Store-clause-answer g c = rw (c.in-Store.is, sym c.place_in-at.ensures) c.store_at.ensures.answer

pub returns-in-Store-clause-after : goal.returns-in-Store-clause-after
unfolding accessed
returns-in-Store-clause-after g c = rw (c.in-Store.is, sym c.place_in-at.ensures) c.store_at.ensures.after
