use Rattle.kernel_loop.specs.Quanta.{quanta_from}
use Rattle.kernel_loop.proofs.NextQuanta.{taken-head, taken-rest}
use Rattle.kernel_loop.proofs.clock.next_quantum.Goals as goal

pub returns-then-used-repeats-clause-next : goal.returns-then-used-repeats-clause-next
returns-then-used-repeats-clause-next c =
    taken-head c.pairs-pairs.result.now c.args.schedule.now c.loop-place.place c.loop-place.used (quanta_from c.args.schedule.now c.args.pair.now c.args.used.now) c.pairs-pairs.ensures c.loop-place-test.true c.if-used-repeats.true c.loop-place.invariant

pub returns-then-used-repeats-clause-rest : goal.returns-then-used-repeats-clause-rest
returns-then-used-repeats-clause-rest c =
    taken-rest c.pairs-pairs.result.now c.args.schedule.now c.loop-place.place c.loop-place.used (quanta_from c.args.schedule.now c.args.pair.now c.args.used.now) c.pairs-pairs.ensures c.loop-place-test.true c.if-used-repeats.true c.loop-place.invariant
