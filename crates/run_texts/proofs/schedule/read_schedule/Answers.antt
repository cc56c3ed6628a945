use Rattle.run_texts.proofs.SchedulesWithin.{schedule-within}
use Rattle.run_texts.proofs.QuantaLemmas.{quanta_fit}
use Rattle.run_texts.proofs.schedule.read_schedule.Goals as goal

pub returns-in-Ok-clause-within : goal.returns-in-Ok-clause-within
returns-in-Ok-clause-within c = rw c.new.ensures (schedule-within c.args.text.now c.in-Ok.pairs.items c.in-Ok.ensures)

pub returns-in-Ok-clause-quanta : goal.returns-in-Ok-clause-quanta
returns-in-Ok-clause-quanta c = rw c.new.ensures (quanta_fit c.in-Ok.pairs.items (schedule-within c.args.text.now c.in-Ok.pairs.items c.in-Ok.ensures))
