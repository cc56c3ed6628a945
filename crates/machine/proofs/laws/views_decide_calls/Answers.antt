use Rattle.machine.specs.Processes.{integer}
use Rattle.machine.specs.Numbers.{number_register}
use Rattle.machine.specs.Calls.{call_of}
use Rattle.machine.proofs.AlikeCalls.{row-alike}
use Rattle.machine.proofs.laws.views_decide_calls.Goals as goal

pub returns : goal.returns
returns c = λ v d e h. row-alike (record { own = c.own_store_decides.ensures; looks = c.store_decides_looks.ensures }) (call_of (integer v.process number_register)) v d e h
