use Rattle.machine.specs.Processes.{integer}
use Rattle.machine.specs.Numbers.{number_register}
use Rattle.machine.specs.Calls.{call_of}
use Rattle.machine.proofs.AgreeingCalls.{row-agree}
use Rattle.machine.proofs.laws.rules_agree_on_calls.Goals as goal

pub returns : goal.returns
returns c = λ v d e h. row-agree (record { rules = c.rules_agree.ensures; looks = c.store_decides_looks.ensures }) (call_of (integer v.process number_register)) v d e h
