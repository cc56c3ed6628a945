use Rattle.machine.specs.Processes.{integer}
use Rattle.machine.specs.Numbers.{number_register}
use Rattle.machine.specs.Calls.{call_of}
use Rattle.machine.proofs.FullForks.{FrameLaws, row-lacks}
use Rattle.machine.proofs.NumberedCalls.{number-of-fork}
use Rattle.machine.proofs.laws.full_lacks_at_forks.Goals as goal

pub returns : goal.returns
returns c =
    let laws : FrameLaws = record { forks = c.fork_copies_the_store.ensures; named = c.prepared_touches_are_named.ensures } in
    record {
      number = λ v d full lacks. number-of-fork (integer v.process number_register) ((row-lacks laws (call_of (integer v.process number_register)) v d full).fork lacks).0;
      frames = λ v d full lacks. ((row-lacks laws (call_of (integer v.process number_register)) v d full).fork lacks).1;
      lives = λ v d full ended. (row-lacks laws (call_of (integer v.process number_register)) v d full).lives ended;
    }
