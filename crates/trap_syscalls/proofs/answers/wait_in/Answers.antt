use Rattle.std.proofs.Common.{ap, refl}
use Rattle.machine.specs.declared.report.WorkEnd.TheVariants.{Waiting}
use Rattle.trap_syscalls.specs.declared.call.Call.{Call}
use Rattle.trap_syscalls.specs.Asked.{with_state}
use Rattle.trap_syscalls.proofs.GoingWorlds.{going, lives-same, caller-lives, caller-there}
use Rattle.trap_syscalls.proofs.answers.wait_in.Goals as goal

pub returns-clause-called : goal.returns-clause-called
returns-clause-called c m p content notes is there touches =
    let here = caller-there m c.args.world.now c.args.call.now.slot p is there in
    let live = caller-lives m c.args.world.now c.args.call.now p is c.requires.calling there in
    record {
      world = going m c.args.world.now c.args.call.now.slot p (with_state p c.args.state) content notes _ c.set_state.new.processes is there (lives-same p (with_state p c.args.state) live c.requires.live refl) (c.set_state.ensures.is p here);
      end = ap Waiting (ap (λ (call : Call). call.number) (c.requires.asked p here));
      touches = touches;
      printed = refl;
      piece = refl;
    }
