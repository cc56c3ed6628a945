use Rattle.std.proofs.Common.{ap, refl, pos}
use Rattle.std.proofs.lemmas.Int.{to_z_pos}
use Rattle.std.specs.Int.{w64}
use Rattle.machine.specs.Numbers.{number_register}
use Rattle.machine.specs.Processes.{integer}
use Rattle.trap_syscalls.specs.declared.call.Call.{Call}
use Rattle.trap_syscalls.specs.Asked.{with_answer}
use Rattle.trap_syscalls.proofs.GoingWorlds.{going, lives-same, caller-lives, caller-there, same-answer}
use Rattle.trap_syscalls.proofs.answers.answer.Goals as goal

pub returns-clause-called : goal.returns-clause-called
returns-clause-called c m p content notes is there touches =
    let here = caller-there m c.args.world.now c.args.call.now.slot p is there in
    let live = caller-lives m c.args.world.now c.args.call.now p is c.requires.calling there in
    record {
      world = going m c.args.world.now c.args.call.now.slot p (with_answer p c.args.value) content notes _ c.set_answer.new.processes is there (lives-same p (with_answer p c.args.value) live refl refl) (c.set_answer.ensures.is p here);
      end = same-answer c.args.call.now.number (integer p number_register) _ (pos c.args.value) (ap (λ (call : Call). call.number) (c.requires.asked p here)) (to_z_pos w64 c.args.value c.requires.small);
      touches = touches;
      printed = refl;
      piece = refl;
    }
