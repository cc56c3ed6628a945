use Rattle.std.proofs.Common.{◌∙◌, ap, refl, ℤ, ℕ, Some, [], to_z, of_z, w64}
use Rattle.machine.specs.Numbers.{number_register}
use Rattle.machine.specs.Processes.{integer}
use Rattle.machine.specs.Effects.{answer_bits, answer_number, Refuses}
use Rattle.process_table.specs.Tables.{with_slot}
use Rattle.trap_syscalls.specs.declared.call.Call.{Call}
use Rattle.trap_syscalls.specs.Asked.{with_answer}
use Rattle.trap_syscalls.proofs.GoingWorlds.{going, lives-same, caller-lives, caller-there, same-answer, refusal-kept}
use Rattle.trap_syscalls.proofs.answers.refuse.Goals as goal

pub returns-clause-called : goal.returns-clause-called
returns-clause-called c m p content is there =
    let here = caller-there m c.args.world.now c.args.call.now.slot p is there in
    let live = caller-lives m c.args.world.now c.args.call.now p is c.requires.calling there in
    let bits = answer_bits (Refuses c.args.error) in
    record {
      world = going m c.args.world.now c.args.call.now.slot p (with_answer p bits) content [] _ c.set_answer.new.processes is there (lives-same p (with_answer p bits) live refl refl)
          (c.set_answer.ensures.is p here ∙ ap (λ (n : ℕ). with_slot c.args.world.now.processes c.args.call.now.slot (Some (with_answer p n))) c.refusal_bits.ensures);
      end = same-answer c.args.call.now.number (integer p number_register) _ (answer_number (Refuses c.args.error)) (ap (λ (call : Call). call.number) (c.requires.asked p here)) (ap (λ (z : ℤ). to_z w64 (of_z w64 z)) c.refusal_number.ensures ∙ refusal-kept c.args.error);
      touches = refl;
      printed = refl;
      piece = refl;
    }
