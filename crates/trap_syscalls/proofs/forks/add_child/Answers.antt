use Rattle.std.proofs.Common.{◌≡◌, ◌∙◌, sym, ap, refl, ℕ, ◌+◌, List, Option, Some, ℤ, pos, w64, arith}
use Rattle.std.proofs.lemmas.Int.{to_z_pos}
use Rattle.machine.specs.declared.process.Process.{Process}
use Rattle.machine.specs.declared.report.WorkEnd.TheVariants.{Forked}
use Rattle.machine.specs.Processes.{process_at}
use Rattle.process_table.specs.Tables.{with_slot}
use Rattle.trap_syscalls.specs.Asked.{with_answer}
use Rattle.trap_syscalls.proofs.ForkedWorlds.{Processes, answered-free, forked-world}
use Rattle.trap_syscalls.proofs.forks.add_child.Goals as goal

pub place-requires-clause-slot : goal.place-requires-clause-slot
place-requires-clause-slot c =
    (answered-free c.args.world.now.processes c.set_answer.new.processes c.args.call.now.slot c.args.slot (c.args.world.now.forks + 2)
    c.requires.calling.live c.requires.slot c.requires.none c.set_answer.ensures.is).0

pub place-requires-clause-none : goal.place-requires-clause-none
place-requires-clause-none c =
    (answered-free c.args.world.now.processes c.set_answer.new.processes c.args.call.now.slot c.args.slot (c.args.world.now.forks + 2)
    c.requires.calling.live c.requires.slot c.requires.none c.set_answer.ensures.is).1

pub returns-clause-called : goal.returns-clause-called
returns-clause-called c = λ m p content is there.
    let w = c.args.world.now in
    let slot = c.args.call.now.slot in
    let free = c.args.slot in
    let region = c.args.region in
    let at : process_at w.processes.processes slot ≡ Some p = sym (ap (λ (ps : List (Option Process)). process_at ps slot) is.processes) ∙ there in
    record {
      world =
          forked-world m w c.args.call.now free region p content is c.requires.calling c.requires.may there c.requires.slot c.requires.none c.requires.region
          c.place.new.self c.fork.new.self c.take.new.self
          (c.place.ensures ∙ ap (λ (t : Processes). with_slot t free (Some c.child_at-child.result)) (c.set_answer.ensures.is p at)
          ∙ ap (λ (q : Process). with_slot (with_slot w.processes slot (Some (with_answer p (w.forks + 2)))) free (Some q)) (c.child_at-child.ensures p at))
          c.fork.ensures c.take.ensures;
      end =
          ap (λ (z : ℤ). Forked z (w.forks + 2) free region) (to_z_pos w64 (w.forks + 2) (omega arith))
          ∙ ap (λ (n : ℕ). Forked (pos (n + 2)) (n + 2) free region) (sym is.forks);
      touches = refl;
      printed = refl;
      piece = refl;
    }
