-- The world and what is said of the end are those of the effect.
use Rattle.std.proofs.Common.{refl}
use Rattle.machine.specs.Effects.{ends}
use Rattle.trap_syscalls.proofs.EndedWorlds.{world-ended}
use Rattle.trap_syscalls.proofs.ends.end.Goals as goal

pub returns-clause-called : goal.returns-clause-called
unfolding ends
returns-clause-called g c = λ m p content notes lacks of there touches. record {
  world = rw (c.finish.ensures, c.end-2.ensures, c.free.ensures) (world-ended m c.args.world.now c.args.call.now p content notes c.args.status lacks c.requires.calling c.requires.asked of there);
  end = refl;
  touches = touches;
  printed = refl;
  piece = refl;
}
