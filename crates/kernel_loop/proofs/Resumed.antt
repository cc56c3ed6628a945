-- A call that goes on.
use Rattle.std.proofs.Common.{◌≡◌, sym, refl, subst, ℕ, true, false, Option, Some}
use Rattle.std.proofs.Math.Logic.{∥∥₁_map}
use Rattle.cap_format.specs.Pattern.{address_of}
use Rattle.contents.specs.Content.{Content}
use Rattle.machine.specs.declared.process.Process.{Process}
use Rattle.machine.specs.declared.process.State.{State}
use Rattle.machine.specs.declared.process.State.TheVariants.{Ready, InRead, InWrite, InWait, Zombie}
use Rattle.machine.specs.declared.report.Work.TheVariants.{Resume}
use Rattle.machine.specs.Processes.{process_at, is_live}
use Rattle.machine.specs.Pipes.{Table, table_at}
use Rattle.machine.specs.Machines.{Machine, View, view_of}
use Rattle.machine.specs.Effects.{Effect}
use Rattle.machine.specs.Calls.{called}
use Rattle.machine.specs.Sound.{IsAtCall as Stands, IsUnderway}
use Rattle.machine_steps.specs.Works.{effect_as, effect_of, work_as}
use Rattle.trap_syscalls.specs.declared.world.World.{World}
use Rattle.trap_syscalls.specs.Worlds.{IsAtCall, SomeWorld}
use Rattle.trap_syscalls.proofs.GoingWorlds.{caller-there}
use Rattle.kernel_loop.specs.declared.work.Worked.{Worked}
use Rattle.kernel_loop.specs.Working.{is_making, MayWork, HasWorked}

-- a live process that doesn't make instructions is at a call
at-call : (p : Process) (table : Table) (c : Content) (state : State) → IsUnderway p table c state → is_live state ≡ true → is_making state ≡ false → Stands p
at-call p table c Ready underway live waits = absurd (cc)
at-call p table c InRead underway live waits = underway.at_call
at-call p table c (InWrite done) underway live waits = underway.at_call
at-call p table c InWait underway live waits = underway.at_call
at-call p table c (Zombie status) underway live waits = absurd (cc)

-- its effect is that of its call
pub goes-on : (v : View) (c : Content) (state : State) → is_making state ≡ false → effect_as v c state ≡ called v c
goes-on v c Ready waits = absurd (cc)
goes-on v c InRead waits = refl
goes-on v c (InWrite done) waits = refl
goes-on v c InWait waits = refl
goes-on v c (Zombie status) waits = refl

pub effect-goes-on : (m : Machine) (slot : ℕ) (p : Process) (c : Content) → is_making p.state ≡ false → effect_of (view_of m slot p) c ≡ called (view_of m slot p) c
unfolding effect_of
effect-goes-on m slot p c waits = goes-on (view_of m slot p) c p.state waits

-- and what is said of it is that it goes on
pub work-goes-on : (p : Process) (word : Option ℕ) (state : State) → is_making state ≡ false → work_as p word state ≡ Resume (address_of p.pcc.bits)
work-goes-on p word Ready waits = absurd (cc)
work-goes-on p word InRead waits = refl
work-goes-on p word (InWrite done) waits = refl
work-goes-on p word InWait waits = refl
work-goes-on p word (Zombie status) waits = refl

-- a process that may work and doesn't make instructions is at a call
pub resumed-caller : {S : Type 0} (stands_for : S → Content → Type 0) (w : World) (s : S) (slot : ℕ) → ((p : Process) → process_at w.processes.processes slot ≡ Some p → is_making p.state ≡ false)
    → ∥ SomeWorld stands_for w s (MayWork slot) ∥₁ → ∥ SomeWorld stands_for w s (IsAtCall slot) ∥₁
resumed-caller stands_for w s slot waits may = ∥∥₁_map may (λ (k : SomeWorld stands_for w s (MayWork slot)). record {
  machine = k.machine;
  is = k.is;
  sound = k.sound;
  has = record {
    at = k.has;
    held = at-call k.has.process (table_at k.machine.tables slot) k.machine.content k.has.process.state (k.sound.calls slot k.has.process k.has.there) k.has.live
        (waits k.has.process (caller-there k.machine w slot k.has.process k.world k.has.there));
  };
  world = k.world;
  content = k.content;
  stores = k.stores;
  stands = k.stands;
})

-- what came about of an effect came about of one that is equal
pub worked-as : (m : Machine) (slot : ℕ) (p : Process) (e f : Effect) (result : Worked) (w : World) → e ≡ f → HasWorked m slot p f result w → HasWorked m slot p e result w
worked-as m slot p e f result w same worked = subst (λ (x : Effect). HasWorked m slot p x result w) (sym same) worked
