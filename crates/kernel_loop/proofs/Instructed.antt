-- An instruction of a process of a sound machine.
use Rattle.std.proofs.Common.{◌≡◌, ◌∙◌, sym, ap, refl, subst, ℕ, ◌<◌, Bool, true, Option, Some, None, List, [], ◌∷◌, slice_set, length, take, ◌+◌, ◌≤◌, IsTrue, arith}
use Rattle.std.specs.Prelude.{is_some}
use Rattle.std.proofs.lemmas.List.{set-get_or}
use Rattle.std.proofs.Math.Bridge.{le_prop}
use Rattle.std.proofs.Math.Logic.{∥∥₁_map, ∥∥₁_elim}
use Rattle.cap_format.specs.declared.cap.Cap.{Cap}
use Rattle.cap_format.specs.Numbers.{most_regions}
use Rattle.cap_format.specs.Pattern.{address_of}
use Rattle.machine_types.specs.declared.cause.Cause.{Cause}
use Rattle.contents.specs.Content.{Content}
use Rattle.stores.specs.Known.{StandsFor}
use Rattle.cap_format.specs.Rights.{holds}
use Rattle.cheri_step.specs.declared.step.Stepped.{Stepped}
use Rattle.cheri_step.specs.declared.step.StepEnd.{StepEnd}
use Rattle.cheri_step.specs.declared.step.StepEnd.TheVariants.{Call, Fault}
use Rattle.cheri_step.specs.Effect.{state, CanStep}
use Rattle.cheri_step.specs.Laws.{FaultsChangeNothing, IsLeft}
use Rattle.machine.specs.declared.process.Process.{Process}
use Rattle.machine.specs.declared.process.State.{State}
use Rattle.machine.specs.declared.process.State.TheVariants.{Ready, InRead, InWrite, InWait, Zombie}
use Rattle.machine.specs.declared.report.Work.{Work}
use Rattle.machine.specs.declared.report.Work.TheVariants.{Instr}
use Rattle.machine_types.specs.declared.touches.Note.{Note}
use Rattle.contents.specs.Accesses.{untouched}
use Rattle.machine_steps.specs.Steps.{made, three_notes}
use Rattle.machine.specs.Processes.{process_at, is_live}
use Rattle.machine.specs.Machines.{Machine, view_of}
use Rattle.machine.specs.Effects.{Effect, ends, killed}
use Rattle.machine.specs.Applying.{applied}
use Rattle.machine.specs.declared.report.WorkEnd.TheVariants.{Ended}
use Rattle.machine_types.specs.Causes.{cause_number}
use Rattle.contents.specs.Regions.{end_of}
use Rattle.machine_steps.specs.Works.{instruction_of, instructed, effect_as, effect_of, work_of, work_as}
use Rattle.process_table.specs.Tables.{Table, with_slot}
use Rattle.trap_syscalls.specs.declared.world.World.{World}
use Rattle.trap_syscalls.specs.Worlds.{IsWorldOf, IsLiveAt, IsAtCall, SomeWorld, HasCalled}
use Rattle.trap_syscalls.specs.declared.world.CallDone.{CallDone}
use Rattle.kernel_loop.specs.declared.work.Worked.{Worked}
use Rattle.kernel_loop.proofs.FewTouches.{made-two}
use Rattle.trap_syscalls.proofs.GoingWorlds.{caller-there}
use Rattle.kernel_loop.specs.Working.{is_making, MayWork, HasStepped, HasWorked}

-- a process that makes instructions is ready
pub making-ready : (state : State) → is_making state ≡ true → state ≡ Ready
making-ready Ready makes = refl
making-ready InRead makes = absurd (cc)
making-ready (InWrite done) makes = absurd (cc)
making-ready InWait makes = absurd (cc)
making-ready (Zombie status) makes = absurd (cc)

-- its effect is that of its instruction
pub effect-instructs : (m : Machine) (slot : ℕ) (p : Process) (c : Content) (end : StepEnd) → p.state ≡ Ready → (instruction_of p c).end ≡ end → effect_of (view_of m slot p) c ≡ instructed (view_of m slot p) (instruction_of p c) end
unfolding effect_of
effect-instructs m slot p c end ready is = ap (effect_as (view_of m slot p) c) ready ∙ ap (instructed (view_of m slot p) (instruction_of p c)) is

-- and so is what is said of it
pub work-instructs : (p : Process) (c : Content) → p.state ≡ Ready → work_of p c ≡ Instr (address_of p.pcc.bits) (instruction_of p c).word
work-instructs p c ready = ap (work_as p (instruction_of p c).word) ready

-- two instructions are one where their places and their words are
pub same-instr : (a b : ℕ) (v w : Option ℕ) → a ≡ b → v ≡ w → ◌≡◌ {A = Work} (Instr a v) (Instr b w)
same-instr a b v w places words = ap (λ (x : ℕ). Instr x v) places ∙ ap (Instr b) words

-- so are two touches
pub same-notes : (a b x y : Note) → a ≡ b → x ≡ y → three_notes (made (a ∷ x ∷ untouched ∷ [])) ≡ three_notes (made (b ∷ y ∷ []))
same-notes a b x y first second = rw (first, second) refl

-- a process that is written as it was leaves the table as it was
pub same-table : (t : Table) (slot : ℕ) (p : Process) (regs : List Cap) (pcc : Cap) → process_at t.processes slot ≡ Some p → regs ≡ p.regs → pcc ≡ p.pcc → with_slot t slot (Some (record p { regs = regs; pcc = pcc })) ≡ t
same-table t slot p regs pcc there r c =
    let own : slice_set t.processes slot (Some (record p { regs = regs; pcc = pcc })) ≡ t.processes =
    rw (r, c) (ap (slice_set t.processes slot) (sym there) ∙ set-get_or t.processes slot None) in
    ap (λ (os : List (Option Process)). record t { processes = os }) own

-- so the world is of the same machine
pub same-world : (m : Machine) (w : World) (t : Table) → t ≡ w.processes → IsWorldOf m w → IsWorldOf m (record w { processes = t })
same-world m w t same is = subst (λ (x : Table). IsWorldOf m (record w { processes = x })) (sym same) is

-- Some sound machine has the world, and the process of the slot is live in it.
module _ {S : Type 0} (stands_for : S → Content → Type 0) (w : World) (s : S) (slot : ℕ) (may : ∥ SomeWorld stands_for w s (MayWork slot) ∥₁) (p : Process) (there : process_at w.processes.processes slot ≡ Some p) where
  -- it is this process
  same-process : (k : SomeWorld stands_for w s (MayWork slot)) → k.has.process ≡ p
  same-process k = let a = caller-there k.machine w slot k.has.process k.world k.has.there in let b = there in cc

  here : (k : SomeWorld stands_for w s (MayWork slot)) → process_at k.machine.processes slot ≡ Some p
  here k = k.has.there ∙ ap Some (same-process k)

  live : (k : SomeWorld stands_for w s (MayWork slot)) → is_live p.state ≡ true
  live k = subst (λ (q : Process). is_live q.state ≡ true) (same-process k) k.has.live

  -- its region is one that there may be
  low : (k : SomeWorld stands_for w s (MayWork slot)) → p.region < most_regions
  low k = let a = k.sound.range.processes slot p (here k) in let b = k.is.configured.config.regions in omega arith

  pub worker-region : p.region < most_regions
  worker-region = ∥∥₁_elim may (hlevel le_prop) low

  -- it can make an instruction
  pub worker-steps : ∥ StandsFor stands_for s (CanStep p.region p.regs p.pcc) ∥₁
  worker-steps = ∥∥₁_map may (λ (k : SomeWorld stands_for w s (MayWork slot)).
      let within = k.sound.inside.processes slot p (here k) (live k) in
      record {
        content = k.content;
        stands = k.stands;
        holds = record {
          store = ap is_some (k.stores p.region) ∙ k.is.stores.some slot p (here k) (live k);
          code = within.code;
          file = (k.is.processes slot p (here k)).registers;
          counter = within.counter;
          registers_held = within.registers;
        };
      })

  -- The instruction came about.
  module _ (law : FaultsChangeNothing) (result : Stepped) (t : Table) (u : S) (came : (c : Content) → stands_for s c → HasStepped w.processes slot p (instruction_of p c) result t (stands_for u)) where
    -- how it ended
    pub ended-so : (c : Content) (end : StepEnd) → stands_for s c → result.end ≡ end → (instruction_of p c).end ≡ end
    ended-so c end stands e = sym (ap (λ (x : Stepped). x.end) (came c stands).stepped) ∙ e

    -- a call leaves all but the account as it was
    pub call-left : (c : Content) → stands_for s c → result.end ≡ Call → IsLeft (state p.regs p.pcc c) (instruction_of p c).after
    call-left c stands e = law.calls (state p.regs p.pcc c) p.region (ended-so c Call stands e)

    -- so does a fault
    pub fault-left : (c : Content) (cause : Cause) → stands_for s c → result.end ≡ Fault cause → IsLeft (state p.regs p.pcc c) (instruction_of p c).after
    fault-left c cause stands e = law.faults (state p.regs p.pcc c) p.region cause (ended-so c (Fault cause) stands e)

    -- then the table is as it was
    pub left-table : (c : Content) → stands_for s c → IsLeft (state p.regs p.pcc c) (instruction_of p c).after → t ≡ w.processes
    left-table c stands left = (came c stands).process ∙ same-table w.processes slot p (instruction_of p c).after.registers (instruction_of p c).after.pcc there left.registers left.pcc

    -- and the world is of the machine still
    still : (P : Machine → Type 0) (k : SomeWorld stands_for w s (MayWork slot)) → P k.machine → IsLeft (state p.regs p.pcc k.content) (instruction_of p k.content).after → SomeWorld stands_for (record w { processes = t }) u P
    still P k has left = record {
      machine = k.machine;
      is = k.is;
      sound = k.sound;
      has = has;
      world = same-world k.machine w t (left-table k.content k.stands left) k.world;
      content = (instruction_of p k.content).after.content;
      stores = λ region. left.stores region ∙ k.stores region;
      stands = (came k.content k.stands).content;
    }

    pub call-caller : result.end ≡ Call → ∥ SomeWorld stands_for (record w { processes = t }) u (IsAtCall slot) ∥₁
    call-caller e = ∥∥₁_map may (λ (k : SomeWorld stands_for w s (MayWork slot)).
        let bounds = law.bounds (state p.regs p.pcc k.content) p.region (ended-so k.content Call k.stands e) in
        still (IsAtCall slot) k
        (record { at = k.has; held = subst (λ (q : Process). IsTrue (holds q.pcc.bits (address_of q.pcc.bits) 4)) (sym (same-process k)) bounds })
        (call-left k.content k.stands e))

    pub fault-worker : (cause : Cause) → result.end ≡ Fault cause → ∥ SomeWorld stands_for (record w { processes = t }) u (IsLiveAt slot) ∥₁
    fault-worker cause e = ∥∥₁_map may (λ (k : SomeWorld stands_for w s (MayWork slot)). still (IsLiveAt slot) k k.has (fault-left k.content cause k.stands e))

-- The machine doesn't depend on what is told of touches.
pub other-notes : (m : Machine) (slot : ℕ) (p : Process) (e : Effect) (notes : List Note) (w : World) → IsWorldOf (applied m slot p e) w → IsWorldOf (applied m slot p (record e { touches = notes })) w
unfolding applied
other-notes m slot p e notes w is = is

-- a call of an instruction came about
pub called-works : (m : Machine) (slot : ℕ) (p : Process) (e : Effect) (first : Note) (result : Worked) (done : CallDone) (w : World) → length e.touches ≤ 2 → HasCalled m slot p e done w
    → result.id ≡ p.id → result.work ≡ work_of p m.content → result.touches ≡ three_notes (made (first ∷ done.touches)) → result.printed ≡ done.printed → result.end ≡ done.end
    → HasWorked m slot p (record e { touches = first ∷ e.touches }) result w
called-works m slot p e first result done w few called id work touches printed end = record {
  world = other-notes m slot p e (first ∷ e.touches) w called.world;
  id = id;
  work = work;
  touches = touches ∙ ap (λ (notes : List Note). three_notes (made (first ∷ notes))) called.touches ∙ made-two first e.touches few;
  printed = printed ∙ called.printed;
  piece = ap (λ (n : ℕ). take n w.buffer.items) printed ∙ called.piece;
  end = end ∙ called.end;
}

-- a process that was killed is told of so
pub killed-works : (m : Machine) (slot : ℕ) (p : Process) (c : Content) (a b : Note) (cause : Cause) (lacks : Bool) (result : Worked) (w : World) → IsWorldOf (applied m slot p (killed (view_of m slot p) c (a ∷ b ∷ []) cause lacks)) w
    → result.id ≡ p.id → result.work ≡ work_of p m.content → result.touches ≡ three_notes (made (a ∷ b ∷ [])) → result.printed ≡ 0 → result.end ≡ Ended (256 + cause_number cause)
    → HasWorked m slot p (killed (view_of m slot p) c (a ∷ b ∷ []) cause lacks) result w
unfolding ends
killed-works m slot p c a b cause lacks result w is id work touches printed end = record {
  world = is;
  id = id;
  work = work;
  touches = touches;
  printed = printed;
  piece = ap (λ (n : ℕ). take n w.buffer.items) printed;
  end = end;
}

pub killed-content : (stands : Content → Type 0) (m : Machine) (slot : ℕ) (p : Process) (c : Content) (notes : List Note) (cause : Cause) (lacks : Bool) → stands (end_of c p.region) → stands (killed (view_of m slot p) c notes cause lacks).content
unfolding ends
killed-content stands m slot p c notes cause lacks done = done
