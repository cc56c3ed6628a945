-- A step leaves every other live process as it was, but for a parent that ended.
use Rattle.std.proofs.Common.{◌≡◌, ◌≢◌, ◌∙◌, sym, ap, refl, eq-eqb, ℕ, ◌==◌, ◌&&◌, nat_eq, Option, Some, List, true, false, Bool, subst}
use Rattle.std.proofs.lemmas.Bool.{eqb-true}
use Rattle.contents.specs.Content.{Content}
use Rattle.machine.specs.declared.process.Process.{Process}
use Rattle.machine.specs.declared.report.WorkEnd.TheVariants.{Ended}
use Rattle.machine.specs.Processes.{process_at, is_live}
use Rattle.machine.specs.Pipes.{Table, table_at}
use Rattle.machine.specs.Machines.{Machine}
use Rattle.machine.specs.Effects.{Effect}
use Rattle.machine.specs.Applying.{applied}
use Rattle.machine.specs.Isolation.{is_end, IsUntouched, EffectsLeaveOthers}
use Rattle.machine.specs.Scanning.{NextIsFirst, OutcomesAreExact}
use Rattle.machine.specs.Steady.{CutsAgree}
use Rattle.machine_steps.specs.Steps.{step_of}
use Rattle.machine_steps.specs.Laws.{MayStep, WorksAt, Parts, OthersStayUntouched}
use Rattle.machine_steps.proofs.EndedEffects.{is_ended, effect-said, ended-status}
use Rattle.machine_steps.proofs.AppliedSteps.{HaveSame, EffectsAreShaped, IsWorked, effect_at, step-worked, worker}

-- what is untouched in a machine is so in one with the same processes, descriptors and content
untouched-same : (m n o : Machine) (k : ℕ) (q : Process) (parts : Bool) → HaveSame n o → IsUntouched m n k q parts → IsUntouched m o k q parts
untouched-same m n o k q parts same is = record {
  process = ap (λ (processes : List (Option Process)). process_at processes k) same.processes ∙ is.process;
  table = ap (λ (tables : List Table). table_at tables k) same.tables ∙ is.table;
  store = ap (λ (c : Content). c.stores q.region) same.content ∙ is.store;
}

-- whether the step parts the process from its parent
abbrev pub parts_at : Effect → Process → Process → Bool
parts_at e p q = is_end e.deed && (q.parent == p.id)

-- it is parted where the step says that the parent ended
parting : (m : Machine) (slot : ℕ) (p q : Process) → IsWorked m slot p (effect_at m slot p) (step_of m) → Parts (step_of m) q → parts_at (effect_at m slot p) p q ≡ true
parting m slot p q made parts =
    let e : Effect = effect_at m slot p in
    let said : is_ended e.end ≡ is_end e.deed = effect-said _ _ in
    let ended : e.end ≡ Ended parts.1.0 = sym made.end ∙ parts.1.1 in
    let ends : is_end e.deed ≡ true = sym said ∙ ap is_ended ended in
    let same : q.parent ≡ p.id = parts.0 ∙ made.id in
    rw (ends, same) (eq-eqb p.id p.id refl)

-- and only there
parted-only : (m : Machine) (slot : ℕ) (p q : Process) → IsWorked m slot p (effect_at m slot p) (step_of m) → (Parts (step_of m) q → ⊥) → parts_at (effect_at m slot p) p q ≡ false
parted-only m slot p q made apart = by (is_end e.deed) (nat_eq q.parent p.id) refl refl
  where
    e : Effect
    e = effect_at m slot p

    by : (b d : Bool) → is_end e.deed ≡ b → nat_eq q.parent p.id ≡ d → (b && d) ≡ false
    by false d f g = refl
    by true false f g = refl
    by true true f g =
        let said : is_ended e.end ≡ is_end e.deed = effect-said _ _ in
        let status = ended-status e.end (said ∙ f) in
        absurd (apart (eqb-true q.parent p.id g ∙ sym made.id, (status.0, made.end ∙ status.1)))

-- What a step leaves of another live process, by the effect of the work.
pub record IsLeftBy (m : Machine) (slot k : ℕ) (q p : Process) : Type 0 where
  pub worked : IsWorked m slot p (effect_at m slot p) (step_of m)
  pub untouched : IsUntouched m (step_of m).next k q (parts_at (effect_at m slot p) p q)

module _ (cuts : CutsAgree) (first : NextIsFirst) (outcomes : OutcomesAreExact) (shaped : EffectsAreShaped) (leave : EffectsLeaveOthers) where
  left-by : (m : Machine) (slot k : ℕ) (q : Process) → MayStep m → WorksAt m slot → k ≢ slot → process_at m.processes k ≡ Some q → is_live q.state ≡ true → (p : Process) × IsLeftBy m slot k q p
  left-by m slot k q may works other there live =
      let w = worker cuts first outcomes m slot may works in
      let p : Process = w.0 in
      let e : Effect = effect_at m slot p in
      let made = step-worked m slot p works w.1.there in
      (p, record { worked = made; untouched = untouched-same m (applied m slot p e) (step_of m).next k q _ made.next (leave m slot p e w.1 (shaped m slot p w.1) k q other there live) })

  pub others-untouched : OthersStayUntouched
  others-untouched = record {
    parted = λ m slot k q may works other there live parts.
        let l = left-by m slot k q may works other there live in
        subst (IsUntouched m (step_of m).next k q) (parting m slot l.0 q l.1.worked parts) l.1.untouched;
    kept = λ m slot k q may works other there live apart.
        let l = left-by m slot k q may works other there live in
        subst (IsUntouched m (step_of m).next k q) (parted-only m slot l.0 q l.1.worked apart) l.1.untouched;
  }
