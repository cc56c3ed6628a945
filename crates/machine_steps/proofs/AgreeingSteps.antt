-- A step under another rule and account: it agrees with the first one, where neither lacks a frame.
use Rattle.std.proofs.Common.{◌≡◌, ◌≢◌, ◌∙◌, sym, ap, refl, ℕ, Option, Some, None, List, length, true, false, Bool, subst}
use Rattle.cap_format.specs.declared.cap.Cap.{Cap}
use Rattle.machine_types.specs.declared.cause.Cause.TheVariants.{NoFrame}
use Rattle.machine_types.specs.declared.config.Config.{Config}
use Rattle.machine_types.specs.declared.touches.Note.{Note}
use Rattle.contents.specs.Content.{Content}
use Rattle.contents.specs.Agreeing.{HaveSameStores, RulesAgree}
use Rattle.cheri_step.specs.declared.step.StepEnd.{StepEnd}
use Rattle.cheri_step.specs.declared.step.StepEnd.TheVariants.{Next, Call, Fault}
use Rattle.cheri_step.specs.Effect as instruction
use Rattle.cheri_step.specs.Laws.{IsLeft, RulesAgreeOnEffects}
use Rattle.machine.specs.declared.process.Process.{Process}
use Rattle.machine.specs.declared.process.State.{State}
use Rattle.machine.specs.declared.process.State.TheVariants.{Ready, InRead, InWrite, InWait, Zombie}
use Rattle.machine.specs.declared.report.Quantum.{Quantum}
use Rattle.machine.specs.declared.report.Work.{Work}
use Rattle.machine.specs.declared.report.WorkEnd.{WorkEnd}
use Rattle.machine.specs.declared.report.WorkEnd.TheVariants.{Plain}
use Rattle.machine.specs.Processes.{process_at}
use Rattle.machine.specs.Machines.{Machine, View, view_of}
use Rattle.machine.specs.Readiness.{is_ready, next_ready}
use Rattle.machine.specs.Effects.{Deed, Goes, Adds, Removes, Ends, Effect, works, ends}
use Rattle.machine.specs.Applying.{with_own, done_by, applied, head_of, quantum_of, dispatched, stops, settled_as, settled}
use Rattle.machine.specs.Isolation.{EffectsAgree, RulesAgreeOnCalls}
use Rattle.machine_steps.specs.Works.{instruction_of, is_lack, instructed, effect_as, effect_of, work_as}
use Rattle.machine_steps.specs.Steps.{made, three_notes, Step, idle, step_at, step_in, step_next, step_from, step_of}
use Rattle.machine_steps.specs.Laws.{MachinesAgree, StepsAgree}

-- Effects.

-- an instruction that ended for want of a frame lacks one
lack-is-said : (v : View) (i : instruction.Effect) (end : StepEnd) → (instructed v i end).lacks ≡ false → end ≢ Fault NoFrame
unfolding ends
lack-is-said v i Next l e = absurd (cc)
lack-is-said v i Call l e = absurd (cc)
lack-is-said v i (Fault c) l e = let same : c ≡ NoFrame = cc in let said : is_lack (NoFrame) ≡ false = rw same at l in absurd (cc)

-- with other touches
touched-agree : (e f : Effect) (notes others : List Note) → EffectsAgree e f → EffectsAgree (record e { touches = notes }) (record f { touches = others })
touched-agree e f notes others h = record { rest = ap (λ (r : Effect). record r { touches = others }) h.rest; content = h.content }

-- the process goes on with the same registers and PCC
going-agree : (p : Process) (r s : List Cap) (a b : Cap) (c d : Content) (x y : List Note) → s ≡ r → b ≡ a → HaveSameStores c d
    → EffectsAgree (works (record p { regs = r; pcc = a }) c x Plain) (works (record p { regs = s; pcc = b }) d y Plain)
going-agree p r s a b c d x y same is h = record { rest = rw (same, is) refl; content = h }

-- the process ends with the same status
ending-agree : RulesAgree → (v : View) (c d : Content) (x y : List Note) (status : ℕ) (lacks : Bool) → HaveSameStores c d → EffectsAgree (ends v c x status lacks) (ends v d y status lacks)
unfolding ends
ending-agree agree v c d x y status lacks h = record { rest = refl; content = agree.end c d v.process.region h }

-- what an instruction comes to, where it ended so in both
instructed-agree : RulesAgree → RulesAgreeOnCalls → (v : View) (i j : instruction.Effect) → IsLeft i.after j.after → (end : StepEnd)
    → (instructed v i end).lacks ≡ false → (instructed v j end).lacks ≡ false → EffectsAgree (instructed v i end) (instructed v j end)
instructed-agree agree calls v i j left Next l k =
    going-agree v.process i.after.registers j.after.registers i.after.pcc j.after.pcc i.after.content j.after.content _ _ left.registers left.pcc left.stores
instructed-agree agree calls v i j left Call l k = touched-agree _ _ _ _ (calls v i.after.content j.after.content left.stores l k)
instructed-agree agree calls v i j left (Fault c) l k = ending-agree agree v i.after.content j.after.content _ _ _ (is_lack c) left.stores

pub effect-agree : RulesAgree → RulesAgreeOnCalls → RulesAgreeOnEffects → (v : View) (c d : Content) → HaveSameStores c d
    → (effect_of v c).lacks ≡ false → (effect_of v d).lacks ≡ false → EffectsAgree (effect_of v c) (effect_of v d)
unfolding effect_of
effect-agree agree calls instructions v c d h = by v.process.state
  where
    i : instruction.Effect
    i = instruction_of v.process c

    j : instruction.Effect
    j = instruction_of v.process d

    by-end : (end : StepEnd) → end ≡ i.end → IsLeft i.after j.after → (instructed v i i.end).lacks ≡ false → (instructed v j end).lacks ≡ false → EffectsAgree (instructed v i i.end) (instructed v j end)
    by-end end same left = rw same (instructed-agree agree calls v i j left i.end)

    by : (state : State) → (effect_as v c state).lacks ≡ false → (effect_as v d state).lacks ≡ false → EffectsAgree (effect_as v c state) (effect_as v d state)
    by Ready l k =
        let same = instructions v.process.regs v.process.pcc c d v.process.region h (lack-is-said v i i.end l) (lack-is-said v j j.end k) in
        by-end j.end same.end same.left l k
    by InRead l k = calls v c d h l k
    by (InWrite done) l k = calls v c d h l k
    by InWait l k = calls v c d h l k
    by (Zombie status) l k = calls v c d h l k

-- Machines.

-- a machine with another configuration and content
abbrev other_of : Machine → Config → Content → Machine
other_of m k d = record m { config = k; content = d }

-- the same effect, applied to it with another content
applied-other : (m : Machine) (k : Config) (d : Content) (slot : ℕ) (p : Process) (e : Effect) (x : Content) (t : List Note)
    → applied (other_of m k d) slot p (record e { content = x; touches = t }) ≡ other_of (applied m slot p e) k x
unfolding applied
applied-other m k d slot p e x t = by e.deed
  where
    by : (deed : Deed) → done_by (with_own (other_of m k d) slot (record e { content = x; touches = t })) slot p deed ≡ other_of (done_by (with_own m slot e) slot p deed) k x
    by Goes = refl
    by (Adds at child table) = refl
    by (Removes id) = refl
    by (Ends status) = refl

-- what an effect leaves of the configuration and of its content
applied-config : (m : Machine) (slot : ℕ) (p : Process) (e : Effect) → (applied m slot p e).config ≡ m.config
unfolding applied
applied-config m slot p e = by e.deed
  where
    by : (deed : Deed) → (done_by (with_own m slot e) slot p deed).config ≡ m.config
    by Goes = refl
    by (Adds at child table) = refl
    by (Removes id) = refl
    by (Ends status) = refl

applied-content : (m : Machine) (slot : ℕ) (p : Process) (e : Effect) → (applied m slot p e).content ≡ e.content
unfolding applied
applied-content m slot p e = by e.deed
  where
    by : (deed : Deed) → (done_by (with_own m slot e) slot p deed).content ≡ e.content
    by Goes = refl
    by (Adds at child table) = refl
    by (Removes id) = refl
    by (Ends status) = refl

-- what is ready is nothing of the configuration nor of the content
ready-other : (m : Machine) (k : Config) (d : Content) (slot : ℕ) → is_ready (other_of m k d) slot ≡ is_ready m slot
unfolding is_ready
ready-other m k d slot = refl

next-other : (m : Machine) (k : Config) (d : Content) → next_ready (other_of m k d) ≡ next_ready m
unfolding next_ready is_ready
next-other m k d = refl

settled-other : (m : Machine) (k : Config) (d : Content) (slot : ℕ) (end : WorkEnd) → settled (other_of m k d) slot end ≡ other_of (settled m slot end) k d
unfolding settled is_ready
settled-other m k d slot end = by (stops m slot end)
  where
    by : (b : Bool) → settled_as (other_of m k d) b ≡ other_of (settled_as m b) k d
    by true = refl
    by false = refl

settled-config : (m : Machine) (slot : ℕ) (end : WorkEnd) → (settled m slot end).config ≡ m.config
unfolding settled
settled-config m slot end = by (stops m slot end)
  where
    by : (b : Bool) → (settled_as m b).config ≡ m.config
    by true = refl
    by false = refl

settled-content : (m : Machine) (slot : ℕ) (end : WorkEnd) → (settled m slot end).content ≡ m.content
unfolding settled
settled-content m slot end = by (stops m slot end)
  where
    by : (b : Bool) → (settled_as m b).content ≡ m.content
    by true = refl
    by false = refl

-- the view is the same
view-other : (m : Machine) (k : Config) (d : Content) (slot : ℕ) (p : Process) → k.regions ≡ m.config.regions → view_of (other_of m k d) slot p ≡ view_of m slot p
view-other m k d slot p same = rw same refl

-- Steps.

-- the step that made an effect, and worked on this
abbrev made_step : Machine → ℕ → Process → Effect → Option Quantum → Work → Step
made_step m slot p e dispatch work = record {
  next = settled (applied m slot p e) slot e.end;
  report = record { id = p.id; slot = slot; dispatch = dispatch; work = work; touches = three_notes (made e.touches); printed = length e.printed; end = e.end };
  printed = e.printed;
  lacks = e.lacks;
}

-- two effects that agree, applied
agreed : (m : Machine) (k : Config) (d : Content) (slot : ℕ) (p : Process) (e f : Effect) (dispatch : Option Quantum) (u w : Work) → k ≡ record m.config { rule = k.rule } → w ≡ u → EffectsAgree e f
    → StepsAgree (made_step m slot p e dispatch u) (made_step (other_of m k d) slot p f dispatch w)
agreed m k d slot p e f dispatch u w config same h =
    subst (λ (g : Effect). StepsAgree (made_step m slot p e dispatch u) (made_step (other_of m k d) slot p g dispatch w)) (sym h.rest) (by f.content f.touches h.content)
  where
    n : Machine
    n = settled (applied m slot p e) slot e.end

    by : (x : Content) (t : List Note) → HaveSameStores e.content x → StepsAgree (made_step m slot p e dispatch u) (made_step (other_of m k d) slot p (record e { content = x; touches = t }) dispatch w)
    by x t c =
        let path : settled (applied (other_of m k d) slot p (record e { content = x; touches = t })) slot e.end ≡ other_of n k x =
        ap (λ (o : Machine). settled o slot e.end) (applied-other m k d slot p e x t) ∙ settled-other (applied m slot p e) k x slot e.end in
        record {
          next = subst (MachinesAgree n) (sym path) (record {
            rest = refl;
            config = config ∙ ap (λ (c : Config). record c { rule = k.rule }) (sym (settled-config (applied m slot p e) slot e.end ∙ applied-config m slot p e));
            stores = subst (λ (y : Content). HaveSameStores y x) (sym (settled-content (applied m slot p e) slot e.end ∙ applied-content m slot p e)) c;
          });
          report = ap (λ (work : Work). record { id = p.id; slot = slot; dispatch = dispatch; work = work; touches = three_notes (made t); printed = length e.printed; end = e.end }) same;
          printed = refl;
        }

module _ (agree : RulesAgree) (calls : RulesAgreeOnCalls) (instructions : RulesAgreeOnEffects) (k : Config) (d : Content) where
  -- what the report says of the work
  work-agree : (v : View) (p : Process) (c : Content) → v.process ≡ p → HaveSameStores c d → (state : State) → (effect_as v c state).lacks ≡ false → (effect_as v d state).lacks ≡ false
      → work_as p (instruction_of p d).word state ≡ work_as p (instruction_of p c).word state
  work-agree v p c is h Ready l n = rw (← is) (ap (λ (word : Option ℕ). work_as v.process word Ready)
      (instructions v.process.regs v.process.pcc c d v.process.region h (lack-is-said v (instruction_of v.process c) _ l) (lack-is-said v (instruction_of v.process d) _ n)).word)
  work-agree v p c is h InRead l n = refl
  work-agree v p c is h (InWrite done) l n = refl
  work-agree v p c is h InWait l n = refl
  work-agree v p c is h (Zombie status) l n = refl

  worked-agree : (m : Machine) (dispatch : Option Quantum) (slot : ℕ) (p : Process) → k ≡ record m.config { rule = k.rule } → HaveSameStores m.content d
      → (step_at m dispatch slot (Some p)).lacks ≡ false → (step_at (other_of m k d) dispatch slot (Some p)).lacks ≡ false
      → StepsAgree (step_at m dispatch slot (Some p)) (step_at (other_of m k d) dispatch slot (Some p))
  unfolding effect_of
  worked-agree m dispatch slot p config h =
      subst (λ (v : View). (effect_of (view_of m slot p) m.content).lacks ≡ false → (effect_of v d).lacks ≡ false
      → StepsAgree (step_at m dispatch slot (Some p)) (made_step (other_of m k d) slot p (effect_of v d) dispatch (work_as p (instruction_of p d).word p.state)))
      (sym (view-other m k d slot p (ap (λ (c : Config). c.regions) config)))
      (λ l n. agreed m k d slot p (effect_of (view_of m slot p) m.content) (effect_of (view_of m slot p) d) dispatch _ _ config (work-agree (view_of m slot p) p m.content refl h p.state l n)
      (effect-agree agree calls instructions (view_of m slot p) m.content d h l n))

  idle-agree : (m : Machine) → k ≡ record m.config { rule = k.rule } → HaveSameStores m.content d → StepsAgree (idle m) (idle (other_of m k d))
  idle-agree m config h = record { next = record { rest = refl; config = config; stores = h }; report = refl; printed = refl }

  step-in-agree : (m : Machine) (dispatch : Option Quantum) (slot : ℕ) → k ≡ record m.config { rule = k.rule } → HaveSameStores m.content d → (step_in m dispatch slot).lacks ≡ false → (step_in (other_of m k d) dispatch slot).lacks ≡ false
      → StepsAgree (step_in m dispatch slot) (step_in (other_of m k d) dispatch slot)
  unfolding step_in
  step-in-agree m dispatch slot config h = by (process_at m.processes slot)
    where
      by : (o : Option Process) → (step_at m dispatch slot o).lacks ≡ false → (step_at (other_of m k d) dispatch slot o).lacks ≡ false → StepsAgree (step_at m dispatch slot o) (step_at (other_of m k d) dispatch slot o)
      by None l n = idle-agree m config h
      by (Some p) l n = worked-agree m dispatch slot p config h l n

  step-agree-with : (m : Machine) → k ≡ record m.config { rule = k.rule } → HaveSameStores m.content d → (step_of m).lacks ≡ false → (step_of (other_of m k d)).lacks ≡ false → StepsAgree (step_of m) (step_of (other_of m k d))
  unfolding step_of
  step-agree-with m config h = by m.clock.current
    where
      by-slot : (o : Option ℕ) → (step_next m o).lacks ≡ false → (step_next (other_of m k d) o).lacks ≡ false → StepsAgree (step_next m o) (step_next (other_of m k d) o)
      by-slot None l n = idle-agree m config h
      by-slot (Some slot) l n = step-in-agree (dispatched m slot) (Some (quantum_of (head_of m.clock.rest))) slot config h l n

      by-next : (o : Option ℕ) → o ≡ next_ready m → (step_next m (next_ready m)).lacks ≡ false → (step_next (other_of m k d) o).lacks ≡ false → StepsAgree (step_next m (next_ready m)) (step_next (other_of m k d) o)
      by-next o same = subst (λ (x : Option ℕ). (step_next m (next_ready m)).lacks ≡ false → (step_next (other_of m k d) x).lacks ≡ false → StepsAgree (step_next m (next_ready m)) (step_next (other_of m k d) x))
          (sym same) (by-slot (next_ready m))

      by : (o : Option ℕ) → (step_from m o).lacks ≡ false → (step_from (other_of m k d) o).lacks ≡ false → StepsAgree (step_from m o) (step_from (other_of m k d) o)
      by None l n = by-next (next_ready (other_of m k d)) (next-other m k d) l n
      by (Some slot) l n = step-in-agree m None slot config h l n

-- The law of one step.
pub step-agree : RulesAgree → RulesAgreeOnCalls → RulesAgreeOnEffects → (m n : Machine) → MachinesAgree m n → (step_of m).lacks ≡ false → (step_of n).lacks ≡ false → StepsAgree (step_of m) (step_of n)
step-agree agree calls instructions m n a =
    subst (λ (x : Machine). (step_of m).lacks ≡ false → (step_of x).lacks ≡ false → StepsAgree (step_of m) (step_of x)) (sym a.rest)
    (step-agree-with agree calls instructions n.config n.content m a.config a.stores)
