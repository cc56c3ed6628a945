-- What a step makes of its own process depends on what that process may see alone.
use Rattle.std.proofs.Common.{◌≡◌, ◌≢◌, ◌∙◌, sym, ap, refl, ℕ, zero, suc, ◌+◌, ◌<◌, Option, Some, None, List, [], ◌∷◌, map, length, slice_set, subst, arith}
use Rattle.std.proofs.lemmas.List.{get_or-set_same, get_or-set_other, length-set, length-map}
use Rattle.machine_types.specs.declared.touches.Note.{Note}
use Rattle.contents.specs.Content.{Content}
use Rattle.contents.specs.Laws.{AreAlike, OwnStoreDecides}
use Rattle.cheri_step.specs.declared.step.StepEnd.{StepEnd}
use Rattle.cheri_step.specs.declared.step.StepEnd.TheVariants.{Next, Call, Fault}
use Rattle.cheri_step.specs.Effect.{state}
use Rattle.cheri_step.specs.Effect as instruction
use Rattle.cheri_step.specs.Laws.{OwnProcessDecides}
use Rattle.cheri_step.specs.Laws as cheri
use Rattle.machine.specs.declared.process.Process.{Process}
use Rattle.machine.specs.declared.process.State.{State}
use Rattle.machine.specs.declared.process.State.TheVariants.{Ready, InRead, InWrite, InWait, Zombie}
use Rattle.machine.specs.Processes.{process_at, orphaned, without_id, left_of}
use Rattle.machine.specs.Pipes.{Table, table_at, no_descriptors}
use Rattle.machine.specs.Machines.{Machine, View, view_of}
use Rattle.machine.specs.Effects.{Deed, Goes, Adds, Removes, Ends, Effect, ends}
use Rattle.machine.specs.Applying.{or_old, with_own, done_by, applied}
use Rattle.machine.specs.Isolation.{AreAlikeEffects, ViewsDecideCalls}
use Rattle.machine.specs.Scanning.{NextIsFirst, OutcomesAreExact}
use Rattle.machine.specs.Shape.{IsConfigured}
use Rattle.machine.specs.Shapes.{IsDeed}
use Rattle.machine.specs.Steady.{CutsAgree}
use Rattle.machine_steps.specs.Works.{instruction_of, instructed, effect_as, effect_of, work_as, work_of}
use Rattle.machine_steps.specs.Steps.{made, three_notes, Step, step_of}
use Rattle.machine_steps.specs.Laws.{MakeAlike, OwnViewDecides}
use Rattle.machine_steps.proofs.Clocks.{slot-within}
use Rattle.machine_steps.proofs.AppliedSteps.{EffectsAreShaped, IsWorked, effect_at, step-worked, can-work}

-- Effects.

-- with the same touches before
touched-alike : (region : ℕ) (e f : Effect) (note : Note) → AreAlikeEffects region e f → AreAlikeEffects region (record e { touches = note ∷ e.touches }) (record f { touches = note ∷ f.touches })
touched-alike region e f note h = record { rest = ap (λ (r : Effect). record r { touches = note ∷ r.touches }) h.rest; content = h.content }

-- an instruction that left another content
abbrev with_content : instruction.Effect → Content → instruction.Effect
with_content i d = record i { after = state i.after.registers i.after.pcc d }

-- what an instruction comes to
instructed-alike : OwnStoreDecides → ViewsDecideCalls → (v : View) (i : instruction.Effect) (d : Content) → AreAlike v.process.region i.after.content d → (end : StepEnd)
    → AreAlikeEffects v.process.region (instructed v i end) (instructed v (with_content i d) end)
unfolding ends
instructed-alike own calls v i d h Next = record { rest = refl; content = h }
instructed-alike own calls v i d h Call = touched-alike v.process.region _ _ i.fetched (calls v i.after.content d h)
instructed-alike own calls v i d h (Fault c) = record { rest = refl; content = own.end i.after.content d v.process.region h }

-- what a work comes to
pub effect-alike : OwnStoreDecides → ViewsDecideCalls → OwnProcessDecides → (v : View) (c d : Content) → AreAlike v.process.region c d → AreAlikeEffects v.process.region (effect_of v c) (effect_of v d)
unfolding effect_of
effect-alike own calls instructions v c d h = by v.process.state
  where
    i : instruction.Effect
    i = instruction_of v.process c

    by-rest : (j : instruction.Effect) → cheri.AreAlikeEffects v.process.region i j → AreAlikeEffects v.process.region (instructed v i i.end) (instructed v j j.end)
    by-rest j a = subst (λ (k : instruction.Effect). AreAlikeEffects v.process.region (instructed v i i.end) (instructed v k k.end)) (sym a.rest) (instructed-alike own calls v i j.after.content a.content i.end)

    by : (s : State) → AreAlikeEffects v.process.region (effect_as v c s) (effect_as v d s)
    by Ready = by-rest (instruction_of v.process d) (instructions v.process.regs v.process.pcc c d v.process.region h)
    by InRead = calls v c d h
    by (InWrite done) = calls v c d h
    by InWait = calls v c d h
    by (Zombie status) = calls v c d h

-- what the report says of the work
work-alike : OwnProcessDecides → (p : Process) (c d : Content) → AreAlike p.region c d → work_of p d ≡ work_of p c
work-alike instructions p c d h = by p.state
  where
    by : (s : State) → work_as p (instruction_of p d).word s ≡ work_as p (instruction_of p c).word s
    by Ready = ap (λ (i : instruction.Effect). work_as p i.word Ready) (instructions p.regs p.pcc c d p.region h).rest
    by InRead = refl
    by (InWrite done) = refl
    by InWait = refl
    by (Zombie status) = refl

-- Slots.

-- each slot is changed
mapped-slot : (f : Option Process → Option Process) → f None ≡ None → (processes : List (Option Process)) (k : ℕ) → process_at (map f processes) k ≡ f (process_at processes k)
mapped-slot f none [] k = sym none
mapped-slot f none (o ∷ processes) zero = refl
mapped-slot f none (o ∷ processes) (suc k) = mapped-slot f none processes k

-- Machines.

-- what two machines have of a slot and of a region is the same, and so are the input and the forks
record HaveAlike (m n : Machine) (slot region : ℕ) : Type 0 where
  pub process : process_at n.processes slot ≡ process_at m.processes slot
  pub table : table_at n.tables slot ≡ table_at m.tables slot
  pub content : AreAlike region m.content n.content
  pub input : n.input ≡ m.input
  pub forks : n.forks ≡ m.forks

-- a deed adds no process at this slot
abbrev AddsElsewhere : ℕ → Deed → Type 0
AddsElsewhere slot Goes = Unit {0}
AddsElsewhere slot (Adds at child table) = slot ≢ at
AddsElsewhere slot (Removes id) = Unit {0}
AddsElsewhere slot (Ends status) = Unit {0}

-- The shapes add one in a free slot.
adds-elsewhere : (m : Machine) (slot : ℕ) (p q : Process) (table : Table) (c : Content) → process_at m.processes slot ≡ Some p → (deed : Deed) → IsDeed m p q table c deed → AddsElsewhere slot deed
adds-elsewhere m slot p q table c there Goes is = tt
adds-elsewhere m slot p q table c there (Adds at child given) is = λ same. let none : process_at m.processes at ≡ None = is.none in absurd (cc)
adds-elsewhere m slot p q table c there (Removes id) is = tt
adds-elsewhere m slot p q table c there (Ends status) is = tt

-- the slot is one of the processes and one of the tables
record Holds (m : Machine) (slot : ℕ) : Type 0 where
  pub process : slot < length m.processes
  pub table : slot < length m.tables

-- one with a process is
holds-slot : (m : Machine) (slot : ℕ) (p : Process) → IsConfigured m → process_at m.processes slot ≡ Some p → Holds m slot
holds-slot m slot p is there = let within = slot-within m.processes slot p there in record { process = within; table = rw (is.tables, ← is.processes) within }

-- what the slot has after an effect
module _ (m : Machine) (slot : ℕ) (p : Process) (e : Effect) (holds : Holds m slot) where
  own-here : process_at (with_own m slot e).processes slot ≡ Some e.process
  own-here = get_or-set_same m.processes slot (Some e.process) None holds.process

  -- where another slot gets a process
  own-beside : (at : ℕ) (child : Process) → slot ≢ at → process_at (slice_set (with_own m slot e).processes at (Some child)) slot ≡ Some e.process
  own-beside at child apart = get_or-set_other (with_own m slot e).processes at slot (Some child) None apart ∙ own-here

  -- where one is removed
  own-without : (id : ℕ) → process_at (map (without_id id) (with_own m slot e).processes) slot ≡ without_id id (Some e.process)
  own-without id = mapped-slot (without_id id) refl (with_own m slot e).processes slot ∙ ap (without_id id) own-here

  -- where it ends
  own-ended : (status : ℕ) → process_at (slice_set (map (orphaned p.id) (with_own m slot e).processes) slot (left_of p status)) slot ≡ left_of p status
  own-ended status = get_or-set_same (map (orphaned p.id) (with_own m slot e).processes) slot (left_of p status) None (simp (length-map, length-set) holds.process)

-- two effects with alike contents, applied
applied-alike : (m n : Machine) (slot : ℕ) (p : Process) (e : Effect) (d : Content) (region : ℕ) → Holds m slot → Holds n slot
    → table_at n.tables slot ≡ table_at m.tables slot → n.input ≡ m.input → n.forks ≡ m.forks → AreAlike region e.content d → AddsElsewhere slot e.deed
    → HaveAlike (applied m slot p e) (applied n slot p (record e { content = d })) slot region
unfolding applied
applied-alike m n slot p e d region here there tables input forks h = by e.deed
  where
    inputs : or_old n.input e.input ≡ or_old m.input e.input
    inputs = ap (λ (x : List ℕ). or_old x e.input) input

    by : (deed : Deed) → AddsElsewhere slot deed → HaveAlike (done_by (with_own m slot e) slot p deed) (done_by (with_own n slot (record e { content = d })) slot p deed) slot region
    by Goes apart = record { process = own-here n slot p e there ∙ sym (own-here m slot p e here); table = tables; content = h; input = inputs; forks = forks }
    by (Adds at child given) apart = record {
      process = own-beside n slot p e there at child apart ∙ sym (own-beside m slot p e here at child apart);
      table = get_or-set_other n.tables at slot given [] apart ∙ tables ∙ sym (get_or-set_other m.tables at slot given [] apart);
      content = h;
      input = inputs;
      forks = ap (λ (k : ℕ). k + 1) forks;
    }
    by (Removes id) apart = record { process = own-without n slot p e there id ∙ sym (own-without m slot p e here id); table = tables; content = h; input = inputs; forks = forks }
    by (Ends status) apart = record {
      process = own-ended n slot p e there status ∙ sym (own-ended m slot p e here status);
      table = get_or-set_same n.tables slot no_descriptors [] there.table ∙ sym (get_or-set_same m.tables slot no_descriptors [] here.table);
      content = h;
      input = inputs;
      forks = forks;
    }

-- Steps.

-- alike contents, by other names
alike-same : (region : ℕ) (c d x y : Content) → x ≡ c → y ≡ d → AreAlike region c d → AreAlike region x y
alike-same region c d x y same is h = rw (same, is) h

-- two steps that made alike effects
steps-alike : (m n : Machine) (slot : ℕ) (p : Process) (e f : Effect) (s t : Step) → IsWorked m slot p e s → IsWorked n slot p f t → AreAlikeEffects p.region e f → work_of p n.content ≡ work_of p m.content
    → HaveAlike (applied m slot p e) (applied n slot p f) slot p.region → MakeAlike s t slot p.region
steps-alike m n slot p e f s t a b alike work h = record {
  process = ap at b.next.processes ∙ h.process ∙ sym (ap at a.next.processes);
  table = ap table b.next.tables ∙ h.table ∙ sym (ap table a.next.tables);
  content = alike-same p.region _ _ _ _ a.next.content b.next.content h.content;
  input = b.next.input ∙ h.input ∙ sym a.next.input;
  forks = b.next.forks ∙ h.forks ∙ sym a.next.forks;
  printed = b.printed ∙ ap (λ (g : Effect). g.printed) alike.rest ∙ sym a.printed;
  work = b.work ∙ work ∙ sym a.work;
  touches = b.touches ∙ ap (λ (g : Effect). three_notes (made g.touches)) alike.rest ∙ sym a.touches;
  end = b.end ∙ ap (λ (g : Effect). g.end) alike.rest ∙ sym a.end;
}
  where
    at : List (Option Process) → Option Process
    at processes = process_at processes slot

    table : List Table → Table
    table tables = table_at tables slot

pub step-alike : CutsAgree → NextIsFirst → OutcomesAreExact → EffectsAreShaped → OwnStoreDecides → ViewsDecideCalls → OwnProcessDecides → OwnViewDecides
step-alike cuts first outcomes shaped own calls instructions m n slot p may also works too see =
    let v : View = view_of m slot p in
    let e : Effect = effect_at m slot p in
    let f : Effect = effect_at n slot p in
    let same : f ≡ effect_of v n.content = ap (λ (w : View). effect_of w n.content) see.view in
    let alike : AreAlikeEffects p.region e f = subst (AreAlikeEffects p.region e) (sym same) (effect-alike own calls instructions v m.content n.content see.content) in
    let is = shaped m slot p (can-work cuts first outcomes m slot p may works see.first) in
    let h : HaveAlike (applied m slot p e) (applied n slot p (record e { content = f.content })) slot p.region =
    applied-alike m n slot p e f.content p.region (holds-slot m slot p may.machine.configured see.first) (holds-slot n slot p also.machine.configured see.second)
    (ap (λ (w : View). w.table) see.view) (ap (λ (w : View). w.input) see.view) (ap (λ (w : View). w.forks) see.view) alike.content (adds-elsewhere m slot p e.process _ e.content see.first e.deed is.deed) in
    steps-alike m n slot p e f (step_of m) (step_of n) (step-worked m slot p works see.first) (step-worked n slot p too see.second) alike (work-alike instructions p m.content n.content see.content)
    (subst (λ (g : Effect). HaveAlike (applied m slot p e) (applied n slot p g) slot p.region) (sym alike.rest) h)
