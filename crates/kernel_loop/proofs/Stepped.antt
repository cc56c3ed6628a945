-- A step: the slot that works, its work, the marks, and the clock.
use Rattle.std.proofs.Props.{props}
use Rattle.std.proofs.Common.{◌≡◌, ◌≢◌, ◌∙◌, sym, ap, refl, subst, ℕ, ◌+◌, ◌^◌, ◌<◌, ◌≤◌, ◌⊎◌, inl, inr, nat_eq, ◌||◌, not, cond, Bool, true, false, Option, Some, None, List, [], length, take, drop, get_or, slice_set, arith}
use Rattle.std.proofs.Math.Bool.{Bool-set}
use Rattle.std.proofs.Math.Bridge.{le_prop}
use Rattle.std.proofs.Math.Logic.{∥∥₁_elim, ∥∥₁_map}
use Rattle.std.proofs.lemmas.Bool.{cases_order}
use Rattle.std.proofs.lemmas.Bool.Decides.{eqb_tells}
use Rattle.std.proofs.lemmas.List.Elements.{All-get_or}
use Rattle.std.proofs.lemmas.List.{get_or_past, length-set, length-take, length-map}
use Rattle.contents.specs.Content.{Content}
use Rattle.contents.specs.Numbers.{most_transfer}
use Rattle.machine_types.specs.declared.config.Config.{Config}
use Rattle.machine_types.specs.declared.touches.Note.{Note}
use Rattle.machine.specs.declared.process.Process.{Process}
use Rattle.machine.specs.declared.process.Target.{Target}
use Rattle.machine.specs.declared.process.Target.TheVariants.{ConsoleIn, ConsoleOut, PipeRead, PipeWrite}
use Rattle.machine.specs.declared.report.Quantum.{Quantum}
use Rattle.machine.specs.declared.report.StepReport.{StepReport}
use Rattle.machine.specs.declared.report.Work.{Work}
use Rattle.machine.specs.declared.report.WorkEnd.{WorkEnd}
use Rattle.machine.specs.Numbers.{pipe_count}
use Rattle.machine.specs.Processes.{process_at, lives}
use Rattle.machine.specs.Pipes.{Table, table_at, target}
use Rattle.machine.specs.Machines.{Clock, Machine, view_of}
use Rattle.machine.specs.Readiness.{is_ready, next_ready}
use Rattle.machine.specs.Effects.{Deed, Goes, Adds, Removes, Ends, Effect}
use Rattle.machine.specs.Applying.{applied, done_by, with_own, dispatched, head_of, quantum_of, less_one, is_spent, is_yield, stops, settled_as, settled}
use Rattle.machine.specs.Shape.{IsTarget, IsMachine}
use Rattle.machine_steps.specs.Works.{effect_of, work_of}
use Rattle.machine_steps.specs.Steps.{Step, made, three_notes, step_at, step_in, step_next, step_from, step_of, stepped}
use Rattle.machine_steps.specs.Laws.{MayStep, DispatchesAreNext, MachinesStayMachines}
use Rattle.pipe_files.specs.Counts.{IsNamed}
use Rattle.trap_syscalls.specs.declared.world.World.{World}
use Rattle.trap_syscalls.specs.Worlds.{IsWorldOf, IsPlanOf, IsLiveAt, SomeWorld}
use Rattle.trap_syscalls.proofs.WaitedWorlds.{IsThere, live-some}
use Rattle.kernel_loop.specs.declared.stepping.Core.{Core}
use Rattle.kernel_loop.specs.declared.work.Worked.{Worked}
use Rattle.kernel_loop.specs.Working.{MayWork, HasWorked}
use Rattle.kernel_loop.specs.Marks.{HasParts, AreNamed, IsRemarked, AreMarked, changes_others, marks_others, MarksOthers}
use Rattle.kernel_loop.specs.Stands.{machine_of, CoreStands, IsKept, SomeMachine, CanStep, picked_from, picked, slot_from, HasPicked}
use Rattle.kernel_loop.proofs.Props.{IsKept-prop, IsNamed-prop}
use Rattle.kernel_loop.proofs.Quiet.{effect-quiet, applied-ready}
use Rattle.kernel_loop.proofs.ReadyParts.{ready-parts}
use Rattle.kernel_loop.proofs.Picking.{core-kept}

-- A machine is what a kernel is with its content, where all else is equal.
pub machine-is : {S : Type 0} (n : Machine) (k : Core S) → n.config ≡ k.config → n.processes ≡ k.world.processes.processes → n.tables ≡ k.world.files.tables → n.pipes ≡ k.world.files.pipes
    → n.input ≡ drop k.world.taken k.world.input.items → n.forks ≡ k.world.forks → n.clock ≡ k.clock → n ≡ machine_of k n.content
machine-is n k config processes tables pipes input forks clock =
    ap (λ (x : Config). record n { config = x }) config
    ∙ ap (λ (x : List (Option Process)). record n { config = k.config; processes = x }) processes
    ∙ ap (λ (x : List Table). record n { config = k.config; processes = k.world.processes.processes; tables = x }) tables
    ∙ ap (λ (x : List (List ℕ)). record n { config = k.config; processes = k.world.processes.processes; tables = k.world.files.tables; pipes = x }) pipes
    ∙ ap (λ (x : List ℕ). record (machine_of k n.content) { input = x; forks = n.forks; clock = n.clock }) input
    ∙ ap (λ (x : ℕ). record (machine_of k n.content) { forks = x; clock = n.clock }) forks
    ∙ ap (λ (x : Clock). record (machine_of k n.content) { clock = x }) clock

-- its world is that of the machine
pub world-of : {S : Type 0} (stands_for : S → Content → Type 0) (k : Core S) (m : Machine) → CoreStands stands_for k m → IsKept k → IsWorldOf m k.world
world-of stands_for k m stands kept = subst (λ (n : Machine). IsWorldOf n k.world) (sym stands.is) (record {
  processes = refl;
  tables = refl;
  pipes = refl;
  input = refl;
  forks = refl;
  plan = kept.plan;
  taken = kept.taken;
  buffer = kept.buffer;
})

-- a dispatch changes the clock alone
unpicked-world : (m : Machine) (current next : Option ℕ) (w : World) → IsWorldOf (picked_from m current next) w → IsWorldOf m w
unpicked-world m None None w is = is
unpicked-world m None (Some slot) w is = record { processes = is.processes; tables = is.tables; pipes = is.pipes; input = is.input; forks = is.forks; plan = is.plan; taken = is.taken; buffer = is.buffer }
unpicked-world m (Some slot) next w is = is

picked-content : (m : Machine) (current next : Option ℕ) → (picked_from m current next).content ≡ m.content
picked-content m None None = refl
picked-content m None (Some slot) = refl
picked-content m (Some slot) next = refl

picked-steps : (m : Machine) (current next : Option ℕ) → (picked_from m current next).clock.steps ≡ m.clock.steps
picked-steps m None None = refl
picked-steps m None (Some slot) = refl
picked-steps m (Some slot) next = refl

clocked-kept : {S : Type 0} (k : Core S) (clock : Clock) → IsKept k → IsKept (record k { clock = clock })
clocked-kept k clock kept = record {
  plan = kept.plan;
  taken = kept.taken;
  buffer = kept.buffer;
  printed = kept.printed;
  long = kept.long;
  marks = λ c slot low. kept.marks c slot low ∙ ready-parts (machine_of k c) (machine_of (record k { clock = clock }) c) slot refl refl refl;
}

-- the slot that was told is the one that works
told-slot : (current next : Option ℕ) (told : ℕ × Option Quantum) (slot : ℕ) → slot_from current next told → (current ≡ Some slot) ⊎ ((current ≡ None) × (next ≡ Some slot)) → told.0 ≡ slot
told-slot None None told slot is works = absurd is
told-slot None (Some k) told slot is (inl works) = absurd (cc)
told-slot None (Some k) told slot is (inr works) = is ∙ (let a = works.1 in cc)
told-slot (Some k) next told slot is (inl works) = ap (λ (t : ℕ × Option Quantum). t.0) is ∙ (let a = works in cc)
told-slot (Some k) next told slot is (inr works) = absurd (let a = works.0 in cc)

-- a step is the work of that slot, after the dispatch that was told
step-told : (m : Machine) (told : ℕ × Option Quantum) (current : Option ℕ) → slot_from current (next_ready m) told → (current ≡ None → told.1 ≡ Some (quantum_of (head_of m.clock.rest))) → step_from m current ≡ step_in (picked_from m current (next_ready m)) told.1 told.0
step-told m told (Some slot) is quantum = ap (λ (t : ℕ × Option Quantum). step_in m t.1 t.0) (sym is)
step-told m told None is quantum = by (next_ready m) is
  where
    by : (next : Option ℕ) → slot_from None next told → step_next m next ≡ step_in (picked_from m None next) told.1 told.0
    by None is = absurd is
    by (Some slot) is = ap (λ (d : Option Quantum). step_in (dispatched m slot) d slot) (sym (quantum refl)) ∙ ap (step_in (dispatched m slot) told.1) (sym is)

step-works : (m : Machine) (dispatch : Option Quantum) (slot : ℕ) (p : Process) → process_at m.processes slot ≡ Some p → step_in m dispatch slot ≡ stepped m dispatch slot p (effect_of (view_of m slot p) m.content)
unfolding step_in
step-works m dispatch slot p there = ap (step_at m dispatch slot) there

-- What is applied changes neither the configuration nor the clock, and has the effect's content and as many slots.
applied-config : (m : Machine) (slot : ℕ) (p : Process) (e : Effect) → (applied m slot p e).config ≡ m.config
unfolding applied
applied-config m slot p e = by e.deed
  where
    by : (d : Deed) → (done_by (with_own m slot e) slot p d).config ≡ m.config
    by Goes = refl
    by (Adds at child table) = refl
    by (Removes id) = refl
    by (Ends status) = refl

applied-clock : (m : Machine) (slot : ℕ) (p : Process) (e : Effect) → (applied m slot p e).clock ≡ m.clock
unfolding applied
applied-clock m slot p e = by e.deed
  where
    by : (d : Deed) → (done_by (with_own m slot e) slot p d).clock ≡ m.clock
    by Goes = refl
    by (Adds at child table) = refl
    by (Removes id) = refl
    by (Ends status) = refl

applied-content : (m : Machine) (slot : ℕ) (p : Process) (e : Effect) → (applied m slot p e).content ≡ e.content
unfolding applied
applied-content m slot p e = by e.deed
  where
    by : (d : Deed) → (done_by (with_own m slot e) slot p d).content ≡ e.content
    by Goes = refl
    by (Adds at child table) = refl
    by (Removes id) = refl
    by (Ends status) = refl

applied-long : (m : Machine) (slot : ℕ) (p : Process) (e : Effect) → length (applied m slot p e).processes ≡ length m.processes
unfolding applied
applied-long m slot p e = by e.deed
  where
    own : length (slice_set m.processes slot (Some e.process)) ≡ length m.processes
    own = length-set m.processes slot (Some e.process)

    by : (d : Deed) → length (done_by (with_own m slot e) slot p d).processes ≡ length m.processes
    by Goes = own
    by (Adds at child table) = length-set (slice_set m.processes slot (Some e.process)) at (Some child) ∙ own
    by (Removes id) = length-map (slice_set m.processes slot (Some e.process)) _ ∙ own
    by (Ends status) = length-set _ slot _ ∙ length-map (slice_set m.processes slot (Some e.process)) _ ∙ own

-- a machine that settled has all but its clock as it had
settled-parts : (m : Machine) (b : Bool) (w : World) → IsWorldOf m w → IsWorldOf (settled_as m b) w
settled-parts m true w is = record { processes = is.processes; tables = is.tables; pipes = is.pipes; input = is.input; forks = is.forks; plan = is.plan; taken = is.taken; buffer = is.buffer }
settled-parts m false w is = record { processes = is.processes; tables = is.tables; pipes = is.pipes; input = is.input; forks = is.forks; plan = is.plan; taken = is.taken; buffer = is.buffer }

settled-config : (m : Machine) (b : Bool) → (settled_as m b).config ≡ m.config
settled-config m true = refl
settled-config m false = refl

settled-content : (m : Machine) (b : Bool) → (settled_as m b).content ≡ m.content
settled-content m true = refl
settled-content m false = refl

abbrev clock_after : Clock → Bool → Clock
clock_after t b = cond b (record t { steps = t.steps + 1; current = None; quantum = None }) (record t { steps = t.steps + 1; quantum = less_one t.quantum })

settled-clock : (m : Machine) (b : Bool) → (settled_as m b).clock ≡ clock_after m.clock b
settled-clock m true = refl
settled-clock m false = refl

settles : (m : Machine) (slot : ℕ) (end : WorkEnd) (b : Bool) → stops m slot end ≡ b → settled m slot end ≡ settled_as m b
unfolding settled
settles m slot end b is = ap (settled_as m) is

-- the descriptors of a machine name pipes that there are
is-named : (o : Option Target) → IsTarget o → IsNamed pipe_count o
is-named None is = is
is-named (Some ConsoleIn) is = is
is-named (Some ConsoleOut) is = is
is-named (Some (PipeRead k)) is = is
is-named (Some (PipeWrite k)) is = is

target-named : (m : Machine) → IsMachine m → (slot fd : ℕ) → IsNamed pipe_count (target (table_at m.tables slot) fd)
target-named m is slot fd = is-named (target (table_at m.tables slot) fd) (by (cases_order slot m.config.slots))
  where
    count : length m.tables ≡ m.config.slots
    count = is.configured.tables

    low : slot < m.config.slots → IsTarget (target (table_at m.tables slot) fd)
    low inside = in-table (cases_order fd (length (table_at m.tables slot)))
      where
        past : length (table_at m.tables slot) ≤ fd → IsTarget (target (table_at m.tables slot) fd)
        past beyond = subst IsTarget (sym (get_or_past (table_at m.tables slot) fd None beyond)) tt

        in-table : (fd ≡ length (table_at m.tables slot)) ⊎ ((fd < length (table_at m.tables slot)) ⊎ (length (table_at m.tables slot) < fd)) → IsTarget (target (table_at m.tables slot) fd)
        in-table (inl e) = past (omega arith)
        in-table (inr (inl inner)) = All-get_or IsTarget (table_at m.tables slot) fd None inner ((is.tables.each slot inside).targets)
        in-table (inr (inr outer)) = past (omega arith)

    beyond : m.config.slots ≤ slot → IsTarget (target (table_at m.tables slot) fd)
    beyond past = subst (λ (t : Table). IsTarget (target t fd)) (sym (get_or_past m.tables slot [] (omega (arith, count)))) tt

    by : (slot ≡ m.config.slots) ⊎ ((slot < m.config.slots) ⊎ (m.config.slots < slot)) → IsTarget (target (table_at m.tables slot) fd)
    by (inl e) = beyond (omega arith)
    by (inr (inl inside)) = low inside
    by (inr (inr past)) = beyond (omega arith)

-- a live process is in one of the slots
slot-inside : (os : List (Option Process)) (slot : ℕ) → lives (process_at os slot) ≡ true → slot < length os
slot-inside os slot live = by (cases_order slot (length os))
  where
    past : length os ≤ slot → slot < length os
    past beyond = absurd (let none = get_or_past os slot None beyond in let a = live in cc)

    by : (slot ≡ length os) ⊎ ((slot < length os) ⊎ (length os < slot)) → slot < length os
    by (inl e) = past (omega arith)
    by (inr (inl low)) = low
    by (inr (inr high)) = past (omega arith)

-- a world whose marks were written is still that of the machine
remarked-world : (n : Machine) (a b : World) → IsRemarked a b → IsWorldOf n a → IsWorldOf n b
remarked-world n a b same is = subst (IsWorldOf n) (sym same) (record {
  processes = is.processes;
  tables = is.tables;
  pipes = is.pipes;
  input = is.input;
  forks = is.forks;
  plan = is.plan;
  taken = is.taken;
  buffer = is.buffer;
})

-- the marks of other slots are right: they were written, or nothing changed for them
others-marked : (n : Machine) (b : Bool) (old : List Bool) (j : ℕ) → (b ≡ false → get_or old j false ≡ is_ready n j) → marks_others n b old j ≡ is_ready n j
others-marked n true old j still = refl
others-marked n false old j still = still refl

-- A machine that may step stands, and its slot was picked.
module _ {S : Type 0} (stands_for : S → Content → Type 0) (k k1 : Core S) (told : ℕ × Option Quantum) (can : ∥ SomeMachine stands_for k CanStep ∥₁)
    (picks : (m : Machine) → CoreStands stands_for k m → HasPicked m told (CoreStands stands_for k1)) (rest : k1 ≡ record k { clock = k1.clock })
    (next : DispatchesAreNext) where
  pub kept-still : IsKept k1
  kept-still = subst IsKept (sym rest) (clocked-kept k k1.clock (core-kept stands_for k can))

  may : (s : SomeMachine stands_for k CanStep) → MayStep s.machine
  may s = record { machine = s.is; sound = s.sound; steps = s.has.early }

  stands-still : (m : Machine) → CoreStands stands_for k m → CoreStands stands_for k1 (picked m)
  stands-still m stands = (picks m stands).stands_for

  world-still : (m : Machine) → CoreStands stands_for k m → IsWorldOf (picked m) k1.world
  world-still m stands = world-of stands_for k1 (picked m) (stands-still m stands) kept-still

  -- the process of the slot is live in each machine that may stand
  works-at : (s : SomeMachine stands_for k CanStep) → IsLiveAt told.0 s.machine
  works-at s =
      let w = next.works s.machine (may s) s.has.running in
      let d = next.dispatched s.machine w.0 (may s) w.1 in
      let same = told-slot s.machine.clock.current (next_ready s.machine) told w.0 (picks s.machine s.stands).slot w.1 in
      record { process = d.0; there = ap (process_at s.machine.processes) same ∙ d.1.there; live = d.1.live }

  pub forks-low : k1.world.forks < 2 ^ 62
  forks-low = ∥∥₁_elim can (hlevel le_prop) (λ (s : SomeMachine stands_for k CanStep).
      let made = s.sound.range.made in
      let early = s.has.early in
      let forks = (unpicked-world s.machine s.machine.clock.current (next_ready s.machine) k1.world (world-still s.machine s.stands)).forks in
      omega (arith, made, early, forks))

  pub may-work : ∥ SomeWorld stands_for k1.world k1.space (MayWork told.0) ∥₁
  may-work = ∥∥₁_map can (λ (s : SomeMachine stands_for k CanStep). record {
    machine = s.machine;
    is = s.is;
    sound = s.sound;
    has = works-at s;
    world = unpicked-world s.machine s.machine.clock.current (next_ready s.machine) k1.world (world-still s.machine s.stands);
    content = s.machine.content;
    stores = λ region. refl;
    stands = subst (stands_for k1.space) (picked-content s.machine s.machine.clock.current (next_ready s.machine)) (stands-still s.machine s.stands).space;
  })

  pub live : lives (process_at k1.world.processes.processes told.0) ≡ true
  live = ∥∥₁_elim can (hlevel Bool-set) (λ (s : SomeMachine stands_for k CanStep).
      let at = works-at s in
      let w = unpicked-world s.machine s.machine.clock.current (next_ready s.machine) k1.world (world-still s.machine s.stands) in
      ap (λ (os : List (Option Process)). lives (process_at os told.0)) (sym w.processes) ∙ ap lives at.there ∙ at.live)

  -- Its work was done.
  module _ (w2 : World) (u : S) (r : Worked)
      (worked : (m : Machine) (p : Process) → IsWorldOf m k1.world → stands_for k1.space m.content → process_at m.processes told.0 ≡ Some p → HasWorked m told.0 p (effect_of (view_of m told.0 p) m.content) r w2)
      (content : (m : Machine) (p : Process) → IsWorldOf m k1.world → stands_for k1.space m.content → process_at m.processes told.0 ≡ Some p → stands_for u (effect_of (view_of m told.0 p) m.content).content)
      (marks : w2.processes.marks ≡ k1.world.processes.marks) (machines : MachinesStayMachines) where
    abbrev here : IsThere (process_at k1.world.processes.processes told.0)
    here = live-some (process_at k1.world.processes.processes told.0) live

    abbrev p : Process
    p = here.process

    abbrev effect : Machine → Effect
    effect m = effect_of (view_of (picked m) told.0 p) (picked m).content

    abbrev after : Machine → Machine
    after m = applied (picked m) told.0 p (effect m)

    there : (m : Machine) → CoreStands stands_for k m → process_at (picked m).processes told.0 ≡ Some p
    there m stands = ap (λ (os : List (Option Process)). process_at os told.0) (world-still m stands).processes ∙ here.is

    done : (m : Machine) → CoreStands stands_for k m → HasWorked (picked m) told.0 p (effect m) r w2
    done m stands = worked (picked m) p (world-still m stands) (stands-still m stands).space (there m stands)

    step-is : (m : Machine) → CoreStands stands_for k m → step_of m ≡ stepped (picked m) told.1 told.0 p (effect m)
    unfolding step_of
    step-is m stands = step-told m told m.clock.current (picks m stands).slot (picks m stands).quantum ∙ step-works (picked m) told.1 told.0 p (there m stands)

    next-is : (m : Machine) → CoreStands stands_for k m → (step_of m).next ≡ settled_as (after m) (stops (after m) told.0 (effect m).end)
    next-is m stands = ap (λ (s : Step). s.next) (step-is m stands) ∙ settles (after m) told.0 (effect m).end (stops (after m) told.0 (effect m).end) refl

    next-world : (m : Machine) → CoreStands stands_for k m → IsWorldOf (step_of m).next w2
    next-world m stands = subst (λ (n : Machine). IsWorldOf n w2) (sym (next-is m stands)) (settled-parts (after m) (stops (after m) told.0 (effect m).end) w2 (done m stands).world)

    -- what the marks want
    long-as : (m : Machine) → CoreStands stands_for k m → length w2.processes.processes ≡ length k1.world.processes.processes
    long-as m stands =
        ap (λ (os : List (Option Process)). length os) (sym (done m stands).world.processes) ∙ applied-long (picked m) told.0 p (effect m)
        ∙ ap (λ (os : List (Option Process)). length os) (world-still m stands).processes

    long-still : length w2.processes.processes ≡ length k1.world.processes.processes
    long-still = ∥∥₁_elim can (hlevel props) (λ (s : SomeMachine stands_for k CanStep). long-as s.machine s.stands)

    pub slot-low : told.0 < length w2.processes.processes
    slot-low = let low = slot-inside k1.world.processes.processes told.0 live in let still = long-still in omega (arith, low, still)

    pub marks-long : length w2.processes.marks ≡ length w2.processes.processes
    marks-long = ap (λ (bs : List Bool). length bs) marks ∙ kept-still.long ∙ sym long-still

    pub are-named : AreNamed w2.files
    are-named = record {
      pipes = ∥∥₁_elim can (hlevel props) (λ (s : SomeMachine stands_for k CanStep).
          ap (λ (ps : List (List ℕ)). length ps) (sym (next-world s.machine s.stands).pipes) ∙ (machines s.machine (may s)).pipes.count);
      named = λ slot fd. ∥∥₁_elim can (IsNamed-prop pipe_count (target (table_at w2.files.tables slot) fd)) (λ (s : SomeMachine stands_for k CanStep).
          subst (λ (ts : List Table). IsNamed pipe_count (target (table_at ts slot) fd)) (next-world s.machine s.stands).tables (target-named (step_of s.machine).next (machines s.machine (may s)) slot fd));
    }

    pub steps-low : k1.clock.steps < 2 ^ 63
    steps-low = ∥∥₁_elim can (hlevel le_prop) (λ (s : SomeMachine stands_for k CanStep).
        let early = s.has.early in
        let same = picked-steps s.machine s.machine.clock.current (next_ready s.machine) in
        let clock = ap (λ (n : Machine). n.clock.steps) (stands-still s.machine s.stands).is in
        omega (arith, early, same, clock))

    -- The marks were written, and the clock settles.
    module _ (w3 : World) (t : Clock) (ready spent stop : Bool) (rest3 : IsRemarked w2 w3) (long : length w3.processes.marks ≡ length w2.processes.marks)
        (own : (m : Machine) → HasParts m w2 → get_or w3.processes.marks told.0 false ≡ is_ready m told.0)
        (others : (m : Machine) (j : ℕ) → HasParts m w2 → MarksOthers m w2.processes.marks w3.processes.marks told.0 r.end j)
        (ready-is : ready ≡ get_or w3.processes.marks told.0 false) (spent-is : spent ≡ is_spent k1.clock.quantum)
        (stop-is : stop ≡ (spent || (not ready || is_yield r.end))) (clock-is : t ≡ clock_after k1.clock stop) where
      abbrev pub k2 : Core S
      k2 = record { config = k1.config; world = w3; space = u; clock = t; printed = r.printed }

      parts : (m : Machine) → CoreStands stands_for k m → HasParts (after m) w2
      parts m stands = let w = (done m stands).world in record { processes = w.processes; tables = w.tables; pipes = w.pipes }

      stop-of : (m : Machine) → CoreStands stands_for k m → stops (after m) told.0 (effect m).end ≡ stop
      stop-of m stands =
          ap (λ (q : Option ℕ). is_spent q || (not (is_ready (after m) told.0) || is_yield (effect m).end)) quantum
          ∙ ap (λ (b : Bool). is_spent k1.clock.quantum || (not b || is_yield (effect m).end)) (sym (own (after m) (parts m stands)) ∙ sym ready-is)
          ∙ ap (λ (e : WorkEnd). is_spent k1.clock.quantum || (not ready || is_yield e)) (sym (done m stands).end)
          ∙ ap (λ (b : Bool). b || (not ready || is_yield r.end)) (sym spent-is)
          ∙ sym stop-is
        where
          quantum : (after m).clock.quantum ≡ k1.clock.quantum
          quantum = ap (λ (c : Clock). c.quantum) (applied-clock (picked m) told.0 p (effect m)) ∙ ap (λ (n : Machine). n.clock.quantum) (stands-still m stands).is

      settled-is : (m : Machine) → CoreStands stands_for k m → (step_of m).next ≡ settled_as (after m) stop
      settled-is m stands = next-is m stands ∙ ap (settled_as (after m)) (stop-of m stands)

      last-world : (m : Machine) → CoreStands stands_for k m → IsWorldOf (settled_as (after m) stop) w3
      last-world m stands = remarked-world (settled_as (after m) stop) w2 w3 rest3 (settled-parts (after m) stop w2 (done m stands).world)

      last-config : (m : Machine) → CoreStands stands_for k m → (settled_as (after m) stop).config ≡ k1.config
      last-config m stands = settled-config (after m) stop ∙ applied-config (picked m) told.0 p (effect m) ∙ ap (λ (n : Machine). n.config) (stands-still m stands).is

      last-clock : (m : Machine) → CoreStands stands_for k m → (settled_as (after m) stop).clock ≡ t
      last-clock m stands =
          settled-clock (after m) stop
          ∙ ap (λ (c : Clock). clock_after c stop) (applied-clock (picked m) told.0 p (effect m) ∙ ap (λ (n : Machine). n.clock) (stands-still m stands).is)
          ∙ sym clock-is

      -- it stands for the machine after the step
      pub next-stands : (m : Machine) → CoreStands stands_for k m → CoreStands stands_for k2 (step_of m).next
      next-stands m stands = subst (CoreStands stands_for k2) (sym (settled-is m stands)) (let w = last-world m stands in record {
        space = subst (stands_for u) (sym (settled-content (after m) stop ∙ applied-content (picked m) told.0 p (effect m))) (content (picked m) p (world-still m stands) (stands-still m stands).space (there m stands));
        is = machine-is (settled_as (after m) stop) k2 (last-config m stands) w.processes w.tables w.pipes w.input w.forks (last-clock m stands);
      })

      abbrev pub report-of : ℕ → Work → List Note → ℕ → WorkEnd → StepReport
      report-of id work touches printed end = record { id = id; slot = told.0; dispatch = told.1; work = work; touches = touches; printed = printed; end = end }

      -- its report is that of the step
      pub report-is : (m : Machine) → CoreStands stands_for k m → report-of r.id r.work r.touches r.printed r.end ≡ (step_of m).report
      report-is m stands =
          let d = done m stands in
          let e = effect m in
          ap (λ (x : ℕ). report-of x r.work r.touches r.printed r.end) d.id
          ∙ ap (λ (x : Work). report-of p.id x r.touches r.printed r.end) d.work
          ∙ ap (λ (x : List Note). report-of p.id (work_of p (picked m).content) x r.printed r.end) d.touches
          ∙ ap (λ (x : ℕ). report-of p.id (work_of p (picked m).content) (three_notes (made e.touches)) x r.end) d.printed
          ∙ ap (λ (x : WorkEnd). report-of p.id (work_of p (picked m).content) (three_notes (made e.touches)) (length e.printed) x) d.end
          ∙ ap (λ (s : Step). s.report) (sym (step-is m stands))

      pub piece-is : (m : Machine) → CoreStands stands_for k m → take r.printed w3.buffer.items ≡ (step_of m).printed
      piece-is m stands = ap (λ (w : World). take r.printed w.buffer.items) rest3 ∙ (done m stands).piece ∙ ap (λ (s : Step). s.printed) (sym (step-is m stands))

      -- what it keeps is right again
      ready-same : (m : Machine) → CoreStands stands_for k m → (c : Content) (j : ℕ) → is_ready (after m) j ≡ is_ready (machine_of k2 c) j
      ready-same m stands c j =
          let w = remarked-world (after m) w2 w3 rest3 (done m stands).world in
          ready-parts (after m) (machine_of k2 c) j w.processes w.tables w.pipes

      own-marked : (m : Machine) → CoreStands stands_for k m → (c : Content) → get_or w3.processes.marks told.0 false ≡ is_ready (machine_of k2 c) told.0
      own-marked m stands c = own (after m) (parts m stands) ∙ ready-same m stands c told.0

      long-last : length w3.processes.processes ≡ length w2.processes.processes
      long-last = ap (λ (w : World). length w.processes.processes) rest3

      -- where the work can't have changed it, each other is marked as before
      still-marked : (m : Machine) → CoreStands stands_for k m → (j : ℕ) → j < length w3.processes.processes → j ≢ told.0 → changes_others r.end ≡ false → get_or w2.processes.marks j false ≡ is_ready (after m) j
      still-marked m stands j low other calm =
          ap (λ (bs : List Bool). get_or bs j false) marks
          ∙ kept-still.marks (picked m).content j before
          ∙ ready-parts (machine_of k1 (picked m).content) (picked m) j (sym w.processes) (sym w.tables) (sym w.pipes)
          ∙ sym (applied-ready (picked m) told.0 j p (effect m) other (there m stands) here.live (effect-quiet (view_of (picked m) told.0 p) (picked m).content (ap changes_others (sym (done m stands).end) ∙ calm)))
        where
          w : IsWorldOf (picked m) k1.world
          w = world-still m stands

          before : j < length k1.world.processes.processes
          before = let a = long-still in let b = long-last in omega (arith, low, a, b)

      all-marked : (m : Machine) → CoreStands stands_for k m → (c : Content) → AreMarked (machine_of k2 c) w3.processes.marks
      all-marked m stands c j low = by (nat_eq j told.0) (eqb_tells j told.0)
        where
          after-long : length (after m).processes ≡ length w3.processes.processes
          after-long = ap (λ (os : List (Option Process)). length os) (parts m stands).processes ∙ sym long-last

          by : (b : Bool) → ((b ≡ true) × (j ≡ told.0)) ⊎ ((b ≡ false) × (j ≢ told.0)) → get_or w3.processes.marks j false ≡ is_ready (machine_of k2 c) j
          by b (inl h) = subst (λ (i : ℕ). get_or w3.processes.marks i false ≡ is_ready (machine_of k2 c) i) (sym h.1) (own-marked m stands c)
          by b (inr h) =
              others (after m) j (parts m stands) (let a = after-long in omega (arith, low, a)) h.1
              ∙ others-marked (after m) (changes_others r.end) w2.processes.marks j (still-marked m stands j low h.1)
              ∙ ready-same m stands c j

      short : (m : Machine) → CoreStands stands_for k m → r.printed ≤ most_transfer
      short m stands =
          let d = done m stands in
          let front = ap (λ (bs : List ℕ). length bs) d.piece in
          let all = length-take r.printed w2.buffer.items in
          let buffer = d.world.buffer in
          let told = d.printed in
          omega (arith, front, all, buffer, told)

      kept-of : (m : Machine) → CoreStands stands_for k m → IsKept k2
      kept-of m stands = let w = last-world m stands in record {
        plan = subst (λ (os : List (Option Process)). IsPlanOf k1.config.regions os w3.plan) w.processes
            (subst (λ (c : Config). IsPlanOf c.regions (settled_as (after m) stop).processes w3.plan) (last-config m stands) w.plan);
        taken = w.taken;
        buffer = w.buffer;
        printed = short m stands;
        long = long ∙ marks-long ∙ sym long-last;
        marks = all-marked m stands;
      }

      pub kept-again : IsKept k2
      kept-again = ∥∥₁_elim can (IsKept-prop k2) (λ (s : SomeMachine stands_for k CanStep). kept-of s.machine s.stands)
