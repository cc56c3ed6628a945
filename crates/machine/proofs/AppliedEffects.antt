-- An effect of one of the shapes that is applied keeps a machine steady.
use Rattle.std.proofs.Common.{◌≡◌, ◌≢◌, ◌∙◌, sym, ap, refl, ℕ, ◌+◌, ◌<◌, Option, Some, List, map, length, true, slice_set, subst}
use Rattle.std.proofs.lemmas.List.{length-set, length-map}
use Rattle.machine_types.specs.Stores.{changed}
use Rattle.contents.specs.Content.{Content}
use Rattle.contents.specs.Laws.{HasSameSetting}
use Rattle.machine.specs.declared.process.Process.{Process}
use Rattle.machine.specs.Processes.{process_at, is_live, orphaned, without_id, left_of}
use Rattle.machine.specs.Pipes.{Table, table_at, no_descriptors}
use Rattle.machine.specs.Machines.{Machine}
use Rattle.machine.specs.Effects.{Deed, Goes, Adds, Removes, Ends, Effect}
use Rattle.machine.specs.Applying.{or_old, with_own, done_by, applied}
use Rattle.machine.specs.Shape.{Slots, IsConfigured, ArePipes}
use Rattle.machine.specs.Steady.{AreSteady, IsSteady}
use Rattle.machine.specs.Shapes.{CanWork, IsEffect, IsDeed, EffectsStaySteady}
use Rattle.machine.proofs.SlotLists.{Tables, set-slot, set-table, map-slots, slot-within, changed-same, all-changed}
use Rattle.machine.proofs.PipeEnds.{given-pipes, swept-pipes}
use Rattle.machine.proofs.Ids.{slots_ended}
use Rattle.machine.proofs.Steadies.{Steady, own-steady, added-steady, removed-steady, ended-steady}

-- What holds over lists holds over functions,
as-functions : (at : Slots) (slots : ℕ) (tables : List Table) (c : Content) (n forks : ℕ) → AreSteady at slots tables c n forks → Steady at slots (table_at tables) c n forks
as-functions at slots tables c n forks s = record { content = s.content; fine = s.fine; ids = s.ids; stores = s.stores; calls = s.calls; each = s.described.each; none = s.described.none }

-- and what holds over functions holds over lists,
as-lists : (at : Slots) (slots : ℕ) (tables : List Table) (c : Content) (n forks : ℕ) → Steady at slots (table_at tables) c n forks → AreSteady at slots tables c n forks
as-lists at slots tables c n forks s = record { content = s.content; fine = s.fine; ids = s.ids; stores = s.stores; calls = s.calls; described = record { each = s.each; none = s.none } }

-- also where the lists read as these functions.
steady-lists : (processes : List (Option Process)) (slots : ℕ) (tables : List Table) (at : Slots) (tabs : Tables) (c : Content) (n forks : ℕ)
    → process_at processes ≡ at → table_at tables ≡ tabs → Steady at slots tabs c n forks → AreSteady (process_at processes) slots tables c n forks
steady-lists processes slots tables at tabs c n forks e f s =
    as-lists (process_at processes) slots tables c n forks
    (subst (λ (x : Slots). Steady x slots (table_at tables) c n forks) (sym e) (subst (λ (x : Tables). Steady at slots x c n forks) (sym f) s))

-- A slot of the processes is one of the tables.
pub table-within : (m : Machine) (slot : ℕ) → IsConfigured m → slot < length m.processes → slot < length m.tables
table-within m slot is low = rw (is.tables ∙ sym is.processes) low

-- The lists stay as long, and the setting stays.
done-configured : (m : Machine) (slot : ℕ) (p : Process) (e : Effect) → IsConfigured m → HasSameSetting m.content e.content → (deed : Deed) → IsConfigured (done_by (with_own m slot e) slot p deed)
done-configured m slot p e is same Goes =
    record { config = is.config; processes = length-set m.processes slot (Some e.process) ∙ is.processes; tables = is.tables; frames = same.frames ∙ is.frames; rule = same.rule ∙ is.rule }
done-configured m slot p e is same (Adds at child table) =
    record { config = is.config; processes = simp length-set is.processes; tables = length-set m.tables at table ∙ is.tables; frames = same.frames ∙ is.frames; rule = same.rule ∙ is.rule }
done-configured m slot p e is same (Removes id) =
    record { config = is.config; processes = simp (length-map, length-set) is.processes; tables = is.tables; frames = same.frames ∙ is.frames; rule = same.rule ∙ is.rule }
done-configured m slot p e is same (Ends status) =
    record { config = is.config; processes = simp (length-set, length-map) is.processes; tables = length-set m.tables slot no_descriptors ∙ is.tables; frames = same.frames ∙ is.frames; rule = same.rule ∙ is.rule }

-- The input is the effect's.
done-input : (m : Machine) (slot : ℕ) (p : Process) (e : Effect) (deed : Deed) → (done_by (with_own m slot e) slot p deed).input ≡ or_old m.input e.input
done-input m slot p e Goes = refl
done-input m slot p e (Adds at child table) = refl
done-input m slot p e (Removes id) = refl
done-input m slot p e (Ends status) = refl

module _ (m : Machine) (slot : ℕ) (p : Process) (e : Effect) (can : CanWork m slot p) (is : IsEffect m slot p e) where
  -- the slots, the descriptors and the number of regions before
  abbrev at : Slots
  at = process_at m.processes

  abbrev tabs : Tables
  tabs = table_at m.tables

  abbrev n : ℕ
  n = m.config.regions

  -- The slot is one of the list.
  within : slot < length m.processes
  within = slot-within m.processes slot p can.there

  -- the slots with the own process after its work
  own-processes : process_at (slice_set m.processes slot (Some e.process)) ≡ changed at slot (Some e.process)
  own-processes = set-slot m.processes slot (Some e.process) within

  -- the machine before, over functions
  before : Steady at m.config.slots tabs m.content n m.forks
  before = as-functions at m.config.slots m.tables m.content n m.forks can.steady.processes

  -- Processes, descriptors and content stay steady, for each deed.
  done-processes : (deed : Deed) → IsDeed m p e.process (tabs slot) e.content deed
      → let next = done_by (with_own m slot e) slot p deed in AreSteady (process_at next.processes) next.config.slots next.tables next.content next.config.regions next.forks
  done-processes Goes d = steady-lists _ m.config.slots m.tables (changed at slot (Some e.process)) tabs e.content n m.forks own-processes refl
      (own-steady at m.config.slots tabs m.content n m.forks slot p can.there can.live e d.kept d.others is.content before)
  done-processes (Adds k0 child table) d = steady-lists _ m.config.slots _ (changed (changed at slot (Some e.process)) k0 (Some child)) (changed tabs k0 table) e.content n (m.forks + 1)
      (set-slot (slice_set m.processes slot (Some e.process)) k0 (Some child) (simp length-set d.slot_is) ∙ ap (λ (x : Slots). changed x k0 (Some child)) own-processes)
      (set-table m.tables k0 table (table-within m k0 can.steady.configured d.slot_is))
      (added-steady at m.config.slots tabs m.content n m.forks slot p can.there can.live e d.kept k0 child table d.given_is d.none d.id d.parent d.region d.apart d.within d.process d.ready d.store d.others is.content before)
  done-processes (Removes id) d = steady-lists _ m.config.slots m.tables (λ k. without_id id (changed at slot (Some e.process) k)) tabs e.content n m.forks
      (map-slots (without_id id) refl (slice_set m.processes slot (Some e.process)) ∙ ap {B = Slots} (λ (x : Slots) (k : ℕ). without_id id (x k)) own-processes)
      refl
      (removed-steady (changed at slot (Some e.process)) m.config.slots tabs e.content n m.forks id
      (all-changed (λ k q. is_live q.state ≡ true → q.id ≢ id) at slot (Some e.process) (λ k q other here. d.none k q here)
      (λ q f l. subst (λ (q : Process). q.id ≢ id) (let g : e.process ≡ q = cc in g) (rw d.kept.same.id (d.none slot p can.there can.live))))
      (own-steady at m.config.slots tabs m.content n m.forks slot p can.there can.live e d.kept d.others is.content before))
  done-processes (Ends status) d = steady-lists _ m.config.slots _ (slots_ended at slot p status) (changed tabs slot no_descriptors) e.content n m.forks
      (set-slot (map (orphaned p.id) (slice_set m.processes slot (Some e.process))) slot (left_of p status) (simp (length-map, length-set) within)
      ∙ ap (λ (x : Slots). changed x slot (left_of p status)) (map-slots (orphaned p.id) refl (slice_set m.processes slot (Some e.process))
      ∙ ap {B = Slots} (λ (x : Slots) (k : ℕ). orphaned p.id (x k)) (own-processes ∙ changed-same at slot (Some e.process) (rw d.same can.there))))
      (set-table m.tables slot no_descriptors (table-within m slot can.steady.configured within))
      (ended-steady at m.config.slots tabs m.content e.content n m.forks slot status p d.small can.there can.live d.others d.gone is.content before)

  -- Pipes lose no end but where the process ends, and then they are swept.
  done-pipes : (deed : Deed) → IsDeed m p e.process (tabs slot) e.content deed → let next = done_by (with_own m slot e) slot p deed in ArePipes next.tables next.pipes
  done-pipes Goes d = can.steady.pipes
  done-pipes (Adds k0 child table) d =
      let low : k0 < m.config.slots = rw (← can.steady.configured.processes) d.slot_is in
      given-pipes m.tables k0 table m.pipes (table-within m k0 can.steady.configured d.slot_is) (before.none k0 low (rw d.none refl)) can.steady.pipes
  done-pipes (Removes id) d = can.steady.pipes
  done-pipes (Ends status) d = swept-pipes m.tables (slice_set m.tables slot no_descriptors) m.pipes can.steady.pipes

  -- All parts together.
  applied-steady : IsSteady (applied m slot p e)
  unfolding applied
  applied-steady = record {
    configured = done-configured m slot p e can.steady.configured is.setting e.deed;
    processes = done-processes e.deed is.deed;
    pipes = done-pipes e.deed is.deed;
    input = rw (done-input m slot p e e.deed) is.input;
  }

-- so for each effect
pub effects-steady : EffectsStaySteady
effects-steady = applied-steady
