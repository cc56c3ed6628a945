-- An effect of one of the shapes that is applied leaves every other live process.
use Rattle.std.proofs.Common.{◌≡◌, ◌≢◌, ◌∙◌, ap, refl, ℕ, ◌<◌, ◌==◌, ◌&&◌, Option, Some, None, List, map, length, true, slice_set}
use Rattle.std.proofs.lemmas.List.{length-set, length-map}
use Rattle.machine.specs.declared.process.Process.{Process}
use Rattle.machine.specs.Processes.{process_at, is_live, orphaned, without_id, left_of}
use Rattle.machine.specs.Pipes.{Table, table_at, no_descriptors}
use Rattle.machine.specs.Machines.{Machine}
use Rattle.machine.specs.Effects.{Deed, Goes, Adds, Removes, Ends, Effect}
use Rattle.machine.specs.Applying.{with_own, done_by, applied}
use Rattle.machine.specs.Shape.{Slots}
use Rattle.machine.specs.Shapes.{CanWork, IsEffect, IsDeed}
use Rattle.machine.specs.Isolation.{is_end, IsUntouched, EffectsLeaveOthers}
use Rattle.machine.proofs.SlotLists.{Tables, set-slot, set-table, map-slots, slot-within, changed-other}
use Rattle.machine.proofs.LeftProcesses.{orphaned-parted, without-keeps}
use Rattle.machine.proofs.AppliedEffects.{table-within}

-- a place of a list that another write leaves
slot-other : (processes : List (Option Process)) (slot k : ℕ) (x : Option Process) → slot < length processes → k ≢ slot → process_at (slice_set processes slot x) k ≡ process_at processes k
slot-other processes slot k x within other = ap (λ (f : Slots). f k) (set-slot processes slot x within) ∙ changed-other (process_at processes) slot k x other

-- and so for descriptors
table-other : (tables : List Table) (slot k : ℕ) (x : Table) → slot < length tables → k ≢ slot → table_at (slice_set tables slot x) k ≡ table_at tables k
table-other tables slot k x within other = ap (λ (f : Tables). f k) (set-table tables slot x within) ∙ changed-other (table_at tables) slot k x other

-- Another live process has another region, and is at no slot that is given to a child.
applied-untouched : (m : Machine) (slot : ℕ) (p : Process) (e : Effect) → CanWork m slot p → IsEffect m slot p e
    → (k : ℕ) (q : Process) → k ≢ slot → process_at m.processes k ≡ Some q → is_live q.state ≡ true → IsUntouched m (applied m slot p e) k q (is_end e.deed && (q.parent == p.id))
unfolding applied
applied-untouched m slot p e can is k q other here alive = by e.deed is.deed
  where
    within : slot < length m.processes
    within = slot-within m.processes slot p can.there

    apart : q.region ≢ p.region
    apart same = other (can.steady.processes.ids.regions k slot q p here can.there alive can.live same)

    own : process_at (slice_set m.processes slot (Some e.process)) k ≡ Some q
    own = slot-other m.processes slot k (Some e.process) within other ∙ here

    by : (deed : Deed) → IsDeed m p e.process (table_at m.tables slot) e.content deed → IsUntouched m (done_by (with_own m slot e) slot p deed) k q (is_end deed && (q.parent == p.id))
    by Goes d = record { process = own; table = refl; store = d.others q.region apart }
    by (Adds k0 child table) d = record {
      process = slot-other (slice_set m.processes slot (Some e.process)) k0 k (Some child) (simp length-set d.slot_is) new ∙ own;
      table = table-other m.tables k0 k table (table-within m k0 can.steady.configured d.slot_is) new;
      store = d.others q.region (d.apart k q here alive);
    }
      where
        new : k ≢ k0
        new same = let one : process_at m.processes k ≡ None = rw same d.none in cc
    by (Removes id) d = record {
      process = ap (λ (f : Slots). f k) (map-slots (without_id id) refl (slice_set m.processes slot (Some e.process))) ∙ ap (without_id id) own ∙ without-keeps id q (d.none k q here alive);
      table = refl;
      store = d.others q.region apart;
    }
    by (Ends status) d = record {
      process = slot-other (map (orphaned p.id) (slice_set m.processes slot (Some e.process))) slot k (left_of p status) (simp (length-map, length-set) within) other
          ∙ ap (λ (f : Slots). f k) (map-slots (orphaned p.id) refl (slice_set m.processes slot (Some e.process))) ∙ ap (orphaned p.id) own ∙ orphaned-parted p.id q alive;
      table = table-other m.tables slot k no_descriptors (table-within m slot can.steady.configured within) other;
      store = d.others q.region apart;
    }

-- so for each effect
pub effects-untouched : EffectsLeaveOthers
effects-untouched = applied-untouched
