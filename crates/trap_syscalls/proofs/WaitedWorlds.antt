-- The world after a wait that found a Zombie child.
use Rattle.std.proofs.Common.{◌≡◌, ◌≢◌, ◌∙◌, sym, ap, refl, ℕ, zero, suc, nat_eq, ◌||◌, ◌⊎◌, inl, inr, cond, Bool, true, false, Option, Some, None, List, [], ◌∷◌, map, slice_set}
use Rattle.std.proofs.lemmas.Bool.Decides.{eqb_tells}
use Rattle.std.proofs.lemmas.List.{map-set}
use Rattle.std.specs.List.{list_any}
use Rattle.contents.specs.Content.{Content}
use Rattle.machine.specs.declared.process.Process.{Process}
use Rattle.machine_types.specs.declared.errno.Errno.TheVariants.{Echild}
use Rattle.machine.specs.declared.process.State.TheVariants.{InWait}
use Rattle.machine.specs.Processes.{process_at, is_live, lives, lives_in, is_child, children_of, Ended, first_ended, without_id}
use Rattle.machine.specs.Scanning.{ChildrenAreFound}
use Rattle.machine.specs.Effects.{waits, refuses}
use Rattle.machine.specs.Machines.{Machine, view_of}
use Rattle.machine.specs.Calls.{reaped, row_wait}
use Rattle.machine.specs.Applying.{applied}
use Rattle.process_table.specs.Tables as table
use Rattle.process_table.specs.Tables.{Table, with_slot}
use Rattle.trap_syscalls.specs.declared.world.World.{World}
use Rattle.trap_syscalls.specs.Asked.{with_answer, with_second}
use Rattle.trap_syscalls.specs.Worlds.{IsWorldOf}
use Rattle.trap_syscalls.proofs.GoingWorlds.{any-written, lives-same, caller-there}

-- a slot with a live process has one
pub record IsThere (o : Option Process) : Type 0 where
  pub process : Process
  pub is : o ≡ Some process
  pub live : is_live process.state ≡ true

pub live-some : (o : Option Process) → lives o ≡ true → IsThere o
live-some None live = absurd (cc)
live-some (Some p) live = record { process = p; is = refl; live = live }

-- a test finds as much where each element was changed so that it can't tell
any-mapped : (f : Option Process → Bool) (g : Option Process → Option Process) (os : List (Option Process)) → ((k : ℕ) → f (g (process_at os k)) ≡ f (process_at os k)) → list_any f (map g os) ≡ list_any f os
any-mapped f g [] same = refl
any-mapped f g (a ∷ os) same = ap (λ (b : Bool). b || list_any f (map g os)) (same 0) ∙ ap (λ (b : Bool). f a || b) (any-mapped f g os (λ k. same (suc k)))

-- none lives at an id that no live process has
none-lives : (id : ℕ) (o : Option Process) (region : ℕ) → ((q : Process) → o ≡ Some q → q.id ≡ id → is_live q.state ≡ false) → lives_in region (without_id id o) ≡ lives_in region o
none-lives id None region dead = refl
none-lives id (Some q) region dead = by (nat_eq q.id id) (eqb_tells q.id id)
  where
    by : (b : Bool) → ((b ≡ true) × (q.id ≡ id)) ⊎ ((b ≡ false) × (q.id ≢ id)) → lives_in region (cond b None (Some q)) ≡ lives_in region (Some q)
    by b (inl h) = rw (h.0, dead q refl h.1) refl
    by b (inr h) = rw h.0 refl

-- a process of another id is not removed
pub other-stays : (id : ℕ) (q : Process) → q.id ≢ id → without_id id (Some q) ≡ Some q
other-stays id q other = by (nat_eq q.id id) (eqb_tells q.id id)
  where
    by : (b : Bool) → ((b ≡ true) × (q.id ≡ id)) ⊎ ((b ≡ false) × (q.id ≢ id)) → cond b None (Some q) ≡ Some q
    by b (inl h) = absurd (other h.1)
    by b (inr h) = rw h.0 refl

-- the slots after a Zombie of an id is removed
pub without-at : (id : ℕ) (os : List (Option Process)) (k : ℕ) → process_at (map (without_id id) os) k ≡ without_id id (process_at os k)
without-at id [] k = refl
without-at id (o ∷ os) zero = refl
without-at id (o ∷ os) (suc k) = without-at id os k

-- the world where a Zombie was removed and the process of a slot has its id and its status
pub waited : (m : Machine) (w : World) (slot : ℕ) (p : Process) (c : Content) (child : Ended) (t : Table) → IsWorldOf m w → process_at m.processes slot ≡ Some p → is_live p.state ≡ true
    → ((k : ℕ) (q : Process) → process_at w.processes.processes k ≡ Some q → q.id ≡ child.id → is_live q.state ≡ false)
    → t ≡ with_slot (table.reaped w.processes (Some child)) slot (Some (with_second (with_answer p child.id) child.status))
    → IsWorldOf (applied m slot p (reaped (view_of m slot p) c child)) (record w { processes = t })
unfolding applied
waited m w slot p c child t is there live dead written = record {
  processes = map-set (without_id child.id) m.processes slot (Some q) ∙ ap (slice_set (map (without_id child.id) m.processes) slot) (other-stays child.id q other)
      ∙ ap (λ (os : List (Option Process)). slice_set (map (without_id child.id) os) slot (Some q)) is.processes ∙ sym (ap (λ (x : Table). x.processes) written);
  tables = is.tables;
  pipes = is.pipes;
  input = is.input;
  forks = is.forks;
  plan = record { count = is.plan.count; taken = λ region low. is.plan.taken region low ∙ sym (same region) };
  taken = is.taken;
  buffer = is.buffer;
}
  where
    q : Process
    q = with_second (with_answer p child.id) child.status

    other : p.id ≢ child.id
    other e = let gone = dead slot p (caller-there m w slot p is there) e in absurd (cc)

    removed : map (without_id child.id) (slice_set m.processes slot (Some q)) ≡ slice_set (map (without_id child.id) m.processes) slot (Some q)
    removed = map-set (without_id child.id) m.processes slot (Some q) ∙ ap (slice_set (map (without_id child.id) m.processes) slot) (other-stays child.id q other)

    stays : process_at (map (without_id child.id) m.processes) slot ≡ Some p
    stays = without-at child.id m.processes slot ∙ ap (without_id child.id) there ∙ other-stays child.id p other

    same : (region : ℕ) → list_any (lives_in region) (map (without_id child.id) (slice_set m.processes slot (Some q))) ≡ list_any (lives_in region) m.processes
    same region =
        ap (list_any (lives_in region)) removed
        ∙ any-written (lives_in region) (map (without_id child.id) m.processes) slot (Some q) (lives-same p q live refl refl region ∙ sym (ap (lives_in region) stays))
        ∙ any-mapped (lives_in region) (without_id child.id) m.processes (λ k. none-lives child.id (process_at m.processes k) region (λ r here e. dead k r (caller-there m w k r is here) e))

-- what is told of a Zombie
pub record IsTold (o : Option Ended) (id status : ℕ) : Type 0 where
  pub child : Ended
  pub is : o ≡ Some child
  pub id_is : id ≡ child.id
  pub status_is : status ≡ child.status

pub some-told : (o : Option Ended) (id status : ℕ) → ◌≡◌ {A = Option (ℕ × ℕ)} (Some (id, status)) (table.told o) → IsTold o id status
some-told None id status e = absurd (cc)
some-told (Some child) id status e =
    let pair : ◌≡◌ {A = ℕ × ℕ} (id, status) (child.id, child.status) = cc in
    record { child = child; is = refl; id_is = ap (λ (x : ℕ × ℕ). x.0) pair; status_is = ap (λ (x : ℕ × ℕ). x.1) pair }

pub none-told : (o : Option Ended) (r : Option (ℕ × ℕ)) → r ≡ table.told o → ((x : ℕ × ℕ) → r ≡ Some x → ⊥) → o ≡ None
none-told None r e never = refl
none-told (Some child) r e never = absurd (never (child.id, child.status) e)

-- The row of wait: where a Zombie is found, where there is a child alone, and where there is none.
pub row-found : ChildrenAreFound → (m : Machine) (slot : ℕ) (p : Process) (c : Content) (child : Ended) → first_ended p.id m.processes ≡ Some child → row_wait (view_of m slot p) c ≡ reaped (view_of m slot p) c child
unfolding row_wait
row-found found m slot p c child e =
    let zombie = found.ended m.processes p.id child e in
    let some : (children_of p.id m.processes).some ≡ true = (found.some m.processes p.id).1 (zombie.slot, zombie.process, zombie.there, zombie.parent_is) in
    rw (some, e) refl

pub row-waits : (m : Machine) (slot : ℕ) (p : Process) (c : Content) → first_ended p.id m.processes ≡ None → list_any (is_child p.id) m.processes ≡ true → row_wait (view_of m slot p) c ≡ waits (view_of m slot p) c [] InWait
unfolding row_wait
row-waits m slot p c e some = rw (some, e) refl

pub row-refused : (m : Machine) (slot : ℕ) (p : Process) (c : Content) → list_any (is_child p.id) m.processes ≡ false → row_wait (view_of m slot p) c ≡ refuses (view_of m slot p) c Echild
unfolding row_wait
row-refused m slot p c alone = rw alone refl

-- what is written where it is told
pub same-written : (t u : Table) (slot : ℕ) (p : Process) (id other status last : ℕ) → t ≡ u → id ≡ other → status ≡ last
    → ◌≡◌ {A = Table} (with_slot t slot (Some (with_second (with_answer p id) status))) (with_slot u slot (Some (with_second (with_answer p other) last)))
same-written t u slot p id other status last tables ids statuses = rw (tables, ids, statuses) refl
