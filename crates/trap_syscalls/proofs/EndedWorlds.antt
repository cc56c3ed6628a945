-- The world after its process ended.
use Rattle.std.proofs.Common.{◌≡◌, ◌≢◌, ◌∙◌, sym, ap, refl, ℕ, zero, suc, ◌<◌, ◌⊎◌, inl, inr, ◌&&◌, nat_eq, Bool, true, false, Option, Some, None, List, [], ◌∷◌, length, map, cond, get_or, slice_set, arith}
use Rattle.std.specs.List.{list_any}
use Rattle.std.proofs.lemmas.Bool.Decides.{eqb_tells}
use Rattle.std.proofs.lemmas.List.{set-get_or, get_or-set_other, get_or-set_same, length-set, length-map}
use Rattle.std.proofs.Math.ListN.{get_or-map, set}
use Rattle.region_plan.specs.Plan.{is_taken}
use Rattle.contents.specs.Content.{Content}
use Rattle.machine_types.specs.declared.touches.Note.{Note}
use Rattle.machine.specs.declared.process.Process.{Process}
use Rattle.machine.specs.Processes.{process_at, is_live, lives, lives_in, orphaned, orphaned_as, left_of, zombie_of}
use Rattle.machine.specs.Pipes.{Table, no_descriptors}
use Rattle.machine.specs.Machines.{Machine, view_of}
use Rattle.machine.specs.Effects.{ends}
use Rattle.machine.specs.Applying.{applied}
use Rattle.process_table.specs.Tables.{finished}
use Rattle.pipe_files.specs.Files.{with_table}
use Rattle.trap_syscalls.specs.declared.call.Call.{Call}
use Rattle.trap_syscalls.specs.declared.world.World.{World}
use Rattle.trap_syscalls.specs.Worlds.{IsWorldOf, IsPlanOf}
use Rattle.trap_syscalls.specs.Calling.{IsCalling, IsAsked}

-- a test that no element passes finds none
any-none : {A : Type 0} (passes : A → Bool) (xs : List A) (d : A) → ((k : ℕ) → passes (get_or xs k d) ≡ false) → list_any passes xs ≡ false
any-none passes [] d none_at = refl
any-none passes (x ∷ xs) d none_at = rw (none_at 0) (any-none passes xs d (λ k. none_at (suc k)))

-- an element is replaced by one that the test doesn't tell from it
any-set : {A : Type 0} (passes : A → Bool) (xs : List A) (i : ℕ) (y d : A) → passes y ≡ passes (get_or xs i d) → list_any passes (set xs i y) ≡ list_any passes xs
any-set passes [] i y d same = refl
any-set passes (x ∷ xs) zero y d same = rw same refl
any-set passes (x ∷ xs) (suc i) y d same = rw (any-set passes xs i y d same) refl

-- each element is replaced by one that the test doesn't tell from it
any-map : {A : Type 0} (passes : A → Bool) (change : A → A) → ((x : A) → passes (change x) ≡ passes x) → (xs : List A) → list_any passes (map change xs) ≡ list_any passes xs
any-map passes change same [] = refl
any-map passes change same (x ∷ xs) = rw (same x, any-map passes change same xs) refl

-- orphans live where they lived
lives-orphaned : (id region : ℕ) (o : Option Process) → lives_in region (orphaned id o) ≡ lives_in region o
lives-orphaned id region None = refl
lives-orphaned id region (Some p) = by (nat_eq p.parent id) (is_live p.state) refl
  where
    by : (child live : Bool) → is_live p.state ≡ live → lives_in region (cond child (orphaned_as live p) (Some p)) ≡ (is_live p.state && nat_eq p.region region)
    by true true e = refl
    by true false e = rw e refl
    by false live e = refl

-- what is left of an ended process lives nowhere
left-lives : (p : Process) (status region : ℕ) → lives_in region (left_of p status) ≡ false
left-lives p status region = by (nat_eq p.parent 0)
  where
    by : (b : Bool) → lives_in region (cond b None (Some (zombie_of p status))) ≡ false
    by true = refl
    by false = refl

-- a process lives in no region but its own
lives-elsewhere : (p : Process) (region : ℕ) → p.region ≢ region → lives_in region (Some p) ≡ false
lives-elsewhere p region other = by (is_live p.state) (eqb_tells p.region region)
  where
    by : (live : Bool) → ((nat_eq p.region region ≡ true) × (p.region ≡ region)) ⊎ ((nat_eq p.region region ≡ false) × (p.region ≢ region)) → (live && nat_eq p.region region) ≡ false
    by live (inl same) = absurd (other same.1)
    by true (inr differ) = differ.0
    by false (inr differ) = refl

-- the processes after the one of a slot ended
abbrev after_end : List (Option Process) → ℕ → Process → ℕ → List (Option Process)
after_end processes slot p status = slice_set (map (orphaned p.id) processes) slot (left_of p status)

-- in each other region live as many as before
others-live : (processes : List (Option Process)) (slot : ℕ) (p : Process) (status region : ℕ) → process_at processes slot ≡ Some p → p.region ≢ region
    → list_any (lives_in region) (after_end processes slot p status) ≡ list_any (lives_in region) processes
others-live processes slot p status region there other =
    any-set (lives_in region) (map (orphaned p.id) processes) slot (left_of p status) None same ∙ any-map (lives_in region) (orphaned p.id) (lives-orphaned p.id region) processes
  where
    at_slot : lives_in region (get_or (map (orphaned p.id) processes) slot None) ≡ false
    at_slot = ap (lives_in region) (get_or-map (orphaned p.id) processes slot None) ∙ lives-orphaned p.id region (get_or processes slot None) ∙ ap (lives_in region) there ∙ lives-elsewhere p region other

    same : lives_in region (left_of p status) ≡ lives_in region (get_or (map (orphaned p.id) processes) slot None)
    same = left-lives p status region ∙ sym at_slot

-- in a region where no process of another slot lives, none lives after the end
none-lives : (processes : List (Option Process)) (slot : ℕ) (p : Process) (status region : ℕ) → slot < length processes → ((k : ℕ) → k ≢ slot → lives_in region (process_at processes k) ≡ false)
    → list_any (lives_in region) (after_end processes slot p status) ≡ false
none-lives processes slot p status region within alone = any-none (lives_in region) (after_end processes slot p status) None (λ k. at k (eqb_tells k slot))
  where
    fits : slot < length (map (orphaned p.id) processes)
    fits = rw length-map within

    at : (k : ℕ) → ((nat_eq k slot ≡ true) × (k ≡ slot)) ⊎ ((nat_eq k slot ≡ false) × (k ≢ slot)) → lives_in region (get_or (after_end processes slot p status) k None) ≡ false
    at k (inl same) = ap (λ (i : ℕ). lives_in region (get_or (after_end processes slot p status) i None)) same.1
        ∙ ap (lives_in region) (get_or-set_same (map (orphaned p.id) processes) slot (left_of p status) None fits) ∙ left-lives p status region
    at k (inr differ) = ap (lives_in region) (get_or-set_other (map (orphaned p.id) processes) slot k (left_of p status) None differ.1)
        ∙ ap (lives_in region) (get_or-map (orphaned p.id) processes k None) ∙ lives-orphaned p.id region (get_or processes k None) ∙ alone k differ.1

-- a slot that has a live process is one of the slots
slot-within : (processes : List (Option Process)) (slot : ℕ) → lives (process_at processes slot) ≡ true → slot < length processes
slot-within [] slot live = absurd (cc)
slot-within (o ∷ processes) zero live = omega arith
slot-within (o ∷ processes) (suc slot) live = let h : slot < length processes = slot-within processes slot live in omega arith

-- a region that is freed isn't taken
set-false : (plan : List Bool) (region : ℕ) → is_taken (slice_set plan region false) region ≡ false
set-false [] region = refl
set-false (b ∷ plan) zero = refl
set-false (b ∷ plan) (suc region) = set-false plan region

-- after the end the process's region is free, and the others are as they were
plan-after : (regions : ℕ) (processes : List (Option Process)) (plan : List Bool) (slot : ℕ) (p : Process) (status : ℕ) → IsPlanOf regions processes plan → process_at processes slot ≡ Some p
    → slot < length processes → ((k : ℕ) → k ≢ slot → lives_in p.region (process_at processes k) ≡ false)
    → IsPlanOf regions (after_end processes slot p status) (slice_set plan p.region false)
plan-after regions processes plan slot p status of there within alone = record { count = length-set plan p.region false ∙ of.count; taken = λ region below. at region below (eqb_tells p.region region) }
  where
    at : (region : ℕ) → region < regions → ((nat_eq p.region region ≡ true) × (p.region ≡ region)) ⊎ ((nat_eq p.region region ≡ false) × (p.region ≢ region))
        → is_taken (slice_set plan p.region false) region ≡ list_any (lives_in region) (after_end processes slot p status)
    at region below (inl same) = rw (← same.1) (set-false plan p.region ∙ sym (none-lives processes slot p status p.region within alone))
    at region below (inr differ) = let other : region ≢ p.region = (λ e. differ.1 (sym e)) in
        get_or-set_other plan p.region region false false other ∙ of.taken region below ∙ sym (others-live processes slot p status region there differ.1)

-- a world without the process of a call
abbrev pub ended_world : World → Call → ℕ → World
ended_world w call status = record w {
  processes = finished w.processes call.slot status;
  files = with_table w.files call.slot no_descriptors;
  plan = slice_set w.plan call.region false;
}

-- the world without the process is that of the machine to which the end was applied
pub world-ended : (m : Machine) (w : World) (call : Call) (p : Process) (c : Content) (notes : List Note) (status : ℕ) (lacks : Bool)
    → IsCalling w call → IsAsked w call → IsWorldOf m w → process_at m.processes call.slot ≡ Some p
    → IsWorldOf (applied m call.slot p (ends (view_of m call.slot p) c notes status lacks)) (ended_world w call status)
unfolding applied ends
world-ended m w call p c notes status lacks calling asked of there = record {
  processes = ap (λ (l : List (Option Process)). after_end l call.slot p status) (kept ∙ of.processes) ∙ sym after;
  tables = ap (λ (l : List Table). slice_set l call.slot no_descriptors) of.tables;
  pipes = rw (of.tables, of.pipes) refl;
  input = of.input;
  forks = of.forks;
  plan = rw (kept, home) (plan-after m.config.regions m.processes w.plan call.slot p status of.plan there within alone);
  taken = of.taken;
  buffer = of.buffer;
}
  where
    kept : slice_set m.processes call.slot (Some p) ≡ m.processes
    kept = ap (slice_set m.processes call.slot) (sym there) ∙ set-get_or m.processes call.slot None

    here : process_at w.processes.processes call.slot ≡ Some p
    here = ap (λ (l : List (Option Process)). process_at l call.slot) (sym of.processes) ∙ there

    after : (finished w.processes call.slot status).processes ≡ after_end w.processes.processes call.slot p status
    after = rw here refl

    home : call.region ≡ p.region
    home = ap (λ (a : Call). a.region) (asked p here)

    within : call.slot < length m.processes
    within = rw of.processes (slot-within w.processes.processes call.slot calling.live)

    alone : (k : ℕ) → k ≢ call.slot → lives_in p.region (process_at m.processes k) ≡ false
    alone k other = rw (of.processes, ← home) (calling.alone k other)

-- the machine after an end doesn't depend on what is told of its touches
pub other-touches : (m : Machine) (slot : ℕ) (p : Process) (c : Content) (notes more : List Note) (status : ℕ) (lacks : Bool) (w : World)
    → IsWorldOf (applied m slot p (ends (view_of m slot p) c notes status lacks)) w → IsWorldOf (applied m slot p (ends (view_of m slot p) c more status lacks)) w
unfolding applied ends
other-touches m slot p c notes more status lacks w is = record {
  processes = is.processes;
  tables = is.tables;
  pipes = is.pipes;
  input = is.input;
  forks = is.forks;
  plan = is.plan;
  taken = is.taken;
  buffer = is.buffer;
}
