-- The world after a fork: the child is in its slot and its region, with the descriptors of its parent.
use Rattle.std.proofs.Common.{◌≡◌, ◌≢◌, ◌∙◌, sym, ap, refl, subst, ℕ, zero, suc, ◌+◌, ◌<◌, ◌||◌, ◌&&◌, ◌⊎◌, inl, inr, nat_eq, get_or, Option, Some, None, Result, Ok, List, [], ◌∷◌, length, cond, true, false, Bool, arith}
use Rattle.std.specs.Prelude.{slice_set}
use Rattle.std.specs.List.{list_any}
use Rattle.std.proofs.lemmas.Bool.Decides.{eqb_tells}
use Rattle.std.proofs.lemmas.Bool.{and_from, and_parts, eq-eqb, eqb-true, ne_eqb, cases_order}
use Rattle.std.proofs.lemmas.List.{length-set, get_or-set_same, get_or-set_other}
use Rattle.std.proofs.lemmas.List.Folds.{list_any_at}
use Rattle.region_plan.specs.Plan.{is_taken, IsLowestFree}
use Rattle.machine_types.specs.declared.errno.Errno.TheVariants.{Eagain, Enomem}
use Rattle.machine_types.specs.declared.touches.NoFrame.{NoFrame}
use Rattle.contents.specs.Content.{Content}
use Rattle.contents.specs.Regions.{fork_of}
use Rattle.machine.specs.declared.process.Process.{Process}
use Rattle.machine.specs.Processes.{process_at, is_live, lives, lives_in, lowest_free_slot, lowest_free_region}
use Rattle.machine.specs.Pipes.{Table, table_at, no_descriptors, inherited, is_unused, swept_from, swept}
use Rattle.machine.specs.Shape.{ArePipes}
use Rattle.machine.specs.Machines.{Machine, view_of}
use Rattle.machine.specs.Scanning.{IsUnlived, PlacesAreLowest}
use Rattle.machine.specs.Effects.{Effect, refuses}
use Rattle.machine.specs.Calls.{forked, row_fork}
use Rattle.machine.specs.Applying.{applied}
use Rattle.machine.proofs.PipeEnds.{given-pipes}
use Rattle.machine.proofs.ScansFound.{any-place, any-from-place}
use Rattle.process_table.specs.Tables.{with_slot}
use Rattle.process_table.specs.Tables as slots
use Rattle.pipe_files.specs.Files.{Files, with_table}
use Rattle.trap_syscalls.specs.declared.call.Call.{Call}
use Rattle.trap_syscalls.specs.declared.world.World.{World}
use Rattle.trap_syscalls.specs.declared.world.CallDone.{CallDone}
use Rattle.trap_syscalls.specs.Asked.{with_answer, child_with}
use Rattle.trap_syscalls.specs.Worlds.{IsPlanOf, IsWorldOf, HasCalled}
use Rattle.trap_syscalls.specs.Calling.{IsCalling, IsAsked, MayFork}

-- the processes of a table
abbrev pub Processes : Type 0
Processes = slots.Table

-- a pipe that is swept is as it was where it is empty if it is unused
swept-next : (unused : Bool) (bytes : List ℕ) (rest pipes : List (List ℕ)) → (unused ≡ true → bytes ≡ []) → rest ≡ pipes → cond unused [] bytes ∷ rest ≡ bytes ∷ pipes
swept-next true bytes rest pipes empty same = rw (empty refl, same) refl
swept-next false bytes rest pipes empty same = rw same refl

-- Sweeping changes nothing where each unused pipe is empty.
swept-from-same : (tables : List Table) (first : ℕ) (pipes : List (List ℕ)) → ((k : ℕ) → k < length pipes → is_unused tables (first + k) ≡ true → get_or pipes k [] ≡ []) → swept_from tables first pipes ≡ pipes
swept-from-same tables first [] free = refl
swept-from-same tables first (bytes ∷ pipes) free =
    swept-next (is_unused tables first) bytes (swept_from tables (first + 1) pipes) pipes
    (λ unused. free zero (omega arith) (subst (λ (i : ℕ). is_unused tables i ≡ true) (let e : first ≡ first + 0 = omega arith in e) unused))
    (swept-from-same tables (first + 1) pipes
    (λ k less unused. free (suc k) (omega arith) (subst (λ (i : ℕ). is_unused tables i ≡ true) (let e : (first + 1) + k ≡ first + suc k = omega arith in e) unused)))

-- So it does where the pipes are right.
swept-same : (tables : List Table) (pipes : List (List ℕ)) → ArePipes tables pipes → swept tables pipes ≡ pipes
unfolding swept
swept-same tables pipes are =
    swept-from-same tables 0 pipes
    (λ k less unused. (are.each k (let count = are.count in omega arith)).free (subst (λ (i : ℕ). is_unused tables i ≡ true) (let e : 0 + k ≡ k = omega arith in e) unused))

-- A slot without descriptors that is given some leaves the pipes.
given-swept : (tables : List Table) (slot : ℕ) (table : Table) (pipes : List (List ℕ)) → slot < length tables → table_at tables slot ≡ no_descriptors → ArePipes tables pipes
    → swept (slice_set tables slot table) pipes ≡ pipes
given-swept tables slot table pipes within none are = swept-same (slice_set tables slot table) pipes (given-pipes tables slot table pipes within none are)

-- Where a slot is written that a test passes as it did before, the test passes some slot as before.
any-alike : (passes : Option Process → Bool) (processes : List (Option Process)) (slot : ℕ) (o : Option Process) → passes o ≡ passes (process_at processes slot)
    → list_any passes (slice_set processes slot o) ≡ list_any passes processes
any-alike passes [] slot o same = refl
any-alike passes (p ∷ processes) zero o same = rw same refl
any-alike passes (p ∷ processes) (suc slot) o same = ap (λ (b : Bool). passes p || b) (any-alike passes processes slot o same)

-- a live process lives in its region
lives-here : (p : Process) (region : ℕ) → is_live p.state ≡ true → p.region ≡ region → lives_in region (Some p) ≡ true
lives-here p region live same = and_from _ _ live (eq-eqb p.region region same)

-- and in no other
lives-elsewhere : (p : Process) (region : ℕ) → p.region ≢ region → lives_in region (Some p) ≡ false
lives-elsewhere p region other = rw (ne_eqb p.region region other) (neither (is_live p.state))
  where
    neither : (b : Bool) → (b && false) ≡ false
    neither true = refl
    neither false = refl

-- Two live processes of one region live in the same ones.
lives-alike : (p q : Process) (region : ℕ) → is_live p.state ≡ true → is_live q.state ≡ true → p.region ≡ q.region → lives_in region (Some p) ≡ lives_in region (Some q)
lives-alike p q region live alive same = rw (live, alive, same) refl

-- The plan of a machine whose process of a slot is another live one of its region, where a child is put in a free slot and a free region: that
-- region is taken, and each other is as it was.
module _ (regions slot free region : ℕ) (processes : List (Option Process)) (plan : List Bool) (p after child : Process) (is : IsPlanOf regions processes plan)
    (there : process_at processes slot ≡ Some p) (live : is_live p.state ≡ true) (alive : is_live after.state ≡ true) (same : after.region ≡ p.region)
    (within : free < length processes) (none : process_at processes free ≡ None) (planned : region < length plan) (ready : is_live child.state ≡ true) (home : child.region ≡ region) where
  -- the processes with the other one at the slot
  own : List (Option Process)
  own = slice_set processes slot (Some after)

  -- the free slot is one of theirs
  free-within : free < length own
  unfolding own
  free-within = rw (length-set processes slot (Some after)) within

  -- and not the one with the process
  other-slot : free ≢ slot
  other-slot e = let a = rw e at none in cc

  -- so it is free still
  still-none : process_at own free ≡ None
  unfolding own
  still-none = get_or-set_other processes slot free (Some after) None other-slot ∙ none

  -- they live in the same regions as before
  own-alike : (k : ℕ) → list_any (lives_in k) own ≡ list_any (lives_in k) processes
  unfolding own
  own-alike k = any-alike (lives_in k) processes slot (Some after) (lives-alike after p k alive live same ∙ ap (lives_in k) (sym there))

  -- with the child they do so in each region but its own
  child-alike : (k : ℕ) → k ≢ region → list_any (lives_in k) (slice_set own free (Some child)) ≡ list_any (lives_in k) own
  child-alike k other = any-alike (lives_in k) own free (Some child) (lives-elsewhere child k (λ e. other (sym e ∙ home)) ∙ ap (lives_in k) (sym still-none))

  -- and in that one the child lives
  child-lives : list_any (lives_in region) (slice_set own free (Some child)) ≡ true
  child-lives =
      list_any_at (lives_in region) (slice_set own free (Some child)) free None (rw (length-set own free (Some child)) free-within)
      (ap (lives_in region) (get_or-set_same own free (Some child) None free-within) ∙ lives-here child region ready home)

  -- each region is taken where a live process has it
  taken-at : (k : ℕ) → k < regions → ((nat_eq k region ≡ true) × (k ≡ region)) ⊎ ((nat_eq k region ≡ false) × (k ≢ region))
      → is_taken (slice_set plan region true) k ≡ list_any (lives_in k) (slice_set own free (Some child))
  taken-at k low (inl (t, e)) = rw e (get_or-set_same plan region true false planned ∙ sym child-lives)
  taken-at k low (inr (t, e)) = get_or-set_other plan region k true false e ∙ is.taken k low ∙ sym (child-alike k e ∙ own-alike k)

  -- the plan of the processes with the child
  pub forked-plan : IsPlanOf regions (slice_set (slice_set processes slot (Some after)) free (Some child)) (slice_set plan region true)
  unfolding own
  forked-plan = record {
    count = length-set plan region true ∙ is.count;
    taken = λ k low. taken-at k low (eqb_tells k region);
  }

-- the process of a slot
record IsThere (o : Option Process) : Type 0 where
  pub process : Process
  pub there : o ≡ Some process

-- A live one is there.
is-there : (o : Option Process) → lives o ≡ true → IsThere o
is-there None e = absurd (cc)
is-there (Some p) e = record { process = p; there = refl }

-- A free slot is one of the table's still, and free, after the process of another one has its answer.
pub answered-free : (t new : Processes) (slot free value : ℕ) → lives (process_at t.processes slot) ≡ true → free < length t.processes → process_at t.processes free ≡ None
    → ((p : Process) → process_at t.processes slot ≡ Some p → new ≡ with_slot t slot (Some (with_answer p value))) → (free < length new.processes) × (process_at new.processes free ≡ None)
answered-free t new slot free value live within none is =
    let some = is-there (process_at t.processes slot) live in
    let e = is some.process some.there in
    let o = Some (with_answer some.process value) in
    let other = λ (f : free ≡ slot). let a = rw f at none in let b = some.there in absurd (cc) in
    rw e (rw (length-set t.processes slot o) within, get_or-set_other t.processes slot free o None other ∙ none)

-- The world after a fork, in which the process has its answer and the child is placed.
module _ (m : Machine) (w : World) (call : Call) (free region : ℕ) (p : Process) (c : Content) (is : IsWorldOf m w) (calling : IsCalling w call) (may : MayFork w call)
    (there : process_at m.processes call.slot ≡ Some p) (within : free < length w.processes.processes) (none : process_at w.processes.processes free ≡ None) (planned : region < length w.plan)
    (table : Processes) (files : Files) (plan : List Bool)
    (placed : table ≡ with_slot (with_slot w.processes call.slot (Some (with_answer p (w.forks + 2)))) free (Some (child_with p (w.forks + 2) region)))
    (given : files ≡ with_table w.files free (inherited (table_at w.files.tables call.slot))) (taken : plan ≡ slice_set w.plan region true) where
  -- the processes with the answer and the child, by how many forks were made
  processes_with : List (Option Process) → ℕ → List (Option Process)
  processes_with processes forks = slice_set (slice_set processes call.slot (Some (with_answer p (forks + 2)))) free (Some (child_with p (forks + 2) region))

  -- the process is live
  live : is_live p.state ≡ true
  live =
      let at : process_at w.processes.processes call.slot ≡ Some p = sym (ap (λ (ps : List (Option Process)). process_at ps call.slot) is.processes) ∙ there in
      sym (ap lives at) ∙ calling.live

  -- the plan is that of the processes
  plan-after : IsPlanOf m.config.regions (processes_with m.processes m.forks) plan
  unfolding processes_with
  plan-after =
      subst (λ (x : List Bool). IsPlanOf m.config.regions (processes_with m.processes m.forks) x) (sym taken)
      (forked-plan m.config.regions call.slot free region m.processes w.plan p (with_answer p (m.forks + 2)) (child_with p (m.forks + 2) region) is.plan there live refl refl
      (rw is.processes within) (rw is.processes none) planned refl refl)

  -- no pipe is swept
  pipes-after : m.pipes ≡ files.pipes
  pipes-after =
      is.pipes
      ∙ sym (given-swept w.files.tables free (table_at w.files.tables call.slot) w.files.pipes (let tables = calling.tables in omega arith) (may.free free none within) may.pipes)
      ∙ sym (ap (λ (f : Files). f.pipes) given)

  -- the world is that of the machine with the child
  pub forked-world : IsWorldOf (applied m call.slot p (forked (view_of m call.slot p) free region c (Ok tt))) (record w { processes = table; files = files; plan = plan; forks = w.forks + 1 })
  unfolding applied processes_with
  forked-world = record {
    processes =
        ap (λ (ps : List (Option Process)). processes_with ps m.forks) is.processes ∙ ap (processes_with w.processes.processes) is.forks
        ∙ sym (ap (λ (t : Processes). t.processes) placed);
    tables = ap (λ (ts : List Table). slice_set ts free (table_at ts call.slot)) is.tables ∙ sym (ap (λ (f : Files). f.tables) given);
    pipes = pipes-after;
    input = is.input;
    forks = ap (λ (n : ℕ). n + 1) is.forks;
    plan = plan-after;
    taken = is.taken;
    buffer = is.buffer;
  }

-- A fork that lacked a frame leaves the world that a refused call leaves.
pub lacking-called : (m : Machine) (slot : ℕ) (p : Process) (e : Effect) (result : CallDone) (w : World) → HasCalled m slot p e result w
    → HasCalled m slot p (record e { lacks = true }) result w
unfolding applied
lacking-called m slot p e result w is = record { world = is.world; end = is.end; touches = is.touches; printed = is.printed; piece = is.piece }

-- a process that lives in a region
record IsLivedBy (region : ℕ) (o : Option Process) : Type 0 where
  pub process : Process
  pub there : o ≡ Some process
  pub live : is_live process.state ≡ true
  pub home : process.region ≡ region

-- what is found to live in a region is such a process
lived-by : (region : ℕ) (o : Option Process) → lives_in region o ≡ true → IsLivedBy region o
lived-by region None e = absurd (cc)
lived-by region (Some p) e =
    let parts = and_parts (is_live p.state) (nat_eq p.region region) e in
    record { process = p; there = refl; live = parts.0; home = eqb-true p.region region parts.1 }

-- In a region that isn't taken no process lives,
untaken-unlived : (regions : ℕ) (processes : List (Option Process)) (plan : List Bool) (region : ℕ) → IsPlanOf regions processes plan
    → region < regions → is_taken plan region ≡ false → IsUnlived processes region
untaken-unlived regions processes plan region is low free k p there live home =
    let none = is.taken region low in
    let some = any-from-place (lives_in region) processes k refl (rw there (lives-here p region live home)) in
    cc

-- and in one that is taken one does.
taken-lived : (regions : ℕ) (processes : List (Option Process)) (plan : List Bool) (region : ℕ) → IsPlanOf regions processes plan
    → region < regions → is_taken plan region ≡ true → IsUnlived processes region → ⊥
taken-lived regions processes plan region is low taken unlived =
    let found = any-place (lives_in region) processes (sym (is.taken region low) ∙ taken) in
    let lived = lived-by region (process_at processes found.place) found.passes_there in
    unlived found.place lived.process lived.there lived.live lived.home

-- The lowest free region of the plan is that of the processes.
region-is : PlacesAreLowest → (regions : ℕ) (processes : List (Option Process)) (plan : List Bool) (region : ℕ) → IsPlanOf regions processes plan
    → IsLowestFree plan region → lowest_free_region regions processes ≡ Some region
region-is places regions processes plan region is lowest = by (lowest_free_region regions processes) refl
  where
    low : region < regions
    low = let below = lowest.below in let count = is.count in omega arith

    here : IsUnlived processes region
    here = untaken-unlived regions processes plan region is low lowest.free

    by : (o : Option ℕ) → lowest_free_region regions processes ≡ o → o ≡ Some region
    by None e = absurd ((places.no_region regions processes).0 e region low here)
    by (Some found) e = by-order (places.region regions processes found e) (cases_order found region)
      where
        by-order : (found < regions) × IsUnlived processes found × ((k : ℕ) → k < found → IsUnlived processes k → ⊥) → (found ≡ region) ⊎ ((found < region) ⊎ (region < found))
            → ◌≡◌ {A = Option ℕ} (Some found) (Some region)
        by-order it (inl same) = ap Some same
        by-order it (inr (inl less)) = absurd (taken-lived regions processes plan found is it.0 (lowest.lowest found less) it.1)
        by-order it (inr (inr more)) = absurd (it.2 region more here)

-- Where all regions are taken there is none.
no-region : PlacesAreLowest → (regions : ℕ) (processes : List (Option Process)) (plan : List Bool) → IsPlanOf regions processes plan → ((k : ℕ) → k < length plan → is_taken plan k ≡ true)
    → lowest_free_region regions processes ≡ None
no-region places regions processes plan is all =
    (places.no_region regions processes).1 (λ k low. taken-lived regions processes plan k is low (all k (let count = is.count in omega arith)))

-- The row of a fork, by what is free in the machine.
module _ (m : Machine) (slot : ℕ) (p : Process) (c : Content) where
  -- no slot
  row-no-slot : lowest_free_slot m.processes ≡ None → row_fork (view_of m slot p) c ≡ refuses (view_of m slot p) c Eagain
  unfolding row_fork
  row-no-slot none = rw none refl

  -- a slot, but no region
  row-no-region : (free : ℕ) → lowest_free_slot m.processes ≡ Some free → lowest_free_region m.config.regions m.processes ≡ None
      → row_fork (view_of m slot p) c ≡ refuses (view_of m slot p) c Enomem
  unfolding row_fork
  row-no-region free some none = rw (some, none) refl

  -- both, by what the stores answer for the region of the process
  row-both : (free from to : ℕ) (answer : Result (Unit {0}) NoFrame) → lowest_free_slot m.processes ≡ Some free → lowest_free_region m.config.regions m.processes ≡ Some to → from ≡ p.region
      → answer ≡ (fork_of c from to).answer → row_fork (view_of m slot p) c ≡ forked (view_of m slot p) free to (fork_of c from to).after answer
  unfolding row_fork
  row-both free from to answer some region own is = rw (some, region, is, own) refl

-- The same, by what is free in the world of the machine.
module _ (places : PlacesAreLowest) (m : Machine) (w : World) (call : Call) (p : Process) (c : Content) (is : IsWorldOf m w)
    (asked : IsAsked w call) (there : process_at m.processes call.slot ≡ Some p) where
  -- the lowest free slot is that of the world
  same-slot : (o : Option ℕ) → o ≡ lowest_free_slot w.processes.processes → lowest_free_slot m.processes ≡ o
  same-slot o e = ap lowest_free_slot is.processes ∙ sym e

  -- The region that is asked from is that of the process.
  same-region : call.region ≡ p.region
  same-region =
      let at : process_at w.processes.processes call.slot ≡ Some p = sym (ap (λ (ps : List (Option Process)). process_at ps call.slot) is.processes) ∙ there in
      ap (λ (x : Call). x.region) (asked p at)

  -- no slot
  pub full-row : None ≡ lowest_free_slot w.processes.processes → row_fork (view_of m call.slot p) c ≡ refuses (view_of m call.slot p) c Eagain
  full-row none = row-no-slot m call.slot p c (same-slot None none)

  -- a slot, but no region
  pub planless-row : (free : ℕ) → Some free ≡ lowest_free_slot w.processes.processes → ((k : ℕ) → k < length w.plan → is_taken w.plan k ≡ true)
      → row_fork (view_of m call.slot p) c ≡ refuses (view_of m call.slot p) c Enomem
  planless-row free some all = row-no-region m call.slot p c free (same-slot (Some free) some) (no-region places m.config.regions m.processes w.plan is.plan all)

  -- both
  pub placed-row : (free to : ℕ) (answer : Result (Unit {0}) NoFrame) → Some free ≡ lowest_free_slot w.processes.processes → IsLowestFree w.plan to → answer ≡ (fork_of c call.region to).answer
      → row_fork (view_of m call.slot p) c ≡ forked (view_of m call.slot p) free to (fork_of c call.region to).after answer
  placed-row free to answer some lowest e =
      row-both m call.slot p c free call.region to answer (same-slot (Some free) some) (region-is places m.config.regions m.processes w.plan to is.plan lowest) same-region e
