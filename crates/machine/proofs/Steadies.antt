-- What keeps processes, their descriptors and the content steady, over slots as functions.
use Rattle.std.proofs.Common.{◌≡◌, ◌≢◌, ◌∙◌, sym, ap, refl, ℕ, zero, suc, ◌+◌, ◌^◌, ◌<◌, ◌⊎◌, inl, inr, nat_eq, is_some, Option, Some, None, cond, true, false, Bool, subst, arith}
use Rattle.std.proofs.lemmas.Bool.Decides.{eqb_tells}
use Rattle.std.proofs.lemmas.Bool.{false≢true}
use Rattle.std.proofs.lemmas.List.Elements.{All-replicate}
use Rattle.cap_format.specs.Made.{null}
use Rattle.machine_types.specs.declared.touches.Access.{Access}
use Rattle.machine_types.specs.declared.touches.Access.TheVariants.{Read, Write}
use Rattle.machine_types.specs.Stores.{changed, Store}
use Rattle.contents.specs.Content.{Content, page_in, page_at}
use Rattle.contents.specs.Accesses.{page_of_place}
use Rattle.contents.specs.Transfers.{covers_of}
use Rattle.contents.specs.Laws.{OthersStay}
use Rattle.machine.specs.declared.process.Process.{Process}
use Rattle.machine.specs.declared.process.State.{State}
use Rattle.machine.specs.declared.process.State.TheVariants.{Ready, InRead, InWrite, InWait, Zombie}
use Rattle.machine.specs.Numbers.{third_argument}
use Rattle.machine.specs.Processes.{integer, is_live, lives, orphaned, without_id, left_of, zombie_of}
use Rattle.machine.specs.Pipes.{Table, no_descriptors}
use Rattle.machine.specs.Effects.{Effect}
use Rattle.machine.specs.Calls.{is_fault, place_of}
use Rattle.machine.specs.Shape.{Slots, IsTable, IsTarget, IsProcess, LivesWith, StoresAreOfLive}
use Rattle.machine.specs.Sound.{IsWithin, IsUnderway, IdsAreExact, HasLive}
use Rattle.machine.specs.Steady.{ContentIsSound, IsFine}
use Rattle.machine.specs.Shapes.{IsKept}
use Rattle.machine.proofs.SlotLists.{Tables, changed-here, changed-other, all-changed}
use Rattle.machine.proofs.LeftProcesses.{WasOther, orphaned-cases, orphaned-lives, orphaned-live, left-cases, without-cases, without-keeps, without-live}
use Rattle.machine.proofs.Ids.{own-ids, added-ids, ended-ids, removed-ids, slots_ended}

-- all but the clock, the pipes and the input, over functions
pub record Steady (at : Slots) (slots : ℕ) (tables : Tables) (c : Content) (regions forks : ℕ) : Type 0 where
  pub content : ContentIsSound regions c
  pub fine : (k : ℕ) (p : Process) → at k ≡ Some p → IsFine regions c p
  pub ids : IdsAreExact at forks
  pub stores : StoresAreOfLive at c.stores
  pub calls : (k : ℕ) (p : Process) → at k ≡ Some p → IsUnderway p (tables k) c p.state
  pub each : (k : ℕ) → k < slots → IsTable (tables k)
  pub none : (k : ℕ) → k < slots → lives (at k) ≡ false → tables k ≡ no_descriptors

-- What a process may have goes by its region alone.
pub within-same : (c d : Content) (p : Process) → IsWithin c p → IsWithin d p
within-same c d p is = record { code = is.code; counter = is.counter; registers = is.registers }

-- So a process stays fine in another content.
pub fine-same : (n : ℕ) (c d : Content) (p : Process) → IsFine n c p → IsFine n d p
fine-same n c d p is = record { inside = λ l. within-same c d p (is.inside l); process = is.process; region = is.region; zombie = is.zombie }

-- Which bytes may be accessed depends on the own store alone,
covers-same : (c d : Content) (region : ℕ) (access : Access) → d.stores region ≡ c.stores region → (n at : ℕ) → covers_of d region at n access ≡ covers_of c region at n access
unfolding covers_of
covers-same c d region access e zero at = refl
covers-same c d region access e (suc n) at =
    let page : page_at d region (page_of_place at) ≡ page_at c region (page_of_place at) = ap (λ (o : Option Store). page_in o (page_of_place at)) e in
    rw (page, covers-same c d region access e n (at + 1)) refl

-- and so does EFAULT,
fault-same : (p : Process) (c d : Content) (access : Access) (count : ℕ) → d.stores p.region ≡ c.stores p.region → is_fault p d access count ≡ is_fault p c access count
unfolding is_fault
fault-same p c d access count e = rw (covers-same c d p.region access e count (place_of p)) refl

-- and not of the parent
fault-orphan : (p : Process) (c : Content) (access : Access) (count : ℕ) → is_fault (record p { parent = 0 }) c access count ≡ is_fault p c access count
unfolding is_fault
fault-orphan p c access count = refl

-- A call underway stays so where the own store stays.
pub underway-same : (q : Process) (table : Table) (c d : Content) (state : State) → (is_live state ≡ true → d.stores q.region ≡ c.stores q.region) → IsUnderway q table c state → IsUnderway q table d state
underway-same q table c d Ready same u = tt
underway-same q table c d InRead same u = record { call = u.call; descriptor = u.descriptor; some = u.some; fit = fault-same q c d Write (integer q third_argument) (same refl) ∙ u.fit; at_call = u.at_call }
underway-same q table c d (InWrite done) same u = record { call = u.call; descriptor = u.descriptor; fit = fault-same q c d Read (integer q third_argument) (same refl) ∙ u.fit; at_call = u.at_call }
underway-same q table c d InWait same u = u
underway-same q table c d (Zombie status) same u = tt

-- and where the parent is lost
underway-orphan : (q : Process) (table : Table) (c : Content) (state : State) → IsUnderway q table c state → IsUnderway (record q { parent = 0 }) table c state
underway-orphan q table c Ready u = tt
underway-orphan q table c InRead u = record { call = u.call; descriptor = u.descriptor; some = u.some; fit = fault-orphan q c Write (integer q third_argument) ∙ u.fit; at_call = u.at_call }
underway-orphan q table c (InWrite done) u = record { call = u.call; descriptor = u.descriptor; fit = fault-orphan q c Read (integer q third_argument) ∙ u.fit; at_call = u.at_call }
underway-orphan q table c InWait u = record { call = u.call; at_call = u.at_call }
underway-orphan q table c (Zombie status) u = tt

-- a live process without its parent
orphan-process : (q : Process) → is_live q.state ≡ true → IsProcess q → IsProcess (record q { parent = 0 })
orphan-process q live is = record {
  registers = is.registers;
  pcc = is.pcc;
  zombie = λ status e. let no : is_live q.state ≡ false = rw e refl in absurd (cc);
  status = is.status;
}

-- it stays fine
orphan-fine : (n : ℕ) (c : Content) (q : Process) → is_live q.state ≡ true → IsFine n c q → IsFine n c (record q { parent = 0 })
orphan-fine n c q live is = record {
  inside = λ l. let w = is.inside l in record { code = w.code; counter = w.counter; registers = w.registers };
  process = orphan-process q live is.process;
  region = is.region;
  zombie = λ dead. absurd (cc);
}

-- and what is left of one that ended
zombie-process : (p : Process) (status : ℕ) → status < 2 ^ 32 → IsProcess (zombie_of p status)
zombie-process p status small = record {
  registers = record { length_is = refl; zero = refl; patterns = All-replicate (λ cap. cap.bits < 2 ^ 128) 32 null (omega arith) };
  pcc = omega arith;
  zombie = λ s e. let same : status ≡ s = cc in ap (zombie_of p) same;
  status = λ s e. let same : status ≡ s = cc in rw (← same) small;
}

-- it is fine where it has a parent
zombie-fine : (n : ℕ) (c : Content) (p : Process) (status : ℕ) → status < 2 ^ 32 → p.parent ≢ 0 → p.region < n → IsFine n c (zombie_of p status)
zombie-fine n c p status small parent low = record {
  inside = λ l. absurd (false≢true l);
  process = zombie-process p status small;
  region = omega arith;
  zombie = λ _. parent;
}

-- Descriptors.

-- A table without a descriptor in use is one.
no-table : IsTable no_descriptors
no-table = record { count = refl; targets = All-replicate IsTarget 16 None tt }

-- tables where one is written
changed-tables : (tables : Tables) (slots slot : ℕ) (table : Table) → IsTable table → ((k : ℕ) → k < slots → IsTable (tables k)) → (k : ℕ) → k < slots → IsTable (changed tables slot table k)
changed-tables tables slots slot table here each k low = by (nat_eq k slot)
  where
    by : (b : Bool) → IsTable (cond b table (tables k))
    by true = here
    by false = each k low

-- After a live process is written to a slot, a slot without one is another, and had none before.
changed-live : (at : Slots) (slot k : ℕ) (q : Process) → is_live q.state ≡ true → lives (changed at slot (Some q) k) ≡ false → (k ≢ slot) × (lives (at k) ≡ false)
changed-live at slot k q live = by (eqb_tells k slot)
  where
    by : ((nat_eq k slot ≡ true) × (k ≡ slot)) ⊎ ((nat_eq k slot ≡ false) × (k ≢ slot)) → lives (cond (nat_eq k slot) (Some q) (at k)) ≡ false → (k ≢ slot) × (lives (at k) ≡ false)
    by (inl (t, e)) h = let one : is_live q.state ≡ false = rw t at h in absurd (cc)
    by (inr (t, e)) h = (e, rw t at h)

-- What is said of each process, over slots.
record Half (at : Slots) (slots : ℕ) (tables : Tables) (c : Content) (n forks : ℕ) : Type 0 where
  pub fine : (k : ℕ) (p : Process) → at k ≡ Some p → IsFine n c p
  pub ids : IdsAreExact at forks
  pub calls : (k : ℕ) (p : Process) → at k ≡ Some p → IsUnderway p (tables k) c p.state
  pub some : (k : ℕ) (p : Process) → at k ≡ Some p → is_live p.state ≡ true → is_some (c.stores p.region) ≡ true
  pub none : (k : ℕ) → k < slots → lives (at k) ≡ false → tables k ≡ no_descriptors

-- The process itself goes on; its descriptors stay.
module _ (at : Slots) (slots : ℕ) (tables : Tables) (c : Content) (n forks slot : ℕ) (p : Process) (there : at slot ≡ Some p) (live : is_live p.state ≡ true) (e : Effect) (kept : IsKept p e.process (tables slot) e.content) where
  -- the slots with the process after its work
  abbrev own : Slots
  own = changed at slot (Some e.process)

  -- another live process has another region
  other-region : IdsAreExact at forks → (k : ℕ) (q : Process) → k ≢ slot → at k ≡ Some q → is_live q.state ≡ true → q.region ≢ p.region
  other-region ids k q other here l f = other (ids.regions k slot q p here there l live f)

  -- What is said of each process holds still, where the stores of the others stay.
  own-half : (same : (k : ℕ) (q : Process) → k ≢ slot → at k ≡ Some q → is_live q.state ≡ true → e.content.stores q.region ≡ c.stores q.region)
      → Steady at slots tables c n forks → Half (changed at slot (Some e.process)) slots tables e.content n forks
  own-half same h = record {
    fine = all-changed (λ k q. IsFine n e.content q) at slot (Some e.process) (λ k q other here. fine-same n c e.content q (h.fine k q here)) (λ q is. subst (IsFine n e.content) (let f : e.process ≡ q = cc in f) fine);
    ids = own-ids at slot forks p e.process there live kept.same h.ids;
    calls = all-changed (λ k q. IsUnderway q (tables k) e.content q.state) at slot (Some e.process)
        (λ k q other here. underway-same q (tables k) c e.content q.state (same k q other here) (h.calls k q here))
        (λ q is. subst (λ (q : Process). IsUnderway q (tables slot) e.content q.state) (let f : e.process ≡ q = cc in f) kept.underway);
    some = all-changed (λ k q. is_live q.state ≡ true → is_some (e.content.stores q.region) ≡ true) at slot (Some e.process)
        (λ k q other here l. ap is_some (same k q other here l) ∙ h.stores.some k q here l)
        (λ q is l. subst (λ (q : Process). is_some (e.content.stores q.region) ≡ true) (let f : e.process ≡ q = cc in f) (rw kept.same.region kept.store));
    none = λ k low dead. h.none k low (changed-live at slot k e.process kept.same.live dead).1;
  }
    where
      fine : IsFine n e.content e.process
      fine = record { inside = λ _. kept.within; process = kept.process; region = rw kept.same.region (h.fine slot p there).region; zombie = λ dead. let l = kept.same.live in absurd (cc) }

  -- a live process with a region is one still
  own-lives : (region : ℕ) → LivesWith at region → LivesWith (changed at slot (Some e.process)) region
  own-lives region l = by (eqb_tells l.slot slot)
    where
      by : ((nat_eq l.slot slot ≡ true) × (l.slot ≡ slot)) ⊎ ((nat_eq l.slot slot ≡ false) × (l.slot ≢ slot)) → LivesWith (changed at slot (Some e.process)) region
      by (inl (t, f)) =
          let one : at slot ≡ Some l.process = rw f at l.there in
          let is : p ≡ l.process = cc in
          record { slot = slot; process = e.process; there = changed-here at slot (Some e.process); live = kept.same.live; region_is = kept.same.region ∙ ap (λ (x : Process). x.region) is ∙ l.region_is }
      by (inr (t, f)) = record { slot = l.slot; process = l.process; there = changed-other at slot l.slot (Some e.process) f ∙ l.there; live = l.live; region_is = l.region_is }

  -- and so is the process itself
  own-is : LivesWith (changed at slot (Some e.process)) p.region
  own-is = record { slot = slot; process = e.process; there = changed-here at slot (Some e.process); live = kept.same.live; region_is = kept.same.region }

  -- Nothing else is done.
  pub own-steady : OthersStay p.region c e.content → ContentIsSound n e.content → Steady at slots tables c n forks → Steady (changed at slot (Some e.process)) slots tables e.content n forks
  own-steady others content s = record { content = content; fine = h.fine; ids = h.ids; calls = h.calls; each = s.each; none = h.none; stores = record { some = h.some; live = λ region is. by region (eqb_tells region p.region) is } }
    where
      h : Half (changed at slot (Some e.process)) slots tables e.content n forks
      h = own-half (λ k q other here l. others q.region (other-region s.ids k q other here l)) s

      by : (region : ℕ) → ((nat_eq region p.region ≡ true) × (region ≡ p.region)) ⊎ ((nat_eq region p.region ≡ false) × (region ≢ p.region)) → is_some (e.content.stores region) ≡ true → LivesWith (changed at slot (Some e.process)) region
      by region (inl (t, f)) is = rw f own-is
      by region (inr (t, f)) is = own-lives region (s.stores.live region (sym (ap is_some (others region f)) ∙ is))

  -- A child is added.
  pub added-steady : (k0 : ℕ) (child : Process) (table : Table) → IsTable table → at k0 ≡ None → child.id ≡ forks + 2 → child.parent ≡ p.id → child.region < n
      → ((k : ℕ) (q : Process) → at k ≡ Some q → is_live q.state ≡ true → q.region ≢ child.region) → IsWithin e.content child → IsProcess child → child.state ≡ Ready → is_some (e.content.stores child.region) ≡ true
      → OthersStay child.region c e.content → ContentIsSound n e.content → Steady at slots tables c n forks
      → Steady (changed (changed at slot (Some e.process)) k0 (Some child)) slots (changed tables k0 table) e.content n (forks + 1)
  added-steady k0 child table given free id parent region apart within process ready store others content s = record {
    content = content;
    fine = all-changed (λ k q. IsFine n e.content q) own k0 (Some child) (λ k q other here. h.fine k q here) (λ q is. subst (IsFine n e.content) (let f : child ≡ q = cc in f) fine);
    ids = added-ids own k0 forks child free-still id parent-lives apart-still h.ids;
    calls = all-changed (λ k q. IsUnderway q (changed tables k0 table k) e.content q.state) own k0 (Some child)
        (λ k q other here. subst (λ (t : Table). IsUnderway q t e.content q.state) (sym (changed-other tables k0 k table other)) (h.calls k q here))
        (λ q is. let f : child ≡ q = cc in subst (λ (q : Process). IsUnderway q (changed tables k0 table k0) e.content q.state) f (rw ready tt));
    stores = record {
      some = all-changed (λ k q. is_live q.state ≡ true → is_some (e.content.stores q.region) ≡ true) own k0 (Some child) (λ k q other here l. h.some k q here l)
          (λ q is l. subst (λ (q : Process). is_some (e.content.stores q.region) ≡ true) (let f : child ≡ q = cc in f) store);
      live = λ region is. by region (eqb_tells region child.region) is;
    };
    each = changed-tables tables slots k0 table given s.each;
    none = λ k low dead. let was = changed-live own k0 k child child-lives dead in changed-other tables k0 k table was.0 ∙ h.none k low was.1;
  }
    where
      h : Half own slots tables e.content n forks
      h = own-half (λ k q other here l. others q.region (apart k q here l)) s

      child-lives : is_live child.state ≡ true
      child-lives = rw ready refl

      fine : IsFine n e.content child
      fine = record { inside = λ _. within; process = process; region = region; zombie = λ dead. let l = child-lives in absurd (cc) }

      k0-other : k0 ≢ slot
      k0-other f = let one : at slot ≡ None = rw f at free in absurd (cc)

      free-still : own k0 ≡ None
      free-still = changed-other at slot k0 (Some e.process) k0-other ∙ free

      parent-lives : HasLive own child.parent
      parent-lives = record { slot = slot; process = e.process; there = changed-here at slot (Some e.process); live = kept.same.live; id_is = kept.same.id ∙ sym parent }

      apart-still : (k : ℕ) (q : Process) → own k ≡ Some q → is_live q.state ≡ true → q.region ≢ child.region
      apart-still = all-changed (λ k q. is_live q.state ≡ true → q.region ≢ child.region) at slot (Some e.process) (λ k q other here. apart k q here)
          (λ q is l. subst (λ (q : Process). q.region ≢ child.region) (let f : e.process ≡ q = cc in f) (rw kept.same.region (apart slot p there live)))

      by : (region : ℕ) → ((nat_eq region child.region ≡ true) × (region ≡ child.region)) ⊎ ((nat_eq region child.region ≡ false) × (region ≢ child.region)) → is_some (e.content.stores region) ≡ true
          → LivesWith (changed own k0 (Some child)) region
      by region (inl (t, f)) is = record { slot = k0; process = child; there = changed-here own k0 (Some child); live = child-lives; region_is = sym f }
      by region (inr (t, f)) is =
          let l = own-lives region (s.stores.live region (sym (ap is_some (others region f)) ∙ is)) in
          record { slot = l.slot; process = l.process; live = l.live; region_is = l.region_is; there = changed-other own k0 l.slot (Some child) (λ g. let one : own k0 ≡ Some l.process = rw g at l.there in let two = free-still in cc) ∙ l.there }

-- A process that isn't live is removed.
pub removed-steady : (at : Slots) (slots : ℕ) (tables : Tables) (c : Content) (n forks id : ℕ) → ((k : ℕ) (q : Process) → at k ≡ Some q → is_live q.state ≡ true → q.id ≢ id)
    → Steady at slots tables c n forks → Steady (λ k. without_id id (at k)) slots tables c n forks
removed-steady at slots tables c n forks id apart s = record {
  content = s.content;
  fine = λ k q h. s.fine k q (without-cases id (at k) q h).0;
  ids = removed-ids at id forks apart s.ids;
  calls = λ k q h. s.calls k q (without-cases id (at k) q h).0;
  stores = record {
    some = λ k q h. s.stores.some k q (without-cases id (at k) q h).0;
    live = λ region is. let l = s.stores.live region is in
        record { slot = l.slot; process = l.process; live = l.live; region_is = l.region_is; there = ap (without_id id) l.there ∙ without-keeps id l.process (apart l.slot l.process l.there l.live) };
  };
  each = s.each;
  none = λ k low dead. s.none k low (without-live id (at k) (apart k) dead);
}

-- What holds of each process also without its parent, and of what is left, holds after an end.
all-ended : (P : ℕ → Process → Type 0) (at : Slots) (slot status : ℕ) (p : Process) → ((k : ℕ) (q : Process) → k ≢ slot → at k ≡ Some q → P k q)
    → ((k : ℕ) (q : Process) → k ≢ slot → at k ≡ Some q → is_live q.state ≡ true → P k (record q { parent = 0 }))
    → (p.parent ≢ 0 → P slot (zombie_of p status)) → (k : ℕ) (q : Process) → slots_ended at slot p status k ≡ Some q → P k q
all-ended P at slot status p others orphans left = all-changed P (λ k. orphaned p.id (at k)) slot (left_of p status)
    (λ k q other here. by k q other (orphaned-cases p.id (at k) q here))
    (λ q is. let l = left-cases p status q is in subst (λ (q : Process). P slot q) (sym l.1) (left l.0))
  where
    by : (k : ℕ) (q : Process) → k ≢ slot → WasOther p.id (at k) q → P k q
    by k q other w = how w.how
      where
        how : ((w.before.parent ≢ p.id) × (q ≡ w.before)) ⊎ ((is_live w.before.state ≡ true) × (q ≡ record w.before { parent = 0 })) → P k q
        how (inl (a, e)) = subst (λ (x : Process). P k x) (sym e) (others k w.before other w.there)
        how (inr (l, e)) = subst (λ (x : Process). P k x) (sym e) (orphans k w.before other w.there l)

-- The process itself ends, and no descriptor of it is in use.
pub ended-steady : (at : Slots) (slots : ℕ) (tables : Tables) (c d : Content) (n forks slot status : ℕ) (p : Process) → status < 2 ^ 32 → at slot ≡ Some p → is_live p.state ≡ true
    → OthersStay p.region c d → d.stores p.region ≡ None → ContentIsSound n d → Steady at slots tables c n forks
    → Steady (slots_ended at slot p status) slots (changed tables slot no_descriptors) d n forks
ended-steady at slots tables c d n forks slot status p small there live others gone content s = record {
  content = content;
  fine = all-ended (λ k q. IsFine n d q) at slot status p (λ k q other here. fine-same n c d q (s.fine k q here)) (λ k q other here l. orphan-fine n d q l (fine-same n c d q (s.fine k q here)))
      (λ parent. zombie-fine n d p status small parent (s.fine slot p there).region);
  ids = ended-ids at slot forks status p there live s.ids;
  calls = all-ended (λ k q. IsUnderway q (changed tables slot no_descriptors k) d q.state) at slot status p
      (λ k q other here. called k q other here)
      (λ k q other here l. underway-orphan q (changed tables slot no_descriptors k) d q.state (called k q other here))
      (λ parent. tt);
  stores = record {
    some = all-ended (λ k q. is_live q.state ≡ true → is_some (d.stores q.region) ≡ true) at slot status p
        (λ k q other here l. ap is_some (stays k q other here l) ∙ s.stores.some k q here l)
        (λ k q other here l m. ap is_some (stays k q other here l) ∙ s.stores.some k q here l)
        (λ parent l. absurd (false≢true l));
    live = λ region is. by region (eqb_tells region p.region) is;
  };
  each = changed-tables tables slots slot no_descriptors no-table s.each;
  none = λ k low. none k low (eqb_tells k slot);
}
  where
    stays : (k : ℕ) (q : Process) → k ≢ slot → at k ≡ Some q → is_live q.state ≡ true → d.stores q.region ≡ c.stores q.region
    stays k q other here l = others q.region (λ e. other (s.ids.regions k slot q p here there l live e))

    called : (k : ℕ) (q : Process) → k ≢ slot → at k ≡ Some q → IsUnderway q (changed tables slot no_descriptors k) d q.state
    called k q other here =
        subst (λ (t : Table). IsUnderway q t d q.state) (sym (changed-other tables slot k no_descriptors other))
        (underway-same q (tables k) c d q.state (stays k q other here) (s.calls k q here))

    none : (k : ℕ) → k < slots → ((nat_eq k slot ≡ true) × (k ≡ slot)) ⊎ ((nat_eq k slot ≡ false) × (k ≢ slot)) → lives (slots_ended at slot p status k) ≡ false → changed tables slot no_descriptors k ≡ no_descriptors
    none k low (inl (t, f)) dead = rw t refl
    none k low (inr (t, f)) dead =
        let was : lives (orphaned p.id (at k)) ≡ false = rw t at dead in
        changed-other tables slot k no_descriptors f ∙ s.none k low (sym (orphaned-live p.id (at k)) ∙ was)

    by : (region : ℕ) → ((nat_eq region p.region ≡ true) × (region ≡ p.region)) ⊎ ((nat_eq region p.region ≡ false) × (region ≢ p.region)) → is_some (d.stores region) ≡ true → LivesWith (slots_ended at slot p status) region
    by region (inl (t, f)) is = let no : is_some (d.stores region) ≡ false = rw (f, gone) refl in absurd (cc)
    by region (inr (t, f)) is =
        let l = s.stores.live region (sym (ap is_some (others region f)) ∙ is) in
        let o = orphaned-lives p.id l.process l.live in
        record {
          slot = l.slot;
          process = o.process;
          live = o.live;
          region_is = o.region ∙ l.region_is;
          there = changed-other (λ k. orphaned p.id (at k)) slot l.slot (left_of p status) (apart l) ∙ ap (orphaned p.id) l.there ∙ o.there;
        }
      where
        apart : (l : LivesWith at region) → l.slot ≢ slot
        apart l g = let one : at slot ≡ Some l.process = rw g at l.there in let is : l.process ≡ p = cc in f (sym l.region_is ∙ ap (λ (x : Process). x.region) is)
