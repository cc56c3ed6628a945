-- Ids, parents and regions of processes under fork, end and wait.
use Rattle.std.proofs.Common.{◌≡◌, ◌≢◌, ◌∙◌, sym, ap, refl, ℕ, ◌+◌, ◌≤◌, ◌<◌, ◌⊎◌, inl, inr, nat_eq, Some, None, true, false, subst, arith}
use Rattle.std.proofs.lemmas.Bool.Decides.{eqb_tells}
use Rattle.std.proofs.lemmas.Bool.{false≢true}
use Rattle.machine_types.specs.Stores.{changed}
use Rattle.machine.specs.declared.process.Process.{Process}
use Rattle.machine.specs.Processes.{is_live, orphaned, without_id, left_of}
use Rattle.machine.specs.Shape.{Slots}
use Rattle.machine.specs.Sound.{HasLive, IdsAreExact}
use Rattle.machine.specs.Shapes.{IsSameProcess}
use Rattle.machine.proofs.SlotLists.{changed-cases, changed-here, changed-other}
use Rattle.machine.proofs.LeftProcesses.{WasOther, orphaned-cases, orphaned-lives, left-cases, without-cases, without-keeps}

-- A process that was there before: with the same id, the same parent or none, and, while it lives, the same region.
pub record WasThere (at : Slots) (k : ℕ) (q : Process) : Type 0 where
  pub before : Process
  pub there : at k ≡ Some before
  pub id : q.id ≡ before.id
  pub parent : (q.parent ≡ 0) ⊎ (q.parent ≡ before.parent)
  pub live : is_live q.state ≡ true → (is_live before.state ≡ true) × (q.region ≡ before.region)

-- so was each process
abbrev pub AllWereThere : Slots → Slots → Type 0
AllWereThere at next = (k : ℕ) (q : Process) → next k ≡ Some q → WasThere at k q

-- a parent is none or lives
abbrev pub HaveParents : Slots → Type 0
HaveParents at = (k : ℕ) (p : Process) → at k ≡ Some p → (p.parent ≡ 0) ⊎ HasLive at p.parent

-- Where all processes were there before, and parents live, ids stay exact.
pub ids-stay : (at next : Slots) (forks : ℕ) → AllWereThere at next → HaveParents next → IdsAreExact at forks → IdsAreExact next forks
ids-stay at next forks were parents is = record {
  regions = λ j k p q a b l m e.
      let x = were j p a in
      let y = were k q b in
      is.regions j k x.before y.before x.there y.there (x.live l).0 (y.live m).0 (sym (x.live l).1 ∙ e ∙ (y.live m).1);
  ids = λ j k p q a b e. let x = were j p a in let y = were k q b in is.ids j k x.before y.before x.there y.there (sym x.id ∙ e ∙ y.id);
  first = λ k p a. let x = were k p a in rw x.id (is.first k x.before x.there);
  last = λ k p a. let x = were k p a in rw x.id (is.last k x.before x.there);
  parents = parents;
  older = λ k p a. older k p (were k p a);
}
  where
    older : (k : ℕ) (p : Process) → WasThere at k p → p.parent < p.id
    older k p x = by x.parent
      where
        by : (p.parent ≡ 0) ⊎ (p.parent ≡ x.before.parent) → p.parent < p.id
        by (inl e) = let low = is.first k x.before x.there in let same = x.id in omega arith
        by (inr e) = let low = is.older k x.before x.there in let same = x.id in omega arith

-- The process of a slot is replaced by one with the same id, parent and region that lives.
pub own-ids : (at : Slots) (slot forks : ℕ) (p q : Process) → at slot ≡ Some p → is_live p.state ≡ true → IsSameProcess p q → IdsAreExact at forks → IdsAreExact (changed at slot (Some q)) forks
own-ids at slot forks p q there live same is = ids-stay at (changed at slot (Some q)) forks were parents is
  where
    were : AllWereThere at (changed at slot (Some q))
    were k x h = by (changed-cases at slot k (Some q) x h)
      where
        by : ((k ≡ slot) × (Some q ≡ Some x)) ⊎ ((k ≢ slot) × (at k ≡ Some x)) → WasThere at k x
        by (inl (e, f)) =
            let is : q ≡ x = cc in
            subst (λ (x : Process). WasThere at k x) is (record { before = p; there = rw e there; id = same.id; parent = inr same.parent; live = λ _. (live, same.region) })
        by (inr (e, f)) = record { before = x; there = f; id = refl; parent = inr refl; live = λ l. (l, refl) }

    lives : (id : ℕ) → HasLive at id → HasLive (changed at slot (Some q)) id
    lives id l = by (eqb_tells l.slot slot)
      where
        by : ((nat_eq l.slot slot ≡ true) × (l.slot ≡ slot)) ⊎ ((nat_eq l.slot slot ≡ false) × (l.slot ≢ slot)) → HasLive (changed at slot (Some q)) id
        by (inl (t, e)) =
            let one : at slot ≡ Some l.process = rw e at l.there in
            let is : p ≡ l.process = cc in
            record { slot = slot; process = q; there = changed-here at slot (Some q); live = same.live; id_is = same.id ∙ ap (λ (x : Process). x.id) is ∙ l.id_is }
        by (inr (t, e)) = record { slot = l.slot; process = l.process; there = changed-other at slot l.slot (Some q) e ∙ l.there; live = l.live; id_is = l.id_is }

    parents : HaveParents (changed at slot (Some q))
    parents k x h = by (changed-cases at slot k (Some q) x h)
      where
        up : (id : ℕ) → (id ≡ 0) ⊎ HasLive at id → (id ≡ 0) ⊎ HasLive (changed at slot (Some q)) id
        up id (inl e) = inl e
        up id (inr l) = inr (lives id l)

        by : ((k ≡ slot) × (Some q ≡ Some x)) ⊎ ((k ≢ slot) × (at k ≡ Some x)) → (x.parent ≡ 0) ⊎ HasLive (changed at slot (Some q)) x.parent
        by (inl (e, f)) =
            let is-parent : p.parent ≡ x.parent = sym same.parent ∙ ap (λ (o : Process). o.parent) (let is : q ≡ x = cc in is) in
            up x.parent (subst (λ (id : ℕ). (id ≡ 0) ⊎ HasLive at id) is-parent (is.parents slot p there))
        by (inr (e, f)) = up x.parent (is.parents k x f)

-- A child is added at a free slot.
pub added-ids : (at : Slots) (slot forks : ℕ) (child : Process) → at slot ≡ None → child.id ≡ forks + 2 → HasLive at child.parent → ((k : ℕ) (q : Process) → at k ≡ Some q → is_live q.state ≡ true → q.region ≢ child.region)
    → IdsAreExact at forks → IdsAreExact (changed at slot (Some child)) (forks + 1)
added-ids at slot forks child free id parent apart is = record {
  regions = λ j k p q a b l m e. by-regions j k p q (changed-cases at slot j (Some child) p a) (changed-cases at slot k (Some child) q b) l m e;
  ids = λ j k p q a b e. by-ids j k p q (changed-cases at slot j (Some child) p a) (changed-cases at slot k (Some child) q b) e;
  first = λ k p a. by-first k p (changed-cases at slot k (Some child) p a);
  last = λ k p a. by-last k p (changed-cases at slot k (Some child) p a);
  parents = λ k p a. by-parents k p (changed-cases at slot k (Some child) p a);
  older = λ k p a. by-older k p (changed-cases at slot k (Some child) p a);
}
  where
    Case : ℕ → Process → Type 0
    Case k p = ((k ≡ slot) × (Some child ≡ Some p)) ⊎ ((k ≢ slot) × (at k ≡ Some p))

    by-regions : (j k : ℕ) (p q : Process) → Case j p → Case k q → is_live p.state ≡ true → is_live q.state ≡ true → p.region ≡ q.region → j ≡ k
    by-regions j k p q (inl (a, b)) (inl (d, f)) l m e = a ∙ sym d
    by-regions j k p q (inl (a, b)) (inr (d, f)) l m e = let is : child ≡ p = cc in absurd (apart k q f m (sym e ∙ ap (λ (x : Process). x.region) (sym is)))
    by-regions j k p q (inr (a, b)) (inl (d, f)) l m e = let is : child ≡ q = cc in absurd (apart j p b l (e ∙ ap (λ (x : Process). x.region) (sym is)))
    by-regions j k p q (inr (a, b)) (inr (d, f)) l m e = is.regions j k p q b f l m e

    by-ids : (j k : ℕ) (p q : Process) → Case j p → Case k q → p.id ≡ q.id → j ≡ k
    by-ids j k p q (inl (a, b)) (inl (d, f)) e = a ∙ sym d
    by-ids j k p q (inl (a, b)) (inr (d, f)) e = let same : child.id ≡ p.id = ap (λ (x : Process). x.id) (let is : child ≡ p = cc in is) in let most = is.last k q f in absurd (omega arith)
    by-ids j k p q (inr (a, b)) (inl (d, f)) e = let same : child.id ≡ q.id = ap (λ (x : Process). x.id) (let is : child ≡ q = cc in is) in let most = is.last j p b in absurd (omega arith)
    by-ids j k p q (inr (a, b)) (inr (d, f)) e = is.ids j k p q b f e

    by-first : (k : ℕ) (p : Process) → Case k p → 1 ≤ p.id
    by-first k p (inl (a, b)) = let same : child.id ≡ p.id = ap (λ (x : Process). x.id) (let is : child ≡ p = cc in is) in omega arith
    by-first k p (inr (a, b)) = is.first k p b

    by-last : (k : ℕ) (p : Process) → Case k p → p.id ≤ 1 + (forks + 1)
    by-last k p (inl (a, b)) = let same : child.id ≡ p.id = ap (λ (x : Process). x.id) (let is : child ≡ p = cc in is) in omega arith
    by-last k p (inr (a, b)) = let most = is.last k p b in omega arith

    up : (id : ℕ) → HasLive at id → HasLive (changed at slot (Some child)) id
    up id l = record {
      slot = l.slot;
      process = l.process;
      live = l.live;
      id_is = l.id_is;
      there = changed-other at slot l.slot (Some child) (λ e. let one : at slot ≡ Some l.process = rw e at l.there in cc) ∙ l.there;
    }

    by-parents : (k : ℕ) (p : Process) → Case k p → (p.parent ≡ 0) ⊎ HasLive (changed at slot (Some child)) p.parent
    by-parents k p (inl (a, b)) = let same : child.parent ≡ p.parent = ap (λ (x : Process). x.parent) (let is : child ≡ p = cc in is) in inr (up p.parent (subst (HasLive at) same parent))
    by-parents k p (inr (a, b)) = more (is.parents k p b)
      where
        more : (p.parent ≡ 0) ⊎ HasLive at p.parent → (p.parent ≡ 0) ⊎ HasLive (changed at slot (Some child)) p.parent
        more (inl e) = inl e
        more (inr l) = inr (up p.parent l)

    by-older : (k : ℕ) (p : Process) → Case k p → p.parent < p.id
    by-older k p (inl (a, b)) =
        let is-child : child ≡ p = cc in
        let one : child.id ≡ p.id = ap (λ (x : Process). x.id) is-child in
        let two : child.parent ≡ p.parent = ap (λ (x : Process). x.parent) is-child in
        let most = is.last parent.slot parent.process parent.there in
        let same = parent.id_is in
        omega arith
    by-older k p (inr (a, b)) = is.older k p b

-- The slots after the end of a process.
abbrev pub slots_ended : Slots → ℕ → Process → ℕ → Slots
slots_ended at slot p status = changed (λ k. orphaned p.id (at k)) slot (left_of p status)

-- A process ends: its children have no parent from then on.
pub ended-ids : (at : Slots) (slot forks status : ℕ) (p : Process) → at slot ≡ Some p → is_live p.state ≡ true → IdsAreExact at forks → IdsAreExact (slots_ended at slot p status) forks
ended-ids at slot forks status p there live is = ids-stay at next forks were parents is
  where
    others : Slots
    others k = orphaned p.id (at k)

    next : Slots
    next = slots_ended at slot p status

    were : AllWereThere at next
    were k q h = by (changed-cases others slot k (left_of p status) q h)
      where
        by-other : WasOther p.id (at k) q → WasThere at k q
        by-other w = how w.how
          where
            how : ((w.before.parent ≢ p.id) × (q ≡ w.before)) ⊎ ((is_live w.before.state ≡ true) × (q ≡ record w.before { parent = 0 })) → WasThere at k q
            how (inl (a, e)) = subst (λ (x : Process). WasThere at k x) (sym e) (record { before = w.before; there = w.there; id = refl; parent = inr refl; live = λ l. (l, refl) })
            how (inr (a, e)) = subst (λ (x : Process). WasThere at k x) (sym e) (record { before = w.before; there = w.there; id = refl; parent = inl refl; live = λ l. (l, refl) })

        by : ((k ≡ slot) × (left_of p status ≡ Some q)) ⊎ ((k ≢ slot) × (others k ≡ Some q)) → WasThere at k q
        by (inl (e, f)) =
            let left = left-cases p status q f in
            subst (λ (x : Process). WasThere at k x) (sym left.1) (record { before = p; there = rw e there; id = refl; parent = inr refl; live = λ l. absurd (false≢true l) })
        by (inr (e, f)) = by-other (orphaned-cases p.id (at k) q f)

    up : (id : ℕ) → id ≢ p.id → HasLive at id → HasLive next id
    up id apart l =
        let o = orphaned-lives p.id l.process l.live in
        record {
          slot = l.slot;
          process = o.process;
          live = o.live;
          id_is = o.id ∙ l.id_is;
          there = changed-other others slot l.slot (left_of p status) (λ e. apart (other e)) ∙ ap (orphaned p.id) l.there ∙ o.there;
        }
      where
        other : l.slot ≡ slot → id ≡ p.id
        other e = let here : at slot ≡ Some l.process = rw e at l.there in let same : l.process ≡ p = cc in sym l.id_is ∙ ap (λ (x : Process). x.id) same

    more : (id : ℕ) → id ≢ p.id → (id ≡ 0) ⊎ HasLive at id → (id ≡ 0) ⊎ HasLive next id
    more id apart (inl e) = inl e
    more id apart (inr l) = inr (up id apart l)

    parents : HaveParents next
    parents k q h = by (changed-cases others slot k (left_of p status) q h)
      where
        by-other : WasOther p.id (at k) q → (q.parent ≡ 0) ⊎ HasLive next q.parent
        by-other w = how w.how
          where
            how : ((w.before.parent ≢ p.id) × (q ≡ w.before)) ⊎ ((is_live w.before.state ≡ true) × (q ≡ record w.before { parent = 0 })) → (q.parent ≡ 0) ⊎ HasLive next q.parent
            how (inl (a, e)) = subst (λ (x : Process). (x.parent ≡ 0) ⊎ HasLive next x.parent) (sym e) (more w.before.parent a (is.parents k w.before w.there))
            how (inr (a, e)) = inl (ap (λ (x : Process). x.parent) e)

        by : ((k ≡ slot) × (left_of p status ≡ Some q)) ⊎ ((k ≢ slot) × (others k ≡ Some q)) → (q.parent ≡ 0) ⊎ HasLive next q.parent
        by (inl (e, f)) =
            let left = left-cases p status q f in
            let old = is.older slot p there in
            let apart : p.parent ≢ p.id = λ same. absurd (omega arith) in
            subst (λ (x : Process). (x.parent ≡ 0) ⊎ HasLive next x.parent) (sym left.1) (more p.parent apart (is.parents slot p there))
        by (inr (e, f)) = by-other (orphaned-cases p.id (at k) q f)

-- A process that isn't live is removed.
pub removed-ids : (at : Slots) (id forks : ℕ) → ((k : ℕ) (q : Process) → at k ≡ Some q → is_live q.state ≡ true → q.id ≢ id) → IdsAreExact at forks → IdsAreExact (λ k. without_id id (at k)) forks
removed-ids at id forks apart is = ids-stay at (λ k. without_id id (at k)) forks
    (λ k q h. let w = without-cases id (at k) q h in record { before = q; there = w.0; id = refl; parent = inr refl; live = λ l. (l, refl) })
    (λ k q h. let w = without-cases id (at k) q h in more q.parent (is.parents k q w.0))
    is
  where
    more : (parent : ℕ) → (parent ≡ 0) ⊎ HasLive at parent → (parent ≡ 0) ⊎ HasLive (λ k. without_id id (at k)) parent
    more parent (inl e) = inl e
    more parent (inr l) = inr (record { slot = l.slot; process = l.process; live = l.live; id_is = l.id_is; there = ap (without_id id) l.there ∙ without-keeps id l.process (apart l.slot l.process l.there l.live) })
