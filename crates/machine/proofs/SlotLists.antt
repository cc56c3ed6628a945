-- The processes and the descriptors of slots after changes of their lists, as functions.
use Rattle.std.proofs.Common.{◌≡◌, ◌≢◌, sym, refl, ℕ, zero, suc, ◌<◌, ◌⊎◌, inl, inr, nat_eq, get_or, Option, Some, None, List, [], ◌∷◌, map, length, cond, true, false, slice_set, arith}
use Rattle.std.proofs.Math.Path.{fun_ext}
use Rattle.std.proofs.lemmas.Bool.Decides.{eqb_tells}
use Rattle.std.proofs.lemmas.List.{get_or-set_same, get_or-set_other}
use Rattle.machine_types.specs.Stores.{changed}
use Rattle.machine.specs.declared.process.Process.{Process}
use Rattle.machine.specs.Processes.{process_at}
use Rattle.machine.specs.Pipes.{Table, table_at}
use Rattle.machine.specs.Shape.{Slots}

-- the descriptors of slots, as a function
abbrev pub Tables : Type 0
Tables = ℕ → Table

-- a place of a list is written
set-place : {A : Type 0} (xs : List A) (d : A) (i : ℕ) (x : A) → i < length xs → (λ (k : ℕ). get_or (slice_set xs i x) k d) ≡ changed (λ (k : ℕ). get_or xs k d) i x
set-place {A} xs d i x within = fun_ext (λ k. by k (eqb_tells k i))
  where
    by : (k : ℕ) → ((nat_eq k i ≡ true) × (k ≡ i)) ⊎ ((nat_eq k i ≡ false) × (k ≢ i)) → get_or (slice_set xs i x) k d ≡ cond (nat_eq k i) x (get_or xs k d)
    by k (inl (t, e)) = rw (t, e) (get_or-set_same xs i x d within)
    by k (inr (t, e)) = rw t (get_or-set_other xs i k x d e)

-- a slot is written
pub set-slot : (processes : List (Option Process)) (slot : ℕ) (x : Option Process) → slot < length processes → process_at (slice_set processes slot x) ≡ changed (process_at processes) slot x
set-slot processes slot x within = set-place processes None slot x within

-- the descriptors of a slot are written
pub set-table : (tables : List Table) (slot : ℕ) (x : Table) → slot < length tables → table_at (slice_set tables slot x) ≡ changed (table_at tables) slot x
set-table tables slot x within = set-place tables [] slot x within

-- a slot with a process is one of the list
pub slot-within : (processes : List (Option Process)) (slot : ℕ) (p : Process) → process_at processes slot ≡ Some p → slot < length processes
slot-within [] slot p e = absurd (cc)
slot-within (o ∷ processes) zero p e = omega arith
slot-within (o ∷ processes) (suc slot) p e = let rest = slot-within processes slot p e in omega arith

-- each slot is changed
pub map-slots : (f : Option Process → Option Process) → f None ≡ None → (processes : List (Option Process)) → process_at (map f processes) ≡ (λ k. f (process_at processes k))
map-slots f none processes = fun_ext (λ k. at processes k)
  where
    at : (processes : List (Option Process)) (k : ℕ) → process_at (map f processes) k ≡ f (process_at processes k)
    at [] k = sym none
    at (o ∷ processes) zero = refl
    at (o ∷ processes) (suc k) = at processes k

-- what stands at a slot after a change
pub changed-cases : (at : Slots) (slot k : ℕ) (x : Option Process) (q : Process) → changed at slot x k ≡ Some q → ((k ≡ slot) × (x ≡ Some q)) ⊎ ((k ≢ slot) × (at k ≡ Some q))
changed-cases at slot k x q = by (eqb_tells k slot)
  where
    by : ((nat_eq k slot ≡ true) × (k ≡ slot)) ⊎ ((nat_eq k slot ≡ false) × (k ≢ slot)) → cond (nat_eq k slot) x (at k) ≡ Some q → ((k ≡ slot) × (x ≡ Some q)) ⊎ ((k ≢ slot) × (at k ≡ Some q))
    by (inl (t, e)) h = inl (e, rw t at h)
    by (inr (t, e)) h = inr (e, rw t at h)

-- the slot that was written
pub changed-here : {A : Type 0} (at : ℕ → A) (slot : ℕ) (x : A) → changed at slot x slot ≡ x
changed-here {A} at slot x = by (eqb_tells slot slot)
  where
    by : ((nat_eq slot slot ≡ true) × (slot ≡ slot)) ⊎ ((nat_eq slot slot ≡ false) × (slot ≢ slot)) → cond (nat_eq slot slot) x (at slot) ≡ x
    by (inl (t, e)) = rw t refl
    by (inr (t, e)) = absurd (e refl)

-- and each other one
pub changed-other : {A : Type 0} (at : ℕ → A) (slot k : ℕ) (x : A) → k ≢ slot → changed at slot x k ≡ at k
changed-other {A} at slot k x other = by (eqb_tells k slot)
  where
    by : ((nat_eq k slot ≡ true) × (k ≡ slot)) ⊎ ((nat_eq k slot ≡ false) × (k ≢ slot)) → cond (nat_eq k slot) x (at k) ≡ at k
    by (inl (t, e)) = absurd (other e)
    by (inr (t, e)) = rw t refl

-- a slot written as it was
pub changed-same : (at : Slots) (slot : ℕ) (x : Option Process) → at slot ≡ x → changed at slot x ≡ at
changed-same at slot x e = fun_ext (λ k. by k (eqb_tells k slot))
  where
    by : (k : ℕ) → ((nat_eq k slot ≡ true) × (k ≡ slot)) ⊎ ((nat_eq k slot ≡ false) × (k ≢ slot)) → cond (nat_eq k slot) x (at k) ≡ at k
    by k (inl (t, f)) = rw (t, f) (sym e)
    by k (inr (t, f)) = rw t refl

-- what holds of the process of each slot after a change
pub all-changed : (P : ℕ → Process → Type 0) (at : Slots) (slot : ℕ) (x : Option Process) → ((k : ℕ) (q : Process) → k ≢ slot → at k ≡ Some q → P k q) → ((q : Process) → x ≡ Some q → P slot q)
    → (k : ℕ) (q : Process) → changed at slot x k ≡ Some q → P k q
all-changed P at slot x others here k q h = by (changed-cases at slot k x q h)
  where
    by : ((k ≡ slot) × (x ≡ Some q)) ⊎ ((k ≢ slot) × (at k ≡ Some q)) → P k q
    by (inl (e, f)) = rw e (here q f)
    by (inr (e, f)) = others k q e f
