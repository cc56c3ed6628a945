-- The children of a process, and the Zombie child of lowest id.
use Rattle.std.proofs.Common.{◌≡◌, ◌∙◌, refl, ap, ℕ, zero, suc, ◌≤◌, ◌⊎◌, inl, inr, nat_eq, nat_lt, Option, Some, None, List, [], ◌∷◌, cond, true, false, Bool, arith}
use Rattle.std.specs.Prelude.{◌↔◌}
use Rattle.std.proofs.lemmas.Bool.{eq-eqb, eqb-true, ltb-true, ltb-false}
use Rattle.machine.specs.declared.process.Process.{Process}
use Rattle.machine.specs.declared.process.State.{State}
use Rattle.machine.specs.declared.process.State.TheVariants.{Ready, InRead, InWrite, InWait, Zombie}
use Rattle.machine.specs.Processes.{process_at, Ended, ended_as, is_child, ended_child, with_lower, first_ended, children_of}
use Rattle.machine.specs.Scanning.{IsZombieOf}
use Rattle.machine.proofs.ScansFound.{any-place, any-from-place}

-- There is a child where a slot has one.

-- a child, as the scan for one says it
is-child : (o : Option Process) (parent : ℕ) (p : Process) → o ≡ Some p → p.parent ≡ parent → is_child parent o ≡ true
is-child o parent p there e = rw there (eq-eqb p.parent parent e)

child-of : (o : Option Process) (parent : ℕ) → is_child parent o ≡ true → (p : Process) × (o ≡ Some p) × (p.parent ≡ parent)
child-of None parent e = absurd (cc)
child-of (Some p) parent e = (p, refl, eqb-true p.parent parent e)

pub child-found : (processes : List (Option Process)) (parent : ℕ) → ((children_of parent processes).some ≡ true) ↔ ((k : ℕ) × (p : Process) × (process_at processes k ≡ Some p) × (p.parent ≡ parent))
child-found processes parent = (
  λ e. let at = any-place (is_child parent) processes e in let child = child-of (process_at processes at.place) parent at.passes_there in (at.place, child.0, child.1, child.2),
  λ w. any-from-place (is_child parent) processes w.0 refl (is-child (process_at processes w.0) parent w.1 w.2 w.3),
)

-- A slot's Zombie.

-- what a Zombie leaves to its parent
ended-of-zombie : (p : Process) (parent : ℕ) (child : Ended) → p.parent ≡ parent → p.id ≡ child.id → p.state ≡ Zombie child.status → ended_child parent (Some p) ≡ Some child
ended-of-zombie p parent child e i s = rw (eq-eqb p.parent parent e, s, i) refl

-- a state that is a Zombie's
state-of-ended : (id : ℕ) (state : State) (child : Ended) → ended_as id state ≡ Some child → (id ≡ child.id) × (state ≡ Zombie child.status)
state-of-ended id Ready child e = absurd (cc)
state-of-ended id InRead child e = absurd (cc)
state-of-ended id (InWrite done) child e = absurd (cc)
state-of-ended id InWait child e = absurd (cc)
state-of-ended id (Zombie status) child e =
    let same : record { id = id; status = status } ≡ child = cc in
    (ap (λ (x : Ended). x.id) same, ap (λ (x : Ended). Zombie x.status) same)

-- the first slot's Zombie
zombie-here : (o : Option Process) (processes : List (Option Process)) (parent : ℕ) (child : Ended) → ended_child parent o ≡ Some child → IsZombieOf (o ∷ processes) parent child
zombie-here None processes parent child e = absurd (cc)
zombie-here (Some p) processes parent child e = by (nat_eq p.parent parent) refl e
  where
    by : (b : Bool) → nat_eq p.parent parent ≡ b → cond b (ended_as p.id p.state) None ≡ Some child → IsZombieOf (Some p ∷ processes) parent child
    by false is f = absurd (cc)
    by true is f =
        let z = state-of-ended p.id p.state child f in
        record { slot = zero; process = p; there = refl; parent_is = eqb-true p.parent parent is; id = z.0; state = z.1 }

-- a later slot's
zombie-later : (o : Option Process) (processes : List (Option Process)) (parent : ℕ) (child : Ended) → IsZombieOf processes parent child → IsZombieOf (o ∷ processes) parent child
zombie-later o processes parent child z = record { slot = suc z.slot; process = z.process; there = z.there; parent_is = z.parent_is; id = z.id; state = z.state }

-- Each is one or the other.
zombie-cases : (o : Option Process) (processes : List (Option Process)) (parent : ℕ) (child : Ended) → IsZombieOf (o ∷ processes) parent child → (ended_child parent o ≡ Some child) ⊎ IsZombieOf processes parent child
zombie-cases o processes parent child z = by z.slot z.there
  where
    by : (slot : ℕ) → process_at (o ∷ processes) slot ≡ Some z.process → (ended_child parent o ≡ Some child) ⊎ IsZombieOf processes parent child
    by zero there = inl (ap (ended_child parent) there ∙ ended-of-zombie z.process parent child z.parent_is z.id z.state)
    by (suc k) there = inr (record { slot = k; process = z.process; there = there; parent_is = z.parent_is; id = z.id; state = z.state })

-- a Zombie child of lowest id
pub record IsFirst (processes : List (Option Process)) (parent : ℕ) (child : Ended) : Type 0 where
  pub zombie : IsZombieOf processes parent child
  pub lowest : (other : Ended) → IsZombieOf processes parent other → child.id ≤ other.id

-- What is found among processes: none where there is no Zombie child, and else one of lowest id.
abbrev IsFound : List (Option Process) → ℕ → Option Ended → Type 0
IsFound processes parent None = (child : Ended) → IsZombieOf processes parent child → ⊥
IsFound processes parent (Some child) = IsFirst processes parent child

-- with one slot more in front
found-more : (o : Option Process) (processes : List (Option Process)) (parent : ℕ) (here later : Option Ended) → ended_child parent o ≡ here → IsFound processes parent later → IsFound (o ∷ processes) parent (with_lower here later)
found-more o processes parent None None is rest = λ child z. by child (zombie-cases o processes parent child z)
  where
    by : (child : Ended) → (ended_child parent o ≡ Some child) ⊎ IsZombieOf processes parent child → ⊥
    by child (inl e) = cc
    by child (inr z) = rest child z
found-more o processes parent None (Some later) is rest = record { zombie = zombie-later o processes parent later rest.zombie; lowest = λ other z. by other (zombie-cases o processes parent other z) }
  where
    by : (other : Ended) → (ended_child parent o ≡ Some other) ⊎ IsZombieOf processes parent other → later.id ≤ other.id
    by other (inl e) = absurd (cc)
    by other (inr z) = rest.lowest other z
found-more o processes parent (Some here) None is rest = record { zombie = zombie-here o processes parent here is; lowest = λ other z. by other (zombie-cases o processes parent other z) }
  where
    by : (other : Ended) → (ended_child parent o ≡ Some other) ⊎ IsZombieOf processes parent other → here.id ≤ other.id
    by other (inl e) = let same : here ≡ other = cc in let ids : here.id ≡ other.id = ap (λ (x : Ended). x.id) same in omega arith
    by other (inr z) = absurd (rest other z)
found-more o processes parent (Some here) (Some later) is rest = by-less (nat_lt here.id later.id) refl
  where
    by-here : here.id ≤ later.id → (other : Ended) → (ended_child parent o ≡ Some other) ⊎ IsZombieOf processes parent other → here.id ≤ other.id
    by-here less other (inl e) = let same : here ≡ other = cc in let ids : here.id ≡ other.id = ap (λ (x : Ended). x.id) same in omega arith
    by-here less other (inr z) = let low = rest.lowest other z in omega arith

    by-later : later.id ≤ here.id → (other : Ended) → (ended_child parent o ≡ Some other) ⊎ IsZombieOf processes parent other → later.id ≤ other.id
    by-later less other (inl e) = let same : here ≡ other = cc in let ids : here.id ≡ other.id = ap (λ (x : Ended). x.id) same in omega arith
    by-later less other (inr z) = rest.lowest other z

    by-less : (b : Bool) → nat_lt here.id later.id ≡ b → IsFirst (o ∷ processes) parent (cond b here later)
    by-less true f = let less = ltb-true here.id later.id f in record { zombie = zombie-here o processes parent here is; lowest = λ other z. by-here (omega arith) other (zombie-cases o processes parent other z) }
    by-less false f = record { zombie = zombie-later o processes parent later rest.zombie; lowest = λ other z. by-later (ltb-false here.id later.id f) other (zombie-cases o processes parent other z) }

-- the scan of all slots
first-found : (parent : ℕ) (processes : List (Option Process)) → IsFound processes parent (first_ended parent processes)
unfolding first_ended
first-found parent [] = λ child z. let there = z.there in absurd (cc)
first-found parent (o ∷ processes) = found-more o processes parent (ended_child parent o) (first_ended parent processes) refl (first-found parent processes)

-- the child that is found
pub ended-found : (processes : List (Option Process)) (parent : ℕ) (child : Ended) → (children_of parent processes).ended ≡ Some child → IsFirst processes parent child
ended-found processes parent child e = rw e at (first-found parent processes)

-- and where none is
pub none-ended : (processes : List (Option Process)) (parent : ℕ) (child : Ended) → (children_of parent processes).ended ≡ None → IsZombieOf processes parent child → ⊥
none-ended processes parent child e = let none = rw e at (first-found parent processes) in none child
