-- What the end of a process, and a wait for one, leave of the process of a slot.
use Rattle.std.proofs.Common.{◌≡◌, ◌≢◌, ◌∙◌, ap, refl, ℕ, ◌==◌, ◌⊎◌, inl, inr, nat_eq, Option, Some, None, cond, true, false, Bool}
use Rattle.std.proofs.lemmas.Bool.Decides.{eqb_tells}
use Rattle.std.proofs.lemmas.Bool.{ne_eqb}
use Rattle.machine.specs.declared.process.Process.{Process}
use Rattle.machine.specs.Processes.{is_live, lives, orphaned, orphaned_as, without_id, left_of, zombie_of}
use Rattle.machine.specs.Isolation.{parted}

-- A process that an end leaves was there before: the same where it is no child, and else a live one that lost its parent.
pub record WasOther (id : ℕ) (o : Option Process) (q : Process) : Type 0 where
  pub before : Process
  pub there : o ≡ Some before
  pub how : ((before.parent ≢ id) × (q ≡ before)) ⊎ ((is_live before.state ≡ true) × (q ≡ record before { parent = 0 }))

-- so is each process that is there after an end
pub orphaned-cases : (id : ℕ) (o : Option Process) (q : Process) → orphaned id o ≡ Some q → WasOther id o q
orphaned-cases id None q h = absurd (cc)
orphaned-cases id (Some p) q h = by (eqb_tells p.parent id) h
  where
    by-live : (b : Bool) → is_live p.state ≡ b → orphaned_as b p ≡ Some q → p.parent ≡ id → WasOther id (Some p) q
    by-live true l h e = record { before = p; there = refl; how = inr (l, cc) }
    by-live false l h e = absurd (cc)

    by : ((nat_eq p.parent id ≡ true) × (p.parent ≡ id)) ⊎ ((nat_eq p.parent id ≡ false) × (p.parent ≢ id)) → cond (nat_eq p.parent id) (orphaned_as (is_live p.state) p) (Some p) ≡ Some q → WasOther id (Some p) q
    by (inl (t, e)) h = by-live (is_live p.state) refl (rw t at h) e
    by (inr (t, e)) h = let is : Some p ≡ Some q = rw t at h in record { before = p; there = refl; how = inl (e, cc) }

-- A live process is left by an end, without its parent where that ends.
pub orphaned-parted : (id : ℕ) (q : Process) → is_live q.state ≡ true → orphaned id (Some q) ≡ Some (parted (q.parent == id) q)
orphaned-parted id q live = by (nat_eq q.parent id)
  where
    by : (b : Bool) → cond b (orphaned_as (is_live q.state) q) (Some q) ≡ Some (parted b q)
    by true = rw live refl
    by false = refl

-- So it is there still, alive, with its id and its region.
pub record StillLives (o : Option Process) (p : Process) : Type 0 where
  pub process : Process
  pub there : o ≡ Some process
  pub live : is_live process.state ≡ true
  pub id : process.id ≡ p.id
  pub region : process.region ≡ p.region

-- so does each live process
pub orphaned-lives : (id : ℕ) (p : Process) → is_live p.state ≡ true → StillLives (orphaned id (Some p)) p
orphaned-lives id p live = by (nat_eq p.parent id) (orphaned-parted id p live)
  where
    by : (b : Bool) → orphaned id (Some p) ≡ Some (parted b p) → StillLives (orphaned id (Some p)) p
    by true e = record { process = parted true p; there = e; live = live; id = refl; region = refl }
    by false e = record { process = p; there = e; live = live; id = refl; region = refl }

-- An end changes of no other slot whether a live process stands there.
pub orphaned-live : (id : ℕ) (o : Option Process) → lives (orphaned id o) ≡ lives o
orphaned-live id None = refl
orphaned-live id (Some p) = by (nat_eq p.parent id)
  where
    by-live : (b : Bool) → is_live p.state ≡ b → lives (orphaned_as b p) ≡ is_live p.state
    by-live true l = refl
    by-live false l = cc

    by : (b : Bool) → lives (cond b (orphaned_as (is_live p.state) p) (Some p)) ≡ is_live p.state
    by true = by-live (is_live p.state) refl
    by false = refl

-- What is left of the process that ends is a Zombie, where it has a parent, and else nothing.
pub left-cases : (p : Process) (status : ℕ) (q : Process) → left_of p status ≡ Some q → (p.parent ≢ 0) × (q ≡ zombie_of p status)
left-cases p status q h = by (eqb_tells p.parent 0) h
  where
    by : ((nat_eq p.parent 0 ≡ true) × (p.parent ≡ 0)) ⊎ ((nat_eq p.parent 0 ≡ false) × (p.parent ≢ 0)) → cond (nat_eq p.parent 0) None (Some (zombie_of p status)) ≡ Some q → (p.parent ≢ 0) × (q ≡ zombie_of p status)
    by (inl (t, e)) h = let no : None ≡ Some q = rw t at h in absurd (cc)
    by (inr (t, e)) h = let is : Some (zombie_of p status) ≡ Some q = rw t at h in (e, cc)

-- A process that is there without one id was there before, and has another id.
pub without-cases : (id : ℕ) (o : Option Process) (q : Process) → without_id id o ≡ Some q → (o ≡ Some q) × (q.id ≢ id)
without-cases id None q h = absurd (cc)
without-cases id (Some p) q h = by (eqb_tells p.id id) h
  where
    by : ((nat_eq p.id id ≡ true) × (p.id ≡ id)) ⊎ ((nat_eq p.id id ≡ false) × (p.id ≢ id)) → cond (nat_eq p.id id) None (Some p) ≡ Some q → (Some p ≡ Some q) × (q.id ≢ id)
    by (inl (t, e)) h = let no : None ≡ Some q = rw t at h in absurd (cc)
    by (inr (t, e)) h = let is : Some p ≡ Some q = rw t at h in let same : p ≡ q = cc in (is, λ f. e (ap (λ (x : Process). x.id) same ∙ f))

-- A process of another id stays.
pub without-keeps : (id : ℕ) (p : Process) → p.id ≢ id → without_id id (Some p) ≡ Some p
without-keeps id p apart = rw (ne_eqb p.id id apart) refl

-- A slot without a live process had none, where only a process that isn't live is removed.
pub without-live : (id : ℕ) (o : Option Process) → ((q : Process) → o ≡ Some q → is_live q.state ≡ true → q.id ≢ id) → lives (without_id id o) ≡ false → lives o ≡ false
without-live id None apart h = refl
without-live id (Some p) apart h = by (is_live p.state) refl
  where
    by : (b : Bool) → is_live p.state ≡ b → is_live p.state ≡ false
    by true l = let stays : lives (without_id id (Some p)) ≡ is_live p.state = ap lives (without-keeps id p (apart p refl l)) in cc
    by false l = l
