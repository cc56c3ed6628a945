-- The scan of a transfer's bytes, byte by byte.
use Rattle.std.proofs.Common.{◌≡◌, ◌+◌, ◌<◌, ℕ, zero, suc, true, Bool, ◌&&◌, subst, arith, refl}
use Rattle.machine_types.specs.declared.touches.Access.{Access}
use Rattle.contents.specs.Content.{Content, page_at}
use Rattle.contents.specs.Accesses.{page_of_place}
use Rattle.contents.specs.Transfers.{may_access, covers_of}
use Rattle.contents.specs.Conditions.{Covers}

-- what holds at a place and at each of the places after it
pub with-first : (P : ℕ → Type 0) (at n : ℕ) → P at → ((k : ℕ) → k < n → P (at + 1 + k)) → (k : ℕ) → k < suc n → P (at + k)
with-first P at n here rest zero h = let e : at ≡ at + 0 = omega arith in subst P e here
with-first P at n here rest (suc k) h = let e : at + 1 + k ≡ at + suc k = omega arith in subst P e (rest k (omega arith))

-- what holds at each of the places holds at the first
pub at-first : (P : ℕ → Type 0) (at n : ℕ) → ((k : ℕ) → k < suc n → P (at + k)) → P at
at-first P at n all = let e : at + 0 ≡ at = omega arith in subst P e (all 0 (omega arith))

-- and at those after it
pub after-first : (P : ℕ → Type 0) (at n : ℕ) → ((k : ℕ) → k < suc n → P (at + k)) → (k : ℕ) → k < n → P (at + 1 + k)
after-first P at n all k h = let e : at + suc k ≡ at + 1 + k = omega arith in subst P e (all (suc k) (omega arith))

-- the parts of a conjunction
both-true : (a b : Bool) → (a && b) ≡ true → (a ≡ true) × (b ≡ true)
both-true a b h = grind arith

-- the byte at a place is covered
abbrev IsCovered : Content → ℕ → Access → ℕ → Type 0
IsCovered c region access at = may_access access (page_at c region (page_of_place at)) ≡ true

-- where the scan says true, each byte is covered
pub covered-by-scan : (c : Content) (region : ℕ) (access : Access) (at n : ℕ) → covers_of c region at n access ≡ true → (k : ℕ) → k < n → IsCovered c region access (at + k)
unfolding covers_of
covered-by-scan c region access at zero h k less = absurd (omega arith)
covered-by-scan c region access at (suc n) h k less =
    let parts = both-true _ _ h in
    with-first (IsCovered c region access) at n parts.0 (covered-by-scan c region access (at + 1) n parts.1) k less

-- where each byte is covered, the scan says true
pub scan-of-covered : (c : Content) (region : ℕ) (access : Access) (at n : ℕ) → Covers region at n access c → covers_of c region at n access ≡ true
unfolding covers_of
scan-of-covered c region access at zero all = refl
scan-of-covered c region access at (suc n) all =
    rw (at-first (IsCovered c region access) at n all) (scan-of-covered c region access (at + 1) n (after-first (IsCovered c region access) at n all))
