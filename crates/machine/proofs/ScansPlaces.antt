-- The lowest free slot and the lowest free region.
use Rattle.std.proofs.Common.{◌≡◌, ◌≢◌, refl, ℕ, ◌<◌, not, nat_eq, nat_lt, Option, Some, None, List, length, cond, true, false, Bool, arith}
use Rattle.std.specs.Prelude.{◌↔◌}
use Rattle.std.specs.List.{list_any, position_or_len}
use Rattle.std.proofs.lemmas.Bool.{not-true, and_from, and_parts, eq-eqb, eqb-true, ltb-false, ltb-true}
use Rattle.std.proofs.lemmas.List.Quantifiers.{position-Some}
use Rattle.std.proofs.lemmas.List.Sums.{fails_before_first, passes_at_first}
use Rattle.machine.specs.declared.process.Process.{Process}
use Rattle.machine.specs.Processes.{process_at, is_live, lives_in, is_free, lowest_free_slot, lowest_free_region}
use Rattle.machine.specs.Scanning.{IsUnlived}
use Rattle.machine.proofs.ScansFound.{range-found, range-none, any-place, any-from-place}

-- a slot is free where it has no process
free-none : (o : Option Process) → is_free o ≡ true → o ≡ None
free-none None e = refl
free-none (Some p) e = absurd (cc)

-- and is not where it has one
taken-some : (o : Option Process) → is_free o ≡ false → o ≢ None
taken-some None e none = cc
taken-some (Some p) e none = cc

-- The slot that is found is free, and those below are not.
pub slot-lowest : (processes : List (Option Process)) (k : ℕ) → lowest_free_slot processes ≡ Some k
    → (k < length processes) × (process_at processes k ≡ None) × ((j : ℕ) → j < k → process_at processes j ≢ None)
unfolding lowest_free_slot
slot-lowest processes k e =
    let found = position-Some is_free processes k None e in
    (found.0, free-none (process_at processes k) found.1, λ j below. taken-some (process_at processes j) (found.2 j below))

-- None is found where each slot has a process.
pub slot-none : (processes : List (Option Process)) → (lowest_free_slot processes ≡ None) ↔ ((j : ℕ) → j < length processes → process_at processes j ≢ None)
unfolding lowest_free_slot
slot-none processes = by (nat_lt first (length processes)) refl
  where
    first : ℕ
    first = position_or_len is_free processes

    by : (b : Bool) → nat_lt first (length processes) ≡ b → (cond b (Some first) None ≡ None) ↔ ((j : ℕ) → j < length processes → process_at processes j ≢ None)
    by true is =
        let within = ltb-true first (length processes) is in
        (λ e. absurd (cc), λ each. absurd (each first within (free-none (process_at processes first) (passes_at_first is_free processes None within))))
    by false is =
        let past = ltb-false first (length processes) is in
        (λ e j below. taken-some (process_at processes j) (fails_before_first is_free processes j None (omega arith)), λ each. refl)

-- a live process of the region, as the scan for a region says it
lives-in : (o : Option Process) (p : Process) (region : ℕ) → o ≡ Some p → is_live p.state ≡ true → p.region ≡ region → lives_in region o ≡ true
lives-in o p region e live same = rw e (and_from _ _ live (eq-eqb p.region region same))

-- a process in a slot, live and of this region
record IsLivedBy (o : Option Process) (region : ℕ) : Type 0 where
  pub process : Process
  pub there : o ≡ Some process
  pub live : is_live process.state ≡ true
  pub region_is : process.region ≡ region

-- what the scan for a region says of a slot
lived-by : (o : Option Process) (region : ℕ) → lives_in region o ≡ true → IsLivedBy o region
lived-by None region e = absurd (cc)
lived-by (Some p) region e =
    let parts = and_parts (is_live p.state) (nat_eq p.region region) e in
    record { process = p; there = refl; live = parts.0; region_is = eqb-true p.region region parts.1 }

-- the scan for a region without a live process
free_region : List (Option Process) → ℕ → Bool
free_region processes region = not (list_any (lives_in region) processes)

-- What it passes has no live process,
passed-unlived : (processes : List (Option Process)) (region : ℕ) → free_region processes region ≡ true → IsUnlived processes region
unfolding free_region
passed-unlived processes region e k p there live same =
    let none = not-true (list_any (lives_in region) processes) e in
    let any = any-from-place (lives_in region) processes k refl (lives-in (process_at processes k) p region there live same) in
    cc

-- and what has none it passes.
unlived-passed : (processes : List (Option Process)) (region : ℕ) → free_region processes region ≡ false → IsUnlived processes region → ⊥
unfolding free_region
unlived-passed processes region e unlived = by (list_any (lives_in region) processes) refl e
  where
    by : (b : Bool) → list_any (lives_in region) processes ≡ b → not b ≡ false → ⊥
    by false is f = cc
    by true is f =
        let at = any-place (lives_in region) processes is in
        let lived = lived-by (process_at processes at.place) region at.passes_there in
        unlived at.place lived.process lived.there lived.live lived.region_is

-- The region that is found has no live process, and each below has one.
pub region-lowest : (regions : ℕ) (processes : List (Option Process)) (r : ℕ) → lowest_free_region regions processes ≡ Some r
    → (r < regions) × IsUnlived processes r × ((s : ℕ) → s < r → IsUnlived processes s → ⊥)
unfolding lowest_free_region free_region
region-lowest regions processes r e =
    let found = range-found (free_region processes) regions 0 r e in
    let below = found.below in
    (omega arith, passed-unlived processes r found.passes_it, λ s less. unlived-passed processes s (found.lower s (omega arith) less))

-- None is found where each has one.
pub region-none : (regions : ℕ) (processes : List (Option Process)) → (lowest_free_region regions processes ≡ None) ↔ ((s : ℕ) → s < regions → IsUnlived processes s → ⊥)
unfolding lowest_free_region free_region
region-none regions processes = by (lowest_free_region regions processes) refl
  where
    by : (o : Option ℕ) → lowest_free_region regions processes ≡ o → (o ≡ None) ↔ ((s : ℕ) → s < regions → IsUnlived processes s → ⊥)
    by None is = (λ e s below. unlived-passed processes s (range-none (free_region processes) regions 0 is s (omega arith) (omega arith)), λ each. refl)
    by (Some r) is =
        let found = range-found (free_region processes) regions 0 r is in
        let below = found.below in
        (λ e. absurd (cc), λ each. absurd (each r (omega arith) (passed-unlived processes r found.passes_it)))
