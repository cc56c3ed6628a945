-- Regions that have a store: none of them, and one that gets a store or loses it.
use Rattle.std.proofs.Common.{◌≡◌, ◌≢◌, ◌∙◌, ◌⊎◌, inl, inr, ℕ, ◌<◌, ◌≤◌, nat_eq, Bool, true, false, cond, Option, List, length, replicate, sym}
use Rattle.std.specs.Prelude.{is_some, slice_index_or, slice_set}
use Rattle.std.proofs.lemmas.Bool.{cases_lt}
use Rattle.std.proofs.lemmas.Bool.Decides.{eqb_tells}
use Rattle.std.proofs.lemmas.List.{get_or-replicate, get_or_past, get_or-set_same, get_or-set_other, length-replicate}
use Rattle.machine_types.specs.Stores.{Store, changed}

-- no region is live
pub none-live : (count region : ℕ) → false ≡ slice_index_or (replicate count false) region false
none-live count region = by (cases_lt region count)
  where
    by : (region < count) ⊎ (count ≤ region) → false ≡ slice_index_or (replicate count false) region false
    by (inl below) = sym (get_or-replicate count region false false below)
    by (inr past) = sym (get_or_past (replicate count false) region false (rw length-replicate past))

-- The live regions are those with a store still, where one gets another or none.
pub live-changed : (live : List Bool) (stores : ℕ → Option Store) (region : ℕ) (o : Option Store) → ((r : ℕ) → is_some (stores r) ≡ slice_index_or live r false) → region < length live
    → (r : ℕ) → is_some (changed stores region o r) ≡ slice_index_or (slice_set live region (is_some o)) r false
live-changed live stores region o same below r = by (eqb_tells r region)
  where
    by : ((nat_eq r region ≡ true) × (r ≡ region)) ⊎ ((nat_eq r region ≡ false) × (r ≢ region)) → is_some (cond (nat_eq r region) o (stores r)) ≡ slice_index_or (slice_set live region (is_some o)) r false
    by (inl (test, here)) = rw (test, here) (sym (get_or-set_same live region (is_some o) false below))
    by (inr (test, other)) = rw test (same r ∙ sym (get_or-set_other live region r (is_some o) false other))
