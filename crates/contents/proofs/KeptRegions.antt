-- Which regions have a store after a step.
use Rattle.std.proofs.Common.{◌≡◌, ◌≢◌, ◌∙◌, ◌⊎◌, inl, inr, ℕ, refl, ap, sym, cond, true, false, nat_eq, Some, None, Result, Ok, List}
use Rattle.std.specs.Prelude.{is_some}
use Rattle.std.specs.Option.{option_map}
use Rattle.std.proofs.lemmas.Bool.Decides.{eqb_tells}
use Rattle.machine_types.specs.declared.touches.NoFrame.{NoFrame}
use Rattle.machine_types.specs.Stores.{Store, changed, empty_store, page_of_bytes, moved_store}
use Rattle.contents.specs.Content.{Content, CallOutcome}
use Rattle.contents.specs.Regions.{begin_of, end_of, add_page_of, fork_of}
use Rattle.contents.specs.Laws.{HasSameRegions}
use Rattle.contents.proofs.CallShapes.{HoldsOfStores, by-added}
use Rattle.contents.proofs.OtherStores.{changed-there}
use Rattle.contents.proofs.Options.{is_some-option_map}
use Rattle.contents.proofs.ForkLemmas.{fork-child}

-- the regions with a store are those before, where one that had a store has a changed one
same-regions : (c : Content) (region : ℕ) (change : Store → Store) (r : ℕ) → is_some (changed c.stores region (option_map change (c.stores region)) r) ≡ is_some (c.stores r)
same-regions c region change r = by (eqb_tells r region)
  where
    by : ((nat_eq r region ≡ true) × (r ≡ region)) ⊎ ((nat_eq r region ≡ false) × (r ≢ region)) → is_some (cond (nat_eq r region) (option_map change (c.stores region)) (c.stores r)) ≡ is_some (c.stores r)
    by (inl (test, same)) = rw test (is_some-option_map change (c.stores region) ∙ ap (λ (k : ℕ). is_some (c.stores k)) (sym same))
    by (inr (test, other)) = rw test refl

-- touches and changes of the store leave them
pub region-stores : (region : ℕ) → HoldsOfStores region HasSameRegions
region-stores region = record {
  touches = record {
    stays = λ c r. refl;
    joins = λ a b c h k r. k r ∙ h r;
    touch = λ c access page tagged note e r. refl;
  };
  change = λ c change r. same-regions c region change r;
}

-- `begin` gives the region one
pub begin-some : (c : Content) (region : ℕ) → is_some ((begin_of c region).stores region) ≡ true
unfolding begin_of
begin-some c region = ap is_some (changed-there c.stores region (Some empty_store))

-- `end` takes it
pub end-none : (c : Content) (region : ℕ) → is_some ((end_of c region).stores region) ≡ false
unfolding end_of
end-none c region = ap is_some (changed-there c.stores region None)

-- a new page leaves them
pub add_page-regions : (c : Content) (region page rights : ℕ) (bytes : List ℕ) → HasSameRegions c (add_page_of c region page rights bytes).after
add_page-regions c region page rights bytes =
    by-added (λ (o : CallOutcome (Result (Unit {0}) NoFrame)). HasSameRegions c o.after) c region page rights bytes (λ full r. refl)
    (λ free r. same-regions c region (λ store. changed store page (Some (page_of_bytes rights bytes))) r)

-- a fork gives the child one where the parent has one
pub fork-some : (c : Content) (from to : ℕ) → (fork_of c from to).answer ≡ Ok tt → is_some ((fork_of c from to).after.stores to) ≡ is_some (c.stores from)
fork-some c from to e = ap is_some (fork-child c from to e) ∙ is_some-option_map (moved_store from to) (c.stores from)
