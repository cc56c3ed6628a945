-- How pages stand after calls that begin, end, fork and add.
use Rattle.std.proofs.Common.{◌≡◌, ◌≢◌, ◌⊎◌, inl, inr, ℕ, refl, not, Result, List, [], ◌∷◌, ◌==◌, slice_set, ◌+◌}
use Rattle.cap_format.specs.declared.cap.Cap.{Cap}
use Rattle.machine_types.specs.declared.config.Rule.TheVariants.{Full}
use Rattle.machine_types.specs.declared.touches.NoFrame.{NoFrame}
use Rattle.machine_types.specs.Granules.{with_number}
use Rattle.machine_types.specs.Stores.{page_of_bytes}
use Rattle.machine_types.specs.Accounts.{has_member, shared_class, without_region}
use Rattle.contents.specs.Content.{Content, CallOutcome, class_at, with_granules}
use Rattle.contents.specs.Accesses.{page_of_place, byte_of_place, granule_of_place}
use Rattle.contents.specs.Regions.{begin_of, end_of, add_page_of, seed_cap_of, fork_of}
use Rattle.contents.specs.Transfers.{write_bytes_of}
use Rattle.contents.specs.Looks.{rights_of, standing_of}
use Rattle.contents.specs.Standing.{IsStill, StandsWithOthers}
use Rattle.contents.proofs.CallShapes.{with_new_page, by-added, begin-holds, end-holds, fork-holds}
use Rattle.contents.proofs.OtherStores.{other-steps}
use Rattle.contents.proofs.PageRights.{rights-granules, rights-other}
use Rattle.contents.proofs.ListSearches.{find-passes}
use Rattle.contents.proofs.Fits.{other-class}
use Rattle.contents.proofs.OwnStore.{rights-same}
use Rattle.contents.proofs.Ended.{stays-member}
use Rattle.contents.proofs.EndedClasses.{end-class}
use Rattle.contents.proofs.ChildClasses.{rule-cases, other-added, other-companied, fork-homes}
use Rattle.contents.proofs.Standings.{IsStillIn, IsKept, still-from_kept, with_others-from_home, class-same, class-mapped, kept-same, kept-joined, home-same, one-filtered, one-companied}

-- a new store leaves the pages of other regions, and the account
pub begin-still : (c : Content) (region r p : ℕ) → r ≢ region → IsStill c (begin_of c region) r p
unfolding begin_of
begin-still c region r p apart = still-from_kept r p c (begin_of c region) (record {
  rights = rights-same c (begin_of c region) r p (begin-holds _ region (other-steps region) c r apart);
  class = class-same r (class_at c r p) (class_at c r p) refl;
})

-- where a region ends, a page of another stays in its class
pub end-still : (c : Content) (region r p : ℕ) → r ≢ region → IsStill c (end_of c region) r p
end-still c region r p apart = still-from_kept r p c (end_of c region) (record {
  rights = rights-same c (end_of c region) r p (end-holds _ region (other-steps region) c r apart);
  class = rw (end-class c region r p apart) (class-mapped r (without_region region) (class_at c r p) (λ class. refl) (λ class found one.
      one-filtered (λ m. not (m.region == region)) r p class.members (stays-member region r p apart) (find-passes (has_member r p) c.account class found) one));
})

-- at a fork, a page of a third region, and under `full` one of the parent too
pub fork-still : (c : Content) (from to r p : ℕ) → r ≢ to → (c.rule ≡ Full) ⊎ (r ≢ from) → IsStill c (fork_of c from to).after r p
fork-still c from to r p apart which = still-from_kept r p c (fork_of c from to).after (record {
  rights = rights-same c (fork_of c from to).after r p (fork-holds _ to (other-steps to) c from r apart);
  class = by (rule-cases c.rule) which;
})
  where
    by : (c.rule ≡ Full) ⊎ (c.rule ≢ Full) → (c.rule ≡ Full) ⊎ (r ≢ from) → IsStillIn r (class_at c r p) (class_at (fork_of c from to).after r p)
    by (inl full) which = class-same r (class_at c r p) (class_at (fork_of c from to).after r p) (other-added c from to r p full apart)
    by (inr rule) (inl full) = absurd (rule full)
    by (inr rule) (inr other) = rw (other-companied c from to r p rule apart) (class-mapped r (shared_class from to) (class_at c r p) (λ class. refl) (λ class found one.
        one-companied from to r p class.members other (find-passes (has_member r p) c.account class found) one))

-- a page of the parent
pub fork-parent : (c : Content) (from to p : ℕ) → from ≢ to → StandsWithOthers (standing_of c from p) (standing_of (fork_of c from to).after from p)
fork-parent c from to p apart =
    with_others-from_home from p c (fork_of c from to).after (rights-same c (fork_of c from to).after from p (fork-holds _ to (other-steps to) c from from apart))
    (home-same from (class_at c from p) (class_at (fork_of c from to).after from p) (fork-homes c from to from p apart))

-- Granules.

-- a change of granules keeps how each page stands
pub granules-kept : (c : Content) (region page : ℕ) (change : List Cap → List Cap) (r p : ℕ) → IsKept r p c (with_granules c region page change)
granules-kept c region page change r p = record { rights = rights-granules c region page change r p; class = class-same r (class_at c r p) (class_at c r p) refl }

pub seed_cap-still : (c : Content) (region at : ℕ) (cap : Cap) (r p : ℕ) → IsStill c (seed_cap_of c region at cap) r p
unfolding seed_cap_of
seed_cap-still c region at cap r p =
    still-from_kept r p c (seed_cap_of c region at cap) (granules-kept c region (page_of_place at) (λ granules. slice_set granules (granule_of_place at) cap) r p)

write_bytes-kept : (c : Content) (region at : ℕ) (bytes : List ℕ) (r p : ℕ) → IsKept r p c (write_bytes_of c region at bytes)
unfolding write_bytes_of
write_bytes-kept c region at [] r p = kept-same r p c
write_bytes-kept c region at (byte ∷ bytes) r p =
    let change : List Cap → List Cap = λ granules. with_number granules (byte_of_place at) 1 byte in
    let next : Content = with_granules c region (page_of_place at) change in
    kept-joined r p c next (write_bytes_of next region (at + 1) bytes) (granules-kept c region (page_of_place at) change r p) (write_bytes-kept next region (at + 1) bytes r p)

pub write_bytes-still : (c : Content) (region at : ℕ) (bytes : List ℕ) (r p : ℕ) → IsStill c (write_bytes_of c region at bytes) r p
write_bytes-still c region at bytes r p = still-from_kept r p c (write_bytes_of c region at bytes) (write_bytes-kept c region at bytes r p)

-- A page that is added.

pub add_page-still : (c : Content) (region page rights : ℕ) (bytes : List ℕ) (r p : ℕ) → (r ≢ region) ⊎ (p ≢ page) → IsStill c (add_page_of c region page rights bytes).after r p
unfolding rights_of
add_page-still c region page rights bytes r p apart =
    by-added (λ (o : CallOutcome (Result (Unit {0}) NoFrame)). IsStill c o.after r p) c region page rights bytes (λ full. still-from_kept r p c c (kept-same r p c))
    (λ free. still-from_kept r p c added (record {
      rights = rights-other c region page (page_of_bytes rights bytes) r p apart;
      class = class-same r (class_at c r p) (class_at added r p) (other-class c.account region page r p apart);
    }))
  where
    added : Content
    added = with_new_page c region page rights bytes
