-- The pages of a region after a change of the granules of one: rights, granules, tags and bytes.
use Rattle.std.proofs.Common.{◌≡◌, ◌≢◌, ◌∙◌, ◌⊎◌, inl, inr, ℕ, ◌+◌, ◌%◌, ◌≤◌, ◌<◌, ap, refl, arith, nat_eq, cond, Bool, true, false, Option, Some, None, List, slice_set}
use Rattle.std.specs.Option.{option_map}
use Rattle.std.proofs.lemmas.Bool.Decides.{eqb_tells}
use Rattle.std.proofs.lemmas.List.{get_or-set_other}
use Rattle.cap_format.specs.declared.cap.Cap.{Cap}
use Rattle.cap_format.specs.Made.{null}
use Rattle.machine_types.specs.Granules.{IsSize, granule, with_number}
use Rattle.machine_types.specs.Stores.{Page, Store, page_with, store_with}
use Rattle.machine_types.proofs.StoredNumbers.{granule-with_number_other, number_at-with_number_other}
use Rattle.contents.specs.Content.{Content, page_in, page_at, with_granules}
use Rattle.contents.specs.Accesses.{page_of_place, byte_of_place, granule_of_place}
use Rattle.contents.specs.Transfers.{byte_in}
use Rattle.contents.specs.Looks.{peek_of, rights_of}
use Rattle.contents.specs.Writing.{IsOtherGranule, byte_seen}
use Rattle.contents.proofs.OtherStores.{changed-there}
use Rattle.contents.proofs.HeldGranules.{place-within}

-- each page, of which one is changed
pub page-granules : (c : Content) (region page : ℕ) (change : List Cap → List Cap) (q : ℕ)
    → page_at (with_granules c region page change) region q ≡ cond (nat_eq q page) (option_map (page_with change) (page_at c region q)) (page_at c region q)
page-granules c region page change q =
    ap (λ (s : Option Store). page_in s q) (changed-there c.stores region (option_map (store_with page change) (c.stores region))) ∙ by (c.stores region)
  where
    none : (b : Bool) → ◌≡◌ {A = Option Page} None (cond b None None)
    none true = refl
    none false = refl

    by : (s : Option Store) → page_in (option_map (store_with page change) s) q ≡ cond (nat_eq q page) (option_map (page_with change) (page_in s q)) (page_in s q)
    by None = none (nat_eq q page)
    by (Some store) = by-page (eqb_tells q page)
      where
        by-page : ((nat_eq q page ≡ true) × (q ≡ page)) ⊎ ((nat_eq q page ≡ false) × (q ≢ page))
            → cond (nat_eq q page) (option_map (page_with change) (store page)) (store q) ≡ cond (nat_eq q page) (option_map (page_with change) (store q)) (store q)
        by-page (inl (t, e)) = rw e refl
        by-page (inr (t, e)) = rw t refl

-- What holds of each page and its change, where it is the one, and of each page and itself, holds of all before and after.
pub by-granules : (P : Option Page → Option Page → Type 0) (c : Content) (region page : ℕ) (change : List Cap → List Cap) (q : ℕ)
    → ((o : Option Page) → P o o) → (q ≡ page → (p : Page) → P (Some p) (Some (page_with change p)))
    → P (page_at c region q) (page_at (with_granules c region page change) region q)
by-granules P c region page change q same changed = rw (page-granules c region page change q) (by (eqb_tells q page) (page_at c region q))
  where
    by : ((nat_eq q page ≡ true) × (q ≡ page)) ⊎ ((nat_eq q page ≡ false) × (q ≢ page)) → (o : Option Page) → P o (cond (nat_eq q page) (option_map (page_with change) o) o)
    by (inl (t, e)) None = rw t (same None)
    by (inl (t, e)) (Some p) = rw t (changed e p)
    by (inr (t, e)) o = rw t (same o)

-- the rights stay
pub rights-granules : (c : Content) (region page : ℕ) (change : List Cap → List Cap) (q : ℕ) → rights_of (with_granules c region page change) region q ≡ rights_of c region q
unfolding rights_of
rights-granules c region page change q =
    by-granules (λ before after. option_map (λ (p : Page). p.rights) after ≡ option_map (λ (p : Page). p.rights) before) c region page change q (λ o. refl) (λ here p. refl)

-- A change leaves every granule but one.
abbrev pub LeavesOthers : ℕ → (List Cap → List Cap) → Type 0
LeavesOthers g change = (granules : List Cap) (h : ℕ) → h ≢ g → granule (change granules) h ≡ granule granules h

-- so does a number that is stored
pub number-leaves : (at size v : ℕ) → LeavesOthers (granule_of_place at) (λ granules. with_number granules (byte_of_place at) size v)
number-leaves at size v granules h other = granule-with_number_other granules (byte_of_place at) size v h other

-- and a granule that is stored
pub cap-leaves : (g : ℕ) (cap : Cap) → LeavesOthers g (λ granules. slice_set granules g cap)
cap-leaves g cap granules h other = get_or-set_other granules g h cap null other

-- the other granules are seen as before
pub peek-granules : (c : Content) (region at : ℕ) (change : List Cap → List Cap) (page g : ℕ) → LeavesOthers (granule_of_place at) change → IsOtherGranule at page g
    → peek_of (with_granules c region (page_of_place at) change) region page g ≡ peek_of c region page g
unfolding peek_of
peek-granules c region at change page g leaves apart =
    by-granules (λ before after. option_map (λ (p : Page). granule p.granules g) after ≡ option_map (λ (p : Page). granule p.granules g) before) c region (page_of_place at) change page (λ o. refl) (λ here p. by here p apart)
  where
    by : page ≡ page_of_place at → (p : Page) → IsOtherGranule at page g → Some (granule (change p.granules) g) ≡ Some (granule p.granules g)
    by here p (inl other) = absurd (other here)
    by here p (inr other) = ap (λ (cap : Cap). Some cap) (leaves p.granules g other)

-- a byte before or behind a number of its page
byte-apart : (at size k : ℕ) → page_of_place k ≡ page_of_place at → (k < at) ⊎ (at + size ≤ k) → (byte_of_place k + 1 ≤ byte_of_place at) ⊎ (byte_of_place at + size ≤ byte_of_place k)
byte-apart at size k same (inl before) = inl (omega arith)
byte-apart at size k same (inr after) = inr (omega arith)

-- the bytes before and behind a number that is stored stay
pub byte-granules : (c : Content) (region at size v k : ℕ) → IsSize size → at % size ≡ 0 → (k < at) ⊎ (at + size ≤ k)
    → byte_seen (with_granules c region (page_of_place at) (λ granules. with_number granules (byte_of_place at) size v)) region k ≡ byte_seen c region k
byte-granules c region at size v k is aligned apart =
    by-granules (λ before after. byte_in after k ≡ byte_in before k) c region (page_of_place at) (λ granules. with_number granules (byte_of_place at) size v) (page_of_place k) (λ o. refl)
    (λ here p. number_at-with_number_other p.granules (byte_of_place at) size v (byte_of_place k) 1 (place-within at size is aligned) (omega arith) (byte-apart at size k here apart))
