-- What calls leave of the region that they name.
use Rattle.std.proofs.Common.{◌≡◌, ◌≢◌, ◌∙◌, ◌⊎◌, inl, inr, ℕ, suc, ◌+◌, ◌%◌, ◌≤◌, ◌<◌, ap, refl, arith, cond, Bool, true, false, Option, Some, None, Result, Ok, Err, List, [], ◌∷◌, ◌++◌, length, slice_set}
use Rattle.std.specs.Option.{option_map}
use Rattle.cap_format.specs.declared.cap.Cap.{Cap}
use Rattle.machine_types.specs.declared.touches.Access.TheVariants.{Write}
use Rattle.machine_types.specs.declared.touches.Note.{Note}
use Rattle.machine_types.specs.declared.touches.NoFrame.{NoFrame}
use Rattle.machine_types.specs.Granules.{IsSize, with_number}
use Rattle.machine_types.specs.Stores.{Store, changed, empty_store, page_of_bytes}
use Rattle.machine_types.specs.Accounts.{class_for}
use Rattle.contents.specs.declared.refusal.Refusal.{Refusal}
use Rattle.contents.specs.Content.{Content, CallOutcome, page_in, page_at, is_full, with_account, with_page, with_granules}
use Rattle.contents.specs.Accesses.{Reached, reach, store_to, touched, page_of_place, byte_of_place, granule_of_place, write_of, write_cap_of}
use Rattle.contents.specs.Regions.{begin_of, add_page_of, seed_cap_of, no_frame}
use Rattle.contents.specs.Transfers.{write_bytes_of}
use Rattle.contents.specs.Looks.{peek_of, rights_of}
use Rattle.contents.specs.Writing.{IsOtherGranule, byte_seen}
use Rattle.contents.proofs.CallShapes.{by-reach}
use Rattle.contents.proofs.OtherStores.{changed-there, changed-elsewhere}
use Rattle.contents.proofs.Covered.{at-first, after-first}
use Rattle.contents.proofs.ChangedGranules.{rights-granules, number-leaves, cap-leaves, peek-granules, byte-granules}

-- what a touch leaves, and a change of granules, a store by an access leaves
store-leaves : {A : Type 0} (look : Content → A) (c : Content) (region at : ℕ) (change : List Cap → List Cap) → ((note : Note) → look (touched c region note) ≡ look c)
    → ((d : Content) → look (with_granules d region (page_of_place at) change) ≡ look d) → look (store_to c region at change (reach c Write region at)).after ≡ look c
store-leaves {A} look c region at change touch granules =
    by-reach (λ (r : Result Reached Refusal). look (store_to c region at change r).after ≡ look c) c Write region at (λ refusal. refl)
    (λ p tagged note e. granules (touched c region note) ∙ touch note)

pub write-rights : (c : Content) (region at size v page : ℕ) → rights_of (write_of c region at size v).after region page ≡ rights_of c region page
unfolding write_of rights_of
write-rights c region at size v page =
    let change : List Cap → List Cap = λ granules. with_number granules (byte_of_place at) size v in
    store-leaves (λ (d : Content). rights_of d region page) c region at change (λ note. refl) (λ d. rights-granules d region (page_of_place at) change page)

pub write-granules : (c : Content) (region at size v page g : ℕ) → IsOtherGranule at page g → peek_of (write_of c region at size v).after region page g ≡ peek_of c region page g
unfolding write_of peek_of
write-granules c region at size v page g apart =
    let change : List Cap → List Cap = λ granules. with_number granules (byte_of_place at) size v in
    store-leaves (λ (d : Content). peek_of d region page g) c region at change (λ note. refl) (λ d. peek-granules d region at change page g (number-leaves at size v) apart)

pub write-bytes : (c : Content) (region at size v k : ℕ) → IsSize size → at % size ≡ 0 → (k < at) ⊎ (at + size ≤ k) → byte_seen (write_of c region at size v).after region k ≡ byte_seen c region k
unfolding write_of
write-bytes c region at size v k is aligned apart =
    store-leaves (λ (d : Content). byte_seen d region k) c region at (λ granules. with_number granules (byte_of_place at) size v) (λ note. refl) (λ d. byte-granules d region at size v k is aligned apart)

pub cap-rights : (c : Content) (region at page : ℕ) (cap : Cap) → rights_of (write_cap_of c region at cap).after region page ≡ rights_of c region page
unfolding write_cap_of rights_of
cap-rights c region at page cap =
    let change : List Cap → List Cap = λ granules. slice_set granules (granule_of_place at) cap in
    store-leaves (λ (d : Content). rights_of d region page) c region at change (λ note. refl) (λ d. rights-granules d region (page_of_place at) change page)

pub cap-granules : (c : Content) (region at page g : ℕ) (cap : Cap) → IsOtherGranule at page g → peek_of (write_cap_of c region at cap).after region page g ≡ peek_of c region page g
unfolding write_cap_of peek_of
cap-granules c region at page g cap apart =
    let change : List Cap → List Cap = λ granules. slice_set granules (granule_of_place at) cap in
    store-leaves (λ (d : Content). peek_of d region page g) c region at change (λ note. refl) (λ d. peek-granules d region at change page g (cap-leaves (granule_of_place at) cap) apart)

pub seed-rights : (c : Content) (region at page : ℕ) (cap : Cap) → rights_of (seed_cap_of c region at cap) region page ≡ rights_of c region page
unfolding seed_cap_of
seed-rights c region at page cap = rights-granules c region (page_of_place at) (λ granules. slice_set granules (granule_of_place at) cap) page

pub seed-granules : (c : Content) (region at page g : ℕ) (cap : Cap) → IsOtherGranule at page g → peek_of (seed_cap_of c region at cap) region page g ≡ peek_of c region page g
unfolding seed_cap_of
seed-granules c region at page g cap apart = peek-granules c region at (λ granules. slice_set granules (granule_of_place at) cap) page g (cap-leaves (granule_of_place at) cap) apart

-- Many bytes.

pub bytes-rights : (c : Content) (region at page : ℕ) (bytes : List ℕ) → rights_of (write_bytes_of c region at bytes) region page ≡ rights_of c region page
unfolding write_bytes_of
bytes-rights c region at page [] = refl
bytes-rights c region at page (byte ∷ bytes) =
    let change : List Cap → List Cap = λ granules. with_number granules (byte_of_place at) 1 byte in
    bytes-rights (with_granules c region (page_of_place at) change) region (at + 1) page bytes ∙ rights-granules c region (page_of_place at) change page

pub bytes-granules : (c : Content) (region at page g : ℕ) (bytes : List ℕ) → ((k : ℕ) → k < length bytes → IsOtherGranule (at + k) page g)
    → peek_of (write_bytes_of c region at bytes) region page g ≡ peek_of c region page g
unfolding write_bytes_of
bytes-granules c region at page g [] apart = refl
bytes-granules c region at page g (byte ∷ bytes) apart =
    let change : List Cap → List Cap = λ granules. with_number granules (byte_of_place at) 1 byte in
    bytes-granules (with_granules c region (page_of_place at) change) region (at + 1) page g bytes (after-first (λ (at : ℕ). IsOtherGranule at page g) at (length bytes) apart)
    ∙ peek-granules c region at change page g (number-leaves at 1 byte) (at-first (λ (at : ℕ). IsOtherGranule at page g) at (length bytes) apart)

pub bytes-bytes : (c : Content) (region at k : ℕ) (bytes : List ℕ) → (k < at) ⊎ (at + length bytes ≤ k) → byte_seen (write_bytes_of c region at bytes) region k ≡ byte_seen c region k
unfolding write_bytes_of
bytes-bytes c region at k [] apart = refl
bytes-bytes c region at k (byte ∷ bytes) apart =
    bytes-bytes (with_granules c region (page_of_place at) (λ granules. with_number granules (byte_of_place at) 1 byte)) region (at + 1) k bytes (later apart)
    ∙ byte-granules c region at 1 byte k (inl refl) (omega arith) (first apart)
  where
    later : (k < at) ⊎ (at + suc (length bytes) ≤ k) → (k < at + 1) ⊎ (at + 1 + length bytes ≤ k)
    later (inl before) = inl (omega arith)
    later (inr after) = inr (omega arith)

    first : (k < at) ⊎ (at + suc (length bytes) ≤ k) → (k < at) ⊎ (at + 1 ≤ k)
    first (inl before) = inl before
    first (inr after) = inr (omega arith)

-- Pages that are added, and stores that begin.

pub added-others : (c : Content) (region page rights : ℕ) (bytes : List ℕ) (other : ℕ) → other ≢ page → page_at (add_page_of c region page rights bytes).after region other ≡ page_at c region other
unfolding add_page_of
added-others c region page rights bytes other apart = by (is_full c)
  where
    widened : Store → Store
    widened store = changed store page (Some (page_of_bytes rights bytes))

    by-store : (s : Option Store) → page_in (option_map widened s) other ≡ page_in s other
    by-store None = refl
    by-store (Some store) = changed-elsewhere store page other (Some (page_of_bytes rights bytes)) apart

    by : (full : Bool) → page_at (cond {A = CallOutcome (Result (Unit {0}) NoFrame)} full (record { answer = Err no_frame; after = c })
        (record { answer = Ok tt; after = with_account (with_page c region page (page_of_bytes rights bytes)) (c.account ++ (class_for region page ∷ [])) })).after region other ≡ page_at c region other
    by true = refl
    by false = ap (λ (s : Option Store). page_in s other) (changed-there c.stores region (option_map widened (c.stores region))) ∙ by-store (c.stores region)

pub begun-empty : (c : Content) (region page : ℕ) → page_at (begin_of c region) region page ≡ None
unfolding begin_of
begun-empty c region page = ap (λ (s : Option Store). page_in s page) (changed-there c.stores region (Some empty_store))
