-- Each call, with two contents of the same stores, whatever their rules, accounts and numbers of frames.
use Rattle.std.proofs.Common.{◌≡◌, ◌≢◌, ◌+◌, ℕ, refl, sym, ap, ◌∙◌, Bool, true, false, cond, nat_eq, Option, Some, None, Result, Ok, Err, List, [], ◌∷◌, slice_set, subst}
use Rattle.std.specs.Prelude.{IsOk}
use Rattle.std.specs.Option.{option_map}
use Rattle.cap_format.specs.declared.cap.Cap.{Cap}
use Rattle.machine_types.specs.declared.touches.Access.{Access}
use Rattle.machine_types.specs.declared.touches.Access.TheVariants.{Read, Write, Fetch}
use Rattle.machine_types.specs.declared.touches.Note.{Note}
use Rattle.machine_types.specs.declared.touches.NoFrame.{NoFrame}
use Rattle.machine_types.specs.Granules.{is_tagged, number_at, with_number, granule}
use Rattle.machine_types.specs.Rights.{is_allowed}
use Rattle.machine_types.specs.Stores.{Page, Store, changed, page_of_bytes, moved_store, store_with}
use Rattle.machine_types.specs.Accounts.{Class, account_at_fork}
use Rattle.contents.specs.declared.refusal.Refusal.{Refusal}
use Rattle.contents.specs.declared.refusal.Refusal.TheVariants.{NoPage, NoRight, NoFrame as no_frame_refusal}
use Rattle.contents.specs.Content.{Content, CallOutcome, page_at, free_frames, with_store, with_granules}
use Rattle.contents.specs.Accesses.{note_of, touched, Reached, noted, reach, reach_in, load_from, store_to, page_of_place, byte_of_place, granule_of_place, read_of, read_cap_of, fetch_of, write_of, write_cap_of}
use Rattle.contents.specs.Regions.{begin_of, end_of, add_page_of, seed_cap_of, fork_with, fork_of, numbers_in}
use Rattle.contents.specs.Transfers.{prepare_of, write_bytes_of}
use Rattle.contents.specs.Agreeing.{HaveSameStores, value_of, done_of}
use Rattle.contents.proofs.CallShapes.{with_new_page, by-added, prepare-holds}
use Rattle.contents.proofs.OtherStores.{AllStay, all-touches}
use Rattle.contents.proofs.OwnStore.{page-same}

-- What a step leaves.

-- the same stores with the same new one
with_store-same : (c d : Content) (region : ℕ) (x y : Option Store) → HaveSameStores c d → y ≡ x → HaveSameStores (with_store c region x) (with_store d region y)
with_store-same c d region x y h e r = by (nat_eq r region)
  where
    by : (b : Bool) → cond b y (d.stores r) ≡ cond b x (c.stores r)
    by true = e
    by false = h r

-- and with the same change of one
change-same : (c d : Content) (region : ℕ) (change : Store → Store) → HaveSameStores c d
    → HaveSameStores (with_store c region (option_map change (c.stores region))) (with_store d region (option_map change (d.stores region)))
change-same c d region change h = with_store-same c d region _ _ h (ap (option_map change) (h region))

pub begin-same : (c d : Content) (region : ℕ) → HaveSameStores c d → HaveSameStores (begin_of c region) (begin_of d region)
unfolding begin_of
begin-same c d region h = with_store-same c d region _ _ h refl

pub end-same : (c d : Content) (region : ℕ) → HaveSameStores c d → HaveSameStores (end_of c region) (end_of d region)
unfolding end_of
end-same c d region h = with_store-same c d region None None h refl

pub add_page-same : (c d : Content) (region page rights : ℕ) (bytes : List ℕ) → HaveSameStores c d → IsOk (add_page_of c region page rights bytes).answer → IsOk (add_page_of d region page rights bytes).answer
    → HaveSameStores (add_page_of c region page rights bytes).after (add_page_of d region page rights bytes).after
add_page-same c d region page rights bytes h =
    by-added (λ (o : CallOutcome (Result (Unit {0}) NoFrame)). IsOk o.answer → IsOk second.answer → HaveSameStores o.after second.after) c region page rights bytes (λ full ok. absurd (cc)) (λ free ok.
    by-added (λ (o : CallOutcome (Result (Unit {0}) NoFrame)). IsOk o.answer → HaveSameStores (with_new_page c region page rights bytes) o.after) d region page rights bytes (λ full other. absurd (cc)) (λ also other.
    change-same c d region (λ (store : Store). changed store page (Some (page_of_bytes rights bytes))) h))
  where
    second : CallOutcome (Result (Unit {0}) NoFrame)
    second = add_page_of d region page rights bytes

pub seed_cap-same : (c d : Content) (region at : ℕ) (cap : Cap) → HaveSameStores c d → HaveSameStores (seed_cap_of c region at cap) (seed_cap_of d region at cap)
unfolding seed_cap_of
seed_cap-same c d region at cap h = change-same c d region (store_with (page_of_place at) (λ granules. slice_set granules (granule_of_place at) cap)) h

-- Accesses.

-- What holds of a refusal of both, of a page that both reach, and where either lacks a frame, holds of what an access
-- reaches in both.
by-reaches : (P : Result Reached Refusal → Result Reached Refusal → Type 0) → ((refusal : Refusal) → P (Err refusal) (Err refusal))
    → ((p : Page) (note other : Note) → P (Ok (record { page = p; note = note })) (Ok (record { page = p; note = other })))
    → ((y : Result Reached Refusal) → P (Err no_frame_refusal) y) → ((x : Result Reached Refusal) → P x (Err no_frame_refusal))
    → (c d : Content) (access : Access) (region at : ℕ) → HaveSameStores c d → P (reach c access region at) (reach d access region at)
by-reaches P refused found lacks others c d access region at h =
    subst (λ (o : Option Page). P (reach c access region at) (reach_in d access region at o)) (sym (page-same region c d (page_of_place at) (h region)))
    (by-page (page_at c region (page_of_place at)))
  where
    by-notes : (p : Page) (n m : Option Note) → P (noted p n) (noted p m)
    by-notes p None m = lacks (noted p m)
    by-notes p (Some note) None = others (noted p (Some note))
    by-notes p (Some note) (Some other) = found p note other

    by-right : (p : Page) (n m : Option Note) (allowed : Bool) → P (cond allowed (noted p n) (Err NoRight)) (cond allowed (noted p m) (Err NoRight))
    by-right p n m true = by-notes p n m
    by-right p n m false = refused NoRight

    by-page : (o : Option Page) → P (reach_in c access region at o) (reach_in d access region at o)
    by-page None = refused NoPage
    by-page (Some p) =
        let tagged : Bool = is_tagged p.granules (granule_of_place at) in
        by-right p (note_of c access region (page_of_place at) tagged) (note_of d access region (page_of_place at) tagged) (is_allowed access p.rights)

-- where neither lacks a frame, the same value and the same stores
abbrev LoadsAgree : {A : Type 0} → CallOutcome (Result (A × Note) Refusal) → CallOutcome (Result (A × Note) Refusal) → Type 0
LoadsAgree o p = o.answer ≢ Err no_frame_refusal → p.answer ≢ Err no_frame_refusal → (value_of p.answer ≡ value_of o.answer) × HaveSameStores o.after p.after

-- a load, whatever it answers
load-same : {A : Type 0} (c d : Content) (region : ℕ) (access : Access) (at : ℕ) (value : List Cap → A) → HaveSameStores c d
    → LoadsAgree (load_from c region value (reach c access region at)) (load_from d region value (reach d access region at))
load-same c d region access at value h =
    by-reaches (λ (x y : Result Reached Refusal). LoadsAgree (load_from c region value x) (load_from d region value y))
    (λ refusal some more. (refl, h)) (λ p note other some more. (refl, h)) (λ y some more. absurd (some refl)) (λ x some more. absurd (more refl)) c d access region at h

pub read-same : (c d : Content) (region at size : ℕ) → HaveSameStores c d → LoadsAgree (read_of c region at size) (read_of d region at size)
unfolding read_of
read-same c d region at size = load-same c d region Read at (λ granules. number_at granules (byte_of_place at) size)

pub read_cap-same : (c d : Content) (region at : ℕ) → HaveSameStores c d → LoadsAgree (read_cap_of c region at) (read_cap_of d region at)
unfolding read_cap_of
read_cap-same c d region at = load-same c d region Read at (λ granules. granule granules (granule_of_place at))

pub fetch-same : (c d : Content) (region at : ℕ) → HaveSameStores c d → LoadsAgree (fetch_of c region at) (fetch_of d region at)
unfolding fetch_of
fetch-same c d region at = load-same c d region Fetch at (λ granules. number_at granules (byte_of_place at) 4)

-- where neither lacks a frame, both are done or neither, and the same stores
abbrev StoresAgree : CallOutcome (Result Note Refusal) → CallOutcome (Result Note Refusal) → Type 0
StoresAgree o p = o.answer ≢ Err no_frame_refusal → p.answer ≢ Err no_frame_refusal → (done_of p.answer ≡ done_of o.answer) × HaveSameStores o.after p.after

-- a store, whatever it changes
store-same : (c d : Content) (region at : ℕ) (change : List Cap → List Cap) → HaveSameStores c d
    → StoresAgree (store_to c region at change (reach c Write region at)) (store_to d region at change (reach d Write region at))
store-same c d region at change h =
    by-reaches (λ (x y : Result Reached Refusal). StoresAgree (store_to c region at change x) (store_to d region at change y))
    (λ refusal some more. (refl, h)) (λ p note other some more. (refl, change-same (touched c region note) (touched d region other) region (store_with (page_of_place at) change) h))
    (λ y some more. absurd (some refl)) (λ x some more. absurd (more refl)) c d Write region at h

pub write-same : (c d : Content) (region at size v : ℕ) → HaveSameStores c d → StoresAgree (write_of c region at size v) (write_of d region at size v)
unfolding write_of
write-same c d region at size v = store-same c d region at (λ granules. with_number granules (byte_of_place at) size v)

pub write_cap-same : (c d : Content) (region at : ℕ) (cap : Cap) → HaveSameStores c d → StoresAgree (write_cap_of c region at cap) (write_cap_of d region at cap)
unfolding write_cap_of
write_cap-same c d region at cap = store-same c d region at (λ granules. slice_set granules (granule_of_place at) cap)

-- Transfers.

pub prepare-same : (c d : Content) (region at n : ℕ) (access : Access) → HaveSameStores c d → HaveSameStores (prepare_of c region at n access).after (prepare_of d region at n access).after
prepare-same c d region at n access h r =
    ap (λ (stores : ℕ → Option Store). stores r) (prepare-holds AllStay region (all-touches region) d at n access) ∙ h r
    ∙ sym (ap (λ (stores : ℕ → Option Store). stores r) (prepare-holds AllStay region (all-touches region) c at n access))

pub write_bytes-same : (c d : Content) (region at : ℕ) (bytes : List ℕ) → HaveSameStores c d → HaveSameStores (write_bytes_of c region at bytes) (write_bytes_of d region at bytes)
unfolding write_bytes_of
write_bytes-same c d region at [] h = h
write_bytes-same c d region at (byte ∷ bytes) h =
    let change : List Cap → List Cap = λ granules. with_number granules (byte_of_place at) 1 byte in
    write_bytes-same (with_granules c region (page_of_place at) change) (with_granules d region (page_of_place at) change) region (at + 1) bytes
    (change-same c d region (store_with (page_of_place at) change) h)

-- Forks.

-- with an account in both
fork_with-same : (c d : Content) (from to : ℕ) → HaveSameStores c d → (o p : Option (List Class)) → IsOk (fork_with c from to o).answer → IsOk (fork_with d from to p).answer
    → HaveSameStores (fork_with c from to o).after (fork_with d from to p).after
fork_with-same c d from to h None p ok other = absurd (cc)
fork_with-same c d from to h (Some account) None ok other = absurd (cc)
fork_with-same c d from to h (Some account) (Some second) ok other = with_store-same c d to _ _ h (ap (option_map (moved_store from to)) (h from))

pub fork-same : (c d : Content) (from to : ℕ) → HaveSameStores c d → IsOk (fork_of c from to).answer → IsOk (fork_of d from to).answer → HaveSameStores (fork_of c from to).after (fork_of d from to).after
unfolding fork_of
fork-same c d from to h =
    fork_with-same c d from to h (account_at_fork c.rule (free_frames c) c.account from to (numbers_in (c.stores from))) (account_at_fork d.rule (free_frames d) d.account from to (numbers_in (d.stores from)))
