-- Each call on a region, with two contents that are alike to it.
use Rattle.std.proofs.Common.{◌≡◌, nat_eq, ◌+◌, ℕ, zero, suc, refl, sym, ap, subst, ◌∙◌, Bool, true, false, cond, Option, Some, None, Result, Ok, Err, List, [], ◌∷◌, ◌++◌, slice_set}
use Rattle.std.specs.Option.{option_map}
use Rattle.cap_format.specs.declared.cap.Cap.{Cap}
use Rattle.machine_types.specs.declared.touches.Access.{Access}
use Rattle.machine_types.specs.declared.touches.Access.TheVariants.{Read, Write, Fetch}
use Rattle.machine_types.specs.declared.touches.Note.{Note}
use Rattle.machine_types.specs.declared.touches.NoFrame.{NoFrame}
use Rattle.machine_types.specs.Granules.{is_tagged, number_at, with_number, granule}
use Rattle.machine_types.specs.Rights.{is_allowed}
use Rattle.machine_types.specs.Stores.{Page, Store, changed, page_of_bytes, moved_store, store_with}
use Rattle.machine_types.specs.Accounts.{Class, class_of, class_for, account_at_fork, account_at_end}
use Rattle.machine_types.specs.Touches.{account_after}
use Rattle.contents.specs.declared.refusal.Refusal.{Refusal}
use Rattle.contents.specs.declared.refusal.Refusal.TheVariants.{NoRight}
use Rattle.contents.specs.Content.{Content, CallOutcome, page_in, page_at, is_full, with_account, with_store, with_page, with_granules, free_frames}
use Rattle.contents.specs.Accesses.{note_in, note_of, touched, Reached, noted, reach, reach_in, load_from, store_to, page_of_place, byte_of_place, granule_of_place, read_of, read_cap_of, fetch_of, write_of, write_cap_of}
use Rattle.contents.specs.Regions.{begin_of, end_of, add_page_of, seed_cap_of, fork_with, fork_of, numbers_in, no_frame}
use Rattle.contents.specs.Transfers.{Piece, pieces_of, made_with, covers_of, overlaps_tag, prepare_next, prepare_pieces, prepare_of, read_bytes_of, write_bytes_of}
use Rattle.contents.specs.Looks.{peek_of, rights_of, standing_of}
use Rattle.contents.specs.Laws.{AreAlike, GiveAlike}
use Rattle.contents.proofs.CallShapes.{with_new_page}
use Rattle.contents.proofs.OtherStores.{changed-there}

-- What a step leaves.

-- they are alike with equal stores of the region
store-alike : (region : ℕ) (c d : Content) (x y : Option Store) → AreAlike region c d → y ≡ x → AreAlike region (with_store c region x) (with_store d region y)
store-alike region c d x y h e = record {
  store = changed-there d.stores region y ∙ (e ∙ sym (changed-there c.stores region x));
  account = h.account;
  rule = h.rule;
  frames = h.frames;
}

-- and with equal accounts
account-alike : (region : ℕ) (c d : Content) (a b : List Class) → AreAlike region c d → b ≡ a → AreAlike region (with_account c a) (with_account d b)
account-alike region c d a b h e = record { store = h.store; account = e; rule = h.rule; frames = h.frames }

-- after a touch
touched-alike : (region : ℕ) (c d : Content) (note : Note) → AreAlike region c d → AreAlike region (touched c region note) (touched d region note)
touched-alike region c d note h = account-alike region c d _ _ h (ap (account_after note.touched region note.page) h.account)

-- and with the granules of a page changed
granules-alike : (region : ℕ) (c d : Content) (page : ℕ) (change : List Cap → List Cap) → AreAlike region c d → AreAlike region (with_granules c region page change) (with_granules d region page change)
granules-alike region c d page change h = store-alike region c d _ _ h (ap (option_map (store_with page change)) h.store)

-- What an access finds.

-- the same pages
pub page-same : (region : ℕ) (c d : Content) (page : ℕ) → d.stores region ≡ c.stores region → page_at d region page ≡ page_at c region page
page-same region c d page same = ap (λ (s : Option Store). page_in s page) same

-- as many free frames
full-same : (region : ℕ) (c d : Content) → AreAlike region c d → is_full d ≡ is_full c
full-same region c d h = cc

-- the same touch of a page of a class
note_in-same : (region : ℕ) (c d : Content) (access : Access) (page : ℕ) (tagged : Bool) → AreAlike region c d → (o : Option Class) → note_in d access region page tagged o ≡ note_in c access region page tagged o
note_in-same region c d access page tagged h None = refl
note_in-same region c d access page tagged h (Some class) = simp (h.rule, h.account, h.frames)

-- and of a page
note_of-same : (region : ℕ) (c d : Content) (access : Access) (page : ℕ) (tagged : Bool) → AreAlike region c d → note_of d access region page tagged ≡ note_of c access region page tagged
note_of-same region c d access page tagged h =
    note_in-same region c d access page tagged h (class_of d.account region page)
    ∙ ap (λ (account : List Class). note_in c access region page tagged (class_of account region page)) h.account

-- the same page with the same touch
reach_in-same : (region : ℕ) (c d : Content) (access : Access) (at : ℕ) → AreAlike region c d → (o : Option Page) → reach_in d access region at o ≡ reach_in c access region at o
reach_in-same region c d access at h None = refl
reach_in-same region c d access at h (Some p) =
    ap (λ (o : Option Note). cond {A = Result Reached Refusal} (is_allowed access p.rights) (noted p o) (Err NoRight))
    (note_of-same region c d access (page_of_place at) (is_tagged p.granules (granule_of_place at)) h)

-- by its place
reach-same : (region : ℕ) (c d : Content) (access : Access) (at : ℕ) → AreAlike region c d → reach d access region at ≡ reach c access region at
reach-same region c d access at h =
    reach_in-same region c d access at h (page_at d region (page_of_place at)) ∙ ap (reach_in c access region at) (page-same region c d (page_of_place at) h.store)

-- Loads.

-- from what was reached
load-reached : {A : Type 0} (region : ℕ) (c d : Content) (value : List Cap → A) → AreAlike region c d → (reached : Result Reached Refusal) → GiveAlike region (load_from c region value reached) (load_from d region value reached)
load-reached region c d value h (Err refusal) = record { answer = refl; after = h }
load-reached region c d value h (Ok e) = record { answer = refl; after = touched-alike region c d e.note h }

-- from a place
load-alike : {A : Type 0} (region : ℕ) (c d : Content) (access : Access) (at : ℕ) (value : List Cap → A) → AreAlike region c d
    → GiveAlike region (load_from c region value (reach c access region at)) (load_from d region value (reach d access region at))
load-alike {A} region c d access at value h =
    subst (λ (reached : Result Reached Refusal). GiveAlike region (load_from c region value (reach c access region at)) (load_from d region value reached))
    (sym (reach-same region c d access at h)) (load-reached region c d value h (reach c access region at))

pub read-alike : (c d : Content) (region at size : ℕ) → AreAlike region c d → GiveAlike region (read_of c region at size) (read_of d region at size)
unfolding read_of
read-alike c d region at size = load-alike region c d Read at (λ granules. number_at granules (byte_of_place at) size)

pub read_cap-alike : (c d : Content) (region at : ℕ) → AreAlike region c d → GiveAlike region (read_cap_of c region at) (read_cap_of d region at)
unfolding read_cap_of
read_cap-alike c d region at = load-alike region c d Read at (λ granules. granule granules (granule_of_place at))

pub fetch-alike : (c d : Content) (region at : ℕ) → AreAlike region c d → GiveAlike region (fetch_of c region at) (fetch_of d region at)
unfolding fetch_of
fetch-alike c d region at = load-alike region c d Fetch at (λ granules. number_at granules (byte_of_place at) 4)

-- Stores.

-- to what was reached
store-reached : (region : ℕ) (c d : Content) (at : ℕ) (change : List Cap → List Cap) → AreAlike region c d → (reached : Result Reached Refusal) → GiveAlike region (store_to c region at change reached) (store_to d region at change reached)
store-reached region c d at change h (Err refusal) = record { answer = refl; after = h }
store-reached region c d at change h (Ok e) = record {
  answer = refl;
  after = granules-alike region (touched c region e.note) (touched d region e.note) (page_of_place at) change (touched-alike region c d e.note h);
}

-- to a place
stored-alike : (region : ℕ) (c d : Content) (at : ℕ) (change : List Cap → List Cap) → AreAlike region c d
    → GiveAlike region (store_to c region at change (reach c Write region at)) (store_to d region at change (reach d Write region at))
stored-alike region c d at change h =
    subst (λ (reached : Result Reached Refusal). GiveAlike region (store_to c region at change (reach c Write region at)) (store_to d region at change reached))
    (sym (reach-same region c d Write at h)) (store-reached region c d at change h (reach c Write region at))

pub write-alike : (c d : Content) (region at size v : ℕ) → AreAlike region c d → GiveAlike region (write_of c region at size v) (write_of d region at size v)
unfolding write_of
write-alike c d region at size v = stored-alike region c d at (λ granules. with_number granules (byte_of_place at) size v)

pub write_cap-alike : (c d : Content) (region at : ℕ) (cap : Cap) → AreAlike region c d → GiveAlike region (write_cap_of c region at cap) (write_cap_of d region at cap)
unfolding write_cap_of
write_cap-alike c d region at cap = stored-alike region c d at (λ granules. slice_set granules (granule_of_place at) cap)

pub seed_cap-alike : (c d : Content) (region at : ℕ) (cap : Cap) → AreAlike region c d → AreAlike region (seed_cap_of c region at cap) (seed_cap_of d region at cap)
unfolding seed_cap_of
seed_cap-alike c d region at cap = granules-alike region c d (page_of_place at) (λ granules. slice_set granules (granule_of_place at) cap)

pub write_bytes-alike : (c d : Content) (region at : ℕ) (bytes : List ℕ) → AreAlike region c d → AreAlike region (write_bytes_of c region at bytes) (write_bytes_of d region at bytes)
unfolding write_bytes_of
write_bytes-alike c d region at [] h = h
write_bytes-alike c d region at (byte ∷ bytes) h =
    let change : List Cap → List Cap = λ granules. with_number granules (byte_of_place at) 1 byte in
    write_bytes-alike (with_granules c region (page_of_place at) change) (with_granules d region (page_of_place at) change) region (at + 1) bytes
    (granules-alike region c d (page_of_place at) change h)

-- Transfers.

pub covers-same : (c d : Content) (region at n : ℕ) (access : Access) → d.stores region ≡ c.stores region → covers_of d region at n access ≡ covers_of c region at n access
unfolding covers_of
covers-same c d region at zero access same = refl
covers-same c d region at (suc n) access same = rw (page-same region c d (page_of_place at) same, covers-same c d region (at + 1) n access same) refl

pub read_bytes-same : (c d : Content) (region at n : ℕ) → d.stores region ≡ c.stores region → read_bytes_of d region at n ≡ read_bytes_of c region at n
unfolding read_bytes_of
read_bytes-same c d region at zero same = refl
read_bytes-same c d region at (suc n) same = rw (page-same region c d (page_of_place at) same, read_bytes-same c d region (at + 1) n same) refl

-- the bytes overlap a tagged granule of both
overlaps-same : (region : ℕ) (c d : Content) (at n : ℕ) → d.stores region ≡ c.stores region → overlaps_tag d region at n ≡ overlaps_tag c region at n
unfolding overlaps_tag
overlaps-same region c d at zero same = refl
overlaps-same region c d at (suc n) same = rw (page-same region c d (page_of_place at) same, overlaps-same region c d (at + 1) n same) refl

-- the same touch for a piece
piece-same : (region : ℕ) (c d : Content) (access : Access) (piece : Piece) → AreAlike region c d
    → note_of d access region (page_of_place piece.at) (overlaps_tag d region piece.at piece.count) ≡ note_of c access region (page_of_place piece.at) (overlaps_tag c region piece.at piece.count)
piece-same region c d access piece h =
    note_of-same region c d access (page_of_place piece.at) (overlaps_tag d region piece.at piece.count) h
    ∙ ap (note_of c access region (page_of_place piece.at)) (overlaps-same region c d piece.at piece.count h.store)

-- what follows the touches of a transfer gives alike
abbrev AlikeAfter : ℕ → (Content → List Note → CallOutcome (Result (List Note) NoFrame)) → Type 0
AlikeAfter region rest = (c d : Content) → AreAlike region c d → (notes : List Note) → GiveAlike region (rest c notes) (rest d notes)

-- the first touch of a transfer, and what follows it
next-alike : (region : ℕ) (c d : Content) (made : List Note) (rest : Content → List Note → CallOutcome (Result (List Note) NoFrame)) → AlikeAfter region rest → AreAlike region c d
    → (o : Option Note) → GiveAlike region (prepare_next region c made rest o) (prepare_next region d made rest o)
next-alike region c d made rest later h None = record { answer = refl; after = h }
next-alike region c d made rest later h (Some note) = later (touched c region note) (touched d region note) (touched-alike region c d note h) (made_with made note note.touched)

-- the touches of all pieces
pieces-alike : (region : ℕ) (access : Access) (pieces : List Piece) → AlikeAfter region (prepare_pieces region access pieces)
pieces-alike region access [] c d h made = record { answer = refl; after = h }
pieces-alike region access (piece ∷ pieces) c d h made =
    let rest : Content → List Note → CallOutcome (Result (List Note) NoFrame) = prepare_pieces region access pieces in
    let note : Option Note = note_of c access region (page_of_place piece.at) (overlaps_tag c region piece.at piece.count) in
    subst (λ (o : Option Note). GiveAlike region (prepare_next region c made rest note) (prepare_next region d made rest o))
    (sym (piece-same region c d access piece h)) (next-alike region c d made rest (pieces-alike region access pieces) h note)

pub prepare-alike : (c d : Content) (region at n : ℕ) (access : Access) → AreAlike region c d → GiveAlike region (prepare_of c region at n access) (prepare_of d region at n access)
unfolding prepare_of
prepare-alike c d region at n access h = pieces-alike region access (pieces_of at n) c d h []

-- What begins and ends stores, gives them pages, and copies them.

pub begin-alike : (c d : Content) (region : ℕ) → AreAlike region c d → AreAlike region (begin_of c region) (begin_of d region)
unfolding begin_of
begin-alike c d region h = store-alike region c d _ _ h refl

pub end-alike : (c d : Content) (region : ℕ) → AreAlike region c d → AreAlike region (end_of c region) (end_of d region)
unfolding end_of
end-alike c d region h =
    account-alike region (with_store c region None) (with_store d region None) _ _ (store-alike region c d None None h refl) (ap (account_at_end region) h.account)

pub add_page-alike : (c d : Content) (region page rights : ℕ) (bytes : List ℕ) → AreAlike region c d → GiveAlike region (add_page_of c region page rights bytes) (add_page_of d region page rights bytes)
unfolding add_page_of
add_page-alike c d region page rights bytes h = rw (full-same region c d h) (by (is_full c))
  where
    outcome : Bool → Content → CallOutcome (Result (Unit {0}) NoFrame)
    outcome full x = cond full (record { answer = Err no_frame; after = x }) (record { answer = Ok tt; after = with_new_page x region page rights bytes })

    by : (full : Bool) → GiveAlike region (outcome full c) (outcome full d)
    by true = record { answer = refl; after = h }
    by false = record {
      answer = refl;
      after = account-alike region (with_page c region page (page_of_bytes rights bytes)) (with_page d region page (page_of_bytes rights bytes)) _ _
          (store-alike region c d _ _ h (ap (option_map (λ (store : Store). changed store page (Some (page_of_bytes rights bytes)))) h.store))
          (ap (λ (account : List Class). account ++ (class_for region page ∷ [])) h.account);
    }

-- a fork with an account or none
fork_with-alike : (from to : ℕ) (c d : Content) → AreAlike from c d → AreAlike to c d → (o : Option (List Class)) → GiveAlike to (fork_with c from to o) (fork_with d from to o)
fork_with-alike from to c d h k None = record { answer = refl; after = k }
fork_with-alike from to c d h k (Some account) = record {
  answer = refl;
  after = account-alike to _ _ account account (store-alike to c d _ _ k (ap (option_map (moved_store from to)) h.store)) refl;
}

-- the account at a fork is the same
fork-same : (from to : ℕ) (c d : Content) → AreAlike from c d
    → account_at_fork d.rule (free_frames d) d.account from to (numbers_in (d.stores from)) ≡ account_at_fork c.rule (free_frames c) c.account from to (numbers_in (c.stores from))
fork-same from to c d h = cc

pub fork-alike : (c d : Content) (from to : ℕ) → AreAlike from c d → AreAlike to c d → GiveAlike to (fork_of c from to) (fork_of d from to)
unfolding fork_of
fork-alike c d from to h k = rw (fork-same from to c d h) (fork_with-alike from to c d h k (account_at_fork c.rule (free_frames c) c.account from to (numbers_in (c.stores from))))

-- for the parent's side the child's own store doesn't matter, since the fork replaces it
parent-alike : (from to : ℕ) (c d : Content) → AreAlike from c d → (o : Option (List Class)) → GiveAlike from (fork_with c from to o) (fork_with d from to o)
parent-alike from to c d h None = record { answer = refl; after = h }
parent-alike from to c d h (Some account) = record {
  answer = refl;
  after = record {
    store = by (nat_eq from to);
    account = refl;
    rule = h.rule;
    frames = h.frames;
  };
}
  where
    by : (b : Bool) → cond b (option_map (moved_store from to) (d.stores from)) (d.stores from) ≡ cond b (option_map (moved_store from to) (c.stores from)) (c.stores from)
    by true = ap (option_map (moved_store from to)) h.store
    by false = h.store

pub fork_parent-alike : (c d : Content) (from to : ℕ) → AreAlike from c d → GiveAlike from (fork_of c from to) (fork_of d from to)
unfolding fork_of
fork_parent-alike c d from to h = rw (fork-same from to c d h) (parent-alike from to c d h (account_at_fork c.rule (free_frames c) c.account from to (numbers_in (c.stores from))))

-- Looks.

pub peek-same : (c d : Content) (region page g : ℕ) → d.stores region ≡ c.stores region → peek_of d region page g ≡ peek_of c region page g
unfolding peek_of
peek-same c d region page g same = ap (option_map (λ (p : Page). granule p.granules g)) (page-same region c d page same)

pub rights-same : (c d : Content) (region page : ℕ) → d.stores region ≡ c.stores region → rights_of d region page ≡ rights_of c region page
unfolding rights_of
rights-same c d region page same = ap (option_map (λ (p : Page). p.rights)) (page-same region c d page same)

pub standing-same : (c d : Content) (region page : ℕ) → AreAlike region c d → standing_of d region page ≡ standing_of c region page
unfolding standing_of
standing-same c d region page h = simp (h.store, h.account)
