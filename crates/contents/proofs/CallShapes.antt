-- A relation between the content before and after a step holds for each call that is made of such steps.
use Rattle.std.proofs.Common.{◌≡◌, ◌+◌, ℕ, refl, Bool, true, false, Option, Some, None, Result, Ok, Err, List, [], ◌∷◌, ◌++◌, slice_set, cond}
use Rattle.std.specs.Option.{option_map}
use Rattle.cap_format.specs.declared.cap.Cap.{Cap}
use Rattle.machine_types.specs.declared.touches.Access.{Access}
use Rattle.machine_types.specs.declared.touches.Access.TheVariants.{Read, Write, Fetch}
use Rattle.machine_types.specs.declared.touches.Note.{Note}
use Rattle.machine_types.specs.declared.touches.NoFrame.{NoFrame}
use Rattle.machine_types.specs.Granules.{is_tagged, number_at, with_number, granule}
use Rattle.machine_types.specs.Rights.{is_allowed}
use Rattle.machine_types.specs.Stores.{Page, Store, empty_store, page_of_bytes, moved_store, store_with}
use Rattle.machine_types.specs.Accounts.{Class, class_for, account_at_fork, account_at_end}
use Rattle.contents.specs.declared.refusal.Refusal.{Refusal}
use Rattle.contents.specs.declared.refusal.Refusal.TheVariants.{NoPage, NoRight, NoFrame as no_frame_refusal}
use Rattle.contents.specs.Content.{Content, CallOutcome, page_at, is_full, with_account, with_store, with_page, with_granules, free_frames}
use Rattle.contents.specs.Accesses.{note_of, touched, Reached, noted, reach, reach_in, load_from, store_to, page_of_place, byte_of_place, granule_of_place, read_of, read_cap_of, fetch_of, write_of, write_cap_of}
use Rattle.contents.specs.Regions.{begin_of, end_of, add_page_of, seed_cap_of, fork_with, fork_of, numbers_in, no_frame}
use Rattle.contents.specs.Transfers.{Piece, pieces_of, made_with, prepare_next, prepare_pieces, prepare_of, overlaps_tag, write_bytes_of}
use Rattle.contents.specs.Laws.{OfEachCall}

-- the relation holds of no change, of one change after another, and of each touch by an access to the region
pub record HoldsOfTouches (region : ℕ) (R : Content → Content → Type 0) : Type 0 where
  pub stays : (c : Content) → R c c
  pub joins : (a b c : Content) → R a b → R b c → R a c
  pub touch : (c : Content) (access : Access) (page : ℕ) (tagged : Bool) (note : Note) → note_of c access region page tagged ≡ Some note → R c (touched c region note)

-- it holds of a change of the store of the region, too, if it has one
pub record HoldsOfStores (region : ℕ) (R : Content → Content → Type 0) : Type 0 where
  pub touches : HoldsOfTouches region R
  pub change : (c : Content) (change : Store → Store) → R c (with_store c region (option_map change (c.stores region)))

-- and of another store or none, and of what the other calls on the region do to the account
pub record HoldsOfSteps (region : ℕ) (R : Content → Content → Type 0) : Type 0 where
  pub stores : HoldsOfStores region R
  pub store : (c : Content) (store : Option Store) → R c (with_store c region store)
  pub end : (c : Content) → R c (with_account c (account_at_end region c.account))
  pub add : (c : Content) (page : ℕ) → is_full c ≡ false → R c (with_account c (c.account ++ (class_for region page ∷ [])))
  pub fork : (c : Content) (from : ℕ) (pages : List ℕ) (account : List Class) → account_at_fork c.rule (free_frames c) c.account from region pages ≡ Some account → R c (with_account c account)

-- what holds of each refusal and of each page with a note of it holds of what an access reaches
pub by-reach : (P : Result Reached Refusal → Type 0) (c : Content) (access : Access) (region at : ℕ) → ((refusal : Refusal) → P (Err refusal))
    → ((p : Page) (tagged : Bool) (note : Note) → note_of c access region (page_of_place at) tagged ≡ Some note → P (Ok (record { page = p; note = note })))
    → P (reach c access region at)
by-reach P c access region at refused found = by-page (page_at c region (page_of_place at))
  where
    by-note : (p : Page) (tagged : Bool) (o : Option Note) → note_of c access region (page_of_place at) tagged ≡ o → P (noted p o)
    by-note p tagged None e = refused no_frame_refusal
    by-note p tagged (Some note) e = found p tagged note e

    by-right : (p : Page) (tagged : Bool) (allowed : Bool) → P (cond allowed (noted p (note_of c access region (page_of_place at) tagged)) (Err NoRight))
    by-right p tagged true = by-note p tagged (note_of c access region (page_of_place at) tagged) refl
    by-right p tagged false = refused NoRight

    by-page : (o : Option Page) → P (reach_in c access region at o)
    by-page None = refused NoPage
    by-page (Some p) = by-right p (is_tagged p.granules (granule_of_place at)) (is_allowed access p.rights)

-- the content with a page more
abbrev pub with_new_page : Content → ℕ → ℕ → ℕ → List ℕ → Content
with_new_page c region page rights bytes = with_account (with_page c region page (page_of_bytes rights bytes)) (c.account ++ (class_for region page ∷ []))

-- what holds where no frame is free, and of a page that is added, holds of the call that adds it
pub by-added : (P : CallOutcome (Result (Unit {0}) NoFrame) → Type 0) (c : Content) (region page rights : ℕ) (bytes : List ℕ) → (is_full c ≡ true → P (record { answer = Err no_frame; after = c }))
    → (is_full c ≡ false → P (record { answer = Ok tt; after = with_new_page c region page rights bytes })) → P (add_page_of c region page rights bytes)
unfolding add_page_of
by-added P c region page rights bytes lacks added = by (is_full c) refl
  where
    by : (full : Bool) → is_full c ≡ full → P (cond full (record { answer = Err no_frame; after = c }) (record { answer = Ok tt; after = with_new_page c region page rights bytes }))
    by true e = lacks e
    by false e = added e

-- what holds of a fork without an account, and with each that it may have, holds of the fork
pub by-fork : (P : CallOutcome (Result (Unit {0}) NoFrame) → Type 0) (c : Content) (from to : ℕ)
    → (account_at_fork c.rule (free_frames c) c.account from to (numbers_in (c.stores from)) ≡ None → P (fork_with c from to None))
    → ((account : List Class) → account_at_fork c.rule (free_frames c) c.account from to (numbers_in (c.stores from)) ≡ Some account → P (fork_with c from to (Some account)))
    → P (fork_of c from to)
unfolding fork_of
by-fork P c from to refused forked = by (account_at_fork c.rule (free_frames c) c.account from to (numbers_in (c.stores from))) refl
  where
    by : (o : Option (List Class)) → account_at_fork c.rule (free_frames c) c.account from to (numbers_in (c.stores from)) ≡ o → P (fork_with c from to o)
    by None e = refused e
    by (Some account) e = forked account e

-- The calls that only touch.
module _ (R : Content → Content → Type 0) (region : ℕ) (h : HoldsOfTouches region R) where
  -- a load, whatever it answers
  load-holds : {A : Type 0} (c : Content) (access : Access) (at : ℕ) (value : List Cap → A) → R c (load_from c region value (reach c access region at)).after
  load-holds {A} c access at value =
      by-reach (λ (reached : Result Reached Refusal). R c (load_from c region value reached).after) c access region at (λ refusal. h.stays c) (λ p tagged note e. h.touch c access (page_of_place at) tagged note e)

  pub read-holds : (c : Content) (at size : ℕ) → R c (read_of c region at size).after
  unfolding read_of
  read-holds c at size = load-holds c Read at (λ granules. number_at granules (byte_of_place at) size)

  pub read_cap-holds : (c : Content) (at : ℕ) → R c (read_cap_of c region at).after
  unfolding read_cap_of
  read_cap-holds c at = load-holds c Read at (λ granules. granule granules (granule_of_place at))

  pub fetch-holds : (c : Content) (at : ℕ) → R c (fetch_of c region at).after
  unfolding fetch_of
  fetch-holds c at = load-holds c Fetch at (λ granules. number_at granules (byte_of_place at) 4)

  -- the first touch of a transfer, and what follows it
  next-holds : (c : Content) (access : Access) (page : ℕ) (tagged : Bool) (made : List Note) (rest : Content → List Note → CallOutcome (Result (List Note) NoFrame))
      → ((d : Content) (notes : List Note) → R d (rest d notes).after) → (o : Option Note) → note_of c access region page tagged ≡ o → R c (prepare_next region c made rest o).after
  next-holds c access page tagged made rest later None e = h.stays c
  next-holds c access page tagged made rest later (Some note) e =
      h.joins c (touched c region note) _ (h.touch c access page tagged note e) (later (touched c region note) (made_with made note note.touched))

  -- the touches of all pieces
  pieces-hold : (access : Access) (pieces : List Piece) (c : Content) (made : List Note) → R c (prepare_pieces region access pieces c made).after
  pieces-hold access [] c made = h.stays c
  pieces-hold access (piece ∷ pieces) c made =
      next-holds c access (page_of_place piece.at) (overlaps_tag c region piece.at piece.count) made (prepare_pieces region access pieces) (pieces-hold access pieces) _ refl

  pub prepare-holds : (c : Content) (at n : ℕ) (access : Access) → R c (prepare_of c region at n access).after
  unfolding prepare_of
  prepare-holds c at n access = pieces-hold access (pieces_of at n) c []

-- The calls that change the store of a region.
module _ (R : Content → Content → Type 0) (region : ℕ) (h : HoldsOfStores region R) where
  -- a store, whatever it changes
  store-holds : (c : Content) (at : ℕ) (change : List Cap → List Cap) → R c (store_to c region at change (reach c Write region at)).after
  store-holds c at change =
      by-reach (λ (reached : Result Reached Refusal). R c (store_to c region at change reached).after) c Write region at (λ refusal. h.touches.stays c)
      (λ p tagged note e. h.touches.joins c (touched c region note) _ (h.touches.touch c Write (page_of_place at) tagged note e)
      (h.change (touched c region note) (store_with (page_of_place at) change)))

  pub write-holds : (c : Content) (at size v : ℕ) → R c (write_of c region at size v).after
  unfolding write_of
  write-holds c at size v = store-holds c at (λ granules. with_number granules (byte_of_place at) size v)

  pub write_cap-holds : (c : Content) (at : ℕ) (cap : Cap) → R c (write_cap_of c region at cap).after
  unfolding write_cap_of
  write_cap-holds c at cap = store-holds c at (λ granules. slice_set granules (granule_of_place at) cap)

  pub seed_cap-holds : (c : Content) (at : ℕ) (cap : Cap) → R c (seed_cap_of c region at cap)
  unfolding seed_cap_of
  seed_cap-holds c at cap = h.change c (store_with (page_of_place at) (λ granules. slice_set granules (granule_of_place at) cap))

  pub write_bytes-holds : (c : Content) (at : ℕ) (bytes : List ℕ) → R c (write_bytes_of c region at bytes)
  unfolding write_bytes_of
  write_bytes-holds c at [] = h.touches.stays c
  write_bytes-holds c at (byte ∷ bytes) =
      let next : Content = with_granules c region (page_of_place at) (λ granules. with_number granules (byte_of_place at) 1 byte) in
      h.touches.joins c next _ (h.change c (store_with (page_of_place at) (λ granules. with_number granules (byte_of_place at) 1 byte))) (write_bytes-holds next (at + 1) bytes)

-- The calls that change the account otherwise.
module _ (R : Content → Content → Type 0) (region : ℕ) (h : HoldsOfSteps region R) where
  pub begin-holds : (c : Content) → R c (begin_of c region)
  unfolding begin_of
  begin-holds c = h.store c (Some empty_store)

  pub end-holds : (c : Content) → R c (end_of c region)
  unfolding end_of
  end-holds c = h.stores.touches.joins c (with_store c region None) _ (h.store c None) (h.end (with_store c region None))

  pub add_page-holds : (c : Content) (page rights : ℕ) (bytes : List ℕ) → R c (add_page_of c region page rights bytes).after
  add_page-holds c page rights bytes =
      let added : Content = with_page c region page (page_of_bytes rights bytes) in
      by-added (λ (o : CallOutcome (Result (Unit {0}) NoFrame)). R c o.after) c region page rights bytes (λ full. h.stores.touches.stays c)
      (λ free. h.stores.touches.joins c added _ (h.store c _) (h.add added page free))

  pub fork-holds : (c : Content) (from : ℕ) → R c (fork_of c from region).after
  fork-holds c from =
      let begun : Content = with_store c region (option_map (moved_store from region) (c.stores from)) in
      by-fork (λ (o : CallOutcome (Result (Unit {0}) NoFrame)). R c o.after) c from region (λ none. h.stores.touches.stays c)
      (λ account e. h.stores.touches.joins c begun _ (h.store c _) (h.fork begun from (numbers_in (c.stores from)) account e))

-- a relation that holds of the steps on each region holds of each call.
pub each-call : (R : Content → Content → Type 0) → ((region : ℕ) → HoldsOfSteps region R) → OfEachCall R
each-call R h = record {
  begin = λ c region. begin-holds R region (h region) c;
  end = λ c region. end-holds R region (h region) c;
  add_page = λ c region page rights bytes. add_page-holds R region (h region) c page rights bytes;
  seed_cap = λ c region at cap. seed_cap-holds R region (h region).stores c at cap;
  read = λ c region at size. read-holds R region (h region).stores.touches c at size;
  read_cap = λ c region at. read_cap-holds R region (h region).stores.touches c at;
  write = λ c region at size v. write-holds R region (h region).stores c at size v;
  write_cap = λ c region at cap. write_cap-holds R region (h region).stores c at cap;
  fetch = λ c region at. fetch-holds R region (h region).stores.touches c at;
  prepare = λ c region at n access. prepare-holds R region (h region).stores.touches c at n access;
  write_bytes = λ c region at bytes. write_bytes-holds R region (h region).stores c at bytes;
  fork = λ c from to. fork-holds R to (h to) c from;
}
