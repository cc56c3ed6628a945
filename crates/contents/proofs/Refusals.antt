-- What a refused call leaves.
use Rattle.std.proofs.Common.{◌≡◌, ◌+◌, ◌-◌, ℕ, refl, sym, Bool, true, false, cond, nat_le, Option, Some, None, Result, Ok, Err, List, [], ◌∷◌, slice_set}
use Rattle.cap_format.specs.declared.TheConstants.{PAGE_BYTES}
use Rattle.cap_format.specs.declared.cap.Cap.{Cap}
use Rattle.machine_types.specs.declared.touches.Access.{Access}
use Rattle.machine_types.specs.declared.touches.Access.TheVariants.{Read, Write, Fetch}
use Rattle.machine_types.specs.declared.touches.Note.{Note}
use Rattle.machine_types.specs.declared.touches.NoFrame.{NoFrame}
use Rattle.machine_types.specs.declared.touches.Touched.{Touched}
use Rattle.machine_types.specs.declared.touches.Touched.TheVariants.{No, Copied, Moved}
use Rattle.machine_types.specs.Granules.{granule, number_at, with_number}
use Rattle.contents.specs.declared.refusal.Refusal.{Refusal}
use Rattle.contents.specs.Content.{Content, CallOutcome}
use Rattle.contents.specs.Accesses.{note_of, touched, Reached, reach, load_from, store_to, page_of_place, byte_of_place, granule_of_place, read_of, read_cap_of, fetch_of, write_of, write_cap_of}
use Rattle.contents.specs.Regions.{add_page_of, fork_of}
use Rattle.contents.specs.Transfers.{Piece, made_with, first_or_none, prepare_next, prepare_pieces, prepare_of, overlaps_tag}
use Rattle.contents.proofs.CallShapes.{by-added, by-fork}

-- a load that is refused reached no page
load-refused : {A : Type 0} (c : Content) (region : ℕ) (value : List Cap → A) (reached : Result Reached Refusal) (refused : Refusal) → (load_from c region value reached).answer ≡ Err refused
    → (load_from c region value reached).after ≡ c
load-refused c region value (Err refusal) refused e = refl
load-refused c region value (Ok reached) refused e = absurd (cc)

-- nor did a store
store-refused : (c : Content) (region at : ℕ) (change : List Cap → List Cap) (reached : Result Reached Refusal) (refused : Refusal) → (store_to c region at change reached).answer ≡ Err refused
    → (store_to c region at change reached).after ≡ c
store-refused c region at change (Err refusal) refused e = refl
store-refused c region at change (Ok reached) refused e = absurd (cc)

pub read-refused : (c : Content) (region at size : ℕ) (refused : Refusal) → (read_of c region at size).answer ≡ Err refused → (read_of c region at size).after ≡ c
unfolding read_of
read-refused c region at size = load-refused c region (λ granules. number_at granules (byte_of_place at) size) (reach c Read region at)

pub read_cap-refused : (c : Content) (region at : ℕ) (refused : Refusal) → (read_cap_of c region at).answer ≡ Err refused → (read_cap_of c region at).after ≡ c
unfolding read_cap_of
read_cap-refused c region at = load-refused c region (λ granules. granule granules (granule_of_place at)) (reach c Read region at)

pub fetch-refused : (c : Content) (region at : ℕ) (refused : Refusal) → (fetch_of c region at).answer ≡ Err refused → (fetch_of c region at).after ≡ c
unfolding fetch_of
fetch-refused c region at = load-refused c region (λ granules. number_at granules (byte_of_place at) 4) (reach c Fetch region at)

pub write-refused : (c : Content) (region at size v : ℕ) (refused : Refusal) → (write_of c region at size v).answer ≡ Err refused → (write_of c region at size v).after ≡ c
unfolding write_of
write-refused c region at size v = store-refused c region at (λ granules. with_number granules (byte_of_place at) size v) (reach c Write region at)

pub write_cap-refused : (c : Content) (region at : ℕ) (cap : Cap) (refused : Refusal) → (write_cap_of c region at cap).answer ≡ Err refused → (write_cap_of c region at cap).after ≡ c
unfolding write_cap_of
write_cap-refused c region at cap = store-refused c region at (λ granules. slice_set granules (granule_of_place at) cap) (reach c Write region at)

pub add_page-refused : (c : Content) (region page rights : ℕ) (bytes : List ℕ) (refused : NoFrame) → (add_page_of c region page rights bytes).answer ≡ Err refused
    → (add_page_of c region page rights bytes).after ≡ c
add_page-refused c region page rights bytes refused =
    by-added (λ (o : CallOutcome (Result (Unit {0}) NoFrame)). o.answer ≡ Err refused → o.after ≡ c) c region page rights bytes (λ full e. refl) (λ free e. absurd (cc))

pub fork-refused : (c : Content) (from to : ℕ) (refused : NoFrame) → (fork_of c from to).answer ≡ Err refused → (fork_of c from to).after ≡ c
fork-refused c from to refused = by-fork (λ (o : CallOutcome (Result (Unit {0}) NoFrame)). o.answer ≡ Err refused → o.after ≡ c) c from to (λ none e. refl) (λ account some e. absurd (cc))

-- the touch that a refusal names does to the account what the note did
first-touched : (c : Content) (region page : ℕ) (t : Touched) → touched c region (first_or_none (made_with [] (record { page = page; touched = t }) t)) ≡ touched c region (record { page = page; touched = t })
first-touched c region page No = refl
first-touched c region page Copied = refl
first-touched c region page Moved = refl

-- a transfer on one page
one-refused : (c : Content) (region : ℕ) (access : Access) (o : Option Note) (refused : NoFrame) → (prepare_next region c [] (prepare_pieces region access []) o).answer ≡ Err refused
    → (prepare_next region c [] (prepare_pieces region access []) o).after ≡ touched c region refused.before
one-refused c region access None refused e = let before : first_or_none [] ≡ refused.before = cc in rw (← before) refl
one-refused c region access (Some note) refused e = absurd (cc)

-- the second page of two, after the touch of the first
second-refused : (c : Content) (region : ℕ) (access : Access) (note : Note) (o : Option Note) (refused : NoFrame)
    → (prepare_next region (touched c region note) (made_with [] note note.touched) (prepare_pieces region access []) o).answer ≡ Err refused
    → (prepare_next region (touched c region note) (made_with [] note note.touched) (prepare_pieces region access []) o).after ≡ touched c region refused.before
second-refused c region access note None refused e =
    let before : first_or_none (made_with [] note note.touched) ≡ refused.before = cc in
    let same : touched c region (first_or_none (made_with [] note note.touched)) ≡ touched c region note = first-touched c region note.page note.touched in
    rw (← before) (sym same)
second-refused c region access note (Some other) refused e = absurd (cc)

two-refused : (c : Content) (region : ℕ) (access : Access) (second : Piece) (o : Option Note) (refused : NoFrame) → (prepare_next region c [] (prepare_pieces region access (second ∷ [])) o).answer ≡ Err refused
    → (prepare_next region c [] (prepare_pieces region access (second ∷ [])) o).after ≡ touched c region refused.before
two-refused c region access second None refused e = let before : first_or_none [] ≡ refused.before = cc in rw (← before) refl
two-refused c region access second (Some note) refused e =
    second-refused c region access note (note_of (touched c region note) access region (page_of_place second.at) (overlaps_tag (touched c region note) region second.at second.count)) refused e

pub prepare-refused : (c : Content) (region at n : ℕ) (access : Access) (refused : NoFrame) → (prepare_of c region at n access).answer ≡ Err refused
    → (prepare_of c region at n access).after ≡ touched c region refused.before
unfolding prepare_of
prepare-refused c region at n access refused = by (nat_le n (PAGE_BYTES - byte_of_place at))
  where
    room : ℕ
    room = PAGE_BYTES - byte_of_place at

    first : ℕ → Option Note
    first count = note_of c access region (page_of_place at) (overlaps_tag c region at count)

    pieces : Bool → List Piece
    pieces b = cond b (record { at = at; count = n } ∷ []) (record { at = at; count = room } ∷ record { at = at + room; count = n - room } ∷ [])

    by : (b : Bool) → (prepare_pieces region access (pieces b) c []).answer ≡ Err refused → (prepare_pieces region access (pieces b) c []).after ≡ touched c region refused.before
    by true = one-refused c region access (first n) refused
    by false = two-refused c region access (record { at = at + room; count = n - room }) (first room) refused
