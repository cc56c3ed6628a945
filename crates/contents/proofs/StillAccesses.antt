-- How pages stand after accesses and transfers that touch others.
use Rattle.std.proofs.Common.{◌≡◌, ◌+◌, ◌-◌, inl, ℕ, refl, true, false, Bool, Option, Some, None, Result, List, [], ◌∷◌, cond, All, nat_le, slice_set}
use Rattle.std.proofs.lemmas.List.Elements.{All-head, All-tail}
use Rattle.cap_format.specs.Numbers.{page_bytes}
use Rattle.cap_format.specs.declared.cap.Cap.{Cap}
use Rattle.machine_types.specs.declared.touches.Access.{Access}
use Rattle.machine_types.specs.declared.touches.Access.TheVariants.{Read, Write, Fetch}
use Rattle.machine_types.specs.declared.touches.Note.{Note}
use Rattle.machine_types.specs.declared.touches.Touched.{Touched}
use Rattle.machine_types.specs.declared.touches.Touched.TheVariants.{No, Copied, Moved}
use Rattle.machine_types.specs.Granules.{granule, number_at, with_number}
use Rattle.contents.specs.declared.refusal.Refusal.{Refusal}
use Rattle.contents.specs.Content.{Content, with_granules}
use Rattle.contents.specs.Accesses.{note_of, touched, untouched, Reached, reach, load_from, store_to, page_of_place, byte_of_place, granule_of_place, read_of, read_cap_of, fetch_of, write_of, write_cap_of}
use Rattle.contents.specs.Transfers.{Piece, made_with, two_notes, first_or_none, prepare_next, prepare_pieces, prepare_of, overlaps_tag}
use Rattle.contents.specs.Touching.{notes_of_load, notes_of_store, notes_of_transfer}
use Rattle.contents.specs.Standing.{IsElsewhere, IsStill}
use Rattle.contents.specs.Whole.{IsWhole}
use Rattle.contents.proofs.CallShapes.{by-reach}
use Rattle.contents.proofs.Standings.{IsKept, still-from_kept, kept-same, kept-joined}
use Rattle.contents.proofs.StillCalls.{granules-kept}
use Rattle.contents.proofs.StillTouched.{touch-still}
use Rattle.contents.proofs.WholeTouches.{touch-whole}

-- One access.

-- a load
load-still : {A : Type 0} (c : Content) (access : Access) (region at : ℕ) (value : List Cap → A) (r p : ℕ) → IsWhole c
    → All (IsElsewhere r p region) (notes_of_load (load_from c region value (reach c access region at)).answer) → IsStill c (load_from c region value (reach c access region at)).after r p
load-still {A} c access region at value r p whole =
    by-reach (λ (reached : Result Reached Refusal). All (IsElsewhere r p region) (notes_of_load (load_from c region value reached).answer) → IsStill c (load_from c region value reached).after r p)
    c access region at
    (λ refusal elsewhere. still-from_kept r p c c (kept-same r p c))
    (λ q tagged note e elsewhere. still-from_kept r p c (touched c region note)
    (touch-still c access region (page_of_place at) tagged note r p whole e (All-head (IsElsewhere r p region) note [] elsewhere)))

pub read-still : (c : Content) (region at size r p : ℕ) → IsWhole c → All (IsElsewhere r p region) (notes_of_load (read_of c region at size).answer) → IsStill c (read_of c region at size).after r p
unfolding read_of
read-still c region at size = load-still c Read region at (λ granules. number_at granules (byte_of_place at) size)

pub read_cap-still : (c : Content) (region at r p : ℕ) → IsWhole c → All (IsElsewhere r p region) (notes_of_load (read_cap_of c region at).answer) → IsStill c (read_cap_of c region at).after r p
unfolding read_cap_of
read_cap-still c region at = load-still c Read region at (λ granules. granule granules (granule_of_place at))

pub fetch-still : (c : Content) (region at r p : ℕ) → IsWhole c → All (IsElsewhere r p region) (notes_of_load (fetch_of c region at).answer) → IsStill c (fetch_of c region at).after r p
unfolding fetch_of
fetch-still c region at = load-still c Fetch region at (λ granules. number_at granules (byte_of_place at) 4)

-- a store
store-still : (c : Content) (region at : ℕ) (change : List Cap → List Cap) (r p : ℕ) → IsWhole c
    → All (IsElsewhere r p region) (notes_of_store (store_to c region at change (reach c Write region at)).answer) → IsStill c (store_to c region at change (reach c Write region at)).after r p
store-still c region at change r p whole =
    by-reach (λ (reached : Result Reached Refusal). All (IsElsewhere r p region) (notes_of_store (store_to c region at change reached).answer) → IsStill c (store_to c region at change reached).after r p)
    c Write region at
    (λ refusal elsewhere. still-from_kept r p c c (kept-same r p c))
    (λ q tagged note e elsewhere. still-from_kept r p c (with_granules (touched c region note) region (page_of_place at) change)
    (kept-joined r p c (touched c region note) (with_granules (touched c region note) region (page_of_place at) change)
    (touch-still c Write region (page_of_place at) tagged note r p whole e (All-head (IsElsewhere r p region) note [] elsewhere))
    (granules-kept (touched c region note) region (page_of_place at) change r p)))

pub write-still : (c : Content) (region at size v r p : ℕ) → IsWhole c → All (IsElsewhere r p region) (notes_of_store (write_of c region at size v).answer) → IsStill c (write_of c region at size v).after r p
unfolding write_of
write-still c region at size v = store-still c region at (λ granules. with_number granules (byte_of_place at) size v)

pub write_cap-still : (c : Content) (region at : ℕ) (cap : Cap) (r p : ℕ) → IsWhole c → All (IsElsewhere r p region) (notes_of_store (write_cap_of c region at cap).answer)
    → IsStill c (write_cap_of c region at cap).after r p
unfolding write_cap_of
write_cap-still c region at cap = store-still c region at (λ granules. slice_set granules (granule_of_place at) cap)

-- A transfer.

-- the first touch of a transfer, as an answer names it
first-elsewhere : (r p region : ℕ) (note : Note) (t : Touched) → note.touched ≡ t → IsElsewhere r p region (first_or_none (made_with [] note t)) → IsElsewhere r p region note
first-elsewhere r p region note No is elsewhere = inl is
first-elsewhere r p region note Copied is elsewhere = elsewhere
first-elsewhere r p region note Moved is elsewhere = elsewhere

-- a transfer's only touch
only-elsewhere : (r p region : ℕ) (note : Note) (t : Touched) → note.touched ≡ t → All (IsElsewhere r p region) (two_notes (made_with [] note t)) → IsElsewhere r p region note
only-elsewhere r p region note No is elsewhere = inl is
only-elsewhere r p region note Copied is elsewhere = All-head (IsElsewhere r p region) note (untouched ∷ []) elsewhere
only-elsewhere r p region note Moved is elsewhere = All-head (IsElsewhere r p region) note (untouched ∷ []) elsewhere

-- what holds of two holds of each
head-two : (P : Note → Type 0) (first second : Note) → All P (first ∷ second ∷ []) → P first × P second
head-two P first second all = (All-head P first (second ∷ []) all, All-head P second [] (All-tail P first (second ∷ []) all))

-- the second touch of two
last-elsewhere : (r p region : ℕ) (first note : Note) (t : Touched) → note.touched ≡ t → All (IsElsewhere r p region) (two_notes (made_with (first ∷ []) note t))
    → IsElsewhere r p region first × IsElsewhere r p region note
last-elsewhere r p region first note No is elsewhere = (All-head (IsElsewhere r p region) first (untouched ∷ []) elsewhere, inl is)
last-elsewhere r p region first note Copied is elsewhere = head-two (IsElsewhere r p region) first note elsewhere
last-elsewhere r p region first note Moved is elsewhere = head-two (IsElsewhere r p region) first note elsewhere

-- both touches of two
both-elsewhere : (r p region : ℕ) (first second : Note) (t : Touched) → first.touched ≡ t → All (IsElsewhere r p region) (two_notes (made_with (made_with [] first t) second second.touched))
    → IsElsewhere r p region first × IsElsewhere r p region second
both-elsewhere r p region first second No is elsewhere = (inl is, only-elsewhere r p region second second.touched refl elsewhere)
both-elsewhere r p region first second Copied is elsewhere = last-elsewhere r p region first second second.touched refl elsewhere
both-elsewhere r p region first second Moved is elsewhere = last-elsewhere r p region first second second.touched refl elsewhere

-- a transfer on one page
one-kept : (c : Content) (region : ℕ) (access : Access) (piece : Piece) (r p : ℕ) → IsWhole c → All (IsElsewhere r p region) (notes_of_transfer (prepare_pieces region access (piece ∷ []) c []).answer)
    → IsKept r p c (prepare_pieces region access (piece ∷ []) c []).after
one-kept c region access piece r p whole = by (note_of c access region (page_of_place piece.at) (overlaps_tag c region piece.at piece.count)) refl
  where
    by : (o : Option Note) → note_of c access region (page_of_place piece.at) (overlaps_tag c region piece.at piece.count) ≡ o
        → All (IsElsewhere r p region) (notes_of_transfer (prepare_next region c [] (prepare_pieces region access []) o).answer) → IsKept r p c (prepare_next region c [] (prepare_pieces region access []) o).after
    by None e elsewhere = kept-same r p c
    by (Some note) e elsewhere =
        touch-still c access region (page_of_place piece.at) (overlaps_tag c region piece.at piece.count) note r p whole e (only-elsewhere r p region note note.touched refl elsewhere)

-- the second page of two, after the touch of the first
second-kept : (c : Content) (region : ℕ) (access : Access) (first : Note) (piece : Piece) (r p : ℕ) → IsWhole (touched c region first) → (IsElsewhere r p region first → IsKept r p c (touched c region first))
    → All (IsElsewhere r p region) (notes_of_transfer (prepare_pieces region access (piece ∷ []) (touched c region first) (made_with [] first first.touched)).answer)
    → IsKept r p c (prepare_pieces region access (piece ∷ []) (touched c region first) (made_with [] first first.touched)).after
second-kept c region access first piece r p whole kept = by (note_of next access region (page_of_place piece.at) (overlaps_tag next region piece.at piece.count)) refl
  where
    next : Content
    next = touched c region first

    made : List Note
    made = made_with [] first first.touched

    by : (o : Option Note) → note_of next access region (page_of_place piece.at) (overlaps_tag next region piece.at piece.count) ≡ o
        → All (IsElsewhere r p region) (notes_of_transfer (prepare_next region next made (prepare_pieces region access []) o).answer) → IsKept r p c (prepare_next region next made (prepare_pieces region access []) o).after
    by None e elsewhere = kept (first-elsewhere r p region first first.touched refl (All-head (IsElsewhere r p region) (first_or_none made) [] elsewhere))
    by (Some note) e elsewhere =
        let both = both-elsewhere r p region first note first.touched refl elsewhere in
        kept-joined r p c next (touched next region note) (kept both.0)
        (touch-still next access region (page_of_place piece.at) (overlaps_tag next region piece.at piece.count) note r p whole e both.1)

two-kept : (c : Content) (region : ℕ) (access : Access) (first second : Piece) (r p : ℕ) → IsWhole c
    → All (IsElsewhere r p region) (notes_of_transfer (prepare_pieces region access (first ∷ second ∷ []) c []).answer) → IsKept r p c (prepare_pieces region access (first ∷ second ∷ []) c []).after
two-kept c region access first second r p whole = by (note_of c access region (page_of_place first.at) (overlaps_tag c region first.at first.count)) refl
  where
    by : (o : Option Note) → note_of c access region (page_of_place first.at) (overlaps_tag c region first.at first.count) ≡ o
        → All (IsElsewhere r p region) (notes_of_transfer (prepare_next region c [] (prepare_pieces region access (second ∷ [])) o).answer) → IsKept r p c (prepare_next region c [] (prepare_pieces region access (second ∷ [])) o).after
    by None e elsewhere = kept-same r p c
    by (Some note) e elsewhere =
        second-kept c region access note second r p (touch-whole c access region (page_of_place first.at) (overlaps_tag c region first.at first.count) note e whole)
        (touch-still c access region (page_of_place first.at) (overlaps_tag c region first.at first.count) note r p whole e) elsewhere

pub prepare-still : (c : Content) (region at n : ℕ) (access : Access) (r p : ℕ) → IsWhole c → All (IsElsewhere r p region) (notes_of_transfer (prepare_of c region at n access).answer)
    → IsStill c (prepare_of c region at n access).after r p
unfolding prepare_of
prepare-still c region at n access r p whole elsewhere = still-from_kept r p c (prepare_of c region at n access).after (by (nat_le n room) elsewhere)
  where
    room : ℕ
    room = page_bytes - byte_of_place at

    pieces : Bool → List Piece
    pieces b = cond b (record { at = at; count = n } ∷ []) (record { at = at; count = room } ∷ record { at = at + room; count = n - room } ∷ [])

    by : (b : Bool) → All (IsElsewhere r p region) (notes_of_transfer (prepare_pieces region access (pieces b) c []).answer) → IsKept r p c (prepare_pieces region access (pieces b) c []).after
    by true = one-kept c region access (record { at = at; count = n }) r p whole
    by false = two-kept c region access (record { at = at; count = room }) (record { at = at + room; count = n - room }) r p whole
