-- The touches of a transfer leave none to make.
use Rattle.std.proofs.Common.{◌≡◌, ◌≢◌, ◌+◌, ◌-◌, ◌/◌, ◌%◌, ◌≤◌, ◌<◌, ◌⊎◌, inl, inr, ℕ, zero, suc, refl, sym, subst, arith, true, false, not, Bool, Option, Some, None, Result, Ok, List, [], ◌∷◌, cond, ◌||◌, nat_le}
use Rattle.std.specs.Option.{option_map}
use Rattle.std.proofs.lemmas.Bool.Decides.{leb_tells}
use Rattle.std.proofs.lemmas.List.Filters.{length-filter_both}
use Rattle.machine_types.specs.declared.touches.Access.{Access}
use Rattle.machine_types.specs.declared.touches.Note.{Note}
use Rattle.machine_types.specs.declared.touches.NoFrame.{NoFrame}
use Rattle.machine_types.specs.Accounts.{Class, is_member, has_member, class_for}
use Rattle.machine_types.specs.Touches.{touches, rehomed, without_member}
use Rattle.contents.specs.Content.{Content, CallOutcome, page_at, class_at}
use Rattle.contents.specs.Accesses.{note_of, touched, page_of_place}
use Rattle.contents.specs.Transfers.{tagged_in, overlaps_tag, made_with, Piece, prepare_next, prepare_pieces, prepare_of}
use Rattle.contents.specs.Conditions.{Covers, IsFitIn, IsPrepared}
use Rattle.contents.proofs.Covered.{with-first}
use Rattle.contents.proofs.TouchLemmas.{IsFit, IsNoted, none, copied, moved, noted}
use Rattle.contents.proofs.Fits.{class-moved, class-copied, other-moved, other-copied, touched-less, own-untouched}

-- the page is fit after its touch
pub own-fit : (c : Content) (access : Access) (region page : ℕ) (tagged : Bool) (note : Note) → IsNoted c access region page tagged note → IsFit (touched c region note) access region page tagged
own-fit c access region page tagged note (none fit) = fit
own-fit c access region page tagged note (copied _ _ _ _) = rw (class-copied c.account region page) (own-untouched c.rule access (class_for region page) region tagged refl refl)
own-fit c access region page tagged note (moved class e _ s) =
    rw (class-moved c.account region page class e) (own-untouched c.rule access (record class { home = region }) region tagged refl s)

-- a page that is fit stays so where another page of the region is touched
other-fit : (c : Content) (access : Access) (region page : ℕ) (tagged : Bool) (q : ℕ) (t : Bool) (note : Note) → IsNoted c access region q t note → page ≢ q
    → IsFit c access region page tagged → IsFit (touched c region note) access region page tagged
other-fit c access region page tagged q t note (none _) apart fit = fit
other-fit c access region page tagged q t note (copied _ _ _ _) apart fit = rw (other-copied c.account region q region page (inr apart)) (by (class_at c region page) fit)
  where
    by : (o : Option Class) → IsFitIn c access region tagged o → IsFitIn c access region tagged (option_map (without_member region q) o)
    by None fit = tt
    by (Some class) fit =
        let lengths = length-filter_both (is_member region q) (λ m. not (is_member region q m)) (λ _. refl) class.members in
        touched-less c.rule access class (without_member region q class) region tagged tagged (omega arith) (inr refl) (λ h. h) fit
other-fit c access region page tagged q t note (moved _ _ _ _) apart fit = rw (other-moved c.account region q region page) (by (class_at c region page) fit)
  where
    by-home : (class : Class) (b : Bool) → touches c.rule access class region tagged ≡ false → touches c.rule access (cond b (record class { home = region }) class) region tagged ≡ false
    by-home class true fit = touched-less c.rule access class (record class { home = region }) region tagged tagged (omega arith) (inl refl) (λ h. h) fit
    by-home class false fit = fit

    by : (o : Option Class) → IsFitIn c access region tagged o → IsFitIn c access region tagged (option_map (rehomed region q) o)
    by None fit = tt
    by (Some class) fit = by-home class (has_member region q class) fit

-- a page that is fit is so at fewer tags
pub less-tagged : (c : Content) (access : Access) (region page : ℕ) (tagged less : Bool) → (tagged ≡ false → less ≡ false) → IsFit c access region page tagged → IsFit c access region page less
less-tagged c access region page tagged less tag = by (class_at c region page)
  where
    by : (o : Option Class) → IsFitIn c access region tagged o → IsFitIn c access region less o
    by None fit = tt
    by (Some class) fit = touched-less c.rule access class class region tagged less (omega arith) (inr refl) tag fit

-- the parts of a disjunction that fails
neither : (a b : Bool) → (a || b) ≡ false → (a ≡ false) × (b ≡ false)
neither a b h = grind arith

-- bytes that overlap no tagged granule lie in none
pub none-tagged : (c : Content) (region at n : ℕ) → overlaps_tag c region at n ≡ false → (k : ℕ) → k < n → tagged_in (page_at c region (page_of_place (at + k))) (at + k) ≡ false
unfolding overlaps_tag
none-tagged c region at zero h k less = absurd (omega arith)
none-tagged c region at (suc n) h k less =
    let parts = neither _ _ h in
    with-first (λ (at : ℕ). tagged_in (page_at c region (page_of_place at)) at ≡ false) at n parts.0 (none-tagged c region (at + 1) n parts.1) k less

-- the bytes of a piece lie on its page
pub on-page : (at count k : ℕ) → count ≤ 4096 - at % 4096 → k < count → (at + k) / 4096 ≡ at / 4096
on-page at count k room h = omega arith

-- the bytes of a piece are fit where its page is
piece-fit : (c d : Content) (access : Access) (region at count : ℕ) → count ≤ 4096 - at % 4096 → IsFit d access region (page_of_place at) (overlaps_tag c region at count)
    → (k : ℕ) → k < count → IsFit d access region (page_of_place (at + k)) (tagged_in (page_at c region (page_of_place (at + k))) (at + k))
piece-fit c d access region at count room fit k h =
    subst (λ (page : ℕ). IsFit d access region page (tagged_in (page_at c region (page_of_place (at + k))) (at + k))) (sym (on-page at count k room h))
    (less-tagged d access region (page_of_place at) (overlaps_tag c region at count) _ (λ clear. none-tagged c region at count clear k h) fit)

-- a number is below another or not
split : (k n : ℕ) → (k < n) ⊎ (n ≤ k)
split k n = grind arith

-- what the touches of a first piece with this note and of the other pieces answer and leave
abbrev made : ℕ → Access → Content → List Note → List Piece → Option Note → CallOutcome (Result (List Note) NoFrame)
made region access c before pieces note = prepare_next region c before (prepare_pieces region access pieces) note

-- a transfer on one page
one-ready : (c : Content) (region at n : ℕ) (access : Access) (notes : List Note) → n ≤ 4096 - at % 4096 → Covers region at n access c
    → (prepare_pieces region access (record { at = at; count = n } ∷ []) c []).answer ≡ Ok notes
    → IsPrepared region at n access (prepare_pieces region access (record { at = at; count = n } ∷ []) c []).after
one-ready c region at n access notes room covered = by (note_of c access region (page_of_place at) (overlaps_tag c region at n)) refl
  where
    by : (o : Option Note) → note_of c access region (page_of_place at) (overlaps_tag c region at n) ≡ o → (made region access c [] [] o).answer ≡ Ok notes → IsPrepared region at n access (made region access c [] [] o).after
    by None e h = absurd (cc)
    by (Some note) e h = record {
      covered = covered;
      fit = piece-fit c (touched c region note) access region at n room (own-fit c access region _ _ note (noted c access region _ _ note e));
    }

-- a transfer on two pages
two-ready : (c : Content) (region at n room : ℕ) (access : Access) (notes : List Note) → room ≡ 4096 - at % 4096 → n ≤ 4096 → Covers region at n access c
    → (prepare_pieces region access (record { at = at; count = room } ∷ record { at = at + room; count = n - room } ∷ []) c []).answer ≡ Ok notes
    → IsPrepared region at n access (prepare_pieces region access (record { at = at; count = room } ∷ record { at = at + room; count = n - room } ∷ []) c []).after
two-ready c region at n room access notes room-is most covered = by-first (note_of c access region (page_of_place at) (overlaps_tag c region at room)) refl
  where
    second : Piece
    second = record { at = at + room; count = n - room }

    apart : at / 4096 ≢ (at + room) / 4096
    apart = λ same. omega arith

    fits : (first note : Note) → note_of c access region (page_of_place at) (overlaps_tag c region at room) ≡ Some first
        → note_of (touched c region first) access region (page_of_place (at + room)) (overlaps_tag (touched c region first) region (at + room) (n - room)) ≡ Some note
        → (k : ℕ) → k < n → ((k < room) ⊎ (room ≤ k))
        → IsFit (touched (touched c region first) region note) access region (page_of_place (at + k)) (tagged_in (page_at c region (page_of_place (at + k))) (at + k))
    fits first note e f k less (inl before) =
        let fit = own-fit c access region _ _ first (noted c access region _ _ first e) in
        let still = other-fit (touched c region first) access region _ _ _ _ note (noted (touched c region first) access region _ _ note f) apart fit in
        piece-fit c (touched (touched c region first) region note) access region at room (omega arith) still k before
    fits first note e f k less (inr past) =
        let same : at + room + (k - room) ≡ at + k = omega arith in
        let fit = own-fit (touched c region first) access region _ _ note (noted (touched c region first) access region _ _ note f) in
        subst (λ (at : ℕ). IsFit (touched (touched c region first) region note) access region (page_of_place at) (tagged_in (page_at c region (page_of_place at)) at)) same
        (piece-fit (touched c region first) (touched (touched c region first) region note) access region (at + room) (n - room) (omega arith) fit (k - room) (omega arith))

    by-second : (first : Note) → note_of c access region (page_of_place at) (overlaps_tag c region at room) ≡ Some first → (o : Option Note)
        → note_of (touched c region first) access region (page_of_place (at + room)) (overlaps_tag (touched c region first) region (at + room) (n - room)) ≡ o
        → (made region access (touched c region first) (made_with [] first first.touched) [] o).answer ≡ Ok notes
        → IsPrepared region at n access (made region access (touched c region first) (made_with [] first first.touched) [] o).after
    by-second first e None f h = absurd (cc)
    by-second first e (Some note) f h = record { covered = covered; fit = λ k less. fits first note e f k less (split k room) }

    by-first : (o : Option Note) → note_of c access region (page_of_place at) (overlaps_tag c region at room) ≡ o → (made region access c [] (second ∷ []) o).answer ≡ Ok notes
        → IsPrepared region at n access (made region access c [] (second ∷ []) o).after
    by-first None e h = absurd (cc)
    by-first (Some first) e h = by-second first e _ refl h

-- a transfer whose touches were made has none left to make
pub ready : (c : Content) (region at n : ℕ) (access : Access) (notes : List Note) → n ≤ 4096 → Covers region at n access c
    → (prepare_of c region at n access).answer ≡ Ok notes → IsPrepared region at n access (prepare_of c region at n access).after
unfolding prepare_of
ready c region at n access notes most covered = by (nat_le n (4096 - at % 4096)) (leb_tells n (4096 - at % 4096))
  where
    pieces : Bool → List Piece
    pieces b = cond b (record { at = at; count = n } ∷ []) (record { at = at; count = 4096 - at % 4096 } ∷ record { at = at + (4096 - at % 4096); count = n - (4096 - at % 4096) } ∷ [])

    by : (b : Bool) → ((b ≡ true) × (n ≤ 4096 - at % 4096)) ⊎ ((b ≡ false) × (4096 - at % 4096 < n)) → (prepare_pieces region access (pieces b) c []).answer ≡ Ok notes
        → IsPrepared region at n access (prepare_pieces region access (pieces b) c []).after
    by true (inl (_, room)) h = one-ready c region at n access notes room covered h
    by true (inr (e, _)) h = absurd (cc)
    by false o h = two-ready c region at n (4096 - at % 4096) access notes refl most covered h
