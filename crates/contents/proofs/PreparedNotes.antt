-- The touches that a transfer makes, as its answer names them.
use Rattle.std.proofs.Common.{◌≡◌, ◌≢◌, ◌≤◌, ◌<◌, ◌+◌, ◌-◌, ◌/◌, ◌%◌, ◌⊎◌, inl, inr, ℕ, zero, suc, ap, refl, sym, ◌∙◌, subst, arith, Bool, true, false, ◌||◌, cond, nat_le, Option, Some, None, Result, Ok, Err, List, [], ◌∷◌, ◌++◌}
use Rattle.std.proofs.lemmas.Bool.{cases_Bool, eqb-true}
use Rattle.std.proofs.lemmas.Bool.Decides.{leb_tells}
use Rattle.machine_types.specs.declared.config.Rule.TheVariants as rule
use Rattle.machine_types.specs.declared.touches.Access.{Access}
use Rattle.machine_types.specs.declared.touches.Note.{Note}
use Rattle.machine_types.specs.declared.touches.NoFrame.{NoFrame}
use Rattle.machine_types.specs.declared.touches.Touched.{Touched}
use Rattle.machine_types.specs.declared.touches.Touched.TheVariants.{No, Copied, Moved}
use Rattle.machine_types.specs.Accounts.{Class}
use Rattle.contents.specs.Content.{Content, CallOutcome, page_at, class_at, used_frames}
use Rattle.contents.specs.Accesses.{untouched, note_in, note_of, touched, page_of_place}
use Rattle.contents.specs.Transfers.{tagged_in, overlaps_tag, Piece, made_with, first_or_none, two_notes, prepare_next, prepare_pieces, prepare_of}
use Rattle.contents.specs.Conditions.{IsFitIn, IsPrepared}
use Rattle.contents.specs.Touching.{LiesUnder, WerePrepared}
use Rattle.contents.proofs.TouchLemmas.{IsFit, IsNoted, none, copied, moved, noted, note-lacks}
use Rattle.contents.proofs.NamedTouches.{never-touched}
use Rattle.contents.proofs.Prepared.{less-tagged, on-page}

-- Notes.

-- a touch was made or none
pub none-or-some : (t : Touched) → (t ≡ No) ⊎ (t ≢ No)
none-or-some No = inl refl
none-or-some Copied = inr (λ h. cc)
none-or-some Moved = inr (λ h. cc)

-- one that was made is the last of those that were
pub made-some : (made : List Note) (note : Note) (t : Touched) → t ≢ No → made_with made note t ≡ made ++ (note ∷ [])
made-some made note No some = absurd (some refl)
made-some made note Copied some = refl
made-some made note Moved some = refl

-- the note of no touch, or of one of a page under one of so many bytes
record IsUnder (at n : ℕ) (note : Note) : Type 0 where
  pub under : note.touched ≢ No → LiesUnder at n note
  pub none : note.touched ≡ No → note ≡ untouched

none-under : (at n : ℕ) → IsUnder at n untouched
none-under at n = record { under = λ some. absurd (some refl); none = λ _. refl }

-- a note of an access to a page under a byte
noted-under : (c : Content) (access : Access) (region page : ℕ) (tagged : Bool) (note : Note) (at n byte : ℕ) → IsNoted c access region page tagged note → byte < n → page ≡ page_of_place (at + byte) → IsUnder at n note
noted-under c access region page tagged note at n byte (none _) within lies = none-under at n
noted-under c access region page tagged note at n byte (copied _ _ _ _) within lies = record { under = λ _. record { byte = byte; within = within; page = lies }; none = λ h. absurd (cc) }
noted-under c access region page tagged note at n byte (moved _ _ _ _) within lies = record { under = λ _. record { byte = byte; within = within; page = lies }; none = λ h. absurd (cc) }

-- names the page
noted-page : (c : Content) (access : Access) (region page : ℕ) (tagged : Bool) (note : Note) → IsNoted c access region page tagged note → note.touched ≢ No → note.page ≡ page
noted-page c access region page tagged note (none _) some = absurd (some refl)
noted-page c access region page tagged note (copied _ _ _ _) some = refl
noted-page c access region page tagged note (moved _ _ _ _) some = refl

-- What was made.
module _ (c : Content) (region at n : ℕ) where
  -- one touch
  were-one : (note : Note) → IsUnder at n note → WerePrepared c (touched c region note) region at n note untouched
  were-one note is = record {
    made = refl;
    first_under = is.under;
    second_under = λ some. absurd (some refl);
    rising = λ some. absurd (some refl);
    first_none = is.none;
    second_none = λ _. refl;
  }

  -- two
  were-two : (first second : Note) → IsUnder at n first → IsUnder at n second → first.touched ≢ No → first.page < second.page → WerePrepared c (touched (touched c region first) region second) region at n first second
  were-two first second is too some less = record {
    made = refl;
    first_under = is.under;
    second_under = too.under;
    rising = λ _. (some, less);
    first_none = is.none;
    second_none = too.none;
  }

  -- these notes are those of the touches that were made
  abbrev Names : List Note → Content → Type 0
  Names notes after = (first : Note) × (second : Note) × (notes ≡ first ∷ second ∷ []) × WerePrepared c after region at n first second

  -- those of one piece
  one-names : (note : Note) → IsUnder at n note → Names (two_notes (made_with [] note note.touched)) (touched c region note)
  one-names note is = by (none-or-some note.touched)
    where
      by : (note.touched ≡ No) ⊎ (note.touched ≢ No) → Names (two_notes (made_with [] note note.touched)) (touched c region note)
      by (inl lacks) =
          let same : untouched ≡ note = sym (is.none lacks) in
          subst (λ (note : Note). Names (two_notes (made_with [] note note.touched)) (touched c region note)) same (untouched, untouched, refl, were-one untouched (none-under at n))
      by (inr some) = (note, untouched, ap two_notes (made-some [] note note.touched some), were-one note is)

  -- those of two
  two-names : (first second : Note) → IsUnder at n first → IsUnder at n second → (first.touched ≢ No → second.touched ≢ No → first.page < second.page)
      → Names (two_notes (made_with (made_with [] first first.touched) second second.touched)) (touched (touched c region first) region second)
  two-names first second is too less = by (none-or-some first.touched) (none-or-some second.touched)
    where
      by : (first.touched ≡ No) ⊎ (first.touched ≢ No) → (second.touched ≡ No) ⊎ (second.touched ≢ No)
          → Names (two_notes (made_with (made_with [] first first.touched) second second.touched)) (touched (touched c region first) region second)
      by (inl lacks) _ =
          let same : untouched ≡ first = sym (is.none lacks) in
          subst (λ (first : Note). Names (two_notes (made_with (made_with [] first first.touched) second second.touched)) (touched (touched c region first) region second)) same (one-names second too)
      by (inr some) (inl lacks) =
          let same : untouched ≡ second = sym (too.none lacks) in
          subst (λ (second : Note). Names (two_notes (made_with (made_with [] first first.touched) second second.touched)) (touched (touched c region first) region second)) same
          (one-names first is)
      by (inr some) (inr more) =
          let one : made_with [] first first.touched ≡ first ∷ [] = made-some [] first first.touched some in
          let both : made_with (first ∷ []) second second.touched ≡ first ∷ second ∷ [] = made-some (first ∷ []) second second.touched more in
          (first, second, ap (λ (made : List Note). two_notes (made_with made second second.touched)) one ∙ ap two_notes both, were-two first second is too some (less some more))

  -- the outcome names its touches: some bytes in an answer, and however few in a refusal
  data IsMade : CallOutcome (Result (List Note) NoFrame) → Type 0 where
    answered : (notes : List Note) (after : Content) → (1 ≤ n → Names notes after) → IsMade (record { answer = Ok notes; after = after })
    refused : (before : Note) (after : Content) → WerePrepared c after region at n before untouched → used_frames after ≡ c.frames → IsMade (record { answer = Err (record { before = before }); after = after })

  -- a refusal after the touch of a first page
  second-refused : (first : Note) → IsUnder at n first → used_frames (touched c region first) ≡ c.frames
      → IsMade (record { answer = Err (record { before = first_or_none (made_with [] first first.touched) }); after = touched c region first })
  second-refused first is full = refused _ (touched c region first) (by (none-or-some first.touched)) full
    where
      by : (first.touched ≡ No) ⊎ (first.touched ≢ No) → WerePrepared c (touched c region first) region at n (first_or_none (made_with [] first first.touched)) untouched
      by (inl lacks) =
          let same : untouched ≡ first = sym (is.none lacks) in
          subst (λ (first : Note). WerePrepared c (touched c region first) region at n (first_or_none (made_with [] first first.touched)) untouched) same (were-one untouched (none-under at n))
      by (inr some) =
          let same : first ≡ first_or_none (made_with [] first first.touched) = sym (ap first_or_none (made-some [] first first.touched some)) in
          subst (λ (before : Note). WerePrepared c (touched c region first) region at n before untouched) same (were-one first is)

  -- where a page finds no frame, all are used
  all-used : (d : Content) (access : Access) (page : ℕ) (tagged : Bool) → note_of d access region page tagged ≡ None → used_frames d ≡ d.frames
  all-used d access page tagged e = eqb-true _ _ (note-lacks d access region page tagged (class_at d region page) e)

  -- a transfer on one page
  one-made : (access : Access) → IsMade (prepare_pieces region access (record { at = at; count = n } ∷ []) c [])
  one-made access = by (note_of c access region (page_of_place at) (overlaps_tag c region at n)) refl
    where
      first-place : page_of_place at ≡ page_of_place (at + 0)
      first-place = omega arith

      by : (o : Option Note) → note_of c access region (page_of_place at) (overlaps_tag c region at n) ≡ o → IsMade (prepare_next region c [] (prepare_pieces region access []) o)
      by None e = refused untouched c (were-one untouched (none-under at n)) (all-used c access _ _ e)
      by (Some note) e = answered _ (touched c region note) (λ least. one-names note (noted-under c access region _ _ note at n 0 (noted c access region _ _ note e) least first-place))

  -- a transfer on two
  two-made : (access : Access) (room : ℕ) → room ≡ 4096 - at % 4096 → room < n
      → IsMade (prepare_pieces region access (record { at = at; count = room } ∷ record { at = at + room; count = n - room } ∷ []) c [])
  two-made access room room-is more = by (note_of c access region (page_of_place at) (overlaps_tag c region at room)) refl
    where
      second : Piece
      second = record { at = at + room; count = n - room }

      first-place : page_of_place at ≡ page_of_place (at + 0)
      first-place = omega arith

      next-page : at / 4096 < (at + room) / 4096
      next-page = omega arith

      by-second : (first : Note) → IsNoted c access region (page_of_place at) (overlaps_tag c region at room) first → (o : Option Note)
          → note_of (touched c region first) access region (page_of_place (at + room)) (overlaps_tag (touched c region first) region (at + room) (n - room)) ≡ o
          → IsMade (prepare_next region (touched c region first) (made_with [] first first.touched) (prepare_pieces region access []) o)
      by-second first is None e = second-refused first (noted-under c access region _ _ first at n 0 is (omega arith) first-place) (all-used (touched c region first) access _ _ e)
      by-second first is (Some note) e =
          let too = noted (touched c region first) access region _ _ note e in
          answered _ (touched (touched c region first) region note)
          (λ _. two-names first note (noted-under c access region _ _ first at n 0 is (omega arith) first-place) (noted-under (touched c region first) access region _ _ note at n room too more refl)
          (λ some-first some-second. rw (noted-page c access region _ _ first is some-first, noted-page (touched c region first) access region _ _ note too some-second) next-page))

      by : (o : Option Note) → note_of c access region (page_of_place at) (overlaps_tag c region at room) ≡ o → IsMade (prepare_next region c [] (prepare_pieces region access (second ∷ [])) o)
      by None e = refused untouched c (were-one untouched (none-under at n)) (all-used c access _ _ e)
      by (Some first) e = by-second first (noted c access region _ _ first e) _ refl

  -- each transfer
  prepare-made : (access : Access) → IsMade (prepare_of c region at n access)
  unfolding prepare_of
  prepare-made access = by (nat_le n (4096 - at % 4096)) (leb_tells n (4096 - at % 4096))
    where
      pieces : Bool → List Piece
      pieces b = cond b (record { at = at; count = n } ∷ []) (record { at = at; count = 4096 - at % 4096 } ∷ record { at = at + (4096 - at % 4096); count = n - (4096 - at % 4096) } ∷ [])

      by : (b : Bool) → ((b ≡ true) × (n ≤ 4096 - at % 4096)) ⊎ ((b ≡ false) × (4096 - at % 4096 < n)) → IsMade (prepare_pieces region access (pieces b) c [])
      by true _ = one-made access
      by false (inl (e, _)) = absurd (cc)
      by false (inr (_, more)) = two-made access (4096 - at % 4096) refl more

-- an answer names the touches that were made, where there were bytes
pub prepare-named : (c : Content) (region at n : ℕ) (access : Access) (notes : List Note) → 1 ≤ n → (prepare_of c region at n access).answer ≡ Ok notes
    → (first : Note) × (second : Note) × (notes ≡ first ∷ second ∷ []) × WerePrepared c (prepare_of c region at n access).after region at n first second
prepare-named c region at n access notes least = by (prepare_of c region at n access) (prepare-made c region at n access)
  where
    by : (o : CallOutcome (Result (List Note) NoFrame)) → IsMade c region at n o → o.answer ≡ Ok notes → Names c region at n notes o.after
    by _ (answered other after names) h = let same : other ≡ notes = cc in subst (λ (notes : List Note). Names c region at n notes after) same (names least)
    by _ (refused before after _ _) h = absurd (cc)

-- a refusal names the touch that was made before, and then all frames are used
pub prepare-lacks : (c : Content) (region at n : ℕ) (access : Access) (refusal : NoFrame) → (prepare_of c region at n access).answer ≡ Err refusal
    → WerePrepared c (prepare_of c region at n access).after region at n refusal.before untouched × (used_frames (prepare_of c region at n access).after ≡ c.frames)
prepare-lacks c region at n access refusal = by (prepare_of c region at n access) (prepare-made c region at n access)
  where
    by : (o : CallOutcome (Result (List Note) NoFrame)) → IsMade c region at n o → o.answer ≡ Err refusal → WerePrepared c o.after region at n refusal.before untouched × (used_frames o.after ≡ c.frames)
    by _ (answered other after _) h = absurd (cc)
    by _ (refused before after were full) h = let same : before ≡ refusal.before = cc in (subst (λ (before : Note). WerePrepared c after region at n before untouched) same were, full)

-- Transfers that touch nothing.

-- a page that is fit is not touched
fit-note : (c : Content) (access : Access) (region page : ℕ) (tagged : Bool) → IsFit c access region page tagged → note_of c access region page tagged ≡ Some untouched
fit-note c access region page tagged = by (class_at c region page)
  where
    by : (o : Option Class) → IsFitIn c access region tagged o → note_in c access region page tagged o ≡ Some untouched
    by None fit = refl
    by (Some class) fit = rw fit refl

-- nor is any under `full`
full-fit : (c : Content) (access : Access) (region page : ℕ) (tagged : Bool) → c.rule ≡ rule.Full → IsFit c access region page tagged
full-fit c access region page tagged full = by (class_at c region page)
  where
    by : (o : Option Class) → IsFitIn c access region tagged o
    by None = tt
    by (Some class) = never-touched c.rule access class region tagged full

-- the parts of a disjunction that holds
either : (a b : Bool) → (a || b) ≡ true → (a ≡ true) ⊎ (b ≡ true)
either true b h = inl refl
either false b h = inr h

-- of bytes that overlap a tagged granule one lies in it
pub some-tagged : (c : Content) (region at n : ℕ) → overlaps_tag c region at n ≡ true → (k : ℕ) × (k < n) × (tagged_in (page_at c region (page_of_place (at + k))) (at + k) ≡ true)
unfolding overlaps_tag
some-tagged c region at zero h = absurd (cc)
some-tagged c region at (suc n) h = by (some-tagged c region (at + 1) n) (either _ _ h)
  where
    Tagged : ℕ → Type 0
    Tagged at = tagged_in (page_at c region (page_of_place at)) at ≡ true

    by : (overlaps_tag c region (at + 1) n ≡ true → (k : ℕ) × (k < n) × Tagged (at + 1 + k)) → Tagged at ⊎ (overlaps_tag c region (at + 1) n ≡ true) → (k : ℕ) × (k < suc n) × Tagged (at + k)
    by rest (inl here) = let same : at ≡ at + 0 = omega arith in (0, omega arith, subst Tagged same here)
    by rest (inr later) =
        let more = rest later in
        let same : at + 1 + more.0 ≡ at + suc more.0 = omega arith in
        let less = more.1 in
        (suc more.0, omega arith, subst Tagged same more.2)

-- the page of a piece is fit where its bytes are
fit-piece : (c : Content) (access : Access) (region at count : ℕ) → 1 ≤ count → count ≤ 4096 - at % 4096
    → ((k : ℕ) → k < count → IsFit c access region (page_of_place (at + k)) (tagged_in (page_at c region (page_of_place (at + k))) (at + k)))
    → IsFit c access region (page_of_place at) (overlaps_tag c region at count)
fit-piece c access region at count some room fit = by (cases_Bool (overlaps_tag c region at count))
  where
    here : (k : ℕ) → k < count → IsFit c access region (page_of_place at) (tagged_in (page_at c region (page_of_place (at + k))) (at + k))
    here k less = subst (λ (page : ℕ). IsFit c access region page (tagged_in (page_at c region (page_of_place (at + k))) (at + k))) (on-page at count k room less) (fit k less)

    by : (overlaps_tag c region at count ≡ true) ⊎ (overlaps_tag c region at count ≡ false) → IsFit c access region (page_of_place at) (overlaps_tag c region at count)
    by (inl e) =
        let tagged = some-tagged c region at count e in
        less-tagged c access region (page_of_place at) _ _ (λ clear. let is = tagged.2 in absurd (cc)) (here tagged.0 tagged.1)
    by (inr e) = less-tagged c access region (page_of_place at) _ _ (λ _. e) (here 0 some)

-- what touches of two pages that find both fit answer
abbrev no_touches : Result (List Note) NoFrame
no_touches = Ok (untouched ∷ untouched ∷ [])

-- a transfer on one page
one-fit : (c : Content) (region : ℕ) (access : Access) (piece : Piece) → IsFit c access region (page_of_place piece.at) (overlaps_tag c region piece.at piece.count) → (prepare_pieces region access (piece ∷ []) c []).answer ≡ no_touches
one-fit c region access piece fit = rw (fit-note c access region _ _ fit) refl

-- and on two
two-fit : (c : Content) (region : ℕ) (access : Access) (first second : Piece) → IsFit c access region (page_of_place first.at) (overlaps_tag c region first.at first.count)
    → IsFit c access region (page_of_place second.at) (overlaps_tag c region second.at second.count) → (prepare_pieces region access (first ∷ second ∷ []) c []).answer ≡ no_touches
two-fit c region access first second fit too = rw (fit-note c access region (page_of_place first.at) (overlaps_tag c region first.at first.count) fit) (one-fit c region access second too)

-- a transfer touches nothing where the page of each of its pieces is fit
pieces-fit : (c : Content) (region at n : ℕ) (access : Access) → (n ≤ 4096 - at % 4096 → IsFit c access region (page_of_place at) (overlaps_tag c region at n))
    → (4096 - at % 4096 < n → IsFit c access region (page_of_place at) (overlaps_tag c region at (4096 - at % 4096)))
    → (4096 - at % 4096 < n → IsFit c access region (page_of_place (at + (4096 - at % 4096))) (overlaps_tag c region (at + (4096 - at % 4096)) (n - (4096 - at % 4096))))
    → (prepare_of c region at n access).answer ≡ no_touches
unfolding prepare_of
pieces-fit c region at n access one first second = by (nat_le n (4096 - at % 4096)) (leb_tells n (4096 - at % 4096))
  where
    pieces : Bool → List Piece
    pieces b = cond b (record { at = at; count = n } ∷ []) (record { at = at; count = 4096 - at % 4096 } ∷ record { at = at + (4096 - at % 4096); count = n - (4096 - at % 4096) } ∷ [])

    by : (b : Bool) → ((b ≡ true) × (n ≤ 4096 - at % 4096)) ⊎ ((b ≡ false) × (4096 - at % 4096 < n)) → (prepare_pieces region access (pieces b) c []).answer ≡ no_touches
    by true (inl (_, within)) = one-fit c region access (record { at = at; count = n }) (one within)
    by true (inr (e, _)) = absurd (cc)
    by false (inl (e, _)) = absurd (cc)
    by false (inr (_, more)) = two-fit c region access (record { at = at; count = 4096 - at % 4096 }) (record { at = at + (4096 - at % 4096); count = n - (4096 - at % 4096) }) (first more) (second more)

-- so one of some bytes that are prepared
pub prepare-fit : (c : Content) (region at n : ℕ) (access : Access) → 1 ≤ n → n ≤ 4096 → IsPrepared region at n access c → (prepare_of c region at n access).answer ≡ no_touches
prepare-fit c region at n access least most prepared = pieces-fit c region at n access
    (λ within. fit-piece c access region at n least within prepared.fit)
    (λ more. fit-piece c access region at room (omega arith) (omega arith) (λ k less. prepared.fit k (omega arith)))
    (λ more. fit-piece c access region (at + room) (n - room) (omega arith) (omega arith) (λ k less.
    let same : at + (room + k) ≡ at + room + k = omega arith in
    subst (λ (place : ℕ). IsFit c access region (page_of_place place) (tagged_in (page_at c region (page_of_place place)) place)) same (prepared.fit (room + k) (omega arith))))
  where
    room : ℕ
    room = 4096 - at % 4096

-- and each under `full`
pub prepare-full : (c : Content) (region at n : ℕ) (access : Access) → c.rule ≡ rule.Full → (prepare_of c region at n access).answer ≡ no_touches
prepare-full c region at n access full = pieces-fit c region at n access (λ _. full-fit c access region _ _ full) (λ _. full-fit c access region _ _ full) (λ _. full-fit c access region _ _ full)
