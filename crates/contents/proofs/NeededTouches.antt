-- Why a transfer makes its touches.
use Rattle.std.proofs.Common.{◌≡◌, ◌≢◌, ◌≤◌, ◌<◌, ◌+◌, ◌-◌, ◌%◌, ◌⊎◌, inl, inr, ℕ, refl, sym, ◌∙◌, ap, subst, arith, Bool, true, false, ◌||◌, cond, nat_le, is_some, Option, Some, None, Result, Ok, Err, List, [], ◌∷◌, length}
use Rattle.std.specs.Option.{option_map}
use Rattle.std.proofs.lemmas.Bool.Decides.{leb_tells, nat_tests}
use Rattle.cap_format.specs.declared.cap.Cap.{Cap}
use Rattle.machine_types.specs.declared.config.Rule.{Rule}
use Rattle.machine_types.specs.declared.config.Rule.TheVariants as rule
use Rattle.machine_types.specs.declared.touches.Access.{Access}
use Rattle.machine_types.specs.declared.touches.Access.TheVariants.{Read, Write, Fetch}
use Rattle.machine_types.specs.declared.touches.Note.{Note}
use Rattle.machine_types.specs.declared.touches.NoFrame.{NoFrame}
use Rattle.machine_types.specs.declared.touches.Touched.{Touched}
use Rattle.machine_types.specs.declared.touches.Touched.TheVariants.{No, Copied, Moved}
use Rattle.machine_types.specs.Lists.{count_of}
use Rattle.machine_types.specs.Granules.{granule}
use Rattle.machine_types.specs.Stores.{Page}
use Rattle.machine_types.specs.Accounts.{Class, is_member, has_member}
use Rattle.machine_types.specs.Touches.{touches, is_shared, is_foreign}
use Rattle.contents.specs.Content.{Content, CallOutcome, page_at, class_at, is_full}
use Rattle.contents.specs.Accesses.{untouched, note_in, note_of, touched, page_of_place, granule_of_place}
use Rattle.contents.specs.Transfers.{tagged_in, overlaps_tag, Piece, made_with, first_or_none, two_notes, prepare_next, prepare_pieces, prepare_of}
use Rattle.contents.specs.Looks.{peek_of, standing_of, is_home, is_alone}
use Rattle.contents.specs.Reading.{tag_seen}
use Rattle.contents.specs.Whole.{IsWhole}
use Rattle.contents.specs.Touching.{OverlapsTag, WasNeeded}
use Rattle.contents.specs.Touching.{WantsFrame}
use Rattle.std.proofs.lemmas.Bool.{eqb-true}
use Rattle.contents.proofs.TouchLemmas.{IsNoted, none, copied, moved, noted, note-lacks}
use Rattle.contents.proofs.ListSearches.{find-passes}
use Rattle.contents.proofs.ListCounts.{count-found}
use Rattle.contents.proofs.WholeTouches.{touch-whole}
use Rattle.contents.proofs.Prepared.{on-page}
use Rattle.contents.proofs.NamedTouches.{some-element, stands, pointer-touches, shared-or-foreign, foreign-not-home, foreign-and-tagged, not-shared, is-several}
use Rattle.contents.proofs.PreparedNotes.{none-or-some, made-some, some-tagged}

-- Why a page is touched.

-- the page of a class is there
there-of : (c : Content) (region page : ℕ) (class : Class) → IsWhole c → class_at c region page ≡ Some class → (p : Page) × (page_at c region page ≡ Some p)
there-of c region page class whole member =
    by (page_at c region page) refl (count-found (has_member region page) c.account class member) (whole.pages region page)
  where
    by : (o : Option Page) → page_at c region page ≡ o → 1 ≤ count_of (has_member region page) c.account → count_of (has_member region page) c.account ≡ cond (is_some (page_at c region page)) 1 0
        → (p : Page) × (page_at c region page ≡ Some p)
    by None e some one = let none = rw e at one in absurd (omega arith)
    by (Some p) e some one = (p, e)

-- a class of a page has members
members-of : (c : Content) (region page : ℕ) (class : Class) → class_at c region page ≡ Some class → 1 ≤ length class.members
members-of c region page class member = some-element (is_member region page) class.members (find-passes (has_member region page) c.account class member)

-- a store touches what isn't at home or isn't alone
store-cause : (class : Class) (region : ℕ) → 1 ≤ length class.members → (is_shared class || is_foreign class region) ≡ true → (is_home region (Some class) ≡ false) ⊎ ((Write ≡ Write) × (is_alone (Some class) ≡ false))
store-cause class region some h = by ((shared-or-foreign (length class.members) (is_foreign class region) some).0 h)
  where
    by : (is_alone (Some class) ≡ false) ⊎ (is_home region (Some class) ≡ false) → (is_home region (Some class) ≡ false) ⊎ ((Write ≡ Write) × (is_alone (Some class) ≡ false))
    by (inl several) = inr (refl, several)
    by (inr away) = inl away

-- and every other access what isn't at home
touch-cause : (r : Rule) (access : Access) (class : Class) (region : ℕ) (tagged : Bool) → 1 ≤ length class.members → touches r access class region tagged ≡ true
    → (is_home region (Some class) ≡ false) ⊎ ((access ≡ Write) × (is_alone (Some class) ≡ false))
touch-cause rule.Full access class region tagged some h = absurd (cc)
touch-cause rule.Access Write class region tagged some h = store-cause class region some h
touch-cause rule.Access Read class region tagged some h = inl ((foreign-not-home (is_foreign class region)).0 h)
touch-cause rule.Access Fetch class region tagged some h = inl ((foreign-not-home (is_foreign class region)).0 h)
touch-cause rule.Pointer Write class region tagged some h = store-cause class region some h
touch-cause rule.Pointer Read class region tagged some h = inl ((foreign-and-tagged (is_foreign class region) tagged).0 h).0
touch-cause rule.Pointer Fetch class region tagged some h = inl ((foreign-and-tagged (is_foreign class region) tagged).0 h).0

-- `peek` shows the tag of a byte that lies in a tagged granule
tagged-seen : (c : Content) (region at : ℕ) → tagged_in (page_at c region (page_of_place at)) at ≡ true → tag_seen c region at ≡ Some true
unfolding peek_of
tagged-seen c region at = by (page_at c region (page_of_place at))
  where
    by : (o : Option Page) → tagged_in o at ≡ true → option_map (λ (cap : Cap). cap.tag) (option_map (λ (p : Page). granule p.granules (granule_of_place at)) o) ≡ Some true
    by None h = absurd (cc)
    by (Some p) h = ap (λ (b : Bool). Some b) h

-- The touches of the pieces of a transfer.
module _ (c : Content) (access : Access) (region at n : ℕ) where
  -- the tag that a piece overlaps is one that the transfer does
  piece-overlaps : (place past count : ℕ) → place ≡ at + past → past + count ≤ n → count ≤ 4096 - place % 4096 → overlaps_tag c region place count ≡ true → OverlapsTag c region at n (page_of_place place)
  piece-overlaps place past count place-is within room h =
      let tagged = some-tagged c region place count h in
      let less : tagged.0 < count = tagged.1 in
      let same : place + tagged.0 ≡ at + (past + tagged.0) = omega arith in
      record {
        byte = past + tagged.0;
        within = omega arith;
        on_page = ap page_of_place (sym same) ∙ on-page place count tagged.0 room less;
        tag = ap (tag_seen c region) (sym same) ∙ tagged-seen c region (place + tagged.0) tagged.2;
      }

  -- a touch of a page of a class was needed
  touch-needed : (place past count : ℕ) → IsWhole c → place ≡ at + past → past + count ≤ n → count ≤ 4096 - place % 4096
      → (class : Class) → class_at c region (page_of_place place) ≡ Some class → touches c.rule access class region (overlaps_tag c region place count) ≡ true
      → (t : Touched) → (is_alone (Some class) ≡ true → t ≡ Moved) → (is_alone (Some class) ≡ false → t ≡ Copied) → WasNeeded c access region at n (record { page = page_of_place place; touched = t })
  touch-needed place past count whole place-is within room class member touch t moves copies =
      let p = there-of c region (page_of_place place) class whole member in
      record {
        before = record { rights = p.0.rights; home = is_home region (Some class); alone = is_alone (Some class) };
        there = stands c region (page_of_place place) p.0 (Some class) p.1 member;
        unfit = touch-cause c.rule access class region _ (members-of c region (page_of_place place) class member) touch;
        pointers = λ is other. piece-overlaps place past count place-is within room ((foreign-and-tagged _ _).0 (sym (pointer-touches c.rule access class region _ is other) ∙ touch)).1;
        moved = moves;
        copied = copies;
      }

  -- so was each that an access to a piece makes
  piece-needed : (place past count : ℕ) (note : Note) → IsWhole c → place ≡ at + past → past + count ≤ n → count ≤ 4096 - place % 4096
      → IsNoted c access region (page_of_place place) (overlaps_tag c region place count) note → note.touched ≢ No → WasNeeded c access region at n note
  piece-needed place past count note whole place-is within room (none _) some = absurd (some refl)
  piece-needed place past count note whole place-is within room (copied class member touch several) some =
      touch-needed place past count whole place-is within room class member touch Copied
      (λ alone. let single = not-shared class alone in absurd (cc)) (λ _. refl)
  piece-needed place past count note whole place-is within room (moved class member touch single) some =
      touch-needed place past count whole place-is within room class member touch Moved
      (λ _. refl) (λ apart. let several = is-several class (members-of c region (page_of_place place) class member) apart in absurd (cc))

-- Answers.
module _ (c : Content) (access : Access) (region at n : ℕ) where
  -- the touch of a note was needed in a content
  abbrev Need : Content → Note → Type 0
  Need d note = note.touched ≢ No → WasNeeded d access region at n note

  -- those of two notes were needed when they came
  abbrev Needs : List Note → Type 0
  Needs notes = (first second : Note) → notes ≡ first ∷ second ∷ [] → Need c first × Need (touched c region first) second

  -- so are those of an answer
  abbrev AnswerNeeds : Result (List Note) NoFrame → Type 0
  AnswerNeeds (Ok notes) = Needs notes
  AnswerNeeds (Err refused) = Unit {0}

  -- two touches
  both-need : (first second : Note) → Need c first → Need (touched c region first) second → Needs (first ∷ second ∷ [])
  both-need first second is too one other e =
      let same : first ≡ one = cc in
      let alike : second ≡ other = cc in
      (subst (Need c) same is, subst (λ (one : Note). Need (touched c region one) other) same (subst (Need (touched c region first)) alike too))

  -- no touch is always so
  none-need : (d : Content) → Need d untouched
  none-need d some = absurd (some refl)

  -- the touches of one piece
  one-needs : (note : Note) → Need c note → Needs (two_notes (made_with [] note note.touched))
  one-needs note is = by (none-or-some note.touched)
    where
      by : (note.touched ≡ No) ⊎ (note.touched ≢ No) → Needs (two_notes (made_with [] note note.touched))
      by (inl lacks) = rw lacks (both-need untouched untouched (none-need c) (none-need _))
      by (inr some) = rw (made-some [] note note.touched some) (both-need note untouched is (none-need _))

  -- and of two
  two-needs : (first second : Note) → (first.touched ≡ No → first ≡ untouched) → Need c first → Need (touched c region first) second
      → Needs (two_notes (made_with (made_with [] first first.touched) second second.touched))
  two-needs first second plain is too = by (none-or-some first.touched) (none-or-some second.touched)
    where
      by : (first.touched ≡ No) ⊎ (first.touched ≢ No) → (second.touched ≡ No) ⊎ (second.touched ≢ No) → Needs (two_notes (made_with (made_with [] first first.touched) second second.touched))
      by (inl lacks) _ =
          rw lacks (one-needs second (let same : first ≡ untouched = plain lacks in subst (λ (first : Note). Need (touched c region first) second) same too))
      by (inr some) (inl lacks) = rw (lacks, made-some [] first first.touched some) (both-need first untouched is (none-need _))
      by (inr some) (inr more) =
          rw (made-some [] first first.touched some, made-some (first ∷ []) second second.touched more) (both-need first second is too)

  -- a note of no touch names no page
  noted-plain : (d : Content) (page : ℕ) (tagged : Bool) (note : Note) → IsNoted d access region page tagged note → note.touched ≡ No → note ≡ untouched
  noted-plain d page tagged note (none _) e = refl
  noted-plain d page tagged note (copied _ _ _ _) e = absurd (cc)
  noted-plain d page tagged note (moved _ _ _ _) e = absurd (cc)

  -- a transfer on one page
  one-needed : IsWhole c → n ≤ 4096 - at % 4096 → AnswerNeeds (prepare_pieces region access (record { at = at; count = n } ∷ []) c []).answer
  one-needed whole room = by (note_of c access region (page_of_place at) (overlaps_tag c region at n)) refl
    where
      by : (o : Option Note) → note_of c access region (page_of_place at) (overlaps_tag c region at n) ≡ o → AnswerNeeds (prepare_next region c [] (prepare_pieces region access []) o).answer
      by None e = tt
      by (Some note) e = one-needs note (piece-needed c access region at n at 0 n note whole (omega arith) (omega arith) room (noted c access region _ _ note e))

  -- and on two
  two-needed : (room : ℕ) → IsWhole c → n ≤ 4096 → room ≡ 4096 - at % 4096 → room < n
      → AnswerNeeds (prepare_pieces region access (record { at = at; count = room } ∷ record { at = at + room; count = n - room } ∷ []) c []).answer
  two-needed room whole most room-is more = by (note_of c access region (page_of_place at) (overlaps_tag c region at room)) refl
    where
      second : Piece
      second = record { at = at + room; count = n - room }

      by-second : (first : Note) → note_of c access region (page_of_place at) (overlaps_tag c region at room) ≡ Some first → (o : Option Note)
          → note_of (touched c region first) access region (page_of_place (at + room)) (overlaps_tag (touched c region first) region (at + room) (n - room)) ≡ o
          → AnswerNeeds (prepare_next region (touched c region first) (made_with [] first first.touched) (prepare_pieces region access []) o).answer
      by-second first e None f = tt
      by-second first e (Some note) f =
          let is = noted c access region _ _ first e in
          two-needs first note (noted-plain c _ _ first is) (piece-needed c access region at n at 0 room first whole (omega arith) (omega arith) (omega arith) is)
          (piece-needed (touched c region first) access region at n (at + room) room (n - room) note (touch-whole c access region _ _ first e whole) refl (omega arith) (omega arith)
          (noted (touched c region first) access region _ _ note f))

      by : (o : Option Note) → note_of c access region (page_of_place at) (overlaps_tag c region at room) ≡ o → AnswerNeeds (prepare_next region c [] (prepare_pieces region access (second ∷ [])) o).answer
      by None e = tt
      by (Some first) e = by-second first e _ refl

  -- each transfer
  answer-needed : IsWhole c → n ≤ 4096 → AnswerNeeds (prepare_of c region at n access).answer
  unfolding prepare_of
  answer-needed whole most = by (nat_le n (4096 - at % 4096)) (leb_tells n (4096 - at % 4096))
    where
      pieces : Bool → List Piece
      pieces b = cond b (record { at = at; count = n } ∷ []) (record { at = at; count = 4096 - at % 4096 } ∷ record { at = at + (4096 - at % 4096); count = n - (4096 - at % 4096) } ∷ [])

      by : (b : Bool) → ((b ≡ true) × (n ≤ 4096 - at % 4096)) ⊎ ((b ≡ false) × (4096 - at % 4096 < n)) → AnswerNeeds (prepare_pieces region access (pieces b) c []).answer
      by true (inl (_, room)) = one-needed whole room
      by true (inr (e, _)) = absurd (cc)
      by false (inl (e, _)) = absurd (cc)
      by false (inr (_, more)) = two-needed (4096 - at % 4096) whole most refl more

-- each touch of a transfer was needed when it came
pub prepare-needed : (c : Content) (access : Access) (region at n : ℕ) → IsWhole c → n ≤ 4096 → (first second : Note) → (prepare_of c region at n access).answer ≡ Ok (first ∷ second ∷ [])
    → (first.touched ≢ No → WasNeeded c access region at n first) × (second.touched ≢ No → WasNeeded (touched c region first) access region at n second)
prepare-needed c access region at n whole most first second = by (prepare_of c region at n access).answer (answer-needed c access region at n whole most)
  where
    by : (r : Result (List Note) NoFrame) → AnswerNeeds c access region at n r → r ≡ Ok (first ∷ second ∷ []) → Need c access region at n c first × Need c access region at n (touched c region first) second
    by (Err refused) is h = absurd (cc)
    by (Ok notes) is h = is first second (cc)

-- Refusals.

-- a class whose touch finds no frame is touched, and has several members
lacks-shared : (d : Content) (access : Access) (region page : ℕ) (tagged : Bool) (class : Class) → note_in d access region page tagged (Some class) ≡ None
    → (touches d.rule access class region tagged ≡ true) × (is_shared class ≡ true)
lacks-shared d access region page tagged class = by (touches d.rule access class region tagged) (is_shared class) (is_full d)
  where
    by : (t s f : Bool) → cond t (option_map (λ (touched : Touched). record { page = page; touched = touched }) (cond s (cond f None (Some Copied)) (Some Moved))) (Some untouched) ≡ None → (t ≡ true) × (s ≡ true)
    by true true f e = (refl, refl)
    by true false f e = absurd (cc)
    by false s f e = absurd (cc)

-- a class of several is not one of a page alone
several-apart : (class : Class) → is_shared class ≡ true → is_alone (Some class) ≡ false
several-apart class h = grind (arith, nat_tests)

module _ (c : Content) (access : Access) (region at n : ℕ) where
  -- a piece that finds no frame wants one
  piece-wants : (d : Content) (place past count : ℕ) → IsWhole d → place ≡ at + past → past + count ≤ n → 1 ≤ count → count ≤ 4096 - place % 4096
      → note_of d access region (page_of_place place) (overlaps_tag d region place count) ≡ None → WantsFrame d access region at n
  piece-wants d place past count whole place-is within some room h = by (class_at d region (page_of_place place)) refl h
    where
      at-place : page_of_place place ≡ page_of_place (at + past)
      at-place = ap page_of_place place-is

      wants : (class : Class) → class_at d region (page_of_place place) ≡ Some class → touches d.rule access class region (overlaps_tag d region place count) ≡ true → is_shared class ≡ true → WantsFrame d access region at n
      wants class member touch several =
          let p = there-of d region (page_of_place place) class whole member in
          record {
            byte = past;
            within = omega arith;
            before = record { rights = p.0.rights; home = is_home region (Some class); alone = is_alone (Some class) };
            there = ap (λ (page : ℕ). standing_of d region page) (sym at-place) ∙ stands d region (page_of_place place) p.0 (Some class) p.1 member;
            shared = several-apart class several;
            unfit = either-cause (touch-cause d.rule access class region (overlaps_tag d region place count) (members-of d region (page_of_place place) class member) touch);
            pointers = λ is other. subst (OverlapsTag d region at n) at-place (piece-overlaps d access region at n place past count place-is within room ((foreign-and-tagged (is_foreign class region) (overlaps_tag d region place count)).0 (sym (pointer-touches d.rule access class region (overlaps_tag d region place count) is other) ∙ touch)).1);
            full = eqb-true _ _ (note-lacks d access region (page_of_place place) (overlaps_tag d region place count) (class_at d region (page_of_place place)) h);
          }
        where
          either-cause : (is_home region (Some class) ≡ false) ⊎ ((access ≡ Write) × (is_alone (Some class) ≡ false)) → (is_home region (Some class) ≡ false) ⊎ (access ≡ Write)
          either-cause (inl away) = inl away
          either-cause (inr both) = inr both.0

      by : (o : Option Class) → class_at d region (page_of_place place) ≡ o → note_in d access region (page_of_place place) (overlaps_tag d region place count) o ≡ None → WantsFrame d access region at n
      by None e f = absurd (cc)
      by (Some class) e f = let both = lacks-shared d access region (page_of_place place) (overlaps_tag d region place count) class f in wants class e both.0 both.1

  -- the refusal of an outcome was needed
  abbrev RefusalNeeds : CallOutcome (Result (List Note) NoFrame) → Type 0
  RefusalNeeds o = (refused : NoFrame) → o.answer ≡ Err refused → WantsFrame o.after access region at n × Need c access region at n c refused.before

  -- one that was made before was needed, too
  before-needed : (d : Content) (first : Note) → WantsFrame d access region at n → Need c access region at n c first → (first.touched ≡ No → first ≡ untouched)
      → RefusalNeeds (record { answer = Err (record { before = first_or_none (made_with [] first first.touched) }); after = d })
  before-needed d first wants is plain refused e = (wants, by (none-or-some first.touched) e)
    where
      Answer : Type 0
      Answer = Result (List Note) NoFrame

      refusal : NoFrame → Answer
      refusal r = Err r

      by : (first.touched ≡ No) ⊎ (first.touched ≢ No) → refusal (record { before = first_or_none (made_with [] first first.touched) }) ≡ refusal refused → Need c access region at n c refused.before
      by (inl lacks) e = let f = rw lacks at e in let same : untouched ≡ refused.before = cc in subst (Need c access region at n c) same (none-need c access region at n c)
      by (inr some) e =
          let made : first ≡ refused.before = let one = made-some [] first first.touched some in cc in subst (Need c access region at n c) made is

  -- on one page
  one-refused : IsWhole c → 1 ≤ n → n ≤ 4096 - at % 4096 → RefusalNeeds (prepare_pieces region access (record { at = at; count = n } ∷ []) c [])
  one-refused whole least room = by (note_of c access region (page_of_place at) (overlaps_tag c region at n)) refl
    where
      by : (o : Option Note) → note_of c access region (page_of_place at) (overlaps_tag c region at n) ≡ o → RefusalNeeds (prepare_next region c [] (prepare_pieces region access []) o)
      by None e refused f = (piece-wants c at 0 n whole (omega arith) (omega arith) least room e, let same : untouched ≡ refused.before = cc in subst (Need c access region at n c) same (none-need c access region at n c))
      by (Some note) e refused f = absurd (cc)

  -- and on two
  two-refused : (room : ℕ) → IsWhole c → n ≤ 4096 → room ≡ 4096 - at % 4096 → room < n
      → RefusalNeeds (prepare_pieces region access (record { at = at; count = room } ∷ record { at = at + room; count = n - room } ∷ []) c [])
  two-refused room whole most room-is more = by (note_of c access region (page_of_place at) (overlaps_tag c region at room)) refl
    where
      second : Piece
      second = record { at = at + room; count = n - room }

      by-second : (first : Note) → note_of c access region (page_of_place at) (overlaps_tag c region at room) ≡ Some first → (o : Option Note)
          → note_of (touched c region first) access region (page_of_place (at + room)) (overlaps_tag (touched c region first) region (at + room) (n - room)) ≡ o
          → RefusalNeeds (prepare_next region (touched c region first) (made_with [] first first.touched) (prepare_pieces region access []) o)
      by-second first e None f =
          let is = noted c access region _ _ first e in
          before-needed (touched c region first) first
          (piece-wants (touched c region first) (at + room) room (n - room) (touch-whole c access region _ _ first e whole) refl (omega arith) (omega arith) (omega arith) f)
          (piece-needed c access region at n at 0 room first whole (omega arith) (omega arith) (omega arith) is) (noted-plain c access region at n c _ _ first is)
      by-second first e (Some note) f = λ refused g. absurd (cc)

      by : (o : Option Note) → note_of c access region (page_of_place at) (overlaps_tag c region at room) ≡ o → RefusalNeeds (prepare_next region c [] (prepare_pieces region access (second ∷ [])) o)
      by None e = λ refused f. (piece-wants c at 0 room whole (omega arith) (omega arith) (omega arith) (omega arith) e, let same : untouched ≡ refused.before = cc in subst (Need c access region at n c) same (none-need c access region at n c))
      by (Some first) e = by-second first e _ refl

  -- each refusal of a transfer was needed
  pub refusal-needed : IsWhole c → 1 ≤ n → n ≤ 4096 → RefusalNeeds (prepare_of c region at n access)
  unfolding prepare_of
  refusal-needed whole least most = by (nat_le n (4096 - at % 4096)) (leb_tells n (4096 - at % 4096))
    where
      pieces : Bool → List Piece
      pieces b = cond b (record { at = at; count = n } ∷ []) (record { at = at; count = 4096 - at % 4096 } ∷ record { at = at + (4096 - at % 4096); count = n - (4096 - at % 4096) } ∷ [])

      by : (b : Bool) → ((b ≡ true) × (n ≤ 4096 - at % 4096)) ⊎ ((b ≡ false) × (4096 - at % 4096 < n)) → RefusalNeeds (prepare_pieces region access (pieces b) c [])
      by true (inl (_, room)) = one-refused whole least room
      by true (inr (e, _)) = absurd (cc)
      by false (inl (e, _)) = absurd (cc)
      by false (inr (_, more)) = two-refused (4096 - at % 4096) whole most refl more
