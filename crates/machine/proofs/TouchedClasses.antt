-- What a touch keeps of a sound content.
use Rattle.std.proofs.Common.{◌≡◌, ◌≢◌, ◌∙◌, sym, refl, ℕ, ◌≤◌, ◌<◌, ◌⊎◌, inl, inr, ◌==◌, not, get_or, Option, Some, None, Result, Ok, Err, List, [], ◌∷◌, ◌++◌, map, cond, true, false, Bool, subst, arith}
use Rattle.std.specs.Option.{option_map}
use Rattle.std.proofs.lemmas.Bool.Decides.{nat_tests}
use Rattle.std.proofs.lemmas.List.Elements.{All-map, All-push}
use Rattle.std.proofs.lemmas.Map.Views.{any-filter_same}
use Rattle.cap_format.specs.Numbers.{most_regions}
use Rattle.cap_format.specs.declared.cap.Cap.{Cap}
use Rattle.machine_types.specs.declared.config.Rule.{Rule}
use Rattle.machine_types.specs.declared.config.Rule.TheVariants as rule
use Rattle.machine_types.specs.declared.touches.Access.{Access}
use Rattle.machine_types.specs.declared.touches.Access.TheVariants.{Read, Fetch}
use Rattle.machine_types.specs.declared.touches.Note.{Note}
use Rattle.machine_types.specs.declared.touches.NoFrame.{NoFrame}
use Rattle.machine_types.specs.declared.touches.Touched.TheVariants.{Copied, Moved}
use Rattle.machine_types.specs.MemoryLaws.{PagesAreMoved}
use Rattle.machine_types.specs.Granules.{granule, is_tagged, number_at}
use Rattle.machine_types.specs.Rights.{is_allowed}
use Rattle.machine_types.specs.Stores.{Page}
use Rattle.machine_types.specs.Accounts.{Class, is_member, has_member, class_for}
use Rattle.machine_types.specs.Touches.{touches, is_shared, rehomed, without_member}
use Rattle.contents.specs.declared.refusal.Refusal.{Refusal}
use Rattle.contents.specs.declared.refusal.Refusal.TheVariants.{NoPage, NoRight, NoFrame as no_frame_refusal}
use Rattle.contents.specs.Content.{Content, CallOutcome, page_at, class_at, is_full}
use Rattle.contents.specs.Accesses.{untouched, note_in, note_of, touched, Reached, noted, reach, reach_in, load_from, page_of_place, byte_of_place, granule_of_place, read_of, read_cap_of, fetch_of}
use Rattle.contents.specs.Transfers.{Piece, pieces_of, made_with, prepare_next, prepare_pieces, prepare_of, overlaps_tag}
use Rattle.machine.specs.Sound.{IsClassOf, IsInRange}
use Rattle.machine.proofs.Members.{count-filter, found-has}
use Rattle.machine.proofs.SoundParts.{HasSoundParts, classes-kept, class-members, one-is-class, one-in-range}

-- What a note tells of: no touch, or under another rule than `full` a copy or a move.
data IsNoted (c : Content) (region page : ℕ) : Note → Type 0 where
  none : IsNoted c region page untouched
  copied : (class : Class) → class_at c region page ≡ Some class → c.rule ≢ rule.Full → IsNoted c region page (record { page = page; touched = Copied })
  moved : (class : Class) → class_at c region page ≡ Some class → c.rule ≢ rule.Full → IsNoted c region page (record { page = page; touched = Moved })

-- nothing is touched under `full`
touches-not-full : (r : Rule) (access : Access) (class : Class) (region : ℕ) (tagged : Bool) → touches r access class region tagged ≡ true → r ≢ rule.Full
touches-not-full rule.Full access class region tagged t e = cc
touches-not-full rule.Access access class region tagged t e = cc
touches-not-full rule.Pointer access class region tagged t e = cc

-- each note of an access does
note-tells : (c : Content) (access : Access) (region page : ℕ) (tagged : Bool) (note : Note) → note_of c access region page tagged ≡ Some note → IsNoted c region page note
note-tells c access region page tagged note = by (class_at c region page) refl
  where
    P : Note → Type 0
    P = IsNoted c region page

    by-touch : (class : Class) → class_at c region page ≡ Some class → (s f t : Bool) → touches c.rule access class region tagged ≡ t
        → cond t (option_map (λ touched. record { page = page; touched = touched }) (cond s (cond f None (Some Copied)) (Some Moved))) (Some untouched) ≡ Some note → P note
    by-touch class e s f false t-is h = let same : untouched ≡ note = cc in subst P same none
    by-touch class e true true true t-is h = absurd (cc)
    by-touch class e true false true t-is h = let same : record { page = page; touched = Copied } ≡ note = cc in subst P same (copied class e (touches-not-full c.rule access class region tagged t-is))
    by-touch class e false f true t-is h = let same : record { page = page; touched = Moved } ≡ note = cc in subst P same (moved class e (touches-not-full c.rule access class region tagged t-is))

    by : (o : Option Class) → class_at c region page ≡ o → note_in c access region page tagged o ≡ Some note → P note
    by None e h = let same : untouched ≡ note = cc in subst P same none
    by (Some class) e h = by-touch class e (is_shared class) (is_full c) (touches c.rule access class region tagged) refl h

-- Classes without a member.

-- the member is gone
pub without-here : (region page : ℕ) (class : Class) → has_member region page (without_member region page class) ≡ false
without-here region page class = any-filter_same (is_member region page) (λ m. not (is_member region page m)) false (λ m h. grind (arith, nat_tests)) class.members

-- what is a member without it was one before
without-old : (region page r p : ℕ) (class : Class) → has_member r p (without_member region page class) ≡ true → has_member r p class ≡ true
without-old region page r p class h = by (same-or-other region page r p)
  where
    -- a page is that one or another
    same-or-other : (region page r p : ℕ) → ((r ≡ region) × (p ≡ page)) ⊎ ((r ≢ region) ⊎ (p ≢ page))
    same-or-other region page r p = grind arith

    other : (r ≢ region) ⊎ (p ≢ page) → has_member r p (without_member region page class) ≡ has_member r p class
    other (inl e) = any-filter_same (is_member r p) (λ m. not (is_member region page m)) true (λ m h. grind (arith, nat_tests)) class.members
    other (inr e) = any-filter_same (is_member r p) (λ m. not (is_member region page m)) true (λ m h. grind (arith, nat_tests)) class.members

    by : ((r ≡ region) × (p ≡ page)) ⊎ ((r ≢ region) ⊎ (p ≢ page)) → has_member r p class ≡ true
    by (inl e) = let no : has_member r p (without_member region page class) ≡ false = rw (e.0, e.1) (without-here region page class) in absurd (cc)
    by (inr e) = sym (other e) ∙ h

-- a class without a member is one
without-is-class : (c : Content) (region page : ℕ) (class : Class) → IsClassOf c class → IsClassOf c (without_member region page class)
without-is-class c region page class is = record {
  one_page = λ r p s q h k. is.one_page r p s q (without-old region page r p class h) (without-old region page s q class k);
  different = λ r. let less = count-filter (λ m. m.region == r) (λ m. not (is_member region page m)) class.members in let most = is.different r in omega arith;
  moves = λ r s p h k. is.moves r s p (without-old region page r p class h) (without-old region page s p class k);
}

-- in range as before
without-range : (n region page : ℕ) (class : Class) → IsInRange n class → IsInRange n (without_member region page class)
without-range n region page class is = record { home = is.home; members = λ r p h. is.members r p (without-old region page r p class h) }

-- Classes with another home.

-- the members stay
pub rehomed-members : (region page : ℕ) (class : Class) → (rehomed region page class).members ≡ class.members
rehomed-members region page class = by (has_member region page class)
  where
    by : (b : Bool) → (cond b (record class { home = region }) class).members ≡ class.members
    by true = refl
    by false = refl

-- the new home is in range, since it is the region of a member
rehomed-range : (n region page : ℕ) (class : Class) → IsInRange n class → IsInRange n (rehomed region page class)
rehomed-range n region page class is = by (has_member region page class) refl
  where
    by : (b : Bool) → has_member region page class ≡ b → IsInRange n (cond b (record class { home = region }) class)
    by true h = record { home = is.members region page h; members = is.members }
    by false h = is

-- A touch keeps the parts.
pub touch-parts : PagesAreMoved → (n : ℕ) → n ≤ most_regions → (c : Content) (access : Access) (region page : ℕ) (tagged : Bool) (note : Note) → note_of c access region page tagged ≡ Some note
    → HasSoundParts n c → HasSoundParts n (touched c region note)
touch-parts moves n most c access region page tagged note e is = by note (note-tells c access region page tagged note e)
  where
    -- the region has a member, so it is in range
    low : (class : Class) → class_at c region page ≡ Some class → region < n
    low class f = let h = found-has (IsInRange n) (has_member region page) c.account class is.range f in h.1.members region page h.0

    by : (note : Note) → IsNoted c region page note → HasSoundParts n (touched c region note)
    by _ none = is
    by _ (copied class f other) = record {
      held = is.held;
      classes = classes-kept c (touched c region (record { page = page; touched = Copied })) (map (without_member region page) c.account ++ (class_for region page ∷ [])) (λ r p. refl)
          (All-push (IsClassOf c) (map (without_member region page) c.account) (class_for region page)
          (All-map (IsClassOf c) (without_member region page) c.account (λ k d w. without-is-class c region page (get_or c.account k d) (is.classes k d w)))
          (one-is-class moves c region page (let l = low class f in omega arith) is.held));
      range = All-push (IsInRange n) (map (without_member region page) c.account) (class_for region page)
          (All-map (IsInRange n) (without_member region page) c.account (λ k d w. without-range n region page (get_or c.account k d) (is.range k d w)))
          (one-in-range n region page (low class f));
      alone = λ full. absurd (other full);
      rights = is.rights;
    }
    by _ (moved class f other) = record {
      held = is.held;
      classes = classes-kept c (touched c region (record { page = page; touched = Moved })) (map (rehomed region page) c.account) (λ r p. refl)
          (All-map (IsClassOf c) (rehomed region page) c.account
          (λ k d w. class-members c (rehomed region page (get_or c.account k d)) (get_or c.account k d) (rehomed-members region page (get_or c.account k d)) (is.classes k d w)));
      range = All-map (IsInRange n) (rehomed region page) c.account (λ k d w. rehomed-range n region page (get_or c.account k d) (is.range k d w));
      alone = λ full. absurd (other full);
      rights = is.rights;
    }

-- Calls that only touch.

-- what holds of each refusal and of each page with a note of it holds of what an access reaches
pub by-reach : (P : Result Reached Refusal → Type 0) (c : Content) (access : Access) (region at : ℕ) → ((refusal : Refusal) → P (Err refusal))
    → ((p : Page) (tagged : Bool) (note : Note) → note_of c access region (page_of_place at) tagged ≡ Some note → P (Ok (record { page = p; note = note })))
    → P (reach c access region at)
by-reach P c access region at refused found = by-page (page_at c region (page_of_place at))
  where
    by-note : (p : Page) (tagged : Bool) (o : Option Note) → note_of c access region (page_of_place at) tagged ≡ o → P (noted p o)
    by-note p tagged None e = refused no_frame_refusal
    by-note p tagged (Some note) e = found p tagged note e

    by-right : (p : Page) (tagged : Bool) (allowed : Bool) → P (cond allowed (noted p (note_of c access region (page_of_place at) tagged)) (Err NoRight))
    by-right p tagged true = by-note p tagged (note_of c access region (page_of_place at) tagged) refl
    by-right p tagged false = refused NoRight

    by-page : (o : Option Page) → P (reach_in c access region at o)
    by-page None = refused NoPage
    by-page (Some p) = by-right p (is_tagged p.granules (granule_of_place at)) (is_allowed access p.rights)

module _ (moves : PagesAreMoved) (n : ℕ) (most : n ≤ most_regions) (region : ℕ) where
  -- a load, whatever it answers
  load-parts : {A : Type 0} (c : Content) (access : Access) (at : ℕ) (value : List Cap → A) → HasSoundParts n c → HasSoundParts n (load_from c region value (reach c access region at)).after
  load-parts {A} c access at value is =
      by-reach (λ (reached : Result Reached Refusal). HasSoundParts n (load_from c region value reached).after) c access region at (λ refusal. is)
      (λ p tagged note e. touch-parts moves n most c access region (page_of_place at) tagged note e is)

  -- the calls that load
  pub read-parts : (c : Content) (at size : ℕ) → HasSoundParts n c → HasSoundParts n (read_of c region at size).after
  unfolding read_of
  read-parts c at size = load-parts c Read at (λ granules. number_at granules (byte_of_place at) size)

  pub read_cap-parts : (c : Content) (at : ℕ) → HasSoundParts n c → HasSoundParts n (read_cap_of c region at).after
  unfolding read_cap_of
  read_cap-parts c at = load-parts c Read at (λ granules. granule granules (granule_of_place at))

  pub fetch-parts : (c : Content) (at : ℕ) → HasSoundParts n c → HasSoundParts n (fetch_of c region at).after
  unfolding fetch_of
  fetch-parts c at = load-parts c Fetch at (λ granules. number_at granules (byte_of_place at) 4)

  -- the first touch of a transfer, and what follows it
  next-parts : (c : Content) (access : Access) (page : ℕ) (tagged : Bool) (made : List Note) (rest : Content → List Note → CallOutcome (Result (List Note) NoFrame))
      → ((d : Content) (notes : List Note) → HasSoundParts n d → HasSoundParts n (rest d notes).after) → (o : Option Note) → note_of c access region page tagged ≡ o
      → HasSoundParts n c → HasSoundParts n (prepare_next region c made rest o).after
  next-parts c access page tagged made rest later None e is = is
  next-parts c access page tagged made rest later (Some note) e is = later (touched c region note) (made_with made note note.touched) (touch-parts moves n most c access region page tagged note e is)

  -- the touches of all pieces
  pieces-parts : (access : Access) (pieces : List Piece) (c : Content) (made : List Note) → HasSoundParts n c → HasSoundParts n (prepare_pieces region access pieces c made).after
  pieces-parts access [] c made is = is
  pieces-parts access (piece ∷ pieces) c made is =
      next-parts c access (page_of_place piece.at) (overlaps_tag c region piece.at piece.count) made (prepare_pieces region access pieces) (pieces-parts access pieces) _ refl is

  -- a transfer's touches
  pub prepare-parts : (c : Content) (at count : ℕ) (access : Access) → HasSoundParts n c → HasSoundParts n (prepare_of c region at count access).after
  unfolding prepare_of
  prepare-parts c at count access = pieces-parts access (pieces_of at count) c []
