-- How the page of an access stands before and after it, and what its note says.
use Rattle.std.proofs.Common.{◌≡◌, ◌≢◌, ◌≤◌, ◌+◌, ◌↔◌, ◌⊎◌, inl, inr, ◌==◌, ◌&&◌, ◌||◌, not, nat_lt, ℕ, ap, refl, sym, ◌∙◌, subst, arith, Bool, true, false, cond, Option, Some, None, Result, Ok, Err, List, [], ◌∷◌, length, find, slice_set}
use Rattle.std.specs.Option.{option_map}
use Rattle.std.specs.List.{list_any}
use Rattle.std.proofs.lemmas.Bool.{eqb-true, eq-eqb, ltb-false}
use Rattle.std.proofs.lemmas.Bool.Decides.{nat_tests}
use Rattle.cap_format.specs.declared.cap.Cap.{Cap}
use Rattle.machine_types.specs.declared.config.Rule.{Rule}
use Rattle.machine_types.specs.declared.config.Rule.TheVariants as rule
use Rattle.machine_types.specs.declared.touches.Access.{Access}
use Rattle.machine_types.specs.declared.touches.Access.TheVariants.{Read, Write, Fetch}
use Rattle.machine_types.specs.declared.touches.Note.{Note}
use Rattle.machine_types.specs.declared.touches.Touched.{Touched}
use Rattle.machine_types.specs.declared.touches.Touched.TheVariants.{No, Copied, Moved}
use Rattle.machine_types.specs.Lists.{count_of}
use Rattle.machine_types.specs.Granules.{granule, is_tagged, number_at, with_number}
use Rattle.machine_types.specs.Rights.{is_allowed}
use Rattle.machine_types.specs.Stores.{Page, Store, page_with, store_with}
use Rattle.machine_types.specs.Accounts.{Class, is_member, has_member, class_for, class_of}
use Rattle.machine_types.specs.Touches.{touches, is_shared, is_foreign}
use Rattle.contents.specs.declared.refusal.Refusal.{Refusal}
use Rattle.contents.specs.declared.refusal.Refusal.TheVariants.{NoRight}
use Rattle.contents.specs.Content.{Content, page_in, page_at, class_at, used_frames, with_granules}
use Rattle.contents.specs.Accesses.{untouched, note_of, touched, Reached, noted as noted_page, reach, reach_in, load_from, store_to, page_of_place, byte_of_place, granule_of_place, read_of, read_cap_of, fetch_of, write_of, write_cap_of}
use Rattle.contents.specs.Looks.{Standing, peek_of, is_home, is_alone, standing_of}
use Rattle.contents.specs.Whole.{IsWhole}
use Rattle.contents.specs.Laws.{frames_for}
use Rattle.contents.specs.Touching.{WasTouched}
use Rattle.contents.proofs.OtherStores.{changed-there}
use Rattle.contents.proofs.TouchLemmas.{IsNoted, none, copied, moved, noted, touched-used}
use Rattle.contents.proofs.ListSearches.{find-passes}
use Rattle.contents.proofs.Fits.{class-moved, class-copied, own-untouched}

-- Pages and their classes.

-- what is counted is found
found : {A : Type 0} (passes : A → Bool) (xs : List A) → count_of passes xs ≡ 1 → (x : A) × (find passes xs ≡ Some x)
found passes [] h = absurd (cc)
found {A} passes (y ∷ ys) h = by (passes y) h (found passes ys)
  where
    by : (b : Bool) → cond b (1 + count_of passes ys) (count_of passes ys) ≡ 1 → (count_of passes ys ≡ 1 → (x : A) × (find passes ys ≡ Some x)) → (x : A) × (cond b (Some y) (find passes ys) ≡ Some x)
    by true h rest = (y, refl)
    by false h rest = rest h

-- a list with an element that passes has one
pub some-element : {A : Type 0} (passes : A → Bool) (xs : List A) → list_any passes xs ≡ true → 1 ≤ length xs
some-element passes [] h = absurd (cc)
some-element passes (x ∷ xs) h = omega arith

-- the class of a page, which has members
record HasClass (c : Content) (region page : ℕ) : Type 0 where
  pub class : Class
  pub member : class_at c region page ≡ Some class
  pub some : 1 ≤ length class.members

-- each page of a whole content has a class
has-class : (c : Content) (region page : ℕ) (p : Page) → IsWhole c → page_at c region page ≡ Some p → HasClass c region page
has-class c region page p whole there =
    let one : count_of (has_member region page) c.account ≡ 1 = whole.pages region page ∙ rw there refl in
    let class = found (has_member region page) c.account one in
    record { class = class.0; member = class.1; some = some-element (is_member region page) class.0.members (find-passes (has_member region page) c.account class.0 class.1) }

-- how a page of a class stands
pub stands : (c : Content) (region page : ℕ) (p : Page) (o : Option Class) → page_at c region page ≡ Some p → class_at c region page ≡ o
    → standing_of c region page ≡ Some (record { rights = p.rights; home = is_home region o; alone = is_alone o })
unfolding standing_of
stands c region page p o there member = rw (there, member) refl

-- When an access touches a page of a class.

-- under `full` never
pub never-touched : (r : Rule) (access : Access) (class : Class) (region : ℕ) (tagged : Bool) → r ≡ rule.Full → touches r access class region tagged ≡ false
never-touched rule.Full access class region tagged e = refl
never-touched rule.Access access class region tagged e = absurd (cc)
never-touched rule.Pointer access class region tagged e = absurd (cc)

-- a store, under the other rules
store-touches : (r : Rule) (access : Access) (class : Class) (region : ℕ) (tagged : Bool) → r ≢ rule.Full → access ≡ Write → touches r access class region tagged ≡ (is_shared class || is_foreign class region)
store-touches rule.Full access class region tagged other e = absurd (other refl)
store-touches rule.Access Write class region tagged other e = refl
store-touches rule.Access Read class region tagged other e = absurd (cc)
store-touches rule.Access Fetch class region tagged other e = absurd (cc)
store-touches rule.Pointer Write class region tagged other e = refl
store-touches rule.Pointer Read class region tagged other e = absurd (cc)
store-touches rule.Pointer Fetch class region tagged other e = absurd (cc)

-- another access, under `access`
load-touches : (r : Rule) (access : Access) (class : Class) (region : ℕ) (tagged : Bool) → r ≡ rule.Access → access ≢ Write → touches r access class region tagged ≡ is_foreign class region
load-touches rule.Access Write class region tagged e other = absurd (other refl)
load-touches rule.Access Read class region tagged e other = refl
load-touches rule.Access Fetch class region tagged e other = refl
load-touches rule.Full access class region tagged e other = absurd (cc)
load-touches rule.Pointer access class region tagged e other = absurd (cc)

-- and under `pointer`
pub pointer-touches : (r : Rule) (access : Access) (class : Class) (region : ℕ) (tagged : Bool) → r ≡ rule.Pointer → access ≢ Write → touches r access class region tagged ≡ (is_foreign class region && tagged)
pointer-touches rule.Pointer Write class region tagged e other = absurd (other refl)
pointer-touches rule.Pointer Read class region tagged e other = refl
pointer-touches rule.Pointer Fetch class region tagged e other = refl
pointer-touches rule.Full access class region tagged e other = absurd (cc)
pointer-touches rule.Access access class region tagged e other = absurd (cc)

-- one of several members, or a page whose home is elsewhere
pub shared-or-foreign : (n : ℕ) (foreign : Bool) → 1 ≤ n → ((nat_lt 1 n || foreign) ≡ true) ↔ (((n == 1) ≡ false) ⊎ (not foreign ≡ false))
shared-or-foreign n true some = (λ _. inr refl, λ _. grind arith)
shared-or-foreign n false some = (λ h. inl (grind (arith, nat_tests)), back)
  where
    back : ((n == 1) ≡ false) ⊎ (true ≡ false) → (nat_lt 1 n || false) ≡ true
    back (inl h) = grind (arith, nat_tests)
    back (inr h) = absurd (cc)

-- a page that isn't at home
pub foreign-not-home : (foreign : Bool) → (foreign ≡ true) ↔ (not foreign ≡ false)
foreign-not-home true = (λ _. refl, λ _. refl)
foreign-not-home false = (λ h. absurd (cc), λ h. absurd (cc))

-- and has a tag
pub foreign-and-tagged : (foreign tagged : Bool) → ((foreign && tagged) ≡ true) ↔ ((not foreign ≡ false) × (tagged ≡ true))
foreign-and-tagged true tagged = (λ h. (refl, h), λ h. h.1)
foreign-and-tagged false tagged = (λ h. absurd (cc), λ h. let home = h.0 in absurd (cc))

-- one equivalence after another
both-ways : {A B C : Type 0} → A ↔ B → B ↔ C → A ↔ C
both-ways ab bc = (λ a. bc.0 (ab.0 a), λ c. ab.1 (bc.1 c))

-- an equation with equal sides
same-sides : (a b : Bool) → a ≡ b → (a ≡ true) ↔ (b ≡ true)
same-sides a b e = (λ h. cc, λ h. cc)

-- a member alone isn't one of several
pub not-shared : (class : Class) → is_alone (Some class) ≡ true → is_shared class ≡ false
not-shared class alone = let one = eqb-true _ _ alone in rw one refl

-- and one that isn't alone is
pub is-several : (class : Class) → 1 ≤ length class.members → is_alone (Some class) ≡ false → is_shared class ≡ true
is-several class some several = grind (arith, nat_tests)

alone-again : (class : Class) → 1 ≤ length class.members → is_shared class ≡ false → is_alone (Some class) ≡ true
alone-again class some shared = let most = ltb-false _ _ shared in eq-eqb _ _ (omega arith)

-- The page of an access, with its class.
module _ (c after : Content) (access : Access) (region at : ℕ) (p : Page) (class : Class) (there : page_at c region (page_of_place at) ≡ Some p)
    (member : class_at c region (page_of_place at) ≡ Some class) (some : 1 ≤ length class.members) where
  abbrev page : ℕ
  page = page_of_place at

  abbrev tagged : Bool
  tagged = is_tagged p.granules (granule_of_place at)

  abbrev before : Standing
  before = record { rights = p.rights; home = is_home region (Some class); alone = is_alone (Some class) }

  abbrev own : Standing
  own = record { rights = p.rights; home = true; alone = true }

  -- a page that is at home and alone is never touched
  fit-untouched : is_home region (Some class) ≡ true → is_alone (Some class) ≡ true → touches c.rule access class region tagged ≡ false
  fit-untouched home alone = own-untouched c.rule access class region tagged (grind (arith, nat_tests)) (not-shared class alone)

  -- one that a store doesn't touch is so
  fit-own : c.rule ≢ rule.Full → access ≡ Write → touches c.rule access class region tagged ≡ false → before ≡ own
  fit-own other is e =
      let neither : (is_shared class || is_foreign class region) ≡ false = sym (store-touches c.rule access class region tagged other is) ∙ e in
      let shared : is_shared class ≡ false = grind arith in
      let home : is_home region (Some class) ≡ true = grind arith in
      rw (home, alone-again class some shared) refl

  -- Each touch that is made is one that the rules name.
  module _ (note : Note) (made : (note.touched ≢ No) ↔ (touches c.rule access class region tagged ≡ true)) where
    named-stores : c.rule ≢ rule.Full → access ≡ Write → (note.touched ≢ No) ↔ ((is_alone (Some class) ≡ false) ⊎ (is_home region (Some class) ≡ false))
    named-stores other is = both-ways made (both-ways (same-sides _ _ (store-touches c.rule access class region tagged other is)) (shared-or-foreign (length class.members) (is_foreign class region) some))

    named-loads : c.rule ≡ rule.Access → access ≢ Write → (note.touched ≢ No) ↔ (is_home region (Some class) ≡ false)
    named-loads is other = both-ways made (both-ways (same-sides _ _ (load-touches c.rule access class region tagged is other)) (foreign-not-home (is_foreign class region)))

    named-pointers : c.rule ≡ rule.Pointer → access ≢ Write → (note.touched ≢ No) ↔ ((is_home region (Some class) ≡ false) × (tagged ≡ true))
    named-pointers is other = both-ways made (both-ways (same-sides _ _ (pointer-touches c.rule access class region tagged is other)) (foreign-and-tagged (is_foreign class region) tagged))

  -- an access that touches nothing
  was-fit : touches c.rule access class region tagged ≡ false → standing_of after region page ≡ Some before → used_frames after ≡ used_frames c → after.account ≡ (touched c region untouched).account → WasTouched c after access region at untouched
  unfolding peek_of
  was-fit e stays used account = record {
    before = before;
    there = stands c region page p (Some class) there member;
    cap = granule p.granules (granule_of_place at);
    granule = rw there refl;
    full = λ _. refl;
    fit = λ _ _. refl;
    stores = named-stores untouched made;
    loads = named-loads untouched made;
    pointers = named-pointers untouched made;
    moved = λ other. absurd (other refl);
    copied = λ other. absurd (other refl);
    none = λ _. refl;
    made = account;
    used = omega arith;
    touched = λ other. absurd (other refl);
    written = λ other is. stays ∙ ap (λ (s : Standing). Some s) (fit-own other is e);
    stays = λ _. stays;
  }
    where
      made : (No ≢ No) ↔ (touches c.rule access class region tagged ≡ true)
      made = (λ other. absurd (other refl), λ h. absurd (cc))

  -- an access that touches the page
  was-touched : (t : Touched) → t ≢ No → touches c.rule access class region tagged ≡ true → (is_alone (Some class) ≡ true → t ≡ Moved) → (is_alone (Some class) ≡ false → t ≡ Copied)
      → standing_of after region page ≡ Some own → used_frames after ≡ used_frames c + frames_for t → after.account ≡ (touched c region (record { page = page; touched = t })).account
      → WasTouched c after access region at (record { page = page; touched = t })
  unfolding peek_of
  was-touched t some-touch e moves copies stays used account = record {
    before = before;
    there = stands c region page p (Some class) there member;
    cap = granule p.granules (granule_of_place at);
    granule = rw there refl;
    full = λ is. let never = never-touched c.rule access class region tagged is in absurd (cc);
    fit = λ home alone. let never = fit-untouched home alone in absurd (cc);
    stores = named-stores (record { page = page; touched = t }) made;
    loads = named-loads (record { page = page; touched = t }) made;
    pointers = named-pointers (record { page = page; touched = t }) made;
    moved = λ _ alone. ap (λ (t : Touched). record { page = page; touched = t }) (moves alone);
    copied = λ _ several. ap (λ (t : Touched). record { page = page; touched = t }) (copies several);
    none = λ none. absurd (some-touch none);
    made = account;
    used = used;
    touched = λ _. stays;
    written = λ _ _. stays;
    stays = λ none. absurd (some-touch none);
  }
    where
      made : (t ≢ No) ↔ (touches c.rule access class region tagged ≡ true)
      made = (λ _. e, λ _. some-touch)

  -- a page at home and alone
  stands-own : (q : Page) (o : Option Class) → page_at after region page ≡ Some q → q.rights ≡ p.rights → class_at after region page ≡ o → is_home region o ≡ true → is_alone o ≡ true
      → standing_of after region page ≡ Some own
  stands-own q o after-there same after-member home alone = stands after region page q o after-there after-member ∙ rw (same, home, alone) refl

  -- the note of an access says what it did, if the page keeps its rights and the account is that after the touch
  pub named : (note : Note) → IsNoted c access region page tagged note → (q : Page) → page_at after region page ≡ Some q → q.rights ≡ p.rights → after.account ≡ (touched c region note).account
      → WasTouched c after access region at note
  named note is q after-there same account = by note is account (ap (λ (classes : List Class). length classes) account ∙ touched-used c region note)
    where
      region-home : not (not (region == region)) ≡ true
      region-home = rw (eq-eqb region region refl) refl

      by : (note : Note) → IsNoted c access region page tagged note → after.account ≡ (touched c region note).account → used_frames after ≡ used_frames c + frames_for note.touched → WasTouched c after access region at note
      by _ (none fit) account used =
          let e : touches c.rule access class region tagged ≡ false = rw member at fit in
          was-fit e (stands after region page q (Some class) after-there (ap (λ (classes : List Class). class_of classes region page) account ∙ member) ∙ rw same refl) (omega arith) account
      by _ (copied other other-member t s) account used =
          let is : other ≡ class = cc in
          let several : is_shared class ≡ true = rw is at s in
          was-touched Copied (λ h. cc) (rw is at t) (λ alone. let single = not-shared class alone in absurd (cc)) (λ _. refl)
          (stands-own q (Some (class_for region page)) after-there same (ap (λ (classes : List Class). class_of classes region page) account ∙ class-copied c.account region page) region-home refl) used account
      by _ (moved other other-member t s) account used =
          let is : other ≡ class = cc in
          let single : is_shared class ≡ false = rw is at s in
          was-touched Moved (λ h. cc) (rw is at t) (λ _. refl) (λ several. let shared = is-several class some several in absurd (cc))
          (stands-own q (Some (record class { home = region })) after-there same (ap (λ (classes : List Class). class_of classes region page) account ∙ class-moved c.account region page class member)
          region-home (alone-again class some single)) used account

-- What an access came to.

-- a page with the right, and a note of the access to it
pub record HasReached (c : Content) (access : Access) (region at : ℕ) (e : Reached) : Type 0 where
  pub there : page_at c region (page_of_place at) ≡ Some e.page
  pub note : note_of c access region (page_of_place at) (is_tagged e.page.granules (granule_of_place at)) ≡ Some e.note

pub reached : (c : Content) (access : Access) (region at : ℕ) (e : Reached) → reach c access region at ≡ Ok e → HasReached c access region at e
reached c access region at e = by (page_at c region (page_of_place at)) refl
  where
    by-note : (p : Page) → page_at c region (page_of_place at) ≡ Some p → (o : Option Note) → note_of c access region (page_of_place at) (is_tagged p.granules (granule_of_place at)) ≡ o → noted_page p o ≡ Ok e
        → HasReached c access region at e
    by-note p there None f h = absurd (cc)
    by-note p there (Some note) f h = let same : record { page = p; note = note } ≡ e = cc in subst (HasReached c access region at) same (record { there = there; note = f })

    by-right : (p : Page) → page_at c region (page_of_place at) ≡ Some p → (b : Bool)
        → cond b (noted_page p (note_of c access region (page_of_place at) (is_tagged p.granules (granule_of_place at)))) (Err NoRight) ≡ Ok e → HasReached c access region at e
    by-right p there false h = absurd (cc)
    by-right p there true h = by-note p there (note_of c access region (page_of_place at) (is_tagged p.granules (granule_of_place at))) refl h

    by : (o : Option Page) → page_at c region (page_of_place at) ≡ o → reach_in c access region at o ≡ Ok e → HasReached c access region at e
    by None there h = absurd (cc)
    by (Some p) there h = by-right p there (is_allowed access p.rights) h

-- the note of what it came to says what it did
reached-named : (c after : Content) (access : Access) (region at : ℕ) (e : Reached) (q : Page) → IsWhole c → HasReached c access region at e → page_at after region (page_of_place at) ≡ Some q
    → q.rights ≡ e.page.rights → after.account ≡ (touched c region e.note).account → WasTouched c after access region at e.note
reached-named c after access region at e q whole r after-there same account =
    let class = has-class c region (page_of_place at) e.page whole r.there in
    named c after access region at e.page class.class r.there class.member class.some e.note (noted c access region (page_of_place at) _ e.note r.note) q after-there same account

-- a page with its granules changed is there
pub granules-there : (c : Content) (region page : ℕ) (change : List Cap → List Cap) (p : Page) → page_at c region page ≡ Some p → page_at (with_granules c region page change) region page ≡ Some (page_with change p)
granules-there c region page change p there = ap (λ (s : Option Store). page_in s page) (changed-there c.stores region (option_map (store_with page change) (c.stores region))) ∙ by (c.stores region) there
  where
    by : (s : Option Store) → page_in s page ≡ Some p → page_in (option_map (store_with page change) s) page ≡ Some (page_with change p)
    by None e = absurd (cc)
    by (Some store) e = changed-there store page (option_map (page_with change) (store page)) ∙ rw e refl

-- the note of a load says what it did
load-named : {A : Type 0} (c : Content) (access : Access) (region at : ℕ) (value : List Cap → A) (answer : A × Note) → IsWhole c → (load_from c region value (reach c access region at)).answer ≡ Ok answer
    → WasTouched c (load_from c region value (reach c access region at)).after access region at answer.1
load-named {A} c access region at value answer whole = by (reach c access region at) refl
  where
    by : (r : Result Reached Refusal) → reach c access region at ≡ r → (load_from c region value r).answer ≡ Ok answer → WasTouched c (load_from c region value r).after access region at answer.1
    by (Err refusal) f h = absurd (cc)
    by (Ok e) f h =
        let same : e.note ≡ answer.1 = cc in
        let r = reached c access region at e f in
        subst (λ (note : Note). WasTouched c (touched c region e.note) access region at note) same (reached-named c (touched c region e.note) access region at e e.page whole r r.there refl refl)

-- and so does that of a store
store-named : (c : Content) (region at : ℕ) (change : List Cap → List Cap) (note : Note) → IsWhole c → (store_to c region at change (reach c Write region at)).answer ≡ Ok note
    → WasTouched c (store_to c region at change (reach c Write region at)).after Write region at note
store-named c region at change note whole = by (reach c Write region at) refl
  where
    by : (r : Result Reached Refusal) → reach c Write region at ≡ r → (store_to c region at change r).answer ≡ Ok note → WasTouched c (store_to c region at change r).after Write region at note
    by (Err refusal) f h = absurd (cc)
    by (Ok e) f h =
        let same : e.note ≡ note = cc in
        let r = reached c Write region at e f in
        let after : Content = with_granules (touched c region e.note) region (page_of_place at) change in
        subst (λ (note : Note). WasTouched c after Write region at note) same
        (reached-named c after Write region at e (page_with change e.page) whole r (granules-there (touched c region e.note) region (page_of_place at) change e.page r.there) refl refl)

pub read-named : (c : Content) (region at size : ℕ) (answer : ℕ × Note) → IsWhole c → (read_of c region at size).answer ≡ Ok answer → WasTouched c (read_of c region at size).after Read region at answer.1
unfolding read_of
read-named c region at size = load-named c Read region at (λ granules. number_at granules (byte_of_place at) size)

pub read_cap-named : (c : Content) (region at : ℕ) (answer : Cap × Note) → IsWhole c → (read_cap_of c region at).answer ≡ Ok answer → WasTouched c (read_cap_of c region at).after Read region at answer.1
unfolding read_cap_of
read_cap-named c region at = load-named c Read region at (λ granules. granule granules (granule_of_place at))

pub fetch-named : (c : Content) (region at : ℕ) (answer : ℕ × Note) → IsWhole c → (fetch_of c region at).answer ≡ Ok answer → WasTouched c (fetch_of c region at).after Fetch region at answer.1
unfolding fetch_of
fetch-named c region at = load-named c Fetch region at (λ granules. number_at granules (byte_of_place at) 4)

pub write-named : (c : Content) (region at size v : ℕ) (note : Note) → IsWhole c → (write_of c region at size v).answer ≡ Ok note → WasTouched c (write_of c region at size v).after Write region at note
unfolding write_of
write-named c region at size v = store-named c region at (λ granules. with_number granules (byte_of_place at) size v)

pub write_cap-named : (c : Content) (region at : ℕ) (cap : Cap) (note : Note) → IsWhole c → (write_cap_of c region at cap).answer ≡ Ok note → WasTouched c (write_cap_of c region at cap).after Write region at note
unfolding write_cap_of
write_cap-named c region at cap = store-named c region at (λ granules. slice_set granules (granule_of_place at) cap)
