-- What a store to memory keeps of a sound content: its page is alone in its class then.
use Rattle.std.proofs.Common.{◌≡◌, ◌≢◌, ◌∙◌, sym, ap, refl, ℕ, ◌+◌, ◌≤◌, ◌<◌, ◌⊎◌, inl, inr, ◌&&◌, ◌||◌, nat_eq, nat_lt, get_or, Option, Some, None, Result, List, [], ◌∷◌, slice_set, map, length, cond, true, false, Bool, All, subst, arith}
use Rattle.std.specs.Option.{option_map}
use Rattle.std.specs.List.{list_any}
use Rattle.std.proofs.lemmas.Bool.{cases_Bool}
use Rattle.std.proofs.lemmas.Bool.Decides.{nat_tests, eqb_tells}
use Rattle.std.proofs.lemmas.List.Elements.{All-map, All-push}
use Rattle.cap_format.specs.Numbers.{most_regions}
use Rattle.cap_format.specs.declared.cap.Cap.{Cap}
use Rattle.machine_types.specs.declared.config.Rule.{Rule}
use Rattle.machine_types.specs.declared.config.Rule.TheVariants as rule
use Rattle.machine_types.specs.declared.touches.Access.TheVariants.{Write}
use Rattle.machine_types.specs.declared.touches.Note.{Note}
use Rattle.machine_types.specs.declared.touches.Touched.TheVariants.{Copied, Moved}
use Rattle.machine_types.specs.Lists.{count_of}
use Rattle.machine_types.specs.Granules.{with_number}
use Rattle.machine_types.specs.MemoryLaws.{PagesAreMoved}
use Rattle.machine_types.specs.Stores.{Page, Store, page_with, store_with}
use Rattle.machine_types.specs.Accounts.{Member, Class, is_member, has_member, class_for}
use Rattle.machine_types.specs.Touches.{touches, is_shared, is_foreign, rehomed, without_member}
use Rattle.contents.specs.declared.refusal.Refusal.{Refusal}
use Rattle.contents.specs.Content.{Content, page_in, page_at, class_at, is_full, with_granules}
use Rattle.contents.specs.Accesses.{untouched, note_in, note_of, touched, Reached, reach, store_to, page_of_place, byte_of_place, granule_of_place, write_of, write_cap_of}
use Rattle.contents.specs.Regions.{seed_cap_of}
use Rattle.contents.specs.Transfers.{tagged_in, write_bytes_of}
use Rattle.contents.specs.Conditions.{IsOwn, IsFitIn, IsPrepared}
use Rattle.contents.specs.Whole.{IsWhole}
use Rattle.machine.specs.Sound.{IsClassOf, IsInRange, IsAlone}
use Rattle.machine.proofs.Moves.{same-page}
use Rattle.machine.proofs.Members.{count-most, found-has, found-only, found-none}
use Rattle.machine.proofs.SoundParts.{HasSoundParts, class-kept, class_member}
use Rattle.machine.proofs.TouchedClasses.{without-here, rehomed-members, touch-parts, by-reach}

-- Pages that are alone.

-- where the class has the page, it has pages of this region alone
abbrev IsOnly : ℕ → ℕ → Class → Type 0
IsOnly region page class = has_member region page class ≡ true → (r p : ℕ) → has_member r p class ≡ true → r ≡ region

-- a list of one member at the most has pages of one region
single-only : (region page r p : ℕ) (members : List Member) → nat_lt 1 (length members) ≡ false → list_any (is_member region page) members ≡ true → list_any (is_member r p) members ≡ true → r ≡ region
single-only region page r p [] one h k = absurd (cc)
single-only region page r p (m ∷ []) one h k = grind (arith, nat_tests)
single-only region page r p (m ∷ n ∷ members) one h k = absurd (grind (arith, nat_tests))

-- a page is in one class at the most
once : (c : Content) (region page : ℕ) → IsWhole c → count_of (has_member region page) c.account ≤ 1
once c region page whole = count-most _ _ (whole.pages region page)

-- what holds of the class that is found holds of each that has the page
each-only : (c : Content) (region page : ℕ) (class : Class) → IsWhole c → class_at c region page ≡ Some class → IsOnly region page class → All (IsOnly region page) c.account
each-only c region page class whole f only k d w h =
    subst (IsOnly region page) (sym (found-only (has_member region page) c.account class (once c region page whole) f k d w h)) only h

-- where none is found none has it
none-only : (c : Content) (region page : ℕ) → class_at c region page ≡ None → All (IsOnly region page) c.account
none-only c region page e k d w h r p j = let no = found-none (has_member region page) c.account e k d w in absurd (cc)

-- an access for writing that touches nothing finds the page alone
untouched-only : (c : Content) (region page : ℕ) (class : Class) (tagged : Bool) → (c.rule ≡ rule.Full → IsAlone class) → touches c.rule Write class region tagged ≡ false → IsOnly region page class
untouched-only c region page class tagged alone t h r p k = by c.rule refl t
  where
    shared : (a b : Bool) → is_shared class ≡ a → (a || b) ≡ false → r ≡ region
    shared true b e f = absurd (cc)
    shared false b e f = single-only region page r p class.members e h k

    by : (x : Rule) → c.rule ≡ x → touches x Write class region tagged ≡ false → r ≡ region
    by rule.Full e t = let one = alone e in one.home r p k ∙ sym (one.home region page h)
    by rule.Access e t = shared (is_shared class) (is_foreign class region) refl t
    by rule.Pointer e t = shared (is_shared class) (is_foreign class region) refl t

-- a page that is fit for writing is alone
fit-only : (n : ℕ) (c : Content) (region page : ℕ) (tagged : Bool) → IsWhole c → HasSoundParts n c → IsFitIn c Write region tagged (class_at c region page) → All (IsOnly region page) c.account
fit-only n c region page tagged whole is = by (class_at c region page) refl
  where
    by : (o : Option Class) → class_at c region page ≡ o → IsFitIn c Write region tagged o → All (IsOnly region page) c.account
    by None e fit = none-only c region page e
    by (Some class) e fit =
        each-only c region page class whole e (untouched-only c region page class tagged (λ full. (found-has IsAlone (has_member region page) c.account class (is.alone full) e).1) fit)

-- so is one that its region owns
own-only : (c : Content) (region page : ℕ) → IsWhole c → IsOwn region page c → All (IsOnly region page) c.account
own-only c region page whole own =
    let one : nat_lt 1 (length own.class.members) ≡ false = rw own.alone refl in
    each-only c region page own.class whole own.there (λ h r p k. single-only region page r p own.class.members one h k)

-- After the touch of a write the page is alone.
touched-only : (n : ℕ) (c : Content) (region page : ℕ) (tagged : Bool) (note : Note) → IsWhole c → HasSoundParts n c → note_of c Write region page tagged ≡ Some note → All (IsOnly region page) (touched c region note).account
touched-only n c region page tagged note whole is = by (class_at c region page) refl
  where
    P : Note → Type 0
    P note = All (IsOnly region page) (touched c region note).account

    rehomed-only : (class : Class) → IsOnly region page class → IsOnly region page (rehomed region page class)
    rehomed-only class only h r p k =
        let same = rehomed-members region page class in
        only (sym (ap (list_any (is_member region page)) same) ∙ h) r p (sym (ap (list_any (is_member r p)) same) ∙ k)

    by-touch : (class : Class) → class_at c region page ≡ Some class → (s f t : Bool) → is_shared class ≡ s → touches c.rule Write class region tagged ≡ t
        → cond t (option_map (λ touched. record { page = page; touched = touched }) (cond s (cond f None (Some Copied)) (Some Moved))) (Some untouched) ≡ Some note → P note
    by-touch class e s f false eq-s eq-t h =
        let same : untouched ≡ note = cc in
        subst P same (fit-only n c region page tagged whole is (rw e eq-t))
    by-touch class e true true true eq-s eq-t h = absurd (cc)
    by-touch class e true false true eq-s eq-t h =
        let same : record { page = page; touched = Copied } ≡ note = cc in
        subst P same
        (All-push (IsOnly region page) (map (without_member region page) c.account) (class_for region page)
        (All-map (IsOnly region page) (without_member region page) c.account (λ k d w h r p j. let no = without-here region page (get_or c.account k d) in absurd (cc)))
        (λ h r p j. sym (class_member region page r p j).0))
    by-touch class e false f true eq-s eq-t h =
        let same : record { page = page; touched = Moved } ≡ note = cc in
        subst P same
        (All-map (IsOnly region page) (rehomed region page) c.account
        (λ k d w. rehomed-only (get_or c.account k d) (each-only c region page class whole e (λ h r p j. single-only region page r p class.members eq-s h j) k d w)))

    by : (o : Option Class) → class_at c region page ≡ o → note_in c Write region page tagged o ≡ Some note → P note
    by None e h = let same : untouched ≡ note = cc in subst P same (none-only c region page e)
    by (Some class) e h = by-touch class e (is_shared class) (is_full c) (touches c.rule Write class region tagged) refl refl h

-- A change of the granules of a page.

-- each page of a store with the granules of one changed
page-of-stored : (page : ℕ) (change : List Cap → List Cap) (p : ℕ) (store : Store) → store_with page change store p ≡ cond (nat_eq p page) (option_map (page_with change) (store p)) (store p)
page-of-stored page change p store = by (eqb_tells p page)
  where
    by : ((nat_eq p page ≡ true) × (p ≡ page)) ⊎ ((nat_eq p page ≡ false) × (p ≢ page))
        → cond (nat_eq p page) (option_map (page_with change) (store page)) (store p) ≡ cond (nat_eq p page) (option_map (page_with change) (store p)) (store p)
    by (inl (t, e)) = rw e refl
    by (inr (t, e)) = rw t refl

-- of a store, or of none
page-stored : (page : ℕ) (change : List Cap → List Cap) (p : ℕ) (o : Option Store) → page_in (option_map (store_with page change) o) p ≡ cond (nat_eq p page) (option_map (page_with change) (page_in o p)) (page_in o p)
page-stored page change p None = by (nat_eq p page)
  where
    by : (b : Bool) → ◌≡◌ {A = Option Page} None (cond b None None)
    by true = refl
    by false = refl
page-stored page change p (Some store) = page-of-stored page change p store

-- of a content
page-written : (c : Content) (region page : ℕ) (change : List Cap → List Cap) (r p : ℕ)
    → page_at (with_granules c region page change) r p ≡ cond (nat_eq r region && nat_eq p page) (option_map (page_with change) (page_at c r p)) (page_at c r p)
page-written c region page change r p = by (eqb_tells r region)
  where
    by : ((nat_eq r region ≡ true) × (r ≡ region)) ⊎ ((nat_eq r region ≡ false) × (r ≢ region))
        → page_in (cond (nat_eq r region) (option_map (store_with page change) (c.stores region)) (c.stores r)) p ≡ cond (nat_eq r region && nat_eq p page) (option_map (page_with change) (page_at c r p)) (page_at c r p)
    by (inl (t, e)) = rw (t, e) (page-stored page change p (c.stores region))
    by (inr (t, e)) = rw t refl

-- A change keeps the parts, where the page is alone and the content is whole then.
granules-parts : PagesAreMoved → (n : ℕ) (c : Content) (region page : ℕ) (change : List Cap → List Cap) → region < most_regions → All (IsOnly region page) c.account
    → IsWhole (with_granules c region page change) → HasSoundParts n c → HasSoundParts n (with_granules c region page change)
granules-parts law n c region page change low only whole is = record {
  held = whole.held;
  classes = λ k d w. by-class (get_or c.account k d) (is.classes k d w) (only k d w) (cases_Bool (has_member region page (get_or c.account k d)));
  range = is.range;
  alone = is.alone;
  rights = λ r p x e. by-rights r p x (nat_eq r region && nat_eq p page) (page_at c r p) refl (sym (page-written c region page change r p) ∙ e);
}
  where
    after : Content
    after = with_granules c region page change

    by-rights : (r p : ℕ) (x : Page) (b : Bool) (o : Option Page) → page_at c r p ≡ o → cond b (option_map (page_with change) o) o ≡ Some x → x.rights < 8
    by-rights r p x true None f e = absurd (cc)
    by-rights r p x true (Some y) f e =
        let low : y.rights < 8 = is.rights r p y f in
        let same : page_with change y ≡ x = cc in
        rw (← same) low
    by-rights r p x false o f e = is.rights r p x (f ∙ e)

    -- a class with the page has no other, and the pages of all others are as they were
    by-class : (class : Class) → IsClassOf c class → IsOnly region page class → (has_member region page class ≡ true) ⊎ (has_member region page class ≡ false) → IsClassOf after class
    by-class class is only (inl h) = record {
      one_page = is.one_page;
      different = is.different;
      moves = λ r s p a b.
          let x : r ≡ region = only h r p a in
          let y : s ≡ region = only h s p b in
          rw (x, y) (sym (same-page law region low (page_at after region p) (whole.held region p)));
    }
    by-class class is only (inr h) = class-kept c after class (λ r p a. page-written c region page change r p ∙ by r p a (eqb_tells r region) (eqb_tells p page)) is
      where
        by : (r p : ℕ) → has_member r p class ≡ true → ((nat_eq r region ≡ true) × (r ≡ region)) ⊎ ((nat_eq r region ≡ false) × (r ≢ region)) → ((nat_eq p page ≡ true) × (p ≡ page)) ⊎ ((nat_eq p page ≡ false) × (p ≢ page))
            → cond (nat_eq r region && nat_eq p page) (option_map (page_with change) (page_at c r p)) (page_at c r p) ≡ page_at c r p
        by r p a (inl (t, e)) (inl (u, f)) = let no : has_member r p class ≡ false = rw (e, f) h in absurd (cc)
        by r p a (inl (t, e)) (inr (u, f)) = rw (t, u) refl
        by r p a (inr (t, e)) x = rw t refl

-- Stores to memory.
module _ (law : PagesAreMoved) (n : ℕ) (most : n ≤ most_regions) (region : ℕ) (low : region < n) where
  -- the region is below the most
  below : region < most_regions
  below = omega arith

  -- a store by an access
  store-parts : (c : Content) (at : ℕ) (change : List Cap → List Cap) → IsWhole c → IsWhole (store_to c region at change (reach c Write region at)).after
      → HasSoundParts n c → HasSoundParts n (store_to c region at change (reach c Write region at)).after
  store-parts c at change whole then is =
      by-reach (λ (reached : Result Reached Refusal). IsWhole (store_to c region at change reached).after → HasSoundParts n (store_to c region at change reached).after) c Write region at (λ refusal then. is)
      (λ p tagged note e then.
      granules-parts law n (touched c region note) region (page_of_place at) change below (touched-only n c region (page_of_place at) tagged note whole is e) then
      (touch-parts law n most c Write region (page_of_place at) tagged note e is))
      then

  -- of a number
  pub write-parts : (c : Content) (at size v : ℕ) → IsWhole c → IsWhole (write_of c region at size v).after → HasSoundParts n c → HasSoundParts n (write_of c region at size v).after
  unfolding write_of
  write-parts c at size v = store-parts c at (λ granules. with_number granules (byte_of_place at) size v)

  -- of a capability
  pub write_cap-parts : (c : Content) (at : ℕ) (cap : Cap) → IsWhole c → IsWhole (write_cap_of c region at cap).after → HasSoundParts n c → HasSoundParts n (write_cap_of c region at cap).after
  unfolding write_cap_of
  write_cap-parts c at cap = store-parts c at (λ granules. slice_set granules (granule_of_place at) cap)

-- a page that its region owns is changed, whatever the rights
pub seed_cap-parts : PagesAreMoved → (n : ℕ) → n ≤ most_regions → (c : Content) (region at : ℕ) (cap : Cap) → IsOwn region (page_of_place at) c
    → IsWhole c → IsWhole (seed_cap_of c region at cap) → HasSoundParts n c → HasSoundParts n (seed_cap_of c region at cap)
unfolding seed_cap_of
seed_cap-parts law n most c region at cap own whole then is =
    let found = found-has (IsInRange n) (has_member region (page_of_place at)) c.account own.class is.range own.there in
    let low : region < n = found.1.members region (page_of_place at) found.0 in
    granules-parts law n c region (page_of_place at) (λ granules. slice_set granules (granule_of_place at) cap) (omega arith) (own-only c region (page_of_place at) whole own) then is

-- Many bytes.

-- each page under the bytes is alone
abbrev AreOnly : Content → ℕ → ℕ → ℕ → Type 0
AreOnly c region at count = (k : ℕ) → k < count → All (IsOnly region (page_of_place (at + k))) c.account

-- one byte after another, each of which leaves a whole content
bytes-parts : PagesAreMoved → (n : ℕ) (region : ℕ) → region < most_regions → ((d : Content) (at byte : ℕ) → IsWhole d → IsWhole (write_bytes_of d region at (byte ∷ [])))
    → (bytes : List ℕ) (c : Content) (at : ℕ) → AreOnly c region at (length bytes) → IsWhole c → HasSoundParts n c → HasSoundParts n (write_bytes_of c region at bytes)
unfolding write_bytes_of
bytes-parts law n region low keeps [] c at only whole is = is
bytes-parts law n region low keeps (byte ∷ bytes) c at only whole is =
    bytes-parts law n region low keeps bytes next (at + 1)
    (λ k w. let same : at + (1 + k) ≡ at + 1 + k = omega arith in rw (← same) (only (1 + k) (omega arith)))
    (keeps c at byte whole)
    (granules-parts law n c region (page_of_place at) change low (let same : at + 0 ≡ at = omega arith in rw same at (only 0 (omega arith))) (keeps c at byte whole) is)
  where
    change : List Cap → List Cap
    change granules = with_number granules (byte_of_place at) 1 byte

    next : Content
    next = with_granules c region (page_of_place at) change

-- pages that are prepared for writing are alone
pub write_bytes-parts : PagesAreMoved → (n : ℕ) → n ≤ most_regions → ((d : Content) (region at byte : ℕ) → IsWhole d → IsWhole (write_bytes_of d region at (byte ∷ [])))
    → (c : Content) (region at : ℕ) (bytes : List ℕ) → region < n → IsPrepared region at (length bytes) Write c → IsWhole c → HasSoundParts n c → HasSoundParts n (write_bytes_of c region at bytes)
write_bytes-parts law n most keeps c region at bytes low prepared whole is =
    bytes-parts law n region (omega arith) (λ d. keeps d region) bytes c at
    (λ k w. fit-only n c region (page_of_place (at + k)) (tagged_in (page_at c region (page_of_place (at + k))) (at + k)) whole is (prepared.fit k w))
    whole is
