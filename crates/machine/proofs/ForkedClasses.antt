-- What a fork keeps of a sound content.
use Rattle.std.proofs.Common.{◌≡◌, ◌≢◌, ◌∙◌, sym, ap, refl, ℕ, ◌≤◌, ◌<◌, ◌⊎◌, inl, inr, ◌==◌, ◌&&◌, ◌||◌, nat_eq, nat_lt, get_or, Option, Some, None, List, ◌++◌, map, length, cond, true, false, Bool, All, subst, arith}
use Rattle.std.specs.Option.{option_map}
use Rattle.std.specs.List.{list_any}
use Rattle.std.proofs.Math.Bool.{or-false}
use Rattle.std.proofs.lemmas.Bool.Decides.{nat_tests, eqb_tells}
use Rattle.std.proofs.lemmas.List.Elements.{All-map, All-append}
use Rattle.cap_format.specs.Numbers.{most_regions}
use Rattle.machine_types.specs.declared.config.Rule.{Rule}
use Rattle.machine_types.specs.declared.config.Rule.TheVariants.{Full, Access, Pointer}
use Rattle.machine_types.specs.Lists.{count_of}
use Rattle.machine_types.specs.MemoryLaws.{PagesAreMoved}
use Rattle.machine_types.specs.Stores.{Page, Store, moved_page, moved_store}
use Rattle.machine_types.specs.Accounts.{Member, Class, is_member, has_member, shared_class, class_for, account_at_fork}
use Rattle.contents.specs.Content.{Content, page_in, page_at, free_frames, with_account, with_store}
use Rattle.contents.specs.Regions.{fork_of, fork_with, numbers_in}
use Rattle.contents.specs.Conditions.{HasNoStore}
use Rattle.contents.specs.Whole.{IsWhole}
use Rattle.machine.specs.Sound.{IsClassOf, IsInRange, IsAlone}
use Rattle.machine.proofs.Moves.{HoldsIn, twice-page, same-page, held-page}
use Rattle.machine.proofs.Members.{none-counted, any-companions, count-companions, none-in-region}
use Rattle.machine.proofs.SoundParts.{AreStoresHeld, HaveRights, HasSoundParts, class-kept, one-is-class, one-in-range, one-alone}

-- Pages.

-- the content after a fork with an account
abbrev with_child : Content → ℕ → ℕ → List Class → Content
with_child c from to account = with_account (with_store c to (option_map (moved_store from to) (c.stores from))) account

-- the pages of the child
page-of-child : (from to p : ℕ) (o : Option Store) → page_in (option_map (moved_store from to) o) p ≡ option_map (moved_page from to) (page_in o p)
page-of-child from to p None = refl
page-of-child from to p (Some store) = refl

-- the region that a page comes from
unfoldable root : ℕ → ℕ → ℕ → ℕ
root from to r = cond (nat_eq r to) from r

-- each page of the new stores
page-forked : (c : Content) (from to : ℕ) (account : List Class) (r p : ℕ) → page_at (with_child c from to account) r p ≡ cond (nat_eq r to) (option_map (moved_page from to) (page_at c from p)) (page_at c r p)
page-forked c from to account r p = by (nat_eq r to)
  where
    by : (b : Bool) → page_in (cond b (option_map (moved_store from to) (c.stores from)) (c.stores r)) p ≡ cond b (option_map (moved_page from to) (page_at c from p)) (page_at c r p)
    by true = page-of-child from to p (c.stores from)
    by false = refl

-- it is the one that it comes from, moved
rooted : PagesAreMoved → (c : Content) (from to : ℕ) (account : List Class) (r p : ℕ) → AreStoresHeld c → root from to r < most_regions
    → page_at (with_child c from to account) r p ≡ option_map (moved_page (root from to r) r) (page_at c (root from to r) p)
unfolding root
rooted moves c from to account r p held below = page-forked c from to account r p ∙ by (eqb_tells r to) below
  where
    by : ((nat_eq r to ≡ true) × (r ≡ to)) ⊎ ((nat_eq r to ≡ false) × (r ≢ to)) → cond (nat_eq r to) from r < most_regions
        → cond (nat_eq r to) (option_map (moved_page from to) (page_at c from p)) (page_at c r p) ≡ option_map (moved_page (cond (nat_eq r to) from r) r) (page_at c (cond (nat_eq r to) from r) p)
    by (inl (t, e)) below = rw t (ap (λ (x : ℕ). option_map (moved_page from x) (page_at c from p)) (sym e))
    by (inr (t, e)) below = rw t (sym (same-page moves r (rw t at below) (page_at c r p) (held r p)))

-- the stores hold what they may
held-forked : PagesAreMoved → (c : Content) (from to : ℕ) (account : List Class) → from < most_regions → to < most_regions → AreStoresHeld c → AreStoresHeld (with_child c from to account)
held-forked moves c from to account a b held r p x e = by (eqb_tells r to) x (sym (page-forked c from to account r p) ∙ e)
  where
    by : ((nat_eq r to ≡ true) × (r ≡ to)) ⊎ ((nat_eq r to ≡ false) × (r ≢ to)) → HoldsIn r (cond (nat_eq r to) (option_map (moved_page from to) (page_at c from p)) (page_at c r p))
    by (inl (t, e)) = rw (t, e) (held-page moves from to a b (page_at c from p) (held from p))
    by (inr (t, e)) = rw t (held r p)

-- a moved page keeps its rights
rights-forked : (c : Content) (from to : ℕ) (account : List Class) → HaveRights c → HaveRights (with_child c from to account)
rights-forked c from to account rights r p x e = by (nat_eq r to) (sym (page-forked c from to account r p) ∙ e)
  where
    moved-rights : (o : Option Page) → page_at c from p ≡ o → option_map (moved_page from to) o ≡ Some x → x.rights < 8
    moved-rights None f e = absurd (cc)
    moved-rights (Some y) f e =
        let low : y.rights < 8 = rights from p y f in
        let same : moved_page from to y ≡ x = cc in
        rw (← same) low

    by : (b : Bool) → cond b (option_map (moved_page from to) (page_at c from p)) (page_at c r p) ≡ Some x → x.rights < 8
    by true e = moved-rights (page_at c from p) refl e
    by false e = rights r p x e

-- Classes.

-- no page of the region is a member
abbrev HasNone : ℕ → Class → Type 0
HasNone to class = (p : ℕ) → has_member to p class ≡ false

-- a region without a store has no member
none-there : (c : Content) (to : ℕ) → HasNoStore to c → IsWhole c → All (HasNone to) c.account
none-there c to none is k d within p =
    let lacks : count_of (has_member to p) c.account ≡ 0 = is.pages to p ∙ rw none refl in
    none-counted (has_member to p) c.account lacks k d within

-- the members of the new class come from those of the old one
member-rooted : (from to : ℕ) (class : Class) → HasNone to class → (r p : ℕ) → has_member r p (shared_class from to class) ≡ has_member (root from to r) p class
unfolding root
member-rooted from to class none r p = any-companions from to r p class.members ∙ by (eqb_tells r to)
  where
    by : ((nat_eq r to ≡ true) × (r ≡ to)) ⊎ ((nat_eq r to ≡ false) × (r ≢ to))
        → (has_member r p class || (nat_eq to r && has_member from p class)) ≡ has_member (cond (nat_eq r to) from r) p class
    by (inl (t, e)) =
        let old : has_member r p class ≡ false = rw e (none p) in
        let same : nat_eq to r ≡ true = grind (arith, nat_tests) in
        rw (t, old, same) refl
    by (inr (t, e)) =
        let other : nat_eq to r ≡ false = grind (arith, nat_tests) in
        rw (t, other) (or-false (has_member r p class))

-- none of these members is a page of the region
abbrev HasNoneOf : List Member → ℕ → Type 0
HasNoneOf members to = (p : ℕ) → list_any (is_member to p) members ≡ false

-- a class with the companions is in range
shared-range : (from to n : ℕ) (class : Class) → to < n → HasNone to class → IsInRange n class → IsInRange n (shared_class from to class)
unfolding root
shared-range from to n class low none range = record {
  home = range.home;
  members = λ r p h. by r p (eqb_tells r to) (sym (member-rooted from to class none r p) ∙ h);
}
  where
    by : (r p : ℕ) → ((nat_eq r to ≡ true) × (r ≡ to)) ⊎ ((nat_eq r to ≡ false) × (r ≢ to)) → has_member (cond (nat_eq r to) from r) p class ≡ true → r < n
    by r p (inl (t, e)) k = omega arith
    by r p (inr (t, e)) k = range.members r p (rw t at k)

-- and a class
shared-is-class : PagesAreMoved → (c : Content) (from to n : ℕ) (account : List Class) → n ≤ most_regions → to < n → AreStoresHeld c → (class : Class) → IsClassOf c class → IsInRange n class → HasNone to class
    → IsClassOf (with_child c from to account) (shared_class from to class)
shared-is-class law c from to n account most low held class is range none = record {
  one_page = λ r p s q h k. is.one_page (root from to r) p (root from to s) q (old r p h) (old s q k);
  different = λ r. by-count r (nat_eq to r) refl;
  moves = λ r s p h k.
      let u : ℕ = root from to r in
      let w : ℕ = root from to s in
      let a : u < most_regions = below u p (old r p h) in
      let b : w < most_regions = below w p (old s p k) in
      let x : r < most_regions = new-below r p h in
      let y : s < most_regions = new-below s p k in
      rooted law c from to account s p held b
      ∙ ap (option_map (moved_page w s)) (is.moves u w p (old r p h) (old s p k))
      ∙ twice-page law u w s a b y (page_at c u p) (held u p)
      ∙ sym (twice-page law u r s a x y (page_at c u p) (held u p))
      ∙ ap (option_map (moved_page r s)) (sym (rooted law c from to account r p held a));
}
  where
    old : (r p : ℕ) → has_member r p (shared_class from to class) ≡ true → has_member (root from to r) p class ≡ true
    old r p h = sym (member-rooted from to class none r p) ∙ h

    below : (r p : ℕ) → has_member r p class ≡ true → r < most_regions
    below r p h = let q = range.members r p h in omega arith

    new-below : (r p : ℕ) → has_member r p (shared_class from to class) ≡ true → r < most_regions
    new-below r p h = let q = (shared-range from to n class low none range).members r p h in omega arith

    by-count : (r : ℕ) (b : Bool) → nat_eq to r ≡ b → count_of (λ m. m.region == r) (shared_class from to class).members ≤ 1
    by-count r true e =
        let counts = count-companions from to r class.members in
        let same : to ≡ r = grind (arith, nat_tests) in
        let zero : count_of (λ m. m.region == r) class.members ≡ 0 = none-in-region r class.members (subst (HasNoneOf class.members) same none) in
        let one = is.different from in
        rw (counts, e, zero) (omega arith)
    by-count r false e = let counts = count-companions from to r class.members in let one = is.different r in rw (counts, e) (omega arith)

-- A fork keeps the parts.
module _ (law : PagesAreMoved) (n : ℕ) (most : n ≤ most_regions) (c : Content) (from to : ℕ) (small : from < n) (low : to < n) (whole : IsWhole c) (none : HasNoStore to c) (is : HasSoundParts n c) where
  -- both regions are below the most
  parent-below : from < most_regions
  parent-below = omega arith

  child-below : to < most_regions
  child-below = omega arith

  -- under `access` and `pointer`
  shared-parts : c.rule ≢ Full → HasSoundParts n (with_child c from to (map (shared_class from to) c.account))
  shared-parts other = record {
    held = held-forked law c from to account parent-below child-below is.held;
    classes = All-map (IsClassOf (with_child c from to account)) (shared_class from to) c.account
        (λ k d w. shared-is-class law c from to n account most low is.held (get_or c.account k d) (is.classes k d w) (is.range k d w) (none-there c to none whole k d w));
    range = All-map (IsInRange n) (shared_class from to) c.account (λ k d w. shared-range from to n (get_or c.account k d) low (none-there c to none whole k d w) (is.range k d w));
    alone = λ full. absurd (other full);
    rights = rights-forked c from to account is.rights;
  }
    where
      account : List Class
      account = map (shared_class from to) c.account

  -- under `full`, with a class for each of these pages
  full-parts : (pages : List ℕ) → HasSoundParts n (with_child c from to (c.account ++ map (class_for to) pages))
  full-parts pages = record {
    held = held;
    classes = All-append (IsClassOf after) c.account (map (class_for to) pages)
        (λ k d w. class-kept c after (get_or c.account k d) (λ r p h. kept k d w r p h) (is.classes k d w))
        (All-map (IsClassOf after) (class_for to) pages (λ k d w. one-is-class law after to (get_or pages k d) child-below held));
    range = All-append (IsInRange n) c.account (map (class_for to) pages) is.range (All-map (IsInRange n) (class_for to) pages (λ k d w. one-in-range n to (get_or pages k d) low));
    alone = λ full. All-append IsAlone c.account (map (class_for to) pages) (is.alone full) (All-map IsAlone (class_for to) pages (λ k d w. one-alone to (get_or pages k d)));
    rights = rights-forked c from to account is.rights;
  }
    where
      account : List Class
      account = c.account ++ map (class_for to) pages

      after : Content
      after = with_child c from to account

      held : AreStoresHeld after
      held = held-forked law c from to account parent-below child-below is.held

      -- the pages of the old classes are as they were
      kept : (k : ℕ) (d : Class) → k < length c.account → (r p : ℕ) → has_member r p (get_or c.account k d) ≡ true → page_at after r p ≡ page_at c r p
      kept k d w r p h = page-forked c from to account r p ∙ by-region (eqb_tells r to)
        where
          by-region : ((nat_eq r to ≡ true) × (r ≡ to)) ⊎ ((nat_eq r to ≡ false) × (r ≢ to)) → cond (nat_eq r to) (option_map (moved_page from to) (page_at c from p)) (page_at c r p) ≡ page_at c r p
          by-region (inl (t, e)) = let no : has_member r p (get_or c.account k d) ≡ false = rw e (none-there c to none whole k d w p) in absurd (cc)
          by-region (inr (t, e)) = rw t refl

  -- by the rule, and where it is refused
  pub fork-parts : HasSoundParts n (fork_of c from to).after
  unfolding fork_of account_at_fork
  fork-parts = by-rule c.rule refl
    where
      pages : List ℕ
      pages = numbers_in (c.stores from)

      by-full : (lacks : Bool) → HasSoundParts n (fork_with c from to (cond lacks None (Some (c.account ++ map (class_for to) pages)))).after
      by-full true = is
      by-full false = full-parts pages

      by-rule : (rule : Rule) → c.rule ≡ rule → HasSoundParts n (fork_with c from to (account_at_fork rule (free_frames c) c.account from to pages)).after
      by-rule Full e = by-full (nat_lt (free_frames c) (length pages))
      by-rule Access e = shared-parts (λ full. cc)
      by-rule Pointer e = shared-parts (λ full. cc)
