-- A fork keeps a content whole.
use Rattle.std.proofs.Common.{◌≡◌, ◌≢◌, ◌∙◌, ◌⊎◌, inl, inr, refl, sym, ap, ℕ, ◌+◌, ◌<◌, ◌==◌, ◌&&◌, ◌||◌, nat_eq, nat_lt, is_some, get_or, Option, Some, None, List, [], ◌∷◌, ◌++◌, map, length, cond, true, false, Bool, All, arith}
use Rattle.std.specs.Option.{option_map}
use Rattle.std.specs.List.{list_any}
use Rattle.std.proofs.lemmas.Bool.Decides.{nat_tests, eqb_tells}
use Rattle.std.proofs.lemmas.List.Elements.{All-map, All-append}
use Rattle.cap_format.specs.Numbers.{most_regions}
use Rattle.machine_types.specs.declared.config.Rule.{Rule}
use Rattle.machine_types.specs.declared.config.Rule.TheVariants.{Full, Access, Pointer}
use Rattle.machine_types.specs.Lists.{count_of}
use Rattle.machine_types.specs.Stores.{Store, moved_store, page_numbers, AreRising}
use Rattle.machine_types.specs.Accounts.{Class, has_member, shared_class, class_for, account_at_fork}
use Rattle.machine_types.proofs.PageNumbers.{numbers-rise}
use Rattle.contents.specs.Content.{Content, page_in, page_at, free_frames, with_account, with_store}
use Rattle.contents.specs.Regions.{fork_of, fork_with, numbers_in}
use Rattle.contents.specs.Conditions.{HasNoStore}
use Rattle.contents.specs.Whole.{IsClass, IsWhole}
use Rattle.contents.proofs.UsedFrames.{within-steps}
use Rattle.contents.proofs.ListCounts.{count-map, count-append}
use Rattle.contents.proofs.Companions.{root, member-rooted, IsClass-shared_class}
use Rattle.contents.proofs.WholeStores.{IsStoreOf, store-of, numbers-of, whole-by, stores-changed, page-changed, moved-of, some-moved}
use Rattle.contents.proofs.WholeClasses.{none-there, count-absent, none-members, IsClass-class_for}

-- The pages of a store are counted once each.

-- numbers that rise are
count-rising : (least p : ℕ) (numbers : List ℕ) → AreRising least numbers → (count_of (λ n. n == p) numbers ≡ cond (list_any (λ n. n == p) numbers) 1 0) × (p < least → list_any (λ n. n == p) numbers ≡ false)
count-rising least p [] rising = (refl, λ _. refl)
count-rising least p (n ∷ numbers) rising = by (eqb_tells n p) (count-rising (n + 1) p numbers rising.1)
  where
    by : ((nat_eq n p ≡ true) × (n ≡ p)) ⊎ ((nat_eq n p ≡ false) × (n ≢ p))
        → (count_of (λ n. n == p) numbers ≡ cond (list_any (λ n. n == p) numbers) 1 0) × (p < n + 1 → list_any (λ n. n == p) numbers ≡ false)
        → (cond (nat_eq n p) (1 + count_of (λ n. n == p) numbers) (count_of (λ n. n == p) numbers) ≡ cond (nat_eq n p || list_any (λ n. n == p) numbers) 1 0) × (p < least → (nat_eq n p || list_any (λ n. n == p) numbers) ≡ false)
    by (inl (t, e)) rest =
        let none : list_any (λ n. n == p) numbers ≡ false = rest.1 (omega arith) in
        let zero : count_of (λ n. n == p) numbers ≡ 0 = rest.0 ∙ rw none refl in
        (rw (t, zero) refl, λ less. let low = rising.0 in absurd (omega arith))
    by (inr (t, e)) rest = (rw t rest.0, λ less. let low = rising.0 in rw t (rest.1 (omega arith)))

-- so are the page numbers of a store
count-numbers : (region p : ℕ) (o : Option Store) → IsStoreOf region o → count_of (λ n. n == p) (numbers_in o) ≡ cond (is_some (page_in o p)) 1 0
count-numbers region p None is = refl
count-numbers region p (Some store) is =
    (count-rising 0 p (page_numbers store) (numbers-rise store)).0 ∙ ap (λ (b : Bool). cond b 1 0) (numbers-of region p (Some store) is)

-- the new classes under `full` have the pages of the child
count-new : (to r p : ℕ) (numbers : List ℕ) → count_of (has_member r p) (map (class_for to) numbers) ≡ cond (nat_eq to r) (count_of (λ n. n == p) numbers) 0
count-new to r p [] = by (nat_eq to r)
  where
    by : (b : Bool) → ◌≡◌ {A = ℕ} 0 (cond b 0 0)
    by true = refl
    by false = refl
count-new to r p (n ∷ numbers) = by (nat_eq to r) (nat_eq n p) (count-new to r p numbers)
  where
    by : (b x : Bool) → count_of (has_member r p) (map (class_for to) numbers) ≡ cond b (count_of (λ n. n == p) numbers) 0
        → cond ((b && x) || false) (1 + count_of (has_member r p) (map (class_for to) numbers)) (count_of (has_member r p) (map (class_for to) numbers)) ≡ cond b (cond x (1 + count_of (λ n. n == p) numbers) (count_of (λ n. n == p) numbers)) 0
    by true true h = rw h refl
    by true false h = h
    by false x h = h

-- Forks.
module _ (c : Content) (from to : ℕ) (is : IsWhole c) (small : from < most_regions) (other : to < most_regions) (none : HasNoStore to c) where
  -- the content with the store of the child
  begun : Content
  begun = with_store c to (option_map (moved_store from to) (c.stores from))

  -- a fork that keeps the account exact keeps the content whole
  forked-by : (pages : List ℕ) (account : List Class) → account_at_fork c.rule (free_frames c) c.account from to pages ≡ Some account
      → ((r p : ℕ) → count_of (has_member r p) account ≡ cond (is_some (page_at c (root from to r) p)) 1 0) → All IsClass account → IsWhole (with_account begun account)
  unfolding begun
  forked-by pages account e exact classes =
      whole-by (with_account begun account) (stores-changed c to (option_map (moved_store from to) (c.stores from)) is (moved-of from to (c.stores from) small other (store-of c from is)))
      (λ r p. exact r p ∙ ap (λ (b : Bool). cond b 1 0) (sym (rooted r p)))
      classes ((within-steps to).fork begun from pages account e is.used)
    where
      -- each page of the new stores is there where the one that it comes from is
      rooted : (r p : ℕ) → is_some (page_at begun r p) ≡ is_some (page_at c (root from to r) p)
      rooted r p = ap is_some (page-changed c to (option_map (moved_store from to) (c.stores from)) r p) ∙ by (nat_eq r to)
        where
          by : (b : Bool) → is_some (cond b (page_in (option_map (moved_store from to) (c.stores from)) p) (page_at c r p)) ≡ is_some (page_at c (cond b from r) p)
          by true = some-moved from to p (c.stores from)
          by false = refl

  -- under `access` and `pointer`
  shared-whole : (pages : List ℕ) → account_at_fork c.rule (free_frames c) c.account from to pages ≡ Some (map (shared_class from to) c.account) → IsWhole (with_account begun (map (shared_class from to) c.account))
  shared-whole pages e =
      forked-by pages (map (shared_class from to) c.account) e
      (λ r p. count-map (has_member r p) (has_member (root from to r) p) (shared_class from to) c.account (λ k d w. member-rooted from to (get_or c.account k d) (none-members c to is none k d w) r p)
      ∙ is.pages (root from to r) p)
      (All-map IsClass (shared_class from to) c.account (λ k d w. IsClass-shared_class from to (get_or c.account k d) (none-members c to is none k d w) (is.classes k d w)))

  -- under `full`
  full-whole : account_at_fork c.rule (free_frames c) c.account from to (numbers_in (c.stores from)) ≡ Some (c.account ++ map (class_for to) (numbers_in (c.stores from)))
      → IsWhole (with_account begun (c.account ++ map (class_for to) (numbers_in (c.stores from))))
  full-whole e =
      forked-by numbers (c.account ++ map (class_for to) numbers) e
      (λ r p. count-append (has_member r p) c.account (map (class_for to) numbers) ∙ ap (λ n. count_of (has_member r p) c.account + n) (count-new to r p numbers) ∙ by r p (eqb_tells r to))
      (All-append IsClass c.account (map (class_for to) numbers) is.classes (All-map IsClass (class_for to) numbers (λ k d w. IsClass-class_for to (get_or numbers k d))))
    where
      numbers : List ℕ
      numbers = numbers_in (c.stores from)

      by : (r p : ℕ) → ((nat_eq r to ≡ true) × (r ≡ to)) ⊎ ((nat_eq r to ≡ false) × (r ≢ to))
          → count_of (has_member r p) c.account + cond (nat_eq to r) (count_of (λ n. n == p) numbers) 0 ≡ cond (is_some (page_at c (cond (nat_eq r to) from r) p)) 1 0
      by r p (inl (t, e)) =
          let zero : count_of (has_member r p) c.account ≡ 0 = rw e (count-absent c to p is (none-there c to p none)) in
          let same : nat_eq to r ≡ true = grind (arith, nat_tests) in
          let pages = count-numbers from p (c.stores from) (store-of c from is) in
          rw (zero, same, t) (omega arith)
      by r p (inr (t, e)) =
          let apart : nat_eq to r ≡ false = grind (arith, nat_tests) in
          let pages = is.pages r p in
          rw (apart, t) (omega arith)

  pub fork-whole : IsWhole (fork_of c from to).after
  unfolding fork_of account_at_fork begun
  fork-whole = by-rule c.rule refl
    where
      pages : List ℕ
      pages = numbers_in (c.stores from)

      by-full : c.rule ≡ Full → (lacks : Bool) → nat_lt (free_frames c) (length pages) ≡ lacks → IsWhole (fork_with c from to (cond lacks None (Some (c.account ++ map (class_for to) pages)))).after
      by-full e true test = is
      by-full e false test = full-whole (rw e (rw test refl))

      by-rule : (rule : Rule) → c.rule ≡ rule → IsWhole (fork_with c from to (account_at_fork rule (free_frames c) c.account from to pages)).after
      by-rule Full e = by-full e (nat_lt (free_frames c) (length pages)) refl
      by-rule Access e = shared-whole pages (rw e refl)
      by-rule Pointer e = shared-whole pages (rw e refl)
