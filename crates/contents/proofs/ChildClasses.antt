-- The classes of pages after a fork.
use Rattle.std.proofs.Common.{◌≡◌, ◌≢◌, ◌∙◌, ◌⊎◌, inl, inr, ℕ, refl, ap, sym, arith, true, false, Bool, Option, Some, None, Result, Ok, List, [], ◌∷◌, ◌++◌, length, map, find, cond, All, ◌==◌, ◌&&◌, ◌||◌, nat_eq, nat_lt, get_or}
use Rattle.std.specs.Prelude.{is_some}
use Rattle.std.specs.List.{list_any}
use Rattle.std.specs.Option.{option_map}
use Rattle.std.proofs.lemmas.Bool.Decides.{nat_tests, eqb_tells}
use Rattle.std.proofs.Math.Bool.{or-false}
use Rattle.std.proofs.lemmas.List.{append-nil}
use Rattle.std.proofs.lemmas.List.Folds.{find-append, list_any-append, list_any_none}
use Rattle.std.proofs.lemmas.List.Elements.{All-map}
use Rattle.machine_types.specs.declared.config.Rule.{Rule}
use Rattle.machine_types.specs.declared.config.Rule.TheVariants.{Full, Access, Pointer}
use Rattle.machine_types.specs.Accounts.{Class, has_member, class_for, shared_class, account_at_fork}
use Rattle.machine_types.specs.declared.touches.NoFrame.{NoFrame}
use Rattle.contents.specs.Content.{Content, CallOutcome, page_at, class_at, free_frames}
use Rattle.contents.specs.Regions.{fork_with, fork_of, numbers_in}
use Rattle.contents.specs.Looks.{rights_of}
use Rattle.contents.specs.Conditions.{HasNoStore, IsOwn}
use Rattle.contents.specs.Whole.{IsWhole}
use Rattle.contents.specs.Forking.{shares, home_of}
use Rattle.contents.proofs.Options.{option_map-option_map}
use Rattle.contents.proofs.PageRights.{some-rights}
use Rattle.contents.proofs.ListSearches.{any-map, find-map, find-append_none}
use Rattle.contents.proofs.ListCounts.{any-counted}
use Rattle.contents.proofs.Fits.{other-new}
use Rattle.contents.proofs.EndedClasses.{has_both}
use Rattle.contents.proofs.ForkLemmas.{fork-shared}
use Rattle.contents.proofs.Companions.{other-shared, child-shared}
use Rattle.contents.proofs.WholeStores.{store-of, numbers-of}
use Rattle.contents.proofs.WholeClasses.{none-there, none-members, class-absent}

-- The account.

-- the rule is `full`, or another
pub rule-cases : (rule : Rule) → (rule ≡ Full) ⊎ (rule ≢ Full)
rule-cases Full = inl refl
rule-cases Access = inr (λ same. cc)
rule-cases Pointer = inr (λ same. cc)

-- Under `full` there are new classes at its end: for each of the pages of the parent, or for none where the fork is refused.
record AddsClasses (c : Content) (to : ℕ) (pages : List ℕ) (o : CallOutcome (Result (Unit {0}) NoFrame)) : Type 0 where
  pub new : List ℕ
  pub account : o.after.account ≡ c.account ++ map (class_for to) new
  pub taken : o.answer ≡ Ok tt → new ≡ pages
  pub all_or_none : (new ≡ pages) ⊎ (new ≡ [])

adding : (rule : Rule) (c : Content) (from to : ℕ) (pages : List ℕ) → rule ≡ Full → AddsClasses c to pages (fork_with c from to (account_at_fork rule (free_frames c) c.account from to pages))
unfolding account_at_fork
adding Full c from to pages full = by (nat_lt (free_frames c) (length pages))
  where
    by : (lacks : Bool) → AddsClasses c to pages (fork_with c from to (cond lacks None (Some (c.account ++ map (class_for to) pages))))
    by true = record { new = []; account = sym (append-nil c.account); taken = λ e. absurd (cc); all_or_none = inr refl }
    by false = record { new = pages; account = refl; taken = λ e. refl; all_or_none = inl refl }
adding Access c from to pages full = absurd (cc)
adding Pointer c from to pages full = absurd (cc)

fork-added : (c : Content) (from to : ℕ) → c.rule ≡ Full → AddsClasses c to (numbers_in (c.stores from)) (fork_of c from to)
unfolding fork_of
fork-added c from to full = adding c.rule c from to (numbers_in (c.stores from)) full

-- Classes of pages of other regions than the child.

-- a page of another region is in no new class
none-added : (to r p : ℕ) (pages : List ℕ) → r ≢ to → All (λ class. has_member r p class ≡ false) (map (class_for to) pages)
none-added to r p pages apart = All-map (λ class. has_member r p class ≡ false) (class_for to) pages (λ k d within. other-new to (get_or pages k d) r p (inl apart))

-- and in its old class still
pub other-added : (c : Content) (from to r p : ℕ) → c.rule ≡ Full → r ≢ to → class_at (fork_of c from to).after r p ≡ class_at c r p
other-added c from to r p full apart =
    let added = fork-added c from to full in
    ap (λ (account : List Class). find (has_member r p) account) added.account
    ∙ find-append_none (has_member r p) c.account (map (class_for to) added.new) (none-added to r p added.new apart)

-- Under another rule it is in its old class, shared.

-- which classes have it as a member
others-shared : (c : Content) (from to r p : ℕ) → r ≢ to → All (λ class. has_member r p (shared_class from to class) ≡ has_member r p class) c.account
others-shared c from to r p apart k d within = other-shared from to r p (get_or c.account k d) apart

-- the class of a page that is a member where another was
class-shared : (c : Content) (from to r p s q : ℕ) → c.rule ≢ Full → All (λ class. has_member r p (shared_class from to class) ≡ has_member s q class) c.account
    → class_at (fork_of c from to).after r p ≡ option_map (shared_class from to) (class_at c s q)
class-shared c from to r p s q other same =
    ap (λ (account : List Class). find (has_member r p) account) (fork-shared c from to other).1 ∙ find-map (has_member r p) (has_member s q) (shared_class from to) c.account same

pub other-companied : (c : Content) (from to r p : ℕ) → c.rule ≢ Full → r ≢ to → class_at (fork_of c from to).after r p ≡ option_map (shared_class from to) (class_at c r p)
other-companied c from to r p other apart = class-shared c from to r p r p other (others-shared c from to r p apart)

-- a shared class has its home
shared-home : (from to : ℕ) (o : Option Class) → option_map (λ class. class.home) (option_map (shared_class from to) o) ≡ option_map (λ class. class.home) o
shared-home from to = option_map-option_map (λ class. class.home) (shared_class from to) (λ class. class.home) (λ class. refl)

-- so homes stay
pub fork-homes : (c : Content) (from to r p : ℕ) → r ≢ to → home_of (fork_of c from to).after r p ≡ home_of c r p
fork-homes c from to r p apart = by (rule-cases c.rule)
  where
    by : (c.rule ≡ Full) ⊎ (c.rule ≢ Full) → home_of (fork_of c from to).after r p ≡ home_of c r p
    by (inl full) = ap (option_map (λ (class : Class). class.home)) (other-added c from to r p full apart)
    by (inr other) = ap (option_map (λ (class : Class). class.home)) (other-companied c from to r p other apart) ∙ shared-home from to (class_at c r p)

-- pages of other regions share as before under `full`
pub copies-share : (c : Content) (from to r p s q : ℕ) → c.rule ≡ Full → r ≢ to → s ≢ to → shares (fork_of c from to).after r p s q ≡ shares c r p s q
copies-share c from to r p s q full apart other =
    let added = fork-added c from to full in
    let none : list_any (has_both r p s q) (map (class_for to) added.new) ≡ false
    = list_any_none (has_both r p s q) (map (class_for to) added.new) (λ k d within. rw (none-added to r p added.new apart k d within) refl) in
    ap (λ (account : List Class). list_any (has_both r p s q) account) added.account
    ∙ list_any-append (has_both r p s q) c.account (map (class_for to) added.new)
    ∙ rw none (or-false (shares c r p s q))

-- under the other rules pages share that are members where others were that share
shares-shared : (c : Content) (from to r p s q v n w m : ℕ) → c.rule ≢ Full → All (λ class. has_member r p (shared_class from to class) ≡ has_member v n class) c.account
    → All (λ class. has_member s q (shared_class from to class) ≡ has_member w m class) c.account → shares (fork_of c from to).after r p s q ≡ shares c v n w m
shares-shared c from to r p s q v n w m other first second =
    ap (λ (account : List Class). list_any (has_both r p s q) account) (fork-shared c from to other).1
    ∙ any-map (has_both r p s q) (has_both v n w m) (shared_class from to) c.account (λ k d within. rw (first k d within, second k d within) refl)

-- so pages of other regions share as before
pub others-share : (c : Content) (from to r p s q : ℕ) → c.rule ≢ Full → r ≢ to → s ≢ to → shares (fork_of c from to).after r p s q ≡ shares c r p s q
others-share c from to r p s q other apart far = shares-shared c from to r p s q r p s q other (others-shared c from to r p apart) (others-shared c from to s q far)

-- Classes of the child.

-- its page is a member where the parent's was
children-shared : (c : Content) (from to p : ℕ) → IsWhole c → HasNoStore to c → All (λ class. has_member to p (shared_class from to class) ≡ has_member from p class) c.account
children-shared c from to p whole none k d within = child-shared from to p (get_or c.account k d) (none-members c to whole none k d within p)

-- so the child shares with others what the parent shares
pub child-shares : (c : Content) (from to page s q : ℕ) → IsWhole c → HasNoStore to c → c.rule ≢ Full → s ≢ to → shares (fork_of c from to).after to page s q ≡ shares c from page s q
child-shares c from to page s q whole none other apart = shares-shared c from to to page s q from page s q other (children-shared c from to page whole none) (others-shared c from to s q apart)

-- and its pages among themselves share what the parent's do
pub children-share : (c : Content) (from to p q : ℕ) → IsWhole c → HasNoStore to c → c.rule ≢ Full → shares (fork_of c from to).after to p to q ≡ shares c from p from q
children-share c from to p q whole none other = shares-shared c from to to p to q from p from q other (children-shared c from to p whole none) (children-shared c from to q whole none)

-- the homes of its pages are those of the parent's
pub child-homes : (c : Content) (from to page : ℕ) → IsWhole c → HasNoStore to c → c.rule ≢ Full → home_of (fork_of c from to).after to page ≡ home_of c from page
child-homes c from to page whole none other =
    ap (option_map (λ (class : Class). class.home)) (class-shared c from to to page from page other (children-shared c from to page whole none)) ∙ shared-home from to (class_at c from page)

-- the region of a page that is there isn't one without a store
other-region : (c : Content) (from to page : ℕ) → HasNoStore to c → is_some (page_at c from page) ≡ true → from ≢ to
other-region c from to page none there same =
    let lacks : c.stores from ≡ None = rw same none in
    absurd (cc)

-- a page that is there shares with itself
shares-itself : (c : Content) (region page : ℕ) → IsWhole c → is_some (page_at c region page) ≡ true → shares c region page region page ≡ true
shares-itself c region page whole there =
    any-counted (has_member region page) (has_both region page region page) c.account (λ class h. rw h refl) (whole.pages region page ∙ rw there refl)

-- so the child's pages share with the parent's
pub child-with-parent : (c : Content) (from to page : ℕ) → IsWhole c → HasNoStore to c → c.rule ≢ Full → is_some (rights_of c from page) ≡ true
    → shares (fork_of c from to).after to page from page ≡ true
child-with-parent c from to page whole none other h =
    let there : is_some (page_at c from page) ≡ true = sym (some-rights c from page) ∙ h in
    child-shares c from to page from page whole none other (other-region c from to page none there) ∙ shares-itself c from page whole there

-- Under `full` the pages of the child are in new classes.

-- the new class of a page
find-new : (to page : ℕ) (pages : List ℕ) → find (has_member to page) (map (class_for to) pages) ≡ cond (list_any (λ n. n == page) pages) (Some (class_for to page)) None
find-new to page [] = refl
find-new to page (n ∷ pages) = by (eqb_tells n page) (find-new to page pages)
  where
    here : nat_eq to to ≡ true
    here = grind (arith, nat_tests)

    by : ((nat_eq n page ≡ true) × (n ≡ page)) ⊎ ((nat_eq n page ≡ false) × (n ≢ page))
        → find (has_member to page) (map (class_for to) pages) ≡ cond (list_any (λ n. n == page) pages) (Some (class_for to page)) None
        → cond ((nat_eq to to && nat_eq n page) || false) (Some (class_for to n)) (find (has_member to page) (map (class_for to) pages)) ≡ cond (nat_eq n page || list_any (λ n. n == page) pages) (Some (class_for to page)) None
    by (inl (test, same)) rest = rw (here, test, same) refl
    by (inr (test, other)) rest = rw (here, test) rest

-- a page of a whole content has a number exactly where it is there
numbers-there : (c : Content) (region page : ℕ) → IsWhole c → list_any (λ n. n == page) (numbers_in (c.stores region)) ≡ is_some (page_at c region page)
numbers-there c region page whole = numbers-of region page (c.stores region) (store-of c region whole)

-- the class of a page of the child is the new one, where there is one for its number
child-class : (c : Content) (from to page : ℕ) → IsWhole c → HasNoStore to c → (added : AddsClasses c to (numbers_in (c.stores from)) (fork_of c from to))
    → class_at (fork_of c from to).after to page ≡ cond (list_any (λ n. n == page) added.new) (Some (class_for to page)) None
child-class c from to page whole none added =
    let old : find (has_member to page) c.account ≡ None = class-absent c to page whole (none-there c to page none) in
    ap (λ (account : List Class). find (has_member to page) account) added.account
    ∙ find-append (has_member to page) c.account (map (class_for to) added.new) ∙ rw old (find-new to page added.new)

-- it is alone there, and at home
pub child-own : (c : Content) (from to page : ℕ) → IsWhole c → HasNoStore to c → c.rule ≡ Full → (fork_of c from to).answer ≡ Ok tt → is_some (rights_of c from page) ≡ true
    → IsOwn to page (fork_of c from to).after
child-own c from to page whole none full e h =
    let added = fork-added c from to full in
    let pages : added.new ≡ numbers_in (c.stores from) = added.taken e in
    let there : list_any (λ n. n == page) added.new ≡ true = rw pages (numbers-there c from page whole ∙ sym (some-rights c from page) ∙ h) in
    record { class = class_for to page; there = child-class c from to page whole none added ∙ rw there refl; home = refl; alone = refl }

-- Pages that the parent lacks.

-- where a list lacks a page, all of it does, and none of it
lacks-new : (page : ℕ) (pages new : List ℕ) → list_any (λ n. n == page) pages ≡ false → (new ≡ pages) ⊎ (new ≡ []) → list_any (λ n. n == page) new ≡ false
lacks-new page pages new lacks (inl all) = rw all lacks
lacks-new page pages new lacks (inr none) = rw none refl

-- a page that the parent lacks has none in the child
pub child-absent : (c : Content) (from to page : ℕ) → IsWhole c → HasNoStore to c → rights_of c from page ≡ None → home_of (fork_of c from to).after to page ≡ None
child-absent c from to page whole none lacks = by (rule-cases c.rule)
  where
    absent : is_some (page_at c from page) ≡ false
    absent = sym (some-rights c from page) ∙ ap is_some lacks

    by : (c.rule ≡ Full) ⊎ (c.rule ≢ Full) → home_of (fork_of c from to).after to page ≡ None
    by (inl full) =
        let added = fork-added c from to full in
        let new = lacks-new page (numbers_in (c.stores from)) added.new (numbers-there c from page whole ∙ absent) added.all_or_none in
        let class : class_at (fork_of c from to).after to page ≡ None = child-class c from to page whole none added ∙ rw new refl in
        ap (option_map (λ (class : Class). class.home)) class
    by (inr other) = child-homes c from to page whole none other ∙ ap (option_map (λ (class : Class). class.home)) (class-absent c from page whole absent)
