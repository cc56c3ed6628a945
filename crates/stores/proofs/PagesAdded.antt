-- Pages that are added to an empty store one by one, and then have a granule stored: for any space.
use Rattle.std.proofs.Common.{◌≡◌, ◌≢◌, ◌∙◌, ◌⊎◌, inl, inr, ℕ, zero, suc, ◌+◌, ◌*◌, ◌<◌, ◌≤◌, nat_eq, Bool, true, false, cond, Option, Some, None, Result, Ok, Err, List, [], ◌∷◌, ◌++◌, find, refl, sym, ap, add-one, arith}
use Rattle.std.specs.Prelude.{is_some}
use Rattle.std.specs.Option.{option_map}
use Rattle.std.proofs.Math.Nat.{eq-or-lt_of_le}
use Rattle.std.proofs.lemmas.Bool.Decides.{nat_tests}
use Rattle.std.proofs.lemmas.List.Folds.{find-append}
use Rattle.cap_format.specs.Numbers.{page_bytes}
use Rattle.cap_format.specs.declared.cap.Cap.{Cap}
use Rattle.machine_types.specs.declared.touches.NoFrame.{NoFrame}
use Rattle.machine_types.specs.Lists.{count_of}
use Rattle.machine_types.specs.Stores.{Page, Store, changed, page_of_bytes}
use Rattle.machine_types.specs.Accounts.{Class, has_member, class_of, class_for}
use Rattle.contents.specs.Content.{Content, CallOutcome, page_in, page_at, is_full, with_account, with_page}
use Rattle.contents.specs.Regions.{no_frame, add_page_of, seed_cap_of}
use Rattle.contents.specs.Conditions.{HasStore, HasEmptyStore, IsOwn}
use Rattle.contents.specs.Whole.{IsWhole}
use Rattle.contents.proofs.KeptRegions.{add_page-regions}
use Rattle.contents.proofs.OtherStores.{changed-there}
use Rattle.stores.specs.Known.{StandsFor}
use Rattle.stores.specs.Callers.{add_pages_of, seed_pages_of}
use Rattle.stores.proofs.Keeping.{stands-after, stands-weaker}

-- The region has a store. Its pages below a number are its own, and those from there on are absent.
pub record HasFirstPages (region count : ℕ) (c : Content) : Type 0 where
  pub store : HasStore region c
  pub own : (page : ℕ) → page < count → IsOwn region page c
  pub absent : (page : ℕ) → count ≤ page → page_at c region page ≡ None

-- an empty store has none
first-none : (region : ℕ) (c : Content) → HasEmptyStore region c → HasFirstPages region 0 c
first-none region c empty = record {
  store = ap is_some empty;
  own = λ page below. absurd (omega arith);
  absent = λ page _. ap (λ (o : Option Store). page_in o page) empty;
}

-- what passes nowhere is not found
find-none : {A : Type 0} (passes : A → Bool) (xs : List A) → count_of passes xs ≡ 0 → find passes xs ≡ None
find-none passes [] none = refl
find-none {A} passes (x ∷ xs) none = by (passes x) (find-none passes xs) none
  where
    by : (b : Bool) → (count_of passes xs ≡ 0 → find passes xs ≡ None) → cond b (1 + count_of passes xs) (count_of passes xs) ≡ 0 → cond b (Some x) (find passes xs) ≡ None
    by true rest none = absurd (omega arith)
    by false rest none = rest none

-- what was found is found still in a longer account
class_of-longer : (account : List Class) (last class : Class) (region page : ℕ) → class_of account region page ≡ Some class → class_of (account ++ (last ∷ [])) region page ≡ Some class
class_of-longer account last class region page there = find-append (has_member region page) account (last ∷ []) ∙ rw there refl

-- a page of no class is found in its own, which comes last
class_of-last : (account : List Class) (region page : ℕ) → count_of (has_member region page) account ≡ 0 → class_of (account ++ (class_for region page ∷ [])) region page ≡ Some (class_for region page)
class_of-last account region page none =
    find-append (has_member region page) account (class_for region page ∷ []) ∙ rw (find-none (has_member region page) account none) (grind (arith, nat_tests))

-- a page that a store had not, and another one, after a page was put there
absent-put : (o : Option Store) (page q : ℕ) (p : Page) → q ≢ page → page_in o q ≡ None → page_in (option_map (λ store. changed store page (Some p)) o) q ≡ None
absent-put None page q p other absent = refl
absent-put (Some store) page q p other absent = let test : nat_eq q page ≡ false = grind (arith, nat_tests) in rw test absent

-- what an added page leaves
after-added : (c : Content) (region page rights : ℕ) (bytes : List ℕ) → (add_page_of c region page rights bytes).answer ≡ Ok tt
    → (add_page_of c region page rights bytes).after ≡ with_account (with_page c region page (page_of_bytes rights bytes)) (c.account ++ (class_for region page ∷ []))
unfolding add_page_of
after-added c region page rights bytes made = by (is_full c) made
  where
    longer : Content
    longer = with_account (with_page c region page (page_of_bytes rights bytes)) (c.account ++ (class_for region page ∷ []))

    by : (full : Bool) → (cond {A = CallOutcome (Result (Unit {0}) NoFrame)} full (record { answer = Err no_frame; after = c }) (record { answer = Ok tt; after = longer })).answer ≡ Ok tt
        → (cond {A = CallOutcome (Result (Unit {0}) NoFrame)} full (record { answer = Err no_frame; after = c }) (record { answer = Ok tt; after = longer })).after ≡ longer
    by true made = absurd (cc)
    by false made = refl

-- one page more, where a frame was free
first-more : (region page rights : ℕ) (c : Content) → IsWhole c → (add_page_of c region page rights []).answer ≡ Ok tt → HasFirstPages region page c
    → HasFirstPages region (page + 1) (add_page_of c region page rights []).after
first-more region page rights c whole made first = record {
  store = add_page-regions c region page rights [] region ∙ first.store;
  own = λ q below. rw (after-added c region page rights [] made) (own q (eq-or-lt_of_le (let near : q ≤ page = omega arith in near)));
  absent = λ q past. rw (after-added c region page rights [] made) (ap (λ (o : Option Store). page_in o q) (changed-there c.stores region _) ∙ absent-put (c.stores region) page q _ (λ e. omega arith) (first.absent q (omega arith)));
}
  where
    none : count_of (has_member region page) c.account ≡ 0
    none = whole.pages region page ∙ rw (first.absent page (omega arith)) refl

    own : (q : ℕ) → (q ≡ page) ⊎ (q < page) → IsOwn region q (with_account (with_page c region page (page_of_bytes rights [])) (c.account ++ (class_for region page ∷ [])))
    own q (inl same) = rw same (record { class = class_for region page; there = class_of-last c.account region page none; home = refl; alone = refl })
    own q (inr below) =
        let old = first.own q below in
        record { class = old.class; there = class_of-longer c.account (class_for region page) old.class region q old.there; home = old.home; alone = old.alone }

-- One page more is added to what so many left, and after a refusal nothing more is.
then-added : (c : Content) (region rights count : ℕ) → (add_pages_of c region rights count).answer ≡ Ok tt
    → add_pages_of c region rights (count + 1) ≡ add_page_of (add_pages_of c region rights count).after region count rights []
unfolding add_pages_of
then-added c region rights count made = rw add-one (rw made refl)

then-refused : (c : Content) (region rights count : ℕ) (refused : NoFrame) → (add_pages_of c region rights count).answer ≡ Err refused
    → add_pages_of c region rights (suc count) ≡ record { answer = Err refused; after = (add_pages_of c region rights count).after }
unfolding add_pages_of
then-refused c region rights count refused stops = rw stops refl

-- an outcome that is refused, in its parts
refused-outcome : (o : CallOutcome (Result (Unit {0}) NoFrame)) (refused : NoFrame) → o.answer ≡ Err refused → o ≡ record { answer = Err refused; after = o.after }
refused-outcome o refused stops = ap (λ (answer : Result (Unit {0}) NoFrame). record { answer = answer; after = o.after }) stops

stays-refused : (c : Content) (region rights count more : ℕ) (refused : NoFrame) → (add_pages_of c region rights count).answer ≡ Err refused → count ≤ more
    → add_pages_of c region rights more ≡ record { answer = Err refused; after = (add_pages_of c region rights count).after }
stays-refused c region rights count zero refused stops most =
    let none : zero ≡ count = omega arith in
    ap (add_pages_of c region rights) none ∙ refused-outcome (add_pages_of c region rights count) refused stops
stays-refused c region rights count (suc more) refused stops most = by (eq-or-lt_of_le most) (stays-refused c region rights count more refused stops)
  where
    by : (count ≡ suc more) ⊎ (count < suc more) → (count ≤ more → add_pages_of c region rights more ≡ record { answer = Err refused; after = (add_pages_of c region rights count).after })
        → add_pages_of c region rights (suc more) ≡ record { answer = Err refused; after = (add_pages_of c region rights count).after }
    by (inl same) rest = ap (add_pages_of c region rights) (sym same) ∙ refused-outcome (add_pages_of c region rights count) refused stops
    by (inr below) rest =
        let before = rest (omega arith) in
        then-refused c region rights more refused (ap (λ (o : CallOutcome (Result (Unit {0}) NoFrame)). o.answer) before)
        ∙ ap (λ (o : CallOutcome (Result (Unit {0}) NoFrame)). record { answer = Err refused; after = o.after }) before

-- What a space stands for after so many pages were added.
pub record HasAdded {S : Type 0} (stands_for : S → Content → Type 0) (old new : S) (region rights count : ℕ) : Type 0 where
  pub first : ∥ StandsFor stands_for new (HasFirstPages region count) ∥₁
  pub made : (c : Content) → stands_for old c → (add_pages_of c region rights count).answer ≡ Ok tt
  pub after : (c : Content) → stands_for old c → stands_for new (add_pages_of c region rights count).after

-- none at first
pub none-added : {S : Type 0} (stands_for : S → Content → Type 0) (s : S) (region rights : ℕ) → ∥ StandsFor stands_for s (HasEmptyStore region) ∥₁ → HasAdded stands_for s s region rights 0
unfolding add_pages_of
none-added stands_for s region rights empty = record {
  first = stands-weaker stands_for s (HasEmptyStore region) (HasFirstPages region 0) (first-none region) empty;
  made = λ c _. refl;
  after = λ c stands. stands;
}

-- A call that adds a page to what a space stands for.
module _ {S : Type 0} (stands_for : S → Content → Type 0) (old mid new : S) (region rights count : ℕ) (after : (c : Content) → stands_for mid c → stands_for new (add_page_of c region count rights []).after) where
  -- where it finds a frame there is one page more
  pub one-added : ((c : Content) → stands_for mid c → IsWhole c) → ((c : Content) → stands_for mid c → Ok tt ≡ (add_page_of c region count rights []).answer)
      → HasAdded stands_for old mid region rights count → HasAdded stands_for old new region rights (count + 1)
  one-added whole made had = record {
    first = stands-after stands_for mid new (λ c. (add_page_of c region count rights []).after) after (HasFirstPages region count) (HasFirstPages region (count + 1))
        (λ c stands first. first-more region count rights c (whole c stands) (sym (made c stands)) first) had.first;
    made = λ c stands. ap (λ (o : CallOutcome (Result (Unit {0}) NoFrame)). o.answer) (then-added c region rights count (had.made c stands)) ∙ sym (made _ (had.after c stands));
    after = λ c stands. rw (then-added c region rights count (had.made c stands)) (after _ (had.after c stands));
  }

  -- where it finds none that is the end
  pub one-refused : (pages : ℕ) (refused : NoFrame) → count < pages → ((c : Content) → stands_for mid c → Err refused ≡ (add_page_of c region count rights []).answer)
      → HasAdded stands_for old mid region rights count → (c : Content) → stands_for old c → ((add_pages_of c region rights pages).answer ≡ Err refused) × stands_for new (add_pages_of c region rights pages).after
  one-refused pages refused below stops had c stands =
      let next = then-added c region rights count (had.made c stands) in
      let stopped = ap (λ (o : CallOutcome (Result (Unit {0}) NoFrame)). o.answer) next ∙ sym (stops _ (had.after c stands)) in
      let last = stays-refused c region rights (count + 1) pages refused stopped (omega arith) in
      (ap (λ (o : CallOutcome (Result (Unit {0}) NoFrame)). o.answer) last, rw (last, next) (after _ (had.after c stands)))

-- What a space stands for after so many granules were stored.
pub record HasSeeded {S : Type 0} (stands_for : S → Content → Type 0) (old new : S) (region : ℕ) (cap : Cap) (pages count : ℕ) : Type 0 where
  pub own : (page : ℕ) → page < pages → ∥ StandsFor stands_for new (IsOwn region page) ∥₁
  pub after : (c : Content) → stands_for old c → stands_for new (seed_pages_of c region cap count)

-- none at first
pub none-seeded : {S : Type 0} (stands_for : S → Content → Type 0) (s : S) (region : ℕ) (cap : Cap) (pages : ℕ) → ((page : ℕ) → page < pages → ∥ StandsFor stands_for s (IsOwn region page) ∥₁)
    → HasSeeded stands_for s s region cap pages 0
unfolding seed_pages_of
none-seeded stands_for s region cap pages own = record { own = own; after = λ c stands. stands }

-- the account stays where a granule is stored
own-seeded : (region page at : ℕ) (cap : Cap) (c : Content) → IsOwn region page c → IsOwn region page (seed_cap_of c region at cap)
unfolding seed_cap_of
own-seeded region page at cap c own = record { class = own.class; there = own.there; home = own.home; alone = own.alone }

-- one granule more
pub one-seeded : {S : Type 0} (stands_for : S → Content → Type 0) (old mid new : S) (region : ℕ) (cap : Cap) (pages count : ℕ)
    → ((c : Content) → stands_for mid c → stands_for new (seed_cap_of c region (count * page_bytes) cap)) → HasSeeded stands_for old mid region cap pages count → HasSeeded stands_for old new region cap pages (count + 1)
unfolding seed_pages_of
one-seeded stands_for old mid new region cap pages count after had = record {
  own = λ page below. stands-after stands_for mid new (λ c. seed_cap_of c region (count * page_bytes) cap) after (IsOwn region page) (IsOwn region page) (λ c _. own-seeded region page (count * page_bytes) cap c) (had.own page below);
  after = λ c stands. rw add-one (after _ (had.after c stands));
}
