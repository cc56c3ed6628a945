-- A page that leaves its frame: over plain functions for the frames of pages, the owners and the use of frames.
use Rattle.std.proofs.Common.{◌≡◌, ◌≢◌, ◌∙◌, ◌⊎◌, inl, inr, ℕ, ◌+◌, ◌-◌, ◌<◌, nat_eq, nat_lt, not, Bool, true, false, cond, Option, Some, None, List, [], ◌∷◌, length, map, filter, refl, sym, ap, arith}
use Rattle.std.proofs.lemmas.Bool.{false≢true, true≢false}
use Rattle.std.proofs.lemmas.Bool.Decides.{nat_tests}
use Rattle.machine_types.specs.Lists.{count_of, IsIn, AreDistinct}
use Rattle.machine_types.specs.Stores.{changed}
use Rattle.machine_types.specs.Accounts.{Member, Class, is_member, has_members}
use Rattle.machine_types.specs.Touches.{without_member}
use Rattle.frame_owners.specs.Homes.{Owner}
use Rattle.contents.proofs.ListCounts.{count-not, count-filter_kept, length-filter}
use Rattle.contents.proofs.OtherStores.{changed-elsewhere, changed-there}
use Rattle.stores.specs.Boards.{is_frame, IsFrameOf, AreFramesOf, KeepsAccount}
use Rattle.stores.proofs.BoardParts.{placed, placed-there, placed-elsewhere}
use Rattle.stores.proofs.FramesShared.{is_frame-same}
use Rattle.stores.proofs.FoundClasses.{only-page}
use Rattle.stores.proofs.FrameSteps.{equal-or-not, page-or-other, AreFramesOf-map}

-- the owner of a frame that a page left
abbrev pub left_owner : Owner → Owner
left_owner o = record { home = o.home; sharers = o.sharers - 1 }

-- what passes is counted no more once it is filtered out
count-filtered : {A : Type 0} (passes : A → Bool) (xs : List A) → count_of passes (filter (λ x. not (passes x)) xs) ≡ 0
count-filtered passes [] = refl
count-filtered {A} passes (x ∷ xs) = by (count-filtered passes xs) (passes x) refl
  where
    by : count_of passes (filter (λ x. not (passes x)) xs) ≡ 0 → (b : Bool) → passes x ≡ b
        → count_of passes (cond (not b) (x ∷ filter (λ x. not (passes x)) xs) (filter (λ x. not (passes x)) xs)) ≡ 0
    by none true test = none
    by none false test = rw test none

-- a member is one page only
other-page : (r p region page : ℕ) → (r ≢ region) ⊎ (p ≢ page) → (m : Member) → is_member r p m ≡ true → not (is_member region page m) ≡ true
other-page r p region page (inl other) m here = grind (arith, nat_tests)
other-page r p region page (inr other) m here = grind (arith, nat_tests)

-- the members that are left, where the page is gone
members-left : (frame_at : ℕ → ℕ → Option ℕ) (owner_at : ℕ → Owner) (region page f : ℕ) (class : Class) → IsFrameOf frame_at owner_at f class
    → (r p : ℕ) → count_of (is_member r p) (without_member region page class).members ≡ cond (is_frame f (placed frame_at region page None r p)) 1 0
members-left frame_at owner_at region page f class is r p = by (page-or-other r p region page)
  where
    by : ((r ≡ region) × (p ≡ page)) ⊎ ((r ≢ region) ⊎ (p ≢ page))
        → count_of (is_member r p) (without_member region page class).members ≡ cond (is_frame f (placed frame_at region page None r p)) 1 0
    by (inl (same, alike)) =
        rw (same, alike) (count-filtered (is_member region page) class.members ∙ sym (ap (λ (o : Option ℕ). cond {A = ℕ} (is_frame f o) 1 0) (placed-there frame_at region page None)))
    by (inr apart) =
        count-filter_kept (is_member r p) (λ m. not (is_member region page m)) (other-page r p region page apart) class.members
        ∙ is.members r p
        ∙ sym (ap (λ (o : Option ℕ). cond {A = ℕ} (is_frame f o) 1 0) (placed-elsewhere frame_at region page None r p apart))

-- A page that had a frame leaves its class: each class is that of its frame still.
frame-left : (frame_at : ℕ → ℕ → Option ℕ) (owner_at : ℕ → Owner) (region page f g : ℕ) (class : Class) → frame_at region page ≡ Some f → IsFrameOf frame_at owner_at g class
    → IsFrameOf (placed frame_at region page None) (changed owner_at f (left_owner (owner_at f))) g (without_member region page class)
frame-left frame_at owner_at region page f g class here is = by (equal-or-not g f)
  where
    fewer : length (without_member region page class).members + cond (is_frame g (Some f)) 1 0 ≡ length class.members
    fewer =
        let counted : count_of (is_member region page) class.members ≡ cond (is_frame g (Some f)) 1 0 = is.members region page ∙ ap (λ (o : Option ℕ). cond {A = ℕ} (is_frame g o) 1 0) here in
        let all = count-not (is_member region page) class.members in
        let kept = length-filter (λ m. not (is_member region page m)) class.members in
        omega arith

    by : (g ≡ f) ⊎ (g ≢ f) → IsFrameOf (placed frame_at region page None) (changed owner_at f (left_owner (owner_at f))) g (without_member region page class)
    by (inl same) =
        let owner : changed owner_at f (left_owner (owner_at f)) g ≡ left_owner (owner_at g)
        = ap (changed owner_at f (left_owner (owner_at f))) same ∙ changed-there owner_at f (left_owner (owner_at f)) ∙ ap (λ (h : ℕ). left_owner (owner_at h)) (sym same) in
        let one : cond {A = ℕ} (is_frame g (Some f)) 1 0 ≡ 1 = rw same (rw (is_frame-same f) refl) in
        record {
          home = ap (λ (o : Owner). o.home) owner ∙ is.home;
          sharers = ap (λ (o : Owner). o.sharers) owner ∙ (let sharers = is.sharers in let all = fewer in omega arith);
          members = members-left frame_at owner_at region page g class is;
        }
    by (inr other) =
        let owner : changed owner_at f (left_owner (owner_at f)) g ≡ owner_at g = changed-elsewhere owner_at f g (left_owner (owner_at f)) other in
        let test : nat_eq f g ≡ false = let apart : f ≢ g = λ e. other (sym e) in grind (arith, nat_tests) in
        let none : cond {A = ℕ} (is_frame g (Some f)) 1 0 ≡ 0 = rw test refl in
        record {
          home = ap (λ (o : Owner). o.home) owner ∙ is.home;
          sharers = ap (λ (o : Owner). o.sharers) owner ∙ (let sharers = is.sharers in let all = fewer in omega arith);
          members = members-left frame_at owner_at region page g class is;
        }

-- Frames that nobody shares any more, and classes without members.

in-filter : (passes : ℕ → Bool) (frames : List ℕ) (g : ℕ) → IsIn g (filter passes frames) → IsIn g frames × (passes g ≡ true)
in-filter passes [] g i = absurd i
in-filter passes (f ∷ frames) g i = by (in-filter passes frames g) (passes f) refl i
  where
    by : (IsIn g (filter passes frames) → IsIn g frames × (passes g ≡ true)) → (b : Bool) → passes f ≡ b → IsIn g (cond b (f ∷ filter passes frames) (filter passes frames)) → IsIn g (f ∷ frames) × (passes g ≡ true)
    by rest true test (inl same) = (inl same, ap passes (sym same) ∙ test)
    by rest true test (inr i) = (inr (rest i).0, (rest i).1)
    by rest false test i = (inr (rest i).0, (rest i).1)

filter-in : (passes : ℕ → Bool) (frames : List ℕ) (g : ℕ) → IsIn g frames → passes g ≡ true → IsIn g (filter passes frames)
filter-in passes [] g i here = absurd i
filter-in passes (f ∷ frames) g i here = by (λ j. filter-in passes frames g j here) (passes f) refl i
  where
    by : (IsIn g frames → IsIn g (filter passes frames)) → (b : Bool) → passes f ≡ b → (f ≡ g) ⊎ IsIn g frames → IsIn g (cond b (f ∷ filter passes frames) (filter passes frames))
    by rest true test (inl same) = inl same
    by rest true test (inr i) = inr (rest i)
    by rest false test (inl same) = absurd (true≢false (sym here ∙ ap passes (sym same) ∙ test))
    by rest false test (inr i) = rest i

distinct-filter : (passes : ℕ → Bool) (frames : List ℕ) → AreDistinct frames → AreDistinct (filter passes frames)
distinct-filter passes [] are = tt
distinct-filter passes (f ∷ frames) are = by (distinct-filter passes frames are.1) (passes f)
  where
    by : AreDistinct (filter passes frames) → (b : Bool) → AreDistinct (cond b (f ∷ filter passes frames) (filter passes frames))
    by rest true = (λ i. are.0 (in-filter passes frames f i).0, rest)
    by rest false = rest

-- the frame has a sharer
abbrev pub is_taken : (ℕ → Owner) → ℕ → Bool
is_taken owner_at f = nat_lt 0 (owner_at f).sharers

-- a class has members exactly where its frame has sharers
AreFramesOf-filter : (frame_at : ℕ → ℕ → Option ℕ) (owner_at : ℕ → Owner) (frames : List ℕ) (account : List Class) → AreFramesOf frame_at owner_at frames account
    → AreFramesOf frame_at owner_at (filter (is_taken owner_at) frames) (filter has_members account)
AreFramesOf-filter frame_at owner_at [] [] are = tt
AreFramesOf-filter frame_at owner_at [] (class ∷ account) are = absurd are
AreFramesOf-filter frame_at owner_at (f ∷ frames) [] are = absurd are
AreFramesOf-filter frame_at owner_at (f ∷ frames) (class ∷ account) are =
    by (AreFramesOf-filter frame_at owner_at frames account are.1) (is_taken owner_at f) (has_members class) (same (owner_at f).sharers (length class.members) are.0.sharers)
  where
    same : (sharers members : ℕ) → sharers ≡ members → nat_lt 0 sharers ≡ not (nat_eq members 0)
    same sharers members equal = grind (arith, nat_tests)

    by : AreFramesOf frame_at owner_at (filter (is_taken owner_at) frames) (filter has_members account) → (a b : Bool) → a ≡ b
        → AreFramesOf frame_at owner_at (cond a (f ∷ filter (is_taken owner_at) frames) (filter (is_taken owner_at) frames)) (cond b (class ∷ filter has_members account) (filter has_members account))
    by rest true true equal = (are.0, rest)
    by rest true false equal = absurd (true≢false equal)
    by rest false true equal = absurd (false≢true equal)
    by rest false false equal = rest

-- A page of a kept account that has this frame, and leaves it.
module _ {frame_at : ℕ → ℕ → Option ℕ} {owner_at : ℕ → Owner} {used_at : ℕ → Bool} {size : ℕ} {frames : List ℕ} {account : List Class} (kept : KeepsAccount frame_at owner_at used_at size frames account)
    (region page f : ℕ) (here : frame_at region page ≡ Some f) where
  abbrev pub left_frame_at : ℕ → ℕ → Option ℕ
  left_frame_at = placed frame_at region page None

  abbrev pub left_owner_at : ℕ → Owner
  left_owner_at = changed owner_at f (left_owner (owner_at f))

  -- the others have the frames that they had
  still-has : (r p g : ℕ) → left_frame_at r p ≡ Some g → ((r ≢ region) ⊎ (p ≢ page)) × (frame_at r p ≡ Some g)
  still-has r p g there = by (page-or-other r p region page)
    where
      by : ((r ≡ region) × (p ≡ page)) ⊎ ((r ≢ region) ⊎ (p ≢ page)) → ((r ≢ region) ⊎ (p ≢ page)) × (frame_at r p ≡ Some g)
      by (inl (same, alike)) = let none : left_frame_at r p ≡ None = rw (same, alike) (placed-there frame_at region page None) in absurd (cc)
      by (inr apart) = (apart, sym (placed-elsewhere frame_at region page None r p apart) ∙ there)

  classes-left : AreFramesOf left_frame_at left_owner_at frames (map (without_member region page) account)
  classes-left = AreFramesOf-map frame_at left_frame_at owner_at left_owner_at (without_member region page) frames account (λ g class i is. frame-left frame_at owner_at region page f g class here is) kept.classes

  -- the sharers of its frame, and of another one
  sharers-here : (g : ℕ) → g ≡ f → (left_owner_at g).sharers ≡ (owner_at f).sharers - 1
  sharers-here g same = ap (λ (h : ℕ). (left_owner_at h).sharers) same ∙ ap (λ (o : Owner). o.sharers) (changed-there owner_at f (left_owner (owner_at f)))

  sharers-there : (g : ℕ) → g ≢ f → (left_owner_at g).sharers ≡ (owner_at g).sharers
  sharers-there g other = ap (λ (o : Owner). o.sharers) (changed-elsewhere owner_at f g (left_owner (owner_at f)) other)

  -- its frame had a sharer
  some-sharer : nat_lt 0 (owner_at f).sharers ≡ true
  some-sharer = sym (kept.counted f) ∙ kept.used f (kept.listed region page f here)

  -- Others share the frame: the class keeps its place without the page.
  pub kept-left : 1 < (owner_at f).sharers → KeepsAccount left_frame_at left_owner_at used_at size frames (map (without_member region page) account)
  kept-left many = record {
    distinct = kept.distinct;
    classes = classes-left;
    within = kept.within;
    taken = kept.taken;
    used = kept.used;
    listed = λ r p g there. kept.listed r p g (still-has r p g there).1;
    counted = λ g. counted g (equal-or-not g f);
    number = λ r p s q g there also. kept.number r p s q g (still-has r p g there).1 (still-has s q g also).1;
  }
    where
      counted : (g : ℕ) → (g ≡ f) ⊎ (g ≢ f) → used_at g ≡ nat_lt 0 (left_owner_at g).sharers
      counted g (inl same) =
          let more : nat_lt 0 ((owner_at f).sharers - 1) ≡ true = grind (arith, nat_tests) in
          ap used_at same ∙ kept.used f (kept.listed region page f here) ∙ sym (ap (nat_lt 0) (sharers-here g same) ∙ more)
      counted g (inr other) = kept.counted g ∙ sym (ap (nat_lt 0) (sharers-there g other))

  -- Where the frames that are used afterwards are those that have a sharer still, classes without members go, and their frames.
  pub kept-filtered : (later_used_at : ℕ → Bool) → ((g : ℕ) → later_used_at g ≡ is_taken left_owner_at g)
      → KeepsAccount left_frame_at left_owner_at later_used_at size (filter (is_taken left_owner_at) frames) (filter has_members (map (without_member region page) account))
  kept-filtered later_used_at counted = record {
    distinct = distinct-filter (is_taken left_owner_at) frames kept.distinct;
    classes = AreFramesOf-filter left_frame_at left_owner_at frames (map (without_member region page) account) classes-left;
    within = λ g i. kept.within g (in-filter (is_taken left_owner_at) frames g i).0;
    taken = λ g taken. let shared = sym (counted g) ∙ taken in filter-in (is_taken left_owner_at) frames g (kept.taken g (kept.counted g ∙ was-taken g shared (equal-or-not g f))) shared;
    used = λ g i. counted g ∙ (in-filter (is_taken left_owner_at) frames g i).1;
    listed = λ r p g there. listed r p g (still-has r p g there).0 (still-has r p g there).1;
    counted = counted;
    number = λ r p s q g there also. kept.number r p s q g (still-has r p g there).1 (still-has s q g also).1;
  }
    where
      was-taken : (g : ℕ) → is_taken left_owner_at g ≡ true → (g ≡ f) ⊎ (g ≢ f) → nat_lt 0 (owner_at g).sharers ≡ true
      was-taken g shared (inl same) = ap (λ (h : ℕ). nat_lt 0 (owner_at h).sharers) same ∙ some-sharer
      was-taken g shared (inr other) = sym (ap (nat_lt 0) (sharers-there g other)) ∙ shared

      -- a page that has the frame still is another sharer of it
      still-taken : (r p g : ℕ) → (r ≢ region) ⊎ (p ≢ page) → frame_at r p ≡ Some g → (g ≡ f) ⊎ (g ≢ f) → is_taken left_owner_at g ≡ true
      still-taken r p g apart there (inl same) = ap (nat_lt 0) (sharers-here g same) ∙ more (owner_at f).sharers some-sharer (λ one. alone apart (only-page kept r p region page f one (there ∙ ap Some same) here))
        where
          alone : (r ≢ region) ⊎ (p ≢ page) → (r ≡ region) × (p ≡ page) → ⊥
          alone (inl other) is = other is.0
          alone (inr other) is = other is.1

          more : (n : ℕ) → nat_lt 0 n ≡ true → (n ≡ 1 → ⊥) → nat_lt 0 (n - 1) ≡ true
          more n some several = grind (arith, nat_tests)
      still-taken r p g apart there (inr other) = ap (nat_lt 0) (sharers-there g other) ∙ sym (kept.counted g) ∙ kept.used g (kept.listed r p g there)

      listed : (r p g : ℕ) → (r ≢ region) ⊎ (p ≢ page) → frame_at r p ≡ Some g → IsIn g (filter (is_taken left_owner_at) frames)
      listed r p g apart there = filter-in (is_taken left_owner_at) frames g (kept.listed r p g there) (still-taken r p g apart there (equal-or-not g f))

  -- Nobody else shared the frame: it isn't used any more, and its class goes.
  pub kept-last : (owner_at f).sharers ≡ 1
      → KeepsAccount left_frame_at left_owner_at (changed used_at f false) size (filter (is_taken left_owner_at) frames) (filter has_members (map (without_member region page) account))
  kept-last one = kept-filtered (changed used_at f false) (λ g. by g (equal-or-not g f))
    where
      by : (g : ℕ) → (g ≡ f) ⊎ (g ≢ f) → changed used_at f false g ≡ is_taken left_owner_at g
      by g (inl same) = ap (changed used_at f false) same ∙ changed-there used_at f false ∙ sym (ap (nat_lt 0) (sharers-here g same ∙ ap (λ (n : ℕ). n - 1) one))
      by g (inr other) = changed-elsewhere used_at f g false other ∙ kept.counted g ∙ sym (ap (nat_lt 0) (sharers-there g other))

  -- The same of a frame that others share: no class goes.
  pub kept-shared : 1 < (owner_at f).sharers
      → KeepsAccount left_frame_at left_owner_at used_at size (filter (is_taken left_owner_at) frames) (filter has_members (map (without_member region page) account))
  kept-shared many = kept-filtered used_at (kept-left many).counted
