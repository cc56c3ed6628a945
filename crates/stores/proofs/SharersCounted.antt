-- How many pages share a frame: over plain functions for the frames of pages and the owners of frames.
use Rattle.std.proofs.Common.{◌≡◌, ◌≢◌, ℕ, ◌+◌, ◌<◌, ◌≤◌, ◌⊎◌, inl, inr, ◌&&◌, ◌||◌, nat_eq, Bool, true, false, cond, Option, Some, None, List, [], ◌∷◌, length, map, refl, ap, arith, All}
use Rattle.std.specs.List.{list_any, IsDistinct, AllByRecursion}
use Rattle.std.proofs.lemmas.Bool.Decides.{eqb_tells, nat_tests}
use Rattle.std.proofs.lemmas.List.{length-map}
use Rattle.std.proofs.lemmas.List.Elements.{All-nil, All-cons, All-head, All-tail, All-weaker}
use Rattle.std.proofs.lemmas.Map.Keys.{IsDistinct-cons}
use Rattle.std.proofs.lemmas.Map.Steps.{length-le_from_distinct_below}
use Rattle.machine_types.specs.Lists.{count_of}
use Rattle.machine_types.specs.Accounts.{Member, Class, is_member}
use Rattle.frame_owners.specs.Homes.{Owner}
use Rattle.stores.specs.Boards.{is_frame, KeepsAccount}
use Rattle.stores.proofs.FoundClasses.{class-found}

-- a page that is counted for a frame has it
is_frame-some : (f : ℕ) (o : Option ℕ) → 0 < cond (is_frame f o) 1 0 → o ≡ Some f
is_frame-some f None counted = absurd (omega arith)
is_frame-some f (Some g) counted = by (eqb_tells g f)
  where
    by : ((nat_eq g f ≡ true) × (g ≡ f)) ⊎ ((nat_eq g f ≡ false) × (g ≢ f)) → Some g ≡ Some f
    by (inl (test, same)) = ap Some same
    by (inr (test, other)) = absurd (let none = rw test at counted in omega arith)

-- where each page is counted as often as it has a frame, or less, each member has that frame
pub members-have-frame : (frame_at : ℕ → ℕ → Option ℕ) (f : ℕ) (members : List Member) → ((r p : ℕ) → count_of (is_member r p) members ≤ cond (is_frame f (frame_at r p)) 1 0)
    → All (λ m. frame_at m.region m.page ≡ Some f) members
members-have-frame frame_at f [] counted = All-nil (λ m. frame_at m.region m.page ≡ Some f)
members-have-frame frame_at f (m ∷ members) counted =
    All-cons (λ m. frame_at m.region m.page ≡ Some f) m members (is_frame-some f (frame_at m.region m.page) first) (members-have-frame frame_at f members (λ r p. rest r p (is_member r p m) (counted r p)))
  where
    itself : is_member m.region m.page m ≡ true
    itself = grind (arith, nat_tests)

    first : 0 < cond (is_frame f (frame_at m.region m.page)) 1 0
    first = let most = rw itself at (counted m.region m.page) in omega arith

    rest : (r p : ℕ) (b : Bool) → cond b (1 + count_of (is_member r p) members) (count_of (is_member r p) members) ≤ cond (is_frame f (frame_at r p)) 1 0
        → count_of (is_member r p) members ≤ cond (is_frame f (frame_at r p)) 1 0
    rest r p true most = omega arith
    rest r p false most = most

abbrev regions_of : List Member → List ℕ
regions_of members = map (λ m. m.region) members

-- a region whose page is not counted is the region of no member with that page number
none-of-region : (region page : ℕ) (members : List Member) → All (λ m. m.page ≡ page) members → count_of (is_member region page) members ≡ 0 → AllByRecursion (λ r. nat_eq region r ≡ false) (regions_of members)
none-of-region region page [] number none = tt
none-of-region region page (m ∷ members) number none =
    by (nat_eq m.region region) refl none (none-of-region region page members (All-tail (λ m. m.page ≡ page) m members number))
  where
    same-page : nat_eq m.page page ≡ true
    same-page = let same = All-head (λ m. m.page ≡ page) m members number in grind (arith, nat_tests)

    by : (b : Bool) → nat_eq m.region region ≡ b → cond (b && nat_eq m.page page) (1 + count_of (is_member region page) members) (count_of (is_member region page) members) ≡ 0
        → (count_of (is_member region page) members ≡ 0 → AllByRecursion (λ r. nat_eq region r ≡ false) (regions_of members))
        → (nat_eq region m.region ≡ false) × AllByRecursion (λ r. nat_eq region r ≡ false) (regions_of members)
    by true test none rest = absurd (let more = rw same-page at none in omega arith)
    by false test none rest = (grind (arith, nat_tests), rest none)

-- members with one page number, each counted once at most, are of distinct regions
regions-differ : (page : ℕ) (members : List Member) → All (λ m. m.page ≡ page) members → ((r : ℕ) → count_of (is_member r page) members ≤ 1) → IsDistinct nat_eq (regions_of members)
unfolding IsDistinct
regions-differ page [] number once = tt
regions-differ page (m ∷ members) number once =
    IsDistinct-cons nat_eq m.region (regions_of members) (none-of-region m.region page members numbers none) (regions-differ page members numbers (λ r. fewer r (is_member r page m) (once r)))
  where
    numbers : All (λ m. m.page ≡ page) members
    numbers = All-tail (λ m. m.page ≡ page) m members number

    itself : is_member m.region page m ≡ true
    itself = let same = All-head (λ m. m.page ≡ page) m members number in grind (arith, nat_tests)

    none : count_of (is_member m.region page) members ≡ 0
    none = let one = rw itself at (once m.region) in omega arith

    fewer : (r : ℕ) (b : Bool) → cond b (1 + count_of (is_member r page) members) (count_of (is_member r page) members) ≤ 1 → count_of (is_member r page) members ≤ 1
    fewer r true most = omega arith
    fewer r false most = most

-- what all regions are below is above each of them
regions-below : (most : ℕ) (members : List Member) → All (λ m. m.region < most) members → (q : ℕ) → list_any (nat_eq q) (regions_of members) ≡ true → q < most
regions-below most [] below q found = absurd (cc)
regions-below most (m ∷ members) below q found =
    by (nat_eq q m.region) refl found (regions-below most members (All-tail (λ m. m.region < most) m members below) q)
  where
    by : (b : Bool) → nat_eq q m.region ≡ b → (b || list_any (nat_eq q) (regions_of members)) ≡ true → (list_any (nat_eq q) (regions_of members) ≡ true → q < most) → q < most
    by true test found rest = let first = All-head (λ m. m.region < most) m members below in grind (arith, nat_tests)
    by false test found rest = rest found

-- A frame has at most as many sharers as there are regions: its pages have one number, and each is of a region below that.
pub sharers-most : {frame_at : ℕ → ℕ → Option ℕ} {owner_at : ℕ → Owner} {used_at : ℕ → Bool} {size : ℕ} {frames : List ℕ} {account : List Class} → KeepsAccount frame_at owner_at used_at size frames account
    → (most : ℕ) → ((r p f : ℕ) → frame_at r p ≡ Some f → r < most) → (region page f : ℕ) → frame_at region page ≡ Some f → (owner_at f).sharers ≤ most
sharers-most {frame_at = frame_at} kept most within region page f here =
    let found = class-found kept region page f here in
    let members : List Member = found.class.members in
    let have = members-have-frame frame_at f members (λ r p. let same = found.is.members r p in omega arith) in
    let numbers = All-weaker (λ m. frame_at m.region m.page ≡ Some f) (λ m. m.page ≡ page) (λ m at. kept.number m.region m.page region page f at here) members have in
    let below = All-weaker (λ m. frame_at m.region m.page ≡ Some f) (λ m. m.region < most) (λ m at. within m.region m.page f at) members have in
    let once : (r : ℕ) → count_of (is_member r page) members ≤ 1 = λ r. rw (found.is.members r page) (one-most (is_frame f (frame_at r page))) in
    let few = length-le_from_distinct_below (regions_of members) most (regions-differ page members numbers once) (regions-below most members below) in
    let lengths : length (regions_of members) ≡ length members = length-map members (λ m. m.region) in
    let sharers = found.is.sharers in
    omega arith
  where
    one-most : (b : Bool) → cond {A = ℕ} b 1 0 ≤ 1
    one-most true = omega arith
    one-most false = omega arith
