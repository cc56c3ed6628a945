-- The members of a class that a fork shares with a child: which pages they are, and how often each is one.
use Rattle.std.proofs.Common.{◌≡◌, ◌≢◌, ◌∙◌, ◌⊎◌, inl, inr, refl, sym, ℕ, ◌+◌, ◌≤◌, ◌==◌, ◌&&◌, ◌||◌, not, nat_eq, List, [], ◌∷◌, length, cond, true, false, Bool, arith}
use Rattle.std.specs.List.{list_any}
use Rattle.std.proofs.Math.Bool.{or-false, or_assoc}
use Rattle.std.proofs.lemmas.Bool.Decides.{nat_tests, eqb_tells}
use Rattle.machine_types.specs.Lists.{count_of}
use Rattle.machine_types.specs.Accounts.{Member, Class, is_member, has_member, with_companions, shared_class}
use Rattle.contents.specs.Whole.{IsClass}
use Rattle.contents.proofs.ListCounts.{count-none, count-most, count-once}

-- Which pages are members.

-- the parts of a test of a member with a companion
with-companion : (x a t q b : Bool) → (x || ((t && q) || (a || (t && b)))) ≡ ((x || a) || (t && (q || b)))
with-companion true a t q b = refl
with-companion false a false q b = refl
with-companion false true true true b = refl
with-companion false false true true b = refl
with-companion false a true false b = refl

-- which pages are members with the companions
any-companions : (from to r p : ℕ) (members : List Member)
    → list_any (is_member r p) (with_companions from to members) ≡ (list_any (is_member r p) members || (nat_eq to r && list_any (is_member from p) members))
any-companions from to r p [] = grind arith
any-companions from to r p (m ∷ members) = by (nat_eq m.region from) (any-companions from to r p members)
  where
    rest : List Member
    rest = with_companions from to members

    by : (b : Bool) → list_any (is_member r p) rest ≡ (list_any (is_member r p) members || (nat_eq to r && list_any (is_member from p) members))
        → list_any (is_member r p) (cond b (m ∷ record { region = to; page = m.page } ∷ rest) (m ∷ rest))
        ≡ ((is_member r p m || list_any (is_member r p) members) || (nat_eq to r && ((b && nat_eq m.page p) || list_any (is_member from p) members)))
    by true h = rw h (with-companion (is_member r p m) (list_any (is_member r p) members) (nat_eq to r) (nat_eq m.page p) (list_any (is_member from p) members))
    by false h = rw h (sym (or_assoc (is_member r p m) (list_any (is_member r p) members) (nat_eq to r && list_any (is_member from p) members)))

-- a page of another region than the child is a member as before
pub other-shared : (from to r p : ℕ) (class : Class) → r ≢ to → has_member r p (shared_class from to class) ≡ has_member r p class
other-shared from to r p class apart =
    let test : nat_eq to r ≡ false = grind (arith, nat_tests) in
    any-companions from to r p class.members ∙ rw test (or-false (has_member r p class))

-- a page of the child is one where the parent's is, if it was none before
pub child-shared : (from to p : ℕ) (class : Class) → has_member to p class ≡ false → has_member to p (shared_class from to class) ≡ has_member from p class
child-shared from to p class none =
    let test : nat_eq to to ≡ true = grind (arith, nat_tests) in
    any-companions from to to p class.members ∙ rw (none, test) refl

-- no page of the region is a member
abbrev pub HasNone : ℕ → Class → Type 0
HasNone to class = (p : ℕ) → has_member to p class ≡ false

-- where a page of a child comes from
abbrev pub root : ℕ → ℕ → ℕ → ℕ
root from to r = cond (nat_eq r to) from r

-- each member is one where the page that it comes from was
pub member-rooted : (from to : ℕ) (class : Class) → HasNone to class → (r p : ℕ) → has_member r p (shared_class from to class) ≡ has_member (root from to r) p class
member-rooted from to class none r p = by (eqb_tells r to)
  where
    by : ((nat_eq r to ≡ true) × (r ≡ to)) ⊎ ((nat_eq r to ≡ false) × (r ≢ to)) → has_member r p (shared_class from to class) ≡ has_member (cond (nat_eq r to) from r) p class
    by (inl (t, same)) = rw (t, same) (child-shared from to p class (none p))
    by (inr (t, apart)) = rw t (other-shared from to r p class apart)

-- How often each is one.

-- as often as it was, and as often as the parent's, if it is the child's
count-companions : (from to r p : ℕ) (members : List Member)
    → count_of (is_member r p) (with_companions from to members) ≡ count_of (is_member r p) members + cond (nat_eq to r) (count_of (is_member from p) members) 0
count-companions from to r p [] = grind arith
count-companions from to r p (m ∷ members) = by (nat_eq m.region from) (count-companions from to r p members)
  where
    rest : List Member
    rest = with_companions from to members

    -- one member of this region and this page more, and its companion, and so many of the rest
    both : (x t q : Bool) (a b n : ℕ) → n ≡ a + cond t b 0 → cond x (1 + cond (t && q) (1 + n) n) (cond (t && q) (1 + n) n) ≡ cond x (1 + a) a + cond t (cond q (1 + b) b) 0
    both true true true a b n h = omega arith
    both true true false a b n h = omega arith
    both true false q a b n h = omega arith
    both false true true a b n h = omega arith
    both false true false a b n h = omega arith
    both false false q a b n h = omega arith

    one : (x : Bool) (a z n : ℕ) → n ≡ a + z → cond x (1 + n) n ≡ cond x (1 + a) a + z
    one true a z n h = omega arith
    one false a z n h = h

    by : (b : Bool) → count_of (is_member r p) rest ≡ count_of (is_member r p) members + cond (nat_eq to r) (count_of (is_member from p) members) 0
        → count_of (is_member r p) (cond b (m ∷ record { region = to; page = m.page } ∷ rest) (m ∷ rest))
        ≡ cond (is_member r p m) (1 + count_of (is_member r p) members) (count_of (is_member r p) members) + cond (nat_eq to r) (cond (b && nat_eq m.page p) (1 + count_of (is_member from p) members) (count_of (is_member from p) members)) 0
    by true h = both (is_member r p m) (nat_eq to r) (nat_eq m.page p) (count_of (is_member r p) members) (count_of (is_member from p) members) (count_of (is_member r p) rest) h
    by false h = one (is_member r p m) (count_of (is_member r p) members) (cond (nat_eq to r) (count_of (is_member from p) members) 0) (count_of (is_member r p) rest) h

-- a class with companions has no fewer members
companions-some : (from to : ℕ) (members : List Member) → not (length members == 0) ≡ true → not (length (with_companions from to members) == 0) ≡ true
companions-some from to [] h = h
companions-some from to (m ∷ members) h = by (nat_eq m.region from)
  where
    by : (b : Bool) → not (length (cond b (m ∷ record { region = to; page = m.page } ∷ with_companions from to members) (m ∷ with_companions from to members)) == 0) ≡ true
    by true = grind (arith, nat_tests)
    by false = grind (arith, nat_tests)

-- so a class has each of its members once with the companions too
pub IsClass-shared_class : (from to : ℕ) (class : Class) → HasNone to class → IsClass class → IsClass (shared_class from to class)
IsClass-shared_class from to class none is = record {
  some = companions-some from to class.members is.some;
  once = λ r p. count-once (is_member r p) (with_companions from to class.members) (most r p);
}
  where
    most : (r p : ℕ) → count_of (is_member r p) (with_companions from to class.members) ≤ 1
    most r p =
        let old : count_of (is_member r p) class.members ≤ 1 = count-most (has_member r p class) _ (is.once r p) in
        let parent : count_of (is_member from p) class.members ≤ 1 = count-most (has_member from p class) _ (is.once from p) in
        rw (count-companions from to r p class.members) (by (eqb_tells to r) old parent)
      where
        by : ((nat_eq to r ≡ true) × (to ≡ r)) ⊎ ((nat_eq to r ≡ false) × (to ≢ r)) → count_of (is_member r p) class.members ≤ 1 → count_of (is_member from p) class.members ≤ 1
            → count_of (is_member r p) class.members + cond (nat_eq to r) (count_of (is_member from p) class.members) 0 ≤ 1
        by (inl (t, e)) old parent =
            let zero : count_of (is_member r p) class.members ≡ 0 = count-none (is_member r p) class.members (rw (← e) (none p)) in
            rw (t, zero) (omega arith)
        by (inr (t, e)) old parent = rw t (omega arith)
