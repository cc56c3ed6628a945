-- What makes a content sound beside that it is whole, and the classes of contents whose pages are the same.
use Rattle.std.proofs.Common.{◌≡◌, ◌∙◌, sym, ap, refl, ℕ, ◌+◌, ◌≤◌, ◌<◌, nat_eq, get_or, Some, List, cond, true, false, Bool, All, arith}
use Rattle.std.specs.Option.{option_map}
use Rattle.std.specs.List.{list_any}
use Rattle.std.proofs.lemmas.Bool.Decides.{nat_tests}
use Rattle.cap_format.specs.Numbers.{most_regions}
use Rattle.machine_types.specs.MemoryLaws.{PagesAreMoved}
use Rattle.machine_types.specs.Stores.{Page, moved_page}
use Rattle.machine_types.specs.Accounts.{Class, is_member, has_member, class_for}
use Rattle.contents.specs.Content.{Content, page_at}
use Rattle.contents.specs.Whole.{IsWhole}
use Rattle.machine.specs.Sound.{IsClassOf, IsInRange, IsAlone, FullIsAlone}
use Rattle.machine.specs.Steady.{ContentIsSound}
use Rattle.machine.proofs.Moves.{HoldsIn, same-page}

-- each page holds what its region may hold
abbrev pub AreStoresHeld : Content → Type 0
AreStoresHeld c = (region page : ℕ) → HoldsIn region (page_at c region page)

-- the rights of each page are three bits
abbrev pub HaveRights : Content → Type 0
HaveRights c = (region page : ℕ) (p : Page) → page_at c region page ≡ Some p → p.rights < 8

-- The parts of a sound content. Of what makes it whole there is only what its stores hold.
pub record HasSoundParts (regions : ℕ) (c : Content) : Type 0 where
  pub held : AreStoresHeld c
  pub classes : All (IsClassOf c) c.account
  pub range : All (IsInRange regions) c.account
  pub alone : FullIsAlone c
  pub rights : HaveRights c

-- those of a sound content
pub parts-of : (n : ℕ) (c : Content) → ContentIsSound n c → HasSoundParts n c
parts-of n c is = record { held = is.whole.held; classes = is.classes; range = is.range; alone = is.alone; rights = is.rights }

-- a whole content that has them is sound
pub sound-by : (n : ℕ) (c : Content) → IsWhole c → HasSoundParts n c → ContentIsSound n c
sound-by n c whole is = record { whole = whole; classes = is.classes; range = is.range; alone = is.alone; rights = is.rights }

-- Classes.

-- a class whose pages are as they were
pub class-kept : (c d : Content) (class : Class) → ((r p : ℕ) → has_member r p class ≡ true → page_at d r p ≡ page_at c r p) → IsClassOf c class → IsClassOf d class
class-kept c d class same is = record {
  one_page = is.one_page;
  different = is.different;
  moves = λ r s p h k. same s p k ∙ is.moves r s p h k ∙ ap (option_map (moved_page r s)) (sym (same r p h));
}

-- classes where all pages are
pub classes-kept : (c d : Content) (classes : List Class) → ((r p : ℕ) → page_at d r p ≡ page_at c r p) → All (IsClassOf c) classes → All (IsClassOf d) classes
classes-kept c d classes same are k e w = class-kept c d (get_or classes k e) (λ r p h. same r p) (are k e w)

-- a class with the members of another
pub class-members : (c : Content) (a b : Class) → a.members ≡ b.members → IsClassOf c b → IsClassOf c a
class-members c a b e is = record {
  one_page = λ r p s q h k. is.one_page r p s q (has r p h) (has s q k);
  different = λ r. rw e (is.different r);
  moves = λ r s p h k. is.moves r s p (has r p h) (has s p k);
}
  where
    has : (r p : ℕ) → has_member r p a ≡ true → has_member r p b ≡ true
    has r p h = sym (ap (list_any (is_member r p)) e) ∙ h

-- A class of one page.

-- its member is that page
pub class_member : (region page r p : ℕ) → has_member r p (class_for region page) ≡ true → (region ≡ r) × (page ≡ p)
class_member region page r p h = grind (arith, nat_tests)

-- it is one
pub one-is-class : PagesAreMoved → (c : Content) (region page : ℕ) → region < most_regions → AreStoresHeld c → IsClassOf c (class_for region page)
one-is-class moves c region page low held = record {
  one_page = λ r p s q h k. let a = class_member region page r p h in let b = class_member region page s q k in sym a.1 ∙ b.1;
  different = λ r. by (nat_eq region r);
  moves = λ r s p h k.
      let a = class_member region page r p h in
      let b = class_member region page s p k in
      let same : s ≡ r = sym b.0 ∙ a.0 in
      let here : r < most_regions = rw (← a.0) low in
      rw same (sym (same-page moves r here (page_at c r p) (held r p)));
}
  where
    by : (b : Bool) → cond b (1 + 0) 0 ≤ 1
    by true = omega arith
    by false = omega arith

-- it is in range where its region is
pub one-in-range : (n region page : ℕ) → region < n → IsInRange n (class_for region page)
one-in-range n region page low = record { home = low; members = λ r p h. let a = class_member region page r p h in rw (← a.0) low }

-- and alone in its home
pub one-alone : (region page : ℕ) → IsAlone (class_for region page)
one-alone region page = record { one = refl; home = λ r p h. let a = class_member region page r p h in sym a.0 }
