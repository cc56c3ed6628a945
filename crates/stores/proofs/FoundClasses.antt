-- The class of a page that has a frame: over plain functions for the frames of pages and the owners of frames.
use Rattle.std.proofs.Common.{◌≡◌, ◌≢◌, ◌∙◌, ℕ, ◌⊎◌, inl, inr, nat_eq, Bool, true, false, Option, Some, List, [], ◌∷◌, length, refl, sym, ap, subst, arith}
use Rattle.std.proofs.lemmas.Bool.Decides.{eqb_tells, nat_tests}
use Rattle.machine_types.specs.Lists.{count_of, IsIn}
use Rattle.machine_types.specs.Accounts.{Member, Class, is_member, has_member, class_of}
use Rattle.frame_owners.specs.Homes.{Owner}
use Rattle.stores.specs.Boards.{is_frame, IsFrameOf, AreFramesOf, KeepsAccount}
use Rattle.stores.proofs.FramesShared.{has_member-is_frame, is_frame-same}

-- the page has a class, and the class shares the frame
pub record HasClassOf (frame_at : ℕ → ℕ → Option ℕ) (owner_at : ℕ → Owner) (account : List Class) (region page f : ℕ) : Type 0 where
  pub class : Class
  pub there : class_of account region page ≡ Some class
  pub is : IsFrameOf frame_at owner_at f class

-- a page has the class of its frame
pub class-in : (frame_at : ℕ → ℕ → Option ℕ) (owner_at : ℕ → Owner) (frames : List ℕ) (account : List Class) (region page f : ℕ) → AreFramesOf frame_at owner_at frames account
    → frame_at region page ≡ Some f → IsIn f frames → HasClassOf frame_at owner_at account region page f
class-in frame_at owner_at [] account region page f are here i = absurd i
class-in frame_at owner_at (g ∷ frames) [] region page f are here i = absurd are
class-in frame_at owner_at (g ∷ frames) (class ∷ account) region page f are here i =
    by (λ j. class-in frame_at owner_at frames account region page f are.1 here j) (eqb_tells f g) i
  where
    has : has_member region page class ≡ nat_eq f g
    has = has_member-is_frame are.0 region page ∙ ap (is_frame g) here

    by : (IsIn f frames → HasClassOf frame_at owner_at account region page f) → ((nat_eq f g ≡ true) × (f ≡ g)) ⊎ ((nat_eq f g ≡ false) × (f ≢ g))
        → (g ≡ f) ⊎ IsIn f frames → HasClassOf frame_at owner_at (class ∷ account) region page f
    by rest (inl (test, same)) i = record { class = class; there = rw (has, test) refl; is = subst (λ (x : ℕ). IsFrameOf frame_at owner_at x class) (sym same) are.0 }
    by rest (inr (test, other)) (inl same) = absurd (other (sym same))
    by rest (inr (test, other)) (inr j) = let found = rest j in record { class = found.class; there = rw (has, test) found.there; is = found.is }

-- with one member only one page is a member
only-member : (members : List Member) (r p s q : ℕ) → length members ≡ 1 → count_of (is_member r p) members ≡ 1 → count_of (is_member s q) members ≡ 1 → (r ≡ s) × (p ≡ q)
only-member [] r p s q one here there = absurd (omega arith)
only-member (m ∷ n ∷ members) r p s q one here there = absurd (omega arith)
only-member (m ∷ []) r p s q one here there = (grind (arith, nat_tests), grind (arith, nat_tests))

-- The frames of a kept account.
module _ {frame_at : ℕ → ℕ → Option ℕ} {owner_at : ℕ → Owner} {used_at : ℕ → Bool} {size : ℕ} {frames : List ℕ} {account : List Class} (kept : KeepsAccount frame_at owner_at used_at size frames account) where
  -- each page that has a frame has its class
  pub class-found : (region page f : ℕ) → frame_at region page ≡ Some f → HasClassOf frame_at owner_at account region page f
  class-found region page f here = class-in frame_at owner_at frames account region page f kept.classes here (kept.listed region page f here)

  -- only one page has a frame with one sharer
  pub only-page : (r p s q f : ℕ) → (owner_at f).sharers ≡ 1 → frame_at r p ≡ Some f → frame_at s q ≡ Some f → (r ≡ s) × (p ≡ q)
  only-page r p s q f one here there =
      let found = class-found r p f here in
      only-member found.class.members r p s q (sym found.is.sharers ∙ one)
      (found.is.members r p ∙ rw (here, is_frame-same f) refl) (found.is.members s q ∙ rw (there, is_frame-same f) refl)
