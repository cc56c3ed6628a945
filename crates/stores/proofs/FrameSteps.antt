-- Frames and their classes after a step over one page: over plain functions for the frames of pages and the owners of frames.
use Rattle.std.proofs.Common.{◌≡◌, ◌≢◌, ◌⊎◌, inl, inr, ℕ, nat_eq, true, false, Option, List, [], ◌∷◌, ◌++◌, map, refl, sym}
use Rattle.std.proofs.lemmas.Bool.Decides.{eqb_tells}
use Rattle.machine_types.specs.Lists.{IsIn, AreDistinct}
use Rattle.machine_types.specs.Accounts.{Class}
use Rattle.frame_owners.specs.Homes.{Owner}
use Rattle.stores.specs.Boards.{IsFrameOf, AreFramesOf}

-- two numbers are equal, or they aren't
pub equal-or-not : (n m : ℕ) → (n ≡ m) ⊎ (n ≢ m)
equal-or-not n m = by (eqb_tells n m)
  where
    by : ((nat_eq n m ≡ true) × (n ≡ m)) ⊎ ((nat_eq n m ≡ false) × (n ≢ m)) → (n ≡ m) ⊎ (n ≢ m)
    by (inl (test, same)) = inl same
    by (inr (test, other)) = inr other

-- a page is this one, or its region or its number is another
pub page-or-other : (r p region page : ℕ) → ((r ≡ region) × (p ≡ page)) ⊎ ((r ≢ region) ⊎ (p ≢ page))
page-or-other r p region page = by (equal-or-not r region) (equal-or-not p page)
  where
    by : (r ≡ region) ⊎ (r ≢ region) → (p ≡ page) ⊎ (p ≢ page) → ((r ≡ region) × (p ≡ page)) ⊎ ((r ≢ region) ⊎ (p ≢ page))
    by (inl same) (inl alike) = inl (same, alike)
    by (inl same) (inr other) = inr (inr other)
    by (inr other) tells = inr (inl other)

-- Lists of frames with one more at the end.

-- what was in it is in it still
pub in-more : (n : ℕ) (frames : List ℕ) (f : ℕ) → IsIn f frames → IsIn f (frames ++ (n ∷ []))
in-more n [] f i = absurd i
in-more n (g ∷ frames) f (inl same) = inl same
in-more n (g ∷ frames) f (inr i) = inr (in-more n frames f i)

-- so is the last one
pub in-last : (n : ℕ) (frames : List ℕ) → IsIn n (frames ++ (n ∷ []))
in-last n [] = inl refl
in-last n (g ∷ frames) = inr (in-last n frames)

-- and nothing else
pub in-longer : (n : ℕ) (frames : List ℕ) (f : ℕ) → IsIn f (frames ++ (n ∷ [])) → IsIn f frames ⊎ (n ≡ f)
in-longer n [] f (inl same) = inr same
in-longer n [] f (inr i) = absurd i
in-longer n (g ∷ frames) f (inl same) = inl (inl same)
in-longer n (g ∷ frames) f (inr i) = by (in-longer n frames f i)
  where
    by : IsIn f frames ⊎ (n ≡ f) → IsIn f (g ∷ frames) ⊎ (n ≡ f)
    by (inl j) = inl (inr j)
    by (inr same) = inr same

-- a frame that isn't among distinct ones is distinct from them
pub distinct-longer : (n : ℕ) (frames : List ℕ) → AreDistinct frames → (IsIn n frames → ⊥) → AreDistinct (frames ++ (n ∷ []))
distinct-longer n [] are absent = (λ i. i, tt)
distinct-longer n (f ∷ frames) are absent = (λ i. by (in-longer n frames f i), distinct-longer n frames are.1 (λ i. absent (inr i)))
  where
    by : IsIn f frames ⊎ (n ≡ f) → ⊥
    by (inl i) = are.0 i
    by (inr same) = absent (inl (sym same))

-- Frames of classes.

-- each class changed, while pages have other frames and frames other owners
pub AreFramesOf-map : (frame_at later_frame_at : ℕ → ℕ → Option ℕ) (owner_at later_owner_at : ℕ → Owner) (change : Class → Class) (frames : List ℕ) (account : List Class)
    → ((f : ℕ) (class : Class) → IsIn f frames → IsFrameOf frame_at owner_at f class → IsFrameOf later_frame_at later_owner_at f (change class))
    → AreFramesOf frame_at owner_at frames account → AreFramesOf later_frame_at later_owner_at frames (map change account)
AreFramesOf-map frame_at later_frame_at owner_at later_owner_at change [] [] step are = tt
AreFramesOf-map frame_at later_frame_at owner_at later_owner_at change [] (class ∷ account) step are = are
AreFramesOf-map frame_at later_frame_at owner_at later_owner_at change (f ∷ frames) [] step are = are
AreFramesOf-map frame_at later_frame_at owner_at later_owner_at change (f ∷ frames) (class ∷ account) step are =
    (step f class (inl refl) are.0, AreFramesOf-map frame_at later_frame_at owner_at later_owner_at change frames account (λ g other i. step g other (inr i)) are.1)

-- each class as it is
pub AreFramesOf-stay : (frame_at later_frame_at : ℕ → ℕ → Option ℕ) (owner_at later_owner_at : ℕ → Owner) (frames : List ℕ) (account : List Class)
    → ((f : ℕ) (class : Class) → IsIn f frames → IsFrameOf frame_at owner_at f class → IsFrameOf later_frame_at later_owner_at f class)
    → AreFramesOf frame_at owner_at frames account → AreFramesOf later_frame_at later_owner_at frames account
AreFramesOf-stay frame_at later_frame_at owner_at later_owner_at [] [] step are = tt
AreFramesOf-stay frame_at later_frame_at owner_at later_owner_at [] (class ∷ account) step are = are
AreFramesOf-stay frame_at later_frame_at owner_at later_owner_at (f ∷ frames) [] step are = are
AreFramesOf-stay frame_at later_frame_at owner_at later_owner_at (f ∷ frames) (class ∷ account) step are =
    (step f class (inl refl) are.0, AreFramesOf-stay frame_at later_frame_at owner_at later_owner_at frames account (λ g other i. step g other (inr i)) are.1)

-- one frame and one class more
pub AreFramesOf-last : (frame_at : ℕ → ℕ → Option ℕ) (owner_at : ℕ → Owner) (frames : List ℕ) (account : List Class) (n : ℕ) (class : Class)
    → AreFramesOf frame_at owner_at frames account → IsFrameOf frame_at owner_at n class → AreFramesOf frame_at owner_at (frames ++ (n ∷ [])) (account ++ (class ∷ []))
AreFramesOf-last frame_at owner_at [] [] n class are last = (last, tt)
AreFramesOf-last frame_at owner_at [] (first ∷ account) n class are last = absurd are
AreFramesOf-last frame_at owner_at (f ∷ frames) [] n class are last = absurd are
AreFramesOf-last frame_at owner_at (f ∷ frames) (first ∷ account) n class are last = (are.0, AreFramesOf-last frame_at owner_at frames account n class are.1 last)
