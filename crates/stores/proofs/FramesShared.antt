-- Frames and the classes that share them: over plain functions for the frames of pages and the owners of frames.
use Rattle.std.proofs.Common.{◌≡◌, ◌≢◌, ◌∙◌, ℕ, ◌+◌, ◌<◌, ◌&&◌, ◌||◌, ◌⊎◌, inl, inr, nat_eq, Bool, true, false, cond, Option, Some, None, List, [], ◌∷◌, length, refl, sym, arith}
use Rattle.std.specs.Prelude.{is_some}
use Rattle.std.specs.List.{list_any}
use Rattle.std.proofs.lemmas.Bool.Decides.{nat_tests, eqb_tells}
use Rattle.cap_format.specs.declared.cap.Cap.{Cap}
use Rattle.machine_types.specs.Stores.{Page}
use Rattle.machine_types.specs.Accounts.{Class, is_member, has_member}
use Rattle.frame_owners.specs.Homes.{Owner}
use Rattle.page_table.specs.declared.table.Entry.{Entry}
use Rattle.machine_types.specs.Lists.{count_of, IsIn, AreDistinct}
use Rattle.stores.specs.Boards.{is_frame, frame_in, IsFrameOf, AreFramesOf, HasSamePage}

-- where a test passes once or never, it passes exactly where it is counted
any-from_count : {A : Type 0} (passes : A → Bool) (xs : List A) (b : Bool) → count_of passes xs ≡ cond b 1 0 → list_any passes xs ≡ b
any-from_count passes [] true h = absurd (omega arith)
any-from_count passes [] false h = refl
any-from_count {A} passes (x ∷ xs) b h = by (passes x) b h (any-from_count passes xs)
  where
    by : (t b : Bool) → cond t (1 + count_of passes xs) (count_of passes xs) ≡ cond b 1 0 → ((b : Bool) → count_of passes xs ≡ cond b 1 0 → list_any passes xs ≡ b) → (t || list_any passes xs) ≡ b
    by true true h rest = refl
    by true false h rest = absurd (omega arith)
    by false b h rest = rest b h

-- a class has a page as a member exactly where its frame is the page's
pub has_member-is_frame : {frame_at : ℕ → ℕ → Option ℕ} {owner_at : ℕ → Owner} {f : ℕ} {class : Class} → IsFrameOf frame_at owner_at f class → (r p : ℕ)
    → has_member r p class ≡ is_frame f (frame_at r p)
has_member-is_frame {frame_at = frame_at} {f = f} {class = class} is r p = any-from_count (is_member r p) class.members (is_frame f (frame_at r p)) (is.members r p)

-- a page that has a frame has that frame
pub is_frame-same : (f : ℕ) → is_frame f (Some f) ≡ true
is_frame-same f = grind (arith, nat_tests)

-- two pages with one of the frames are both in its class
pub both-counted : (frame_at : ℕ → ℕ → Option ℕ) (owner_at : ℕ → Owner) (frames : List ℕ) (classes : List Class) (r p s q f : ℕ) → AreFramesOf frame_at owner_at frames classes
    → IsIn f frames → frame_at r p ≡ Some f → frame_at s q ≡ Some f → 0 < count_of (λ class. has_member r p class && has_member s q class) classes
both-counted frame_at owner_at [] classes r p s q f are i h k = absurd i
both-counted frame_at owner_at (x ∷ frames) [] r p s q f are i h k = absurd are
both-counted frame_at owner_at (x ∷ frames) (class ∷ classes) r p s q f are (inl e) h k =
    let one : has_member r p class ≡ true = has_member-is_frame are.0 r p ∙ rw (h, e) (is_frame-same f) in
    let two : has_member s q class ≡ true = has_member-is_frame are.0 s q ∙ rw (k, e) (is_frame-same f) in
    rw (one, two) (omega arith)
both-counted frame_at owner_at (x ∷ frames) (class ∷ classes) r p s q f are (inr i) h k =
    more (has_member r p class && has_member s q class) (both-counted frame_at owner_at frames classes r p s q f are.1 i h k)
  where
    more : {n : ℕ} (b : Bool) → 0 < n → 0 < cond b (1 + n) n
    more true l = omega arith
    more false l = l

-- two pages that are in one class have one frame
pub frame-same : (frame_at : ℕ → ℕ → Option ℕ) (owner_at : ℕ → Owner) (frames : List ℕ) (classes : List Class) (r p s q f g : ℕ) → AreFramesOf frame_at owner_at frames classes
    → frame_at r p ≡ Some f → frame_at s q ≡ Some g → 0 < count_of (λ class. has_member r p class && has_member s q class) classes → f ≡ g
frame-same frame_at owner_at [] [] r p s q f g are h k l = absurd (omega arith)
frame-same frame_at owner_at [] (class ∷ classes) r p s q f g are h k l = absurd are
frame-same frame_at owner_at (x ∷ frames) [] r p s q f g are h k l = absurd are
frame-same frame_at owner_at (x ∷ frames) (class ∷ classes) r p s q f g are h k l =
    by (eqb_tells f x) (eqb_tells g x) (rw (has_member-is_frame are.0 r p, has_member-is_frame are.0 s q, h, k) at l) (frame-same frame_at owner_at frames classes r p s q f g are.1 h k)
  where
    n : ℕ
    n = count_of (λ class. has_member r p class && has_member s q class) classes

    by : ((nat_eq f x ≡ true) × (f ≡ x)) ⊎ ((nat_eq f x ≡ false) × (f ≢ x)) → ((nat_eq g x ≡ true) × (g ≡ x)) ⊎ ((nat_eq g x ≡ false) × (g ≢ x))
        → 0 < cond (nat_eq f x && nat_eq g x) (1 + n) n → (0 < n → f ≡ g) → f ≡ g
    by (inl (t, e)) (inl (u, d)) l rest = cc
    by (inl (t, e)) (inr (u, d)) l rest = rest (rw (t, u) at l)
    by (inr (t, e)) b l rest = rest (rw t at l)

-- a page is a member of as many classes as it has of the frames
pub count_of-has_member : (frame_at : ℕ → ℕ → Option ℕ) (owner_at : ℕ → Owner) (frames : List ℕ) (classes : List Class) (r p : ℕ) → AreFramesOf frame_at owner_at frames classes
    → count_of (has_member r p) classes ≡ count_of (λ f. is_frame f (frame_at r p)) frames
count_of-has_member frame_at owner_at [] [] r p are = refl
count_of-has_member frame_at owner_at [] (class ∷ classes) r p are = absurd are
count_of-has_member frame_at owner_at (f ∷ frames) [] r p are = absurd are
count_of-has_member frame_at owner_at (f ∷ frames) (class ∷ classes) r p are =
    rw (has_member-is_frame are.0 r p, count_of-has_member frame_at owner_at frames classes r p are.1) refl

-- there are as many frames as classes
pub length-frames : (frame_at : ℕ → ℕ → Option ℕ) (owner_at : ℕ → Owner) (frames : List ℕ) (classes : List Class) → AreFramesOf frame_at owner_at frames classes → length frames ≡ length classes
length-frames frame_at owner_at [] [] are = refl
length-frames frame_at owner_at [] (class ∷ classes) are = absurd are
length-frames frame_at owner_at (f ∷ frames) [] are = absurd are
length-frames frame_at owner_at (f ∷ frames) (class ∷ classes) are = let rest = length-frames frame_at owner_at frames classes are.1 in omega arith

-- a page without a frame has none of them
count_of-none : (frames : List ℕ) → count_of (λ f. is_frame f None) frames ≡ 0
count_of-none [] = refl
count_of-none (f ∷ frames) = count_of-none frames

-- a frame that isn't among them is never counted
count_of-absent : (g : ℕ) (frames : List ℕ) → (IsIn g frames → ⊥) → count_of (λ f. nat_eq g f) frames ≡ 0
count_of-absent g [] absent = refl
count_of-absent g (f ∷ frames) absent =
    let differs : nat_eq g f ≡ false = let apart : f ≢ g = λ e. absent (inl e) in grind (arith, nat_tests) in
    rw differs (count_of-absent g frames (λ i. absent (inr i)))

-- a frame among distinct ones is counted once
count_of-present : (g : ℕ) (frames : List ℕ) → AreDistinct frames → IsIn g frames → count_of (λ f. nat_eq g f) frames ≡ 1
count_of-present g [] are i = absurd i
count_of-present g (f ∷ frames) are i = by (eqb_tells g f) i (count_of-present g frames are.1)
  where
    by : ((nat_eq g f ≡ true) × (g ≡ f)) ⊎ ((nat_eq g f ≡ false) × (g ≢ f)) → (f ≡ g) ⊎ IsIn g frames → (IsIn g frames → count_of (λ f. nat_eq g f) frames ≡ 1)
        → cond (nat_eq g f) (1 + count_of (λ f. nat_eq g f) frames) (count_of (λ f. nat_eq g f) frames) ≡ 1
    by (inl (t, e)) i rest = rw (t, count_of-absent g frames (rw e are.0)) refl
    by (inr (t, e)) (inl d) rest = absurd (e (sym d))
    by (inr (t, e)) (inr i) rest = rw t (rest i)

-- a page has one of distinct frames where it has a frame, and none of them where it has none
pub count_of-is_frame : (o : Option ℕ) (frames : List ℕ) → AreDistinct frames → ((f : ℕ) → o ≡ Some f → IsIn f frames) → count_of (λ f. is_frame f o) frames ≡ cond (is_some o) 1 0
count_of-is_frame None frames are listed = count_of-none frames
count_of-is_frame (Some g) frames are listed = count_of-present g frames are (listed g refl)

-- an entry has a frame exactly where there is a page
pub is_some-frame_in : (memory : List (List Cap)) (owners : List Owner) (region : ℕ) (e : Option Entry) (p : Option Page) → HasSamePage memory owners region e p → is_some (frame_in e) ≡ is_some p
is_some-frame_in memory owners region None None has = refl
is_some-frame_in memory owners region None (Some p) has = absurd has
is_some-frame_in memory owners region (Some e) None has = absurd has
is_some-frame_in memory owners region (Some e) (Some p) has = refl

-- no frame has a class where there is none
pub none-from-AreFramesOf : (frame_at : ℕ → ℕ → Option ℕ) (owner_at : ℕ → Owner) (frames : List ℕ) → AreFramesOf frame_at owner_at frames [] → (f : ℕ) → IsIn f frames → ⊥
none-from-AreFramesOf frame_at owner_at [] are f i = i
none-from-AreFramesOf frame_at owner_at (x ∷ frames) are f i = are

-- there is no entry where there is no page
pub none-from-HasSamePage : (memory : List (List Cap)) (owners : List Owner) (region : ℕ) (e : Option Entry) → HasSamePage memory owners region e None → e ≡ None
none-from-HasSamePage memory owners region None has = refl
none-from-HasSamePage memory owners region (Some e) has = absurd has
