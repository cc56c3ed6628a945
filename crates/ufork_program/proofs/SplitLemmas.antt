-- Where an element of joined lists stands.
use Rattle.std.proofs.Common.{◌≡◌, List, [], ◌∷◌, ◌++◌, refl, sym, ap}
use Rattle.outside_io.specs.Parts.{Part}
use Rattle.outside_io.specs.Moments.{Moment, while_stands}

-- An element of two joined lists, with all before it and all after it, stands in the first or in the second.
pub data IsSplit {A : Type 0} (xs ys before : List A) (x : A) (after : List A) : Type 0 where
  in_first : (rest : List A) → xs ≡ before ++ x ∷ rest → IsSplit xs ys before x after
  in_second : (rest : List A) → before ≡ xs ++ rest → ys ≡ rest ++ x ∷ after → IsSplit xs ys before x after

module _ {A : Type 0} where
  -- It stands so too where both lists have one more element before it.
  split-more : (y : A) (xs ys before : List A) (x : A) (after : List A) → IsSplit xs ys before x after → IsSplit (y ∷ xs) ys (y ∷ before) x after
  split-more y xs ys before x after (in_first rest is) = in_first rest (ap (λ l. y ∷ l) is)
  split-more y xs ys before x after (in_second rest is tail) = in_second rest (ap (λ l. y ∷ l) is) tail

  -- Each element stands in the first list or in the second.
  pub split : (xs ys before : List A) (x : A) (after : List A) → xs ++ ys ≡ before ++ x ∷ after → IsSplit xs ys before x after
  split [] ys before x after e = in_second before refl e
  split (y ∷ xs) ys [] x after e = let same : y ≡ x = cc in in_first xs (ap (λ z. z ∷ xs) same)
  split (y ∷ xs) ys (z ∷ before) x after e =
      let same : y ≡ z = cc in
      let tail : xs ++ ys ≡ before ++ x ∷ after = cc in
      rw (← same) (split-more y xs ys before x after (split xs ys before x after tail))

  -- No list with an element is empty.
  pub none-has : (before : List A) (x : A) (after : List A) → [] ≡ before ++ x ∷ after → ⊥
  none-has [] x after e = cc
  none-has (y ∷ before) x after e = cc

  -- The element of a list of one is that, with none before it.
  one-has : (y : A) (before : List A) (x : A) (after : List A) → y ∷ [] ≡ before ++ x ∷ after → (before ≡ []) × (x ≡ y)
  one-has y [] x after e = (refl, cc)
  one-has y (z ∷ before) x after e = let tail : [] ≡ before ++ x ∷ after = cc in absurd (none-has before x after tail)

-- A moment of parts during which one thing stands: those before it are of the parts before its part, and that stands.
pub record IsMomentOf {B : Type 0} (state : B) (parts : List Part) (earlier : List (Moment B)) (part : Part) (stands : B) : Type 0 where
  pub before : List Part
  pub after : List Part
  pub list : parts ≡ before ++ part ∷ after
  pub earlier_are : earlier ≡ while_stands state before
  pub stands_is : stands ≡ state

-- The one moment of a list is its first, with none before it.
pub one_moment : {B : Type 0} (p : Part) (t : B) (earlier : List (Moment B)) (part : Part) (stands : B) (later : List (Moment B))
    → (p, t) ∷ [] ≡ earlier ++ (part, stands) ∷ later → (earlier ≡ []) × (part ≡ p) × (stands ≡ t)
one_moment {B} p t earlier part stands later e =
    let one = one-has (p, t) earlier (part, stands) later e in
    (one.0, ap (λ (m : Moment B). m.0) one.1, ap (λ (m : Moment B). m.1) one.1)

module _ {B : Type 0} (state : B) where
  -- It is so too behind a further part.
  moment-more : (p : Part) (parts : List Part) (earlier : List (Moment B)) (part : Part) (stands : B)
      → IsMomentOf state parts earlier part stands → IsMomentOf state (p ∷ parts) ((p, state) ∷ earlier) part stands
  moment-more p parts earlier part stands h = record {
    before = p ∷ h.before;
    after = h.after;
    list = ap (λ l. p ∷ l) h.list;
    earlier_are = ap (λ (l : List (Moment B)). (p, state) ∷ l) h.earlier_are;
    stands_is = h.stands_is;
  }

  -- Each moment is so.
  pub moment-of : (parts : List Part) (earlier : List (Moment B)) (part : Part) (stands : B) (later : List (Moment B))
      → while_stands state parts ≡ earlier ++ (part, stands) ∷ later → IsMomentOf state parts earlier part stands
  moment-of [] earlier part stands later e = absurd (none-has earlier (part, stands) later e)
  moment-of (p ∷ parts) [] part stands later e =
      let same : (part, stands) ≡ (p, state) = cc in
      record { before = []; after = parts; list = ap (λ q. q ∷ parts) (ap (λ (m : Moment B). m.0) (sym same)); earlier_are = refl; stands_is = ap (λ (m : Moment B). m.1) same }
  moment-of (p ∷ parts) (m ∷ earlier) part stands later e =
      let same : (p, state) ≡ m = cc in
      let tail : while_stands state parts ≡ earlier ++ (part, stands) ∷ later = cc in
      rw (← same) (moment-more p parts earlier part stands (moment-of parts earlier part stands later tail))
