-- A page that gets a frame which wasn't used: over plain functions for the frames of pages, the owners and the use of frames.
use Rattle.std.proofs.Common.{◌≡◌, ◌≢◌, ◌∙◌, ◌⊎◌, inl, inr, ℕ, ◌<◌, ◌&&◌, nat_eq, nat_lt, Bool, true, false, cond, Option, Some, None, List, [], ◌∷◌, ◌++◌, refl, sym, ap, subst, arith}
use Rattle.std.proofs.lemmas.Bool.{false≢true}
use Rattle.std.proofs.lemmas.Bool.Decides.{nat_tests}
use Rattle.machine_types.specs.Lists.{count_of, IsIn}
use Rattle.machine_types.specs.Stores.{changed}
use Rattle.machine_types.specs.Accounts.{Class, is_member, class_for}
use Rattle.frame_owners.specs.Homes.{Owner}
use Rattle.contents.proofs.OtherStores.{changed-elsewhere, changed-there}
use Rattle.stores.specs.Boards.{is_frame, IsFrameOf, KeepsAccount}
use Rattle.stores.proofs.BoardParts.{placed, placed-there, placed-elsewhere}
use Rattle.stores.proofs.FramesShared.{is_frame-same}
use Rattle.stores.proofs.FrameSteps.{equal-or-not, page-or-other, in-more, in-last, in-longer, distinct-longer, AreFramesOf-stay, AreFramesOf-last}

-- the owner of a frame that one page of the region has
abbrev pub sole_owner : ℕ → Owner
sole_owner region = record { home = region; sharers = 1 }

-- another frame isn't the page's
is_frame-other : (f g : ℕ) → g ≢ f → is_frame f (Some g) ≡ false
is_frame-other f g other = grind (arith, nat_tests)

-- a frame that isn't used is no page's
unused-frame : {frame_at : ℕ → ℕ → Option ℕ} {owner_at : ℕ → Owner} {used_at : ℕ → Bool} {size : ℕ} {frames : List ℕ} {account : List Class} → KeepsAccount frame_at owner_at used_at size frames account
    → (n : ℕ) → used_at n ≡ false → (r p : ℕ) → is_frame n (frame_at r p) ≡ false
unused-frame {frame_at = frame_at} {used_at = used_at} kept n free r p = by (frame_at r p) refl
  where
    by : (o : Option ℕ) → frame_at r p ≡ o → is_frame n o ≡ false
    by None here = refl
    by (Some g) here = is_frame-other n g (λ same. false≢true (sym free ∙ ap used_at (sym same) ∙ kept.used g (kept.listed r p g here)))

-- Another class stays as it is.
frame-stays : (frame_at : ℕ → ℕ → Option ℕ) (owner_at : ℕ → Owner) (region page n f : ℕ) (class : Class) → frame_at region page ≡ None → f ≢ n → IsFrameOf frame_at owner_at f class
    → IsFrameOf (placed frame_at region page (Some n)) (changed owner_at n (sole_owner region)) f class
frame-stays frame_at owner_at region page n f class none other is = record {
  home = ap (λ (o : Owner). o.home) owner ∙ is.home;
  sharers = ap (λ (o : Owner). o.sharers) owner ∙ is.sharers;
  members = λ r p. is.members r p ∙ ap (λ (b : Bool). cond {A = ℕ} b 1 0) (same r p (page-or-other r p region page));
}
  where
    owner : changed owner_at n (sole_owner region) f ≡ owner_at f
    owner = changed-elsewhere owner_at n f (sole_owner region) other

    same : (r p : ℕ) → ((r ≡ region) × (p ≡ page)) ⊎ ((r ≢ region) ⊎ (p ≢ page)) → is_frame f (frame_at r p) ≡ is_frame f (placed frame_at region page (Some n) r p)
    same r p (inl (here, there)) =
        rw (here, there) (ap (is_frame f) none ∙ sym (ap (is_frame f) (placed-there frame_at region page (Some n)) ∙ is_frame-other f n (λ e. other (sym e))))
    same r p (inr apart) = ap (is_frame f) (sym (placed-elsewhere frame_at region page (Some n) r p apart))

-- The page has a class of its own.
frame-begins : (frame_at : ℕ → ℕ → Option ℕ) (owner_at : ℕ → Owner) (region page n : ℕ) → ((r p : ℕ) → is_frame n (frame_at r p) ≡ false)
    → IsFrameOf (placed frame_at region page (Some n)) (changed owner_at n (sole_owner region)) n (class_for region page)
frame-begins frame_at owner_at region page n fresh = record {
  home = ap (λ (o : Owner). o.home) (changed-there owner_at n (sole_owner region));
  sharers = ap (λ (o : Owner). o.sharers) (changed-there owner_at n (sole_owner region));
  members = λ r p. members r p (page-or-other r p region page);
}
  where
    members : (r p : ℕ) → ((r ≡ region) × (p ≡ page)) ⊎ ((r ≢ region) ⊎ (p ≢ page))
        → count_of (is_member r p) (class_for region page).members ≡ cond (is_frame n (placed frame_at region page (Some n) r p)) 1 0
    members r p (inl (here, there)) =
        let test : (nat_eq region region && nat_eq page page) ≡ true = grind (arith, nat_tests) in
        rw (here, there, test, is_frame-same n) refl
    members r p (inr apart) =
        let test : (nat_eq region r && nat_eq page p) ≡ false = no-member r p apart in
        rw test (sym (ap (λ (o : Option ℕ). cond {A = ℕ} (is_frame n o) 1 0) (placed-elsewhere frame_at region page (Some n) r p apart) ∙ ap (λ (b : Bool). cond {A = ℕ} b 1 0) (fresh r p)))
      where
        no-member : (r p : ℕ) → (r ≢ region) ⊎ (p ≢ page) → (nat_eq region r && nat_eq page p) ≡ false
        no-member r p (inl other) = let apart : region ≢ r = λ e. other (sym e) in grind (arith, nat_tests)
        no-member r p (inr other) = let apart : page ≢ p = λ e. other (sym e) in grind (arith, nat_tests)

-- A page without a frame gets one that wasn't used. Its owner is the page's region with one sharer, and the account has a class
-- more, which comes last.
pub kept-new : (frame_at : ℕ → ℕ → Option ℕ) (owner_at : ℕ → Owner) (used_at : ℕ → Bool) (size : ℕ) (frames : List ℕ) (account : List Class) (region page n : ℕ)
    → KeepsAccount frame_at owner_at used_at size frames account → frame_at region page ≡ None → used_at n ≡ false → n < size
    → KeepsAccount (placed frame_at region page (Some n)) (changed owner_at n (sole_owner region)) (changed used_at n true) size (frames ++ (n ∷ [])) (account ++ (class_for region page ∷ []))
kept-new frame_at owner_at used_at size frames account region page n kept none free below = record {
  distinct = distinct-longer n frames kept.distinct absent;
  classes = AreFramesOf-last (placed frame_at region page (Some n)) (changed owner_at n (sole_owner region)) frames account n (class_for region page)
      (AreFramesOf-stay frame_at (placed frame_at region page (Some n)) owner_at (changed owner_at n (sole_owner region)) frames account
      (λ f class i is. frame-stays frame_at owner_at region page n f class none (λ same. absent (subst (λ (g : ℕ). IsIn g frames) same i)) is) kept.classes)
      (frame-begins frame_at owner_at region page n (unused-frame kept n free));
  within = λ f i. within f (in-longer n frames f i);
  taken = λ f taken_is. taken f (equal-or-not f n) taken_is;
  used = λ f i. used f (in-longer n frames f i) (equal-or-not f n);
  listed = λ r p f here. listed r p f (page-or-other r p region page) here;
  counted = λ f. counted f (equal-or-not f n);
  number = λ r p s q f here there. number r p s q f (page-or-other r p region page) (page-or-other s q region page) here there;
}
  where
    absent : IsIn n frames → ⊥
    absent i = false≢true (sym free ∙ kept.used n i)

    within : (f : ℕ) → IsIn f frames ⊎ (n ≡ f) → f < size
    within f (inl i) = kept.within f i
    within f (inr same) = subst (λ (g : ℕ). g < size) same below

    taken : (f : ℕ) → (f ≡ n) ⊎ (f ≢ n) → changed used_at n true f ≡ true → IsIn f (frames ++ (n ∷ []))
    taken f (inl same) taken_is = rw same (in-last n frames)
    taken f (inr other) taken_is = in-more n frames f (kept.taken f (sym (changed-elsewhere used_at n f true other) ∙ taken_is))

    used : (f : ℕ) → IsIn f frames ⊎ (n ≡ f) → (f ≡ n) ⊎ (f ≢ n) → changed used_at n true f ≡ true
    used f i (inl same) = ap (changed used_at n true) same ∙ changed-there used_at n true
    used f (inl i) (inr other) = changed-elsewhere used_at n f true other ∙ kept.used f i
    used f (inr same) (inr other) = absurd (other (sym same))

    -- the page has the new frame, and another one the frame that it had
    here-is : (r p f : ℕ) → (r ≡ region) × (p ≡ page) → placed frame_at region page (Some n) r p ≡ Some f → n ≡ f
    here-is r p f (same, alike) here = let is : placed frame_at region page (Some n) r p ≡ Some n = rw (same, alike) (placed-there frame_at region page (Some n)) in cc

    there-is : (r p f : ℕ) → (r ≢ region) ⊎ (p ≢ page) → placed frame_at region page (Some n) r p ≡ Some f → frame_at r p ≡ Some f
    there-is r p f apart here = sym (placed-elsewhere frame_at region page (Some n) r p apart) ∙ here

    listed : (r p f : ℕ) → ((r ≡ region) × (p ≡ page)) ⊎ ((r ≢ region) ⊎ (p ≢ page)) → placed frame_at region page (Some n) r p ≡ Some f → IsIn f (frames ++ (n ∷ []))
    listed r p f (inl same) here = subst (λ (g : ℕ). IsIn g (frames ++ (n ∷ []))) (here-is r p f same here) (in-last n frames)
    listed r p f (inr apart) here = in-more n frames f (kept.listed r p f (there-is r p f apart here))

    counted : (f : ℕ) → (f ≡ n) ⊎ (f ≢ n) → changed used_at n true f ≡ nat_lt 0 (changed owner_at n (sole_owner region) f).sharers
    counted f (inl same) = rw same (changed-there used_at n true ∙ sym (ap (λ (o : Owner). nat_lt 0 o.sharers) (changed-there owner_at n (sole_owner region))))
    counted f (inr other) = changed-elsewhere used_at n f true other ∙ kept.counted f ∙ sym (ap (λ (o : Owner). nat_lt 0 o.sharers) (changed-elsewhere owner_at n f (sole_owner region) other))

    -- the page is the only one with the new frame
    only : (r p f : ℕ) → n ≡ f → frame_at r p ≡ Some f → ⊥
    only r p f same here = absent (subst (λ (g : ℕ). IsIn g frames) (sym same) (kept.listed r p f here))

    number : (r p s q f : ℕ) → ((r ≡ region) × (p ≡ page)) ⊎ ((r ≢ region) ⊎ (p ≢ page)) → ((s ≡ region) × (q ≡ page)) ⊎ ((s ≢ region) ⊎ (q ≢ page))
        → placed frame_at region page (Some n) r p ≡ Some f → placed frame_at region page (Some n) s q ≡ Some f → p ≡ q
    number r p s q f (inl same) (inl alike) here there = same.1 ∙ sym alike.1
    number r p s q f (inl same) (inr apart) here there = absurd (only s q f (here-is r p f same here) (there-is s q f apart there))
    number r p s q f (inr apart) (inl alike) here there = absurd (only r p f (here-is s q f alike there) (there-is r p f apart here))
    number r p s q f (inr apart) (inr far) here there = kept.number r p s q f (there-is r p f apart here) (there-is s q f far there)
