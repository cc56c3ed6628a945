-- What a page that is added keeps of a sound content, and a store that begins.
use Rattle.std.proofs.Common.{◌≡◌, ◌≢◌, ◌∙◌, sym, refl, ℕ, ◌≤◌, ◌<◌, ◌⊎◌, inl, inr, ◌&&◌, nat_eq, is_some, get_or, Option, Some, None, Result, Ok, Err, List, cond, true, false, Bool, All, arith}
use Rattle.std.specs.Option.{option_map}
use Rattle.std.proofs.lemmas.Bool.Decides.{eqb_tells}
use Rattle.std.proofs.lemmas.List.Elements.{All-nil, All-push}
use Rattle.cap_format.specs.Numbers.{most_regions}
use Rattle.machine_types.specs.declared.config.Rule.{Rule}
use Rattle.machine_types.specs.declared.touches.NoFrame.{NoFrame}
use Rattle.machine_types.specs.MemoryLaws.{PagesAreMoved}
use Rattle.machine_types.specs.Stores.{Page, Store, changed, empty_store, page_of_bytes}
use Rattle.machine_types.specs.Accounts.{Class, has_member, class_for}
use Rattle.contents.specs.Content.{Content, CallOutcome, nothing, page_in, page_at, is_full, with_store}
use Rattle.contents.specs.Regions.{no_frame, begin_of, with_new_page, add_page_of}
use Rattle.contents.specs.Conditions.{HasNoStore, LacksPage}
use Rattle.contents.specs.Whole.{IsWhole}
use Rattle.machine.specs.Sound.{IsClassOf, IsInRange, IsAlone}
use Rattle.machine.proofs.Members.{none-counted}
use Rattle.machine.proofs.SoundParts.{HasSoundParts, class-kept, classes-kept, one-is-class, one-in-range, one-alone}

-- without store and class all is sound
pub nothing-parts : (n : ℕ) (rule : Rule) (frames : ℕ) → HasSoundParts n (nothing rule frames)
nothing-parts n rule frames = record {
  held = λ region page p e. absurd (cc);
  classes = All-nil (IsClassOf (nothing rule frames));
  range = All-nil (IsInRange n);
  alone = λ full. All-nil IsAlone;
  rights = λ region page p e. absurd (cc);
}

-- Stores that begin.

-- a store without pages in place of none leaves every page
page-begun : (c : Content) (region r p : ℕ) → HasNoStore region c → page_at (begin_of c region) r p ≡ page_at c r p
unfolding begin_of
page-begun c region r p none = by (eqb_tells r region)
  where
    by : ((nat_eq r region ≡ true) × (r ≡ region)) ⊎ ((nat_eq r region ≡ false) × (r ≢ region)) → page_in (cond (nat_eq r region) (Some empty_store) (c.stores r)) p ≡ page_at c r p
    by (inl (t, e)) = rw (t, e, none) refl
    by (inr (t, e)) = rw t refl

-- so it keeps the parts
pub begin-parts : (n : ℕ) (c : Content) (region : ℕ) → HasNoStore region c → HasSoundParts n c → HasSoundParts n (begin_of c region)
unfolding begin_of
begin-parts n c region none is = record {
  held = λ r p x e. is.held r p x (sym (page-begun c region r p none) ∙ e);
  classes = classes-kept c (with_store c region (Some empty_store)) c.account (λ r p. page-begun c region r p none) is.classes;
  range = is.range;
  alone = is.alone;
  rights = λ r p x e. is.rights r p x (sym (page-begun c region r p none) ∙ e);
}

-- Pages that are added.

-- each page of a store with one page more
page-more : (page p : ℕ) (new : Page) (o : Option Store) → page_in (option_map (λ store. changed store page (Some new)) o) p ≡ cond (is_some o) (cond (nat_eq p page) (Some new) (page_in o p)) None
page-more page p new None = refl
page-more page p new (Some store) = refl

-- each page afterwards
page-added : (c : Content) (region page rights : ℕ) (bytes : List ℕ) (r p : ℕ) → is_some (c.stores region) ≡ true
    → page_at (with_new_page c region page rights bytes) r p ≡ cond (nat_eq r region && nat_eq p page) (Some (page_of_bytes rights bytes)) (page_at c r p)
page-added c region page rights bytes r p there = by (eqb_tells r region)
  where
    new : Page
    new = page_of_bytes rights bytes

    by : ((nat_eq r region ≡ true) × (r ≡ region)) ⊎ ((nat_eq r region ≡ false) × (r ≢ region))
        → page_in (cond (nat_eq r region) (option_map (λ store. changed store page (Some new)) (c.stores region)) (c.stores r)) p ≡ cond (nat_eq r region && nat_eq p page) (Some new) (page_at c r p)
    by (inl (t, e)) = rw (t, e) (page-more page p new (c.stores region) ∙ rw there refl)
    by (inr (t, e)) = rw t refl

-- a page keeps the parts where the region lacks it
added-parts : PagesAreMoved → (n : ℕ) → n ≤ most_regions → (c : Content) (region page rights : ℕ) (bytes : List ℕ) → region < n → rights < 8 → LacksPage region page c → IsWhole c
    → IsWhole (with_new_page c region page rights bytes) → HasSoundParts n c → HasSoundParts n (with_new_page c region page rights bytes)
added-parts law n most c region page rights bytes low small lacks whole then is = record {
  held = then.held;
  classes = All-push (IsClassOf after) c.account (class_for region page)
      (λ k d w. class-kept c after (get_or c.account k d) (λ r p h. kept (get_or c.account k d) (none-has k d w) r p h) (is.classes k d w))
      (one-is-class law after region page (omega arith) then.held);
  range = All-push (IsInRange n) c.account (class_for region page) is.range (one-in-range n region page low);
  alone = λ full. All-push IsAlone c.account (class_for region page) (is.alone full) (one-alone region page);
  rights = λ r p x e. by-rights r p x (nat_eq r region && nat_eq p page) (sym (page-added c region page rights bytes r p lacks.store) ∙ e);
}
  where
    after : Content
    after = with_new_page c region page rights bytes

    by-rights : (r p : ℕ) (x : Page) (b : Bool) → cond b (Some (page_of_bytes rights bytes)) (page_at c r p) ≡ Some x → x.rights < 8
    by-rights r p x true e = let same : page_of_bytes rights bytes ≡ x = cc in rw (← same) small
    by-rights r p x false e = is.rights r p x e

    -- no class has the page
    none-has : All (λ class. has_member region page class ≡ false) c.account
    none-has = none-counted (has_member region page) c.account (whole.pages region page ∙ rw lacks.absent refl)

    -- so the pages of each are as they were
    kept : (class : Class) → has_member region page class ≡ false → (r p : ℕ) → has_member r p class ≡ true → page_at after r p ≡ page_at c r p
    kept class none r p h = page-added c region page rights bytes r p lacks.store ∙ by (eqb_tells r region) (eqb_tells p page)
      where
        by : ((nat_eq r region ≡ true) × (r ≡ region)) ⊎ ((nat_eq r region ≡ false) × (r ≢ region)) → ((nat_eq p page ≡ true) × (p ≡ page)) ⊎ ((nat_eq p page ≡ false) × (p ≢ page))
            → cond (nat_eq r region && nat_eq p page) (Some (page_of_bytes rights bytes)) (page_at c r p) ≡ page_at c r p
        by (inl (t, e)) (inl (u, f)) = let no : has_member r p class ≡ false = rw (e, f) none in absurd (cc)
        by (inl (t, e)) (inr (u, f)) = rw (t, u) refl
        by (inr (t, e)) x = rw t refl

-- whether a frame is free for it or not
pub add_page-parts : PagesAreMoved → (n : ℕ) → n ≤ most_regions → (c : Content) (region page rights : ℕ) (bytes : List ℕ) → region < n → rights < 8 → LacksPage region page c → IsWhole c
    → IsWhole (add_page_of c region page rights bytes).after → HasSoundParts n c → HasSoundParts n (add_page_of c region page rights bytes).after
unfolding add_page_of
add_page-parts law n most c region page rights bytes low small lacks whole then is = by (is_full c) then
  where
    outcome : Bool → CallOutcome (Result (Unit {0}) NoFrame)
    outcome full = cond full (record { answer = Err no_frame; after = c }) (record { answer = Ok tt; after = with_new_page c region page rights bytes })

    by : (full : Bool) → IsWhole (outcome full).after → HasSoundParts n (outcome full).after
    by true then = is
    by false then = added-parts law n most c region page rights bytes low small lacks whole then is
