-- What the end of a region keeps of a sound content.
use Rattle.std.proofs.Common.{◌≡◌, ◌≢◌, ◌∙◌, sym, ap, ℕ, ◌<◌, ◌==◌, ◌||◌, not, nat_eq, get_or, Some, None, List, [], ◌∷◌, map, filter, length, cond, true, false, Bool, refl, arith}
use Rattle.std.specs.List.{list_any}
use Rattle.std.specs.Option.{option_map}
use Rattle.std.proofs.lemmas.Bool.{ne_eqb}
use Rattle.std.proofs.lemmas.Bool.Decides.{nat_tests}
use Rattle.std.proofs.lemmas.List.Filters.{length-filter_both}
use Rattle.std.proofs.lemmas.List.Elements.{All-map, All-filter, filter_passes}
use Rattle.machine_types.specs.declared.config.Rule.TheVariants.{Full}
use Rattle.machine_types.specs.Stores.{Page, moved_page}
use Rattle.machine_types.specs.Accounts.{Member, Class, is_member, has_member, has_members, without_region, account_at_end}
use Rattle.contents.specs.Content.{Content, page_in, page_at}
use Rattle.contents.specs.Regions.{end_of}
use Rattle.machine.specs.Sound.{IsClassOf, IsInRange, IsAlone}
use Rattle.machine.proofs.Members.{count-filter}
use Rattle.machine.proofs.SoundParts.{HasSoundParts}

-- each page afterwards
page-ended : (c : Content) (region r p : ℕ) → page_at (end_of c region) r p ≡ cond (nat_eq r region) None (page_at c r p)
unfolding end_of
page-ended c region r p = by (nat_eq r region)
  where
    by : (b : Bool) → page_in (cond b None (c.stores r)) p ≡ cond b None (page_at c r p)
    by true = refl
    by false = refl

-- so a page that is there was there before
page-there : (c : Content) (region r p : ℕ) (x : Page) → page_at (end_of c region) r p ≡ Some x → page_at c r p ≡ Some x
page-there c region r p x e = by (nat_eq r region) (sym (page-ended c region r p) ∙ e)
  where
    by : (b : Bool) → cond b None (page_at c r p) ≡ Some x → page_at c r p ≡ Some x
    by true f = absurd (cc)
    by false f = f

-- the members that are left were members, and lie in other regions
members-left : (region r p : ℕ) (members : List Member) → list_any (is_member r p) (filter (λ m. not (m.region == region)) members) ≡ true → (list_any (is_member r p) members ≡ true) × (r ≢ region)
members-left region r p [] h = absurd (cc)
members-left region r p (m ∷ members) h = by (nat_eq m.region region) refl h (members-left region r p members)
  where
    rest : List Member
    rest = filter (λ m. not (m.region == region)) members

    by : (b : Bool) → nat_eq m.region region ≡ b → list_any (is_member r p) (cond (not b) (m ∷ rest) rest) ≡ true
        → (list_any (is_member r p) rest ≡ true → (list_any (is_member r p) members ≡ true) × (r ≢ region))
        → ((is_member r p m || list_any (is_member r p) members) ≡ true) × (r ≢ region)
    by true e h old = let q = old h in (grind arith, q.1)
    by false e h old = by-here (is_member r p m) refl h
      where
        by-here : (x : Bool) → is_member r p m ≡ x → (x || list_any (is_member r p) rest) ≡ true → ((x || list_any (is_member r p) members) ≡ true) × (r ≢ region)
        by-here true f h = (refl, λ same. grind (arith, nat_tests))
        by-here false f h = old h

-- what is left of a class is one
left-is-class : (c : Content) (region : ℕ) (class : Class) → IsClassOf c class → IsClassOf (end_of c region) (without_region region class)
left-is-class c region class is = record {
  one_page = λ r p s q h k. is.one_page r p s q (old r p h).0 (old s q k).0;
  different = λ r. let less = count-filter (λ m. m.region == r) (λ m. not (m.region == region)) class.members in let one = is.different r in omega arith;
  moves = λ r s p h k. same s p (old s p k).1 ∙ is.moves r s p (old r p h).0 (old s p k).0 ∙ ap (option_map (moved_page r s)) (sym (same r p (old r p h).1));
}
  where
    old : (r p : ℕ) → has_member r p (without_region region class) ≡ true → (has_member r p class ≡ true) × (r ≢ region)
    old r p h = members-left region r p class.members h

    same : (r p : ℕ) → r ≢ region → page_at (end_of c region) r p ≡ page_at c r p
    same r p other = page-ended c region r p ∙ rw (ne_eqb r region other) refl

-- in range as before
left-range : (region n : ℕ) (class : Class) → IsInRange n class → IsInRange n (without_region region class)
left-range region n class range = record { home = range.home; members = λ r p h. range.members r p (members-left region r p class.members h).0 }

-- and alone, where it has a member left
left-alone : (region : ℕ) (class : Class) → IsAlone class → has_members (without_region region class) ≡ true → IsAlone (without_region region class)
left-alone region class is some = record {
  one =
      let less = length-filter_both (λ m. not (m.region == region)) (λ m. not (not (m.region == region))) (λ _. refl) class.members in
      let one = is.one in
      grind (arith, nat_tests);
  home = λ r p h. is.home r p (members-left region r p class.members h).0;
}

-- The end keeps the parts.
pub end-parts : (n : ℕ) (c : Content) (region : ℕ) → HasSoundParts n c → HasSoundParts n (end_of c region)
unfolding end_of account_at_end
end-parts n c region is = record {
  held = λ r p x e. is.held r p x (page-there c region r p x e);
  classes = All-filter has_members (IsClassOf (end_of c region)) left (All-map (IsClassOf (end_of c region)) (without_region region) c.account (λ k d w. left-is-class c region (get_or c.account k d) (is.classes k d w)));
  range = All-filter has_members (IsInRange n) left (All-map (IsInRange n) (without_region region) c.account (λ k d w. left-range region n (get_or c.account k d) (is.range k d w)));
  alone = λ full k d w. by k d w full;
  rights = λ r p x e. is.rights r p x (page-there c region r p x e);
}
  where
    left : List Class
    left = map (without_region region) c.account

    by : (k : ℕ) (d : Class) → k < length (filter has_members left) → c.rule ≡ Full → IsAlone (get_or (filter has_members left) k d)
    by k d w full =
        All-filter has_members (λ class. has_members class ≡ true → IsAlone class) left
        (All-map (λ class. has_members class ≡ true → IsAlone class) (without_region region) c.account (λ k d w some. left-alone region (get_or c.account k d) (is.alone full k d w) some))
        k d w (filter_passes has_members left k d w)
