-- Looks at one page: whether it is there, its rights, its home, whether it is alone, and the tags that are seen.
use Rattle.std.proofs.Common.{◌≡◌, ◌↔◌, ◌∙◌, ℕ, nat_eq, not, Bool, true, false, Option, Some, None, length, refl, ap, sym}
use Rattle.std.specs.Prelude.{is_some}
use Rattle.std.specs.Option.{option_map}
use Rattle.std.proofs.lemmas.Bool.{eqb-true, eq-eqb, false≢true}
use Rattle.cap_format.specs.declared.cap.Cap.{Cap}
use Rattle.machine_types.specs.Granules.{granule}
use Rattle.machine_types.specs.Stores.{Page}
use Rattle.machine_types.specs.Accounts.{Class}
use Rattle.contents.specs.Content.{Content, page_at, class_at}
use Rattle.contents.specs.Accesses.{page_of_place, granule_of_place}
use Rattle.contents.specs.Transfers.{tagged_in}
use Rattle.contents.specs.Looks.{Standing, peek_of, rights_of, standing_of, is_home, is_alone}
use Rattle.contents.specs.Reading.{tag_seen}

pub looks-there : (c : Content) (region page g : ℕ) → is_some (peek_of c region page g) ≡ is_some (rights_of c region page)
unfolding peek_of rights_of
looks-there c region page g = by (page_at c region page)
  where
    by : (o : Option Page) → is_some (option_map (λ (p : Page). granule p.granules g) o) ≡ is_some (option_map (λ (p : Page). p.rights) o)
    by None = refl
    by (Some p) = refl

-- how a page stands, where it is there or not
abbrev stands : Bool → Bool → Option Page → Option Standing
stands home alone = option_map (λ p. record { rights = p.rights; home = home; alone = alone })

pub looks-rights : (c : Content) (region page : ℕ) → option_map (λ s. s.rights) (standing_of c region page) ≡ rights_of c region page
unfolding standing_of rights_of
looks-rights c region page = by (page_at c region page)
  where
    by : (o : Option Page) → option_map (λ (s : Standing). s.rights) (stands (is_home region (class_at c region page)) (is_alone (class_at c region page)) o) ≡ option_map (λ (p : Page). p.rights) o
    by None = refl
    by (Some p) = refl

-- a page that stands so has this home, and is alone or not
stands-so : (home alone : Bool) (o : Option Page) (s : Standing) → stands home alone o ≡ Some s → (s.home ≡ home) × (s.alone ≡ alone)
stands-so home alone None s h = absurd (cc)
stands-so home alone (Some p) s h = let same : record { rights = p.rights; home = home; alone = alone } ≡ s = cc in (sym (ap (λ (s : Standing). s.home) same), sym (ap (λ (s : Standing). s.alone) same))

pub looks-home : (c : Content) (region page : ℕ) (s : Standing) (class : Class) → standing_of c region page ≡ Some s → class_at c region page ≡ Some class → (s.home ≡ true) ↔ (class.home ≡ region)
unfolding standing_of
looks-home c region page s class h there = (λ t. eqb-true class.home region (twice (nat_eq class.home region) (sym is ∙ t)), λ same. is ∙ ap (λ (b : Bool). not (not b)) (eq-eqb class.home region same))
  where
    is : s.home ≡ not (not (nat_eq class.home region))
    is = (stands-so (is_home region (class_at c region page)) (is_alone (class_at c region page)) (page_at c region page) s h).0 ∙ ap (is_home region) there

    twice : (b : Bool) → not (not b) ≡ true → b ≡ true
    twice true t = refl
    twice false t = t

pub looks-alone : (c : Content) (region page : ℕ) (s : Standing) (class : Class) → standing_of c region page ≡ Some s → class_at c region page ≡ Some class → (s.alone ≡ true) ↔ (length class.members ≡ 1)
unfolding standing_of
looks-alone c region page s class h there = (λ t. eqb-true (length class.members) 1 (sym is ∙ t), λ same. is ∙ eq-eqb (length class.members) 1 same)
  where
    is : s.alone ≡ nat_eq (length class.members) 1
    is = (stands-so (is_home region (class_at c region page)) (is_alone (class_at c region page)) (page_at c region page) s h).1 ∙ ap is_alone there

pub looks-tag : (c : Content) (region at : ℕ) → (tagged_in (page_at c region (page_of_place at)) at ≡ true) ↔ (tag_seen c region at ≡ Some true)
unfolding peek_of
looks-tag c region at = by (page_at c region (page_of_place at))
  where
    by : (o : Option Page) → (tagged_in o at ≡ true) ↔ (option_map (λ (cap : Cap). cap.tag) (option_map (λ (p : Page). granule p.granules (granule_of_place at)) o) ≡ Some true)
    by None = (λ t. absurd (false≢true t), λ t. absurd (cc))
    by (Some p) = (λ t. ap Some t, λ t. let same : (granule p.granules (granule_of_place at)).tag ≡ true = cc in same)
