-- Laws of looks: they say the same of a page. And what "none" is in notes and refusals.
use Rattle.std.specs.Prelude.{ℕ, ◌≡◌, ◌↔◌, true, is_some, Some, length}
use Rattle.std.specs.Option.{option_map}
use Rattle.machine_types.specs.declared.touches.Touched.TheVariants.{No}
use Rattle.machine_types.specs.Accounts.{Class}
use Rattle.contents.specs.Content.{Content, page_at, class_at}
use Rattle.contents.specs.Accesses.{untouched, page_of_place}
use Rattle.contents.specs.Regions.{no_frame}
use Rattle.contents.specs.Transfers.{tagged_in}
use Rattle.contents.specs.Looks.{Standing, peek_of, rights_of, standing_of}
use Rattle.contents.specs.Reading.{tag_seen}

-- A page is there for `peek`, `rights` and how it stands alike, with the same rights; it is at home where its region is the
-- home of its class, and alone where the class has one member. A byte lies in a tagged granule where `peek` shows the tag.
pub record LooksAgree : Type 0 where
  pub there : (c : Content) (region page g : ℕ) → is_some (peek_of c region page g) ≡ is_some (rights_of c region page)
  pub rights : (c : Content) (region page : ℕ) → option_map (λ s. s.rights) (standing_of c region page) ≡ rights_of c region page
  pub home : (c : Content) (region page : ℕ) (s : Standing) (class : Class) → standing_of c region page ≡ Some s → class_at c region page ≡ Some class → (s.home ≡ true) ↔ (class.home ≡ region)
  pub alone : (c : Content) (region page : ℕ) (s : Standing) (class : Class) → standing_of c region page ≡ Some s → class_at c region page ≡ Some class → (s.alone ≡ true) ↔ (length class.members ≡ 1)
  pub tag : (c : Content) (region at : ℕ) → (tagged_in (page_at c region (page_of_place at)) at ≡ true) ↔ (tag_seen c region at ≡ Some true)

-- A note of no touch names page 0, and a want of frames where no touch was made before names none.
pub record NoneIsNone : Type 0 where
  pub note : untouched ≡ record { page = 0; touched = No }
  pub refusal : no_frame ≡ record { before = record { page = 0; touched = No } }
