-- What a space shows of its content without a touch.
use Rattle.std.specs.Prelude.{ℕ, Bool, false, not, ◌==◌, Option, Some, None, length}
use Rattle.std.specs.Option.{option_map}
use Rattle.cap_format.specs.declared.cap.Cap.{Cap}
use Rattle.machine_types.specs.Granules.{granule}
use Rattle.machine_types.specs.Accounts.{Class}
use Rattle.machine_types.specs.Touches.{is_foreign}
use Rattle.contents.specs.Content.{Content, page_at, class_at}

-- what the page holds at a granule
unfoldable pub peek_of : Content → ℕ → ℕ → ℕ → Option Cap
peek_of c region page g = option_map (λ p. granule p.granules g) (page_at c region page)

-- the rights of a page
unfoldable pub rights_of : Content → ℕ → ℕ → Option ℕ
rights_of c region page = option_map (λ p. p.rights) (page_at c region page)

-- How a page stands: its rights, whether the home of its class is the region, and whether it is alone in its class.
pub record Standing : Type 0 where
  pub rights : ℕ
  pub home : Bool
  pub alone : Bool

abbrev pub is_home : ℕ → Option Class → Bool
is_home region None = false
is_home region (Some class) = not (is_foreign class region)

abbrev pub is_alone : Option Class → Bool
is_alone None = false
is_alone (Some class) = length class.members == 1

unfoldable pub standing_of : Content → ℕ → ℕ → Option Standing
standing_of c region page =
    option_map (λ p. record { rights = p.rights; home = is_home region (class_at c region page); alone = is_alone (class_at c region page) })
    (page_at c region page)
