-- Laws of the space of whole copies: each is the contract of a function of this crate.
use Rattle.std.specs.Prelude.{ℕ, ◌≡◌, Some}
use Rattle.std.specs.Option.{option_map}
use Rattle.machine_types.specs.declared.config.Rule.TheVariants.{Full}
use Rattle.machine_types.specs.Stores.{Page}
use Rattle.tagged_memory.specs.Frames.{frame}
use Rattle.contents.specs.Content.{Content, page_at}
use Rattle.contents.specs.Looks.{rights_of}
use Rattle.stores.specs.declared.space.Translation.{Translation}
use Rattle.full_space.specs.declared.space.FullSpace.{FullSpace}
use Rattle.full_space.specs.Full.{FullStands, full_translations, frames_of}

-- What a space shows of each content that it stands for. The rule is `full`. There is a translation exactly where there is
-- a page, and it has the page's rights. The frame of its number holds the page's granules. Two pages with one frame are one
-- page of one region.
pub record FullSpacesShowPages : Type 0 where
  pub rule : (space : FullSpace) (c : Content) → FullStands space c → c.rule ≡ Full
  pub pages : (space : FullSpace) (c : Content) (region page : ℕ) → FullStands space c
      → option_map (λ t. t.rights) (full_translations space region page) ≡ rights_of c region page
  pub frames : (space : FullSpace) (c : Content) (region page : ℕ) (t : Translation) (p : Page) → FullStands space c
      → full_translations space region page ≡ Some t → page_at c region page ≡ Some p → p.granules ≡ frame (frames_of space) t.frame.0
  pub apart : (space : FullSpace) (c : Content) (r p s q : ℕ) (one two : Translation) → FullStands space c
      → full_translations space r p ≡ Some one → full_translations space s q ≡ Some two → one.frame ≡ two.frame → (r ≡ s) × (p ≡ q)
