-- A board stands for each content with the same pages, classes and frames, whichever regions have a store.
use Rattle.std.proofs.Common.{◌≡◌, ◌∙◌, ℕ, sym}
use Rattle.contents.specs.Content.{Content, page_at}
use Rattle.stores.specs.declared.board.Board.{Board}
use Rattle.stores.specs.Boards.{Stands}

-- both have the same pages, classes and frames
pub record StandAlike (c d : Content) : Type 0 where
  pub pages : (region page : ℕ) → page_at d region page ≡ page_at c region page
  pub account : d.account ≡ c.account
  pub frames : d.frames ≡ c.frames

pub stands-alike : (board : Board) (c d : Content) → StandAlike c d → Stands board c → Stands board d
stands-alike board c d alike stands = record {
  frames = stands.frames;
  kept = rw (alike.frames, alike.account) stands.kept;
  pages = λ region page. rw (alike.pages region page) (stands.pages region page);
  size = stands.size ∙ sym alike.frames;
  memory = rw alike.frames stands.memory;
  owners = rw alike.frames stands.owners;
}
