use Rattle.full_space.proofs.ShownFrames.{rights-shown, frames-shown, frames-apart}
use Rattle.full_space.proofs.laws.full_spaces_show_pages.Goals as goal

pub returns : goal.returns
returns c = record {
  rule = λ space content stands. stands.rule;
  pages = rights-shown;
  frames = frames-shown;
  apart = frames-apart c.boards_show_pages.ensures;
}
