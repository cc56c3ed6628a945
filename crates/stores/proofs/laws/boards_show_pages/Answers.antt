use Rattle.stores.proofs.BoardFrames.{shown-pages, shown-moves, shown-homes, shown-taken, shown-entered, shown-free}
use Rattle.stores.proofs.laws.boards_show_pages.Goals as goal

pub returns : goal.returns
returns c = record {
  pages = shown-pages;
  number = λ board c r p s q f stands here there. stands.kept.number r p s q f here there;
  moves = shown-moves;
  homes = shown-homes;
  taken = shown-taken;
  entered = shown-entered;
  free = shown-free;
}
