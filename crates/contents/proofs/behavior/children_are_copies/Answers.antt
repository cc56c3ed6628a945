use Rattle.contents.proofs.ChildPages.{child-rights, child-some, child-untagged, child-tagged}
use Rattle.contents.proofs.behavior.children_are_copies.Goals as goal

pub returns : goal.returns
returns c = record {
  rights = child-rights;
  pages = child-some;
  untagged = child-untagged;
  tagged = λ c from to page g cap e is tagged. child-tagged c from to page g cap e is;
}
