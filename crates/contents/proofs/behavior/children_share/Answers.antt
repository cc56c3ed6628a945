use Rattle.contents.proofs.ChildClasses.{child-own, copies-share, child-with-parent, child-homes, child-shares, others-share, children-share, fork-homes, child-absent}
use Rattle.contents.proofs.behavior.children_share.Goals as goal

pub returns : goal.returns
returns c = record {
  own = child-own;
  full_others = copies-share;
  with_parent = child-with-parent;
  home = λ c from to page whole none other there. child-homes c from to page whole none other;
  child = child-shares;
  others = others-share;
  among = children-share;
  homes = fork-homes;
  absent = child-absent;
}
