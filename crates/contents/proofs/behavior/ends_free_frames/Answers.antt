use Rattle.contents.proofs.EndedClasses.{end-some, end-used, end-shares, end-home, end-own}
use Rattle.contents.proofs.behavior.ends_free_frames.Goals as goal

pub returns : goal.returns
returns c = record {
  some = end-some;
  used = end-used;
  others = end-shares;
  homes = end-home;
  own = end-own;
}
