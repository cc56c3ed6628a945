use Rattle.outside_io.proofs.MomentLemmas.{CutAt-parts, EndsAt-answer, EndsAt-moment}
use Rattle.outside_io.proofs.laws.moments_are_parts.Goals as goal

pub returns : goal.returns
returns c = record {
  cut = λ moments is_left. CutAt-parts moments _;
  ends = λ course is_left. EndsAt-answer course _;
  left = λ course is_left. EndsAt-moment course _;
}
