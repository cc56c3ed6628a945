use Rattle.std.proofs.Common.{refl}
use Rattle.machine_types.proofs.MovedPages.{granule-moved_granules, granule-moved_granules_untagged, length-moved_granules, is_tagged-moved_granules, AreHeld-moved_granules, moved_granules-itself, moved_granules-twice}
use Rattle.machine_types.proofs.laws.pages_are_moved.Goals as goal

pub returns : goal.returns
returns c = record {
  rights = λ from to p. refl;
  same_length = λ from to p. length-moved_granules from to p.granules;
  untagged = λ from to p. granule-moved_granules_untagged from to p.granules;
  tagged = λ from to p g tagged. granule-moved_granules from to p.granules g;
  tags = λ from to p. is_tagged-moved_granules from to p.granules;
  held = AreHeld-moved_granules;
  itself = moved_granules-itself;
  twice = moved_granules-twice;
}
