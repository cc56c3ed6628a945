-- No entry lies past the last region.
use Rattle.cap_format.specs.Numbers.{most_regions}
use Rattle.stores.proofs.BoardPages.{frame-within}
use Rattle.stores.proofs.SharersCounted.{sharers-most}
use Rattle.stores.proofs.laws.sharers_are_few.Goals as goal

pub returns : goal.returns
returns c board content region page f stands here = sharers-most stands.kept most_regions (λ r p g there. (frame-within board.table r p g there).0) region page f here
