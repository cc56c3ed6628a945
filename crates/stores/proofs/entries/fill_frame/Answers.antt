use Rattle.std.proofs.Common.{arith}
use Rattle.std.proofs.lemmas.List.{set-set}
use Rattle.stores.proofs.BoardParts.{frame-with_frame_same}
use Rattle.stores.proofs.entries.fill_frame.Goals as goal

pub returns : goal.returns
returns c = grind (arith, set-set, frame-with_frame_same)
