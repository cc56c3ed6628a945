-- The taken frames are those of the classes, and each of them lies below the number of frames.
use Rattle.std.proofs.Common.{sym}
use Rattle.stores.proofs.BoardPages.{used_count-classes}
use Rattle.stores.proofs.WholeContents.{used-within}
use Rattle.stores.proofs.laws.taken_are_used.Goals as goal

pub returns : goal.returns
returns c = record { taken = used_count-classes; within = used-within; size = λ board content stands. sym stands.size }
