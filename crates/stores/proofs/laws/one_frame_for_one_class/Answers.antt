-- Pages with one frame are counted in its class, and pages that are counted in one class have its frame.
use Rattle.std.proofs.Common.{◌∙◌, Some, ap, sym}
use Rattle.frame_owners.specs.Homes.{owner}
use Rattle.stores.specs.Boards.{frame_of}
use Rattle.stores.proofs.FramesShared.{both-counted, frame-same}
use Rattle.stores.proofs.laws.one_frame_for_one_class.Goals as goal

pub returns : goal.returns
returns c board content r p s q f g stands h k = (
  λ same. both-counted (frame_of board.table.entries) (owner board.owners) stands.frames content.account r p s q f stands.kept.classes (stands.kept.listed r p f h) h (k ∙ ap Some (sym same)),
  frame-same (frame_of board.table.entries) (owner board.owners) stands.frames content.account r p s q f g stands.kept.classes h k,
)
