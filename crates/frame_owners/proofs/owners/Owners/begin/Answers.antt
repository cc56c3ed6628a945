use Rattle.frame_owners.proofs.Shares.{put-owner}
use Rattle.frame_owners.proofs.owners.Owners.begin.Goals as goal

pub returns : goal.returns
returns c = put-owner _ _ _ _ c.self.view_is
