use Rattle.std.proofs.Common.{refl}
use Rattle.frame_owners.proofs.Shares.{change-owner}
use Rattle.frame_owners.proofs.owners.Owners.set_home.Goals as goal

pub returns : goal.returns
returns c = change-owner (λ o. record { home = c.args.region; sharers = o.sharers }) _ _ _ _ _ c.self.view_is c.requires.frame c.index_mut-share.ensures.value refl
