use Rattle.std.proofs.Common.{◌∙◌}
use Rattle.stores.proofs.BoardPages.{used_count-classes}
use Rattle.full_space.proofs.space.FullSpaceStores.used.Goals as goal

pub returns : goal.returns
returns c content stands = c.used.ensures ∙ used_count-classes c.args.self.now.board content stands.board
