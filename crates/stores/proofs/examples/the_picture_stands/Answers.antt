use Rattle.stores.proofs.PicturedBoard.{the-picture-stands}
use Rattle.stores.proofs.examples.the_picture_stands.Goals as goal

pub returns : goal.returns
returns c = the-picture-stands
