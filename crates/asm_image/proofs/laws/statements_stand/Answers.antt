-- Each statement stands at its place.
use Rattle.asm_image.proofs.StatementsStand.{statements-stand}
use Rattle.asm_image.proofs.laws.statements_stand.Goals as goal

pub returns : goal.returns
returns c = statements-stand
