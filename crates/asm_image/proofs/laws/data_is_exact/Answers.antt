use Rattle.asm_image.proofs.DataBytes.{data-exact}
use Rattle.asm_image.proofs.laws.data_is_exact.Goals as goal

pub returns : goal.returns
returns c = data-exact
