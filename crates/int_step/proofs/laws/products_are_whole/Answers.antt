use Rattle.int_step.proofs.Products.{products-whole}
use Rattle.int_step.proofs.laws.products_are_whole.Goals as goal

pub returns : goal.returns
returns c = products-whole
