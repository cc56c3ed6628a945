use Rattle.asm_image.proofs.Images.{files-are-images}
use Rattle.asm_image.proofs.laws.files_are_images.Goals as goal

pub returns : goal.returns
returns c = files-are-images
