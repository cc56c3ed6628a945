-- What a source is assembled to is an image.
use Rattle.asm_image.proofs.SourceImages.{sources-are-images}
use Rattle.asm_image.proofs.laws.sources_are_images.Goals as goal

pub returns : goal.returns
returns c = sources-are-images c.files_are_images.ensures c.sources_have_ranges.ensures
