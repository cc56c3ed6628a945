use Rattle.asm_image.proofs.Exact.{files-hold-programs}
use Rattle.asm_image.proofs.laws.files_are_exact.Goals as goal

pub returns : goal.returns
returns c = files-hold-programs
