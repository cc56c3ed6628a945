use Rattle.ufork_program.proofs.SourceTexts.{long-file}
use Rattle.ufork_program.proofs.request.too_long_source.Goals as goal

pub returns : goal.returns
returns c = long-file
