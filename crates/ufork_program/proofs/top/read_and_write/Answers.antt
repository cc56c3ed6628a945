use Rattle.ufork_program.proofs.InputsKept.{went}
use Rattle.ufork_program.proofs.top.read_and_write.Goals as goal

pub returns : goal.returns
returns g c = let read = c.read_request-request.ensures in went _ c.read_request-request.result read.usable read.comes read.files read.input read.contents c.answer_request.ensures
