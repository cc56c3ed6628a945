use Rattle.contents.specs.Laws.{HasSameSetting}
use Rattle.contents.proofs.CallShapes.{each-call}
use Rattle.contents.proofs.Settings.{setting-steps}
use Rattle.contents.proofs.laws.settings_stay.Goals as goal

pub returns : goal.returns
returns c = each-call HasSameSetting setting-steps
