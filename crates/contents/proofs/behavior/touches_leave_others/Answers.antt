use Rattle.contents.proofs.Fits.{class-apart}
use Rattle.contents.proofs.behavior.touches_leave_others.Goals as goal

pub returns : goal.returns
returns c = λ c' region note r p class. class-apart note.touched c'.account region note.page r p class
