use Rattle.cap_format.proofs.RegionMoves.{inside-moves}
use Rattle.cap_format.proofs.laws.moves_go_inside.Goals as goal

pub returns : goal.returns
returns c = λ s bits from to size _ other inside. inside-moves s bits from to size other inside
