use Rattle.cap_format.specs.Moves.{moved_bits, distance_of}
use Rattle.cap_format.proofs.RegionMoves.{inside-move, same-move}
use Rattle.cap_format.proofs.laws.each_move_is_one.Goals as goal

pub returns : goal.returns
returns c = λ s bits from to size pattern other inside.
    let move = inside-move s bits from to size pattern other inside in
    (move, λ moved is. same-move bits (distance_of s from to) moved (moved_bits bits (distance_of s from to)) is move)
