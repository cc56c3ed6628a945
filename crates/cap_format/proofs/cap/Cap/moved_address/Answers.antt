use Rattle.std.proofs.Common.{arith}
use Rattle.cap_format.proofs.RegionMoves.{inside-room}
use Rattle.cap_format.proofs.cap.Cap.moved_address.Goals as goal

pub overflow_add-result : goal.overflow_add-result
overflow_add-result c =
    let room = inside-room c.args.self.bits c.args.from c.args.to c.requires.from c.requires.to c.requires.inside in
    omega (arith, room.0, room.1)

pub overflow_sub-result : goal.overflow_sub-result
overflow_sub-result c =
    let room = inside-room c.args.self.bits c.args.from c.args.to c.requires.from c.requires.to c.requires.inside in
    omega (arith, room.0, room.1)

pub returns : goal.returns
returns c =
    let room = inside-room c.args.self.bits c.args.from c.args.to c.requires.from c.requires.to c.requires.inside in
    omega (arith, room.0, room.1)
