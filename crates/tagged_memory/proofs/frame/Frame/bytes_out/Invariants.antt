use Rattle.std.proofs.Common.{◌≡◌, take}
use Rattle.machine_types.specs.Granules.{bytes_at}
use Rattle.tagged_memory.proofs.frame.Frame.bytes_out.Given as goal

-- the bytes so far
abbrev pub invariant-loop-i : goal.invariant-loop-i
invariant-loop-i l = take l.i l.into ≡ bytes_at l.self l.at l.i
