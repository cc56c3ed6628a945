use Rattle.std.proofs.Common.{◌≡◌, ◌+◌, drop}
use Rattle.machine_types.specs.Granules.{with_bytes}
use Rattle.tagged_memory.specs.Frames.{IsFrame}
use Rattle.tagged_memory.proofs.frame.Frame.bytes_in.Given as goal

-- the bytes to come make the frame that is wanted, and it is a frame still
abbrev pub invariant-loop-i : goal.invariant-loop-i
invariant-loop-i l = (with_bytes l.self (l.at + l.i) (drop l.i l.from) ≡ with_bytes l.initial.self l.at l.from) × (IsFrame l.initial.self → IsFrame l.self)
