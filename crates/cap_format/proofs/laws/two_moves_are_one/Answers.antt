use Rattle.std.proofs.Common.{◌≡◌, ℕ, ◌^◌, ◌<◌, Bool, true, false, refl, ap}
use Rattle.cap_format.specs.declared.cap.Cap.{Cap}
use Rattle.cap_format.specs.Moves.{moved_by, IsRegionSize, IsHeldIn, distance_of}
use Rattle.cap_format.proofs.RegionMoves.{twice-bits}
use Rattle.cap_format.proofs.laws.two_moves_are_one.Goals as goal

-- with a tag the bits are those of one move, and without one nothing moves
twice : (s bits : ℕ) (tag : Bool) (from over to : ℕ) → IsRegionSize s → bits < 2 ^ 128 → over < 64 → to < 64 → IsHeldIn s record { bits = bits; tag = tag } from → moved_by (moved_by record { bits = bits; tag = tag } (distance_of s from over)) (distance_of s over to) ≡ moved_by record { bits = bits; tag = tag } (distance_of s from to)
twice s bits true from over to size pattern between other held = ap (λ b. let cap : Cap = record { bits = b; tag = true } in cap) (twice-bits s bits from over to size pattern between other (held refl))
twice s bits false from over to size pattern between other held = refl

pub returns : goal.returns
returns c = λ s cap from over to size pattern between other held. twice s cap.bits cap.tag from over to size pattern between other held
