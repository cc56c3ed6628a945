use Rattle.std.proofs.Common.{◌≡◌, ℕ, ◌^◌, ◌<◌, Bool, true, false, refl, ap}
use Rattle.cap_format.specs.declared.cap.Cap.{Cap}
use Rattle.cap_format.specs.Moves.{moved_by, IsRegionSize, IsHeldIn, distance_of}
use Rattle.cap_format.proofs.RegionMoves.{same-bits}
use Rattle.cap_format.proofs.laws.moves_to_itself_are_none.Goals as goal

-- with a tag the bits are the same, and without one nothing moves
itself : (s bits : ℕ) (tag : Bool) (region : ℕ) → IsRegionSize s → bits < 2 ^ 128 → IsHeldIn s record { bits = bits; tag = tag } region → moved_by record { bits = bits; tag = tag } (distance_of s region region) ≡ record { bits = bits; tag = tag }
itself s bits true region size pattern held = ap (λ b. let cap : Cap = record { bits = b; tag = true } in cap) (same-bits s bits region size pattern (held refl))
itself s bits false region size pattern held = refl

pub returns : goal.returns
returns c = λ s cap region size pattern held. itself s cap.bits cap.tag region size pattern held
