-- Frames, and memories of frames.
use Rattle.std.proofs.Common.{◌≡◌, ◌∙◌, ℕ, zero, suc, ◌^◌, ◌<◌, Bool, List, length, length-set, set, replicate, arith}
use Rattle.std.proofs.lemmas.Grind.{common_steps}
use Rattle.std.proofs.lemmas.List.Elements.{All-set, All-replicate}
use Rattle.cap_format.specs.Made.{null}
use Rattle.cap_format.specs.declared.cap.Cap.{Cap}
use Rattle.tagged_memory.specs.Frames.{IsFrame, AreFrames}
use Rattle.tagged_memory.specs.Zipped.{zipped}
use Rattle.tagged_memory.proofs.Zips.{zipped-set}

-- a frame of zeros without a tag
pub IsFrame-replicate : IsFrame (replicate 256 null)
IsFrame-replicate = record { whole = omega arith; patterns = All-replicate (λ cap. cap.bits < 2 ^ 128) 256 null (omega arith) }

-- a frame that is kept as two lists, with another granule
pub IsFrame-zipped : (words : List ℕ) (tags : List Bool) (g : ℕ) (cap : Cap) → IsFrame (zipped words tags) → cap.bits < 2 ^ 128 → IsFrame (zipped (set words g cap.bits) (set tags g cap.tag))
IsFrame-zipped words tags g cap is fits =
    let size : length (set (zipped words tags) g cap) ≡ 256 = length-set (zipped words tags) g cap ∙ is.whole in
    rw (zipped-set words tags g cap) (record { whole = size; patterns = All-set (λ cap. cap.bits < 2 ^ 128) (zipped words tags) g cap fits is.patterns })

-- so many frames that are one
pub AreFrames-replicate : (count : ℕ) (granules : List Cap) → IsFrame granules → AreFrames (replicate count granules)
AreFrames-replicate zero granules is f below = absurd (grind (arith, common_steps))
AreFrames-replicate (suc count) granules is zero below = is
AreFrames-replicate (suc count) granules is (suc f) below = AreFrames-replicate count granules is f (grind (arith, common_steps))
