-- The bytes of the segments stand where their headers say.
use Rattle.std.proofs.Common.{◌≡◌, ℕ, ◌-◌, List, [], ◌∷◌, ◌++◌, length, take, drop, arith}
use Rattle.cap_format.specs.Numbers.{page_bytes}
use Rattle.cap_format.specs.SetBounds.{up_to}
use Rattle.asm_image.specs.Pieces.{Piece}
use Rattle.asm_image.specs.Program.{Segment, segment_pieces, after}
use Rattle.asm_image.proofs.Standing.{From, read-bytes, past}
use Rattle.asm_image.proofs.Sizes.{length-zeros}

-- each segment's bytes stand in the file, behind a place
abbrev pub PartsStand : List ℕ → ℕ → List Segment → Type 0
PartsStand file at [] = Unit {0}
PartsStand file at (segment ∷ segments) = (take (length segment.bytes) (drop (up_to at page_bytes) file) ≡ segment.bytes) × PartsStand file (after at segment) segments

-- they do where their pieces stand
pub read-parts : (file : List ℕ) (at : ℕ) (segments : List Segment) (rest : List Piece) → From file at (segment_pieces at segments ++ rest) → PartsStand file at segments
read-parts file at [] rest stands = tt
read-parts file at (segment ∷ segments) rest stands =
    let behind = past stands (up_to at page_bytes) (omega (arith, length-zeros (up_to at page_bytes - at))) in
    (read-bytes behind, read-parts file (after at segment) segments rest (past behind (after at segment) (omega arith)))
