-- Bytes of a frame, one after another.
use Rattle.std.proofs.Common.{◌≡◌, ℕ, zero, suc, ◌+◌, List, [], ◌∷◌, ◌++◌, ap, refl, arith}
use Rattle.cap_format.specs.declared.cap.Cap.{Cap}
use Rattle.machine_types.specs.Granules.{number_at, bytes_at}

-- one more byte is the byte after the others
pub bytes_at-more : (granules : List Cap) (at count : ℕ) → bytes_at granules at (count + 1) ≡ bytes_at granules at count ++ number_at granules (at + count) 1 ∷ []
bytes_at-more granules at zero = let e : at + 0 ≡ at = omega arith in rw e refl
bytes_at-more granules at (suc count) =
    let left : suc count + 1 ≡ suc (count + 1) = omega arith in
    let right : at + suc count ≡ at + 1 + count = omega arith in
    rw (left, right) (ap (λ rest. number_at granules at 1 ∷ rest) (bytes_at-more granules (at + 1) count))
