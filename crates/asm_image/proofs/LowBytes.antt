-- The lowest bytes of a number in two's complement.
use Rattle.std.proofs.Common.{◌≡◌, ◌∙◌, refl, ap, ℕ, ◌^◌, ◌≤◌, ℤ, pos, negsuc, take, to_z, of_z}
use Rattle.std.specs.Int.{w64, w128, int_rem_euclid, to_le_bytes}
use Rattle.std.specs.Int.RustNames.{FitsSigned, unsigned_abs}
use Rattle.std.proofs.lemmas.Int.{to_z-of_z}
use Rattle.byteorder.proofs.Bytes.{take-bytes_low_first}
use Rattle.asm_image.specs.Places.{natural}
use Rattle.asm_image.specs.Values.{data_bytes}

-- what is left of a number of 64 bits isn't negative
natural-left : (n : ℤ) → unsigned_abs (int_rem_euclid n (pos (2 ^ 64))) ≡ natural (int_rem_euclid n (pos (2 ^ 64)))
natural-left (pos n) = refl
natural-left (negsuc n) = refl

-- that is what the code cuts
low-bits : (n left : ℤ) → FitsSigned w128 n → FitsSigned w128 left → left ≡ int_rem_euclid (to_z w128 (of_z w128 n)) (pos (2 ^ 64))
    → unsigned_abs (to_z w128 (of_z w128 left)) ≡ natural (int_rem_euclid n (pos (2 ^ 64)))
low-bits n left fits fits_left is = rw (to_z-of_z w128 left fits_left, is, to_z-of_z w128 n fits) (natural-left n)

-- The bytes of data are the first of those that the code has.
pub data-taken : (size : ℕ) (n left : ℤ) → size ≤ 8 → FitsSigned w128 n → FitsSigned w128 left → left ≡ int_rem_euclid (to_z w128 (of_z w128 n)) (pos (2 ^ 64))
    → take size (to_le_bytes w64 (unsigned_abs (to_z w128 (of_z w128 left)))) ≡ data_bytes size n
data-taken size n left few fits fits_left is =
    ap (λ x. take size (to_le_bytes w64 x)) (low-bits n left fits fits_left is) ∙ take-bytes_low_first 0 8 size (natural (int_rem_euclid n (pos (2 ^ 64)))) few
