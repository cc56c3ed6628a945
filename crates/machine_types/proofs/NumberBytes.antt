-- Numbers in granules are their bytes, and bytes are read one after another.
use Rattle.std.proofs.Common.{◌≡◌, ◌∙◌, ◌⊎◌, ◌↔◌, inl, inr, ℕ, zero, suc, ◌+◌, ◌*◌, ◌/◌, ◌%◌, ◌^◌, ◌<◌, ◌≤◌, List, ◌∷◌, ◌++◌, length, slice_index_or, refl, ap, arith}
use Rattle.cap_format.specs.Numbers.{granule_bytes}
use Rattle.cap_format.specs.declared.cap.Cap.{Cap}
use Rattle.machine_types.specs.Granules.{granule, IsSize, number_at, bytes_at}
use Rattle.machine_types.specs.MemoryLaws.{number_of, IsPlace}
use Rattle.machine_types.proofs.NumberBits.{field-byte}

-- a number at a multiple of its size lies in one granule
pub size-within : (at size : ℕ) → IsSize size → at % size ≡ 0 → at % granule_bytes + size ≤ granule_bytes
size-within at size (inl e) aligned = omega arith
size-within at size (inr (inl e)) aligned = let even : at % 2 ≡ 0 = rw e at aligned in omega arith
size-within at size (inr (inr (inl e))) aligned = let fourth : at % 4 ≡ 0 = rw e at aligned in omega arith
size-within at size (inr (inr (inr e))) aligned = let eighth : at % 8 ≡ 0 = rw e at aligned in omega arith

-- a size is at least one byte
size-some : (size : ℕ) → IsSize size → 0 < size
size-some size (inl e) = omega arith
size-some size (inr (inl e)) = omega arith
size-some size (inr (inr (inl e))) = omega arith
size-some size (inr (inr (inr e))) = omega arith

-- so a number at a place of these granules lies in one of them
pub place-within : (granules : List Cap) (at size : ℕ) → IsPlace granules at size → at % granule_bytes + size ≤ granule_bytes
place-within granules at size place = size-within at size place.size_is place.aligned

-- and they have that granule
pub place-granule : (granules : List Cap) (at size : ℕ) → IsPlace granules at size → at / granule_bytes < length granules
place-granule granules at size place = let some = size-some size place.size_is in let within : at + size ≤ length granules * granule_bytes = place.within in omega arith

-- one byte elsewhere ends before a place, or begins after it
pub byte-apart : (at count k : ℕ) → (k < at) ⊎ (at + count ≤ k) → (k + 1 ≤ at) ⊎ (at + count ≤ k)
byte-apart at count k (inl before) = inl (omega arith)
byte-apart at count k (inr after) = inr after

-- a number that lies in one granule is its bytes, the lowest first
pub number_at-bytes_at : (granules : List Cap) (at count : ℕ) → at % granule_bytes + count ≤ granule_bytes → number_at granules at count ≡ number_of (bytes_at granules at count)
number_at-bytes_at granules at zero within = omega arith
number_at-bytes_at granules at (suc zero) within = omega arith
number_at-bytes_at granules at (suc (suc count)) within =
    field-byte (granule granules (at / granule_bytes)).bits (at % granule_bytes) (suc count)
    ∙ ap (λ x. number_at granules at 1 + 256 * x) (next ∙ number_at-bytes_at granules (at + 1) (suc count) (omega arith))
  where
    next : (granule granules (at / granule_bytes)).bits / 2 ^ (8 * (at % granule_bytes + 1)) % 2 ^ (8 * suc count) ≡ number_at granules (at + 1) (suc count)
    next =
        let same : (at + 1) / granule_bytes ≡ at / granule_bytes = omega arith in
        let place : (at + 1) % granule_bytes ≡ at % granule_bytes + 1 = omega arith in
        rw (same, place) refl

-- as many bytes are read as were asked for
pub length-bytes_at : (granules : List Cap) (at count : ℕ) → length (bytes_at granules at count) ≡ count
length-bytes_at granules at zero = refl
length-bytes_at granules at (suc count) = ap suc (length-bytes_at granules (at + 1) count)

-- each is the byte at its place
pub get_or-bytes_at : (granules : List Cap) (at count k : ℕ) → k < count → slice_index_or (bytes_at granules at count) k 0 ≡ number_at granules (at + k) 1
get_or-bytes_at granules at zero k below = absurd (omega arith)
get_or-bytes_at granules at (suc count) zero below = let same : at ≡ at + 0 = omega arith in ap (λ place. number_at granules place 1) same
get_or-bytes_at granules at (suc count) (suc k) below =
    let next : at + 1 + k ≡ at + suc k = omega arith in
    get_or-bytes_at granules (at + 1) count k (omega arith) ∙ ap (λ place. number_at granules place 1) next

-- bytes are read in two parts
pub bytes_at-add : (granules : List Cap) (at m n : ℕ) → bytes_at granules at (m + n) ≡ bytes_at granules at m ++ bytes_at granules (at + m) n
bytes_at-add granules at zero n =
    let none : zero + n ≡ n = omega arith in
    let same : at + 0 ≡ at = omega arith in
    rw (none, same) refl
bytes_at-add granules at (suc m) n =
    let count : suc m + n ≡ suc (m + n) = omega arith in
    let place : at + suc m ≡ at + 1 + m = omega arith in
    rw (count, place) (ap (λ rest. number_at granules at 1 ∷ rest) (bytes_at-add granules (at + 1) m n))

-- 1, 2, 4 and 8 are the powers of 2 below 2^4
pub sizes-are-powers : (size : ℕ) → IsSize size ↔ ((k : ℕ) × (k < 4) × (size ≡ 2 ^ k))
sizes-are-powers size = (to, λ (k, below, same). from k below same)
  where
    to : IsSize size → (k : ℕ) × (k < 4) × (size ≡ 2 ^ k)
    to (inl one) = (0, omega arith, one)
    to (inr (inl two)) = (1, omega arith, two)
    to (inr (inr (inl four))) = (2, omega arith, four)
    to (inr (inr (inr eight))) = (3, omega arith, eight)

    from : (k : ℕ) → k < 4 → size ≡ 2 ^ k → IsSize size
    from zero below same = inl same
    from (suc zero) below same = inr (inl same)
    from (suc (suc zero)) below same = inr (inr (inl same))
    from (suc (suc (suc zero))) below same = inr (inr (inr same))
    from (suc (suc (suc (suc k)))) below same = absurd (omega arith)
