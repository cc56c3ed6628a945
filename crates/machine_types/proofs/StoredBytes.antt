-- Bytes that are stored one after another: what is read back, and what stays.
use Rattle.std.proofs.Common.{◌≡◌, ◌≢◌, ◌∙◌, ◌⊎◌, inl, inr, ℕ, zero, suc, ◌+◌, ◌*◌, ◌/◌, ◌%◌, ◌<◌, ◌≤◌, false, List, [], ◌∷◌, ◌++◌, length, refl, ap, arith}
use Rattle.std.proofs.lemmas.List.Elements.{All-head, All-tail}
use Rattle.cap_format.specs.Numbers.{granule_bytes}
use Rattle.cap_format.specs.declared.cap.Cap.{Cap}
use Rattle.machine_types.specs.Granules.{granule, number_at, with_number, bytes_at, with_bytes, is_tagged}
use Rattle.machine_types.specs.MemoryLaws.{AreBytes, ArePatterns, IsPlace}
use Rattle.machine_types.proofs.StoredNumbers.{length-with_number, granule-with_number_other, is_tagged-with_number_same, is_tagged-with_number_still, number_at-with_number_same, number_at-with_number_other, ArePatterns-with_number}

-- as many granules as before
pub length-with_bytes : (granules : List Cap) (at : ℕ) (bytes : List ℕ) → length (with_bytes granules at bytes) ≡ length granules
length-with_bytes granules at [] = refl
length-with_bytes granules at (byte ∷ bytes) = length-with_bytes (with_number granules at 1 byte) (at + 1) bytes ∙ length-with_number granules at 1 byte

-- bytes are stored in two parts
pub with_bytes-append : (granules : List Cap) (at : ℕ) (bytes more : List ℕ) → with_bytes granules at (bytes ++ more) ≡ with_bytes (with_bytes granules at bytes) (at + length bytes) more
with_bytes-append granules at [] more = let same : at ≡ at + 0 = omega arith in ap (λ place. with_bytes granules place more) same
with_bytes-append granules at (byte ∷ bytes) more =
    let place : at + suc (length bytes) ≡ at + 1 + length bytes = omega arith in
    rw place (with_bytes-append (with_number granules at 1 byte) (at + 1) bytes more)

-- a granule that none of the bytes lies in stays
pub granule-with_bytes_other : (granules : List Cap) (at : ℕ) (bytes : List ℕ) (g : ℕ) → ((i : ℕ) → i < length bytes → (at + i) / granule_bytes ≢ g) → granule (with_bytes granules at bytes) g ≡ granule granules g
granule-with_bytes_other granules at [] g away = refl
granule-with_bytes_other granules at (byte ∷ bytes) g away =
    granule-with_bytes_other (with_number granules at 1 byte) (at + 1) bytes g (λ i below here. away (suc i) (omega arith) (omega arith))
    ∙ granule-with_number_other granules at 1 byte g (λ here. away 0 (omega arith) (omega arith))

-- no granule gets a tag
pub is_tagged-with_bytes_still : (granules : List Cap) (at : ℕ) (bytes : List ℕ) (g : ℕ) → is_tagged granules g ≡ false → is_tagged (with_bytes granules at bytes) g ≡ false
is_tagged-with_bytes_still granules at [] g untagged = untagged
is_tagged-with_bytes_still granules at (byte ∷ bytes) g untagged = is_tagged-with_bytes_still (with_number granules at 1 byte) (at + 1) bytes g (is_tagged-with_number_still granules at 1 byte g untagged)

-- the granules of the bytes have no tag
pub is_tagged-with_bytes_same : (granules : List Cap) (at : ℕ) (bytes : List ℕ) (i : ℕ) → i < length bytes → is_tagged (with_bytes granules at bytes) ((at + i) / granule_bytes) ≡ false
is_tagged-with_bytes_same granules at [] i below = absurd (omega arith)
is_tagged-with_bytes_same granules at (byte ∷ bytes) zero below =
    let same : at + 0 ≡ at = omega arith in
    ap (λ place. is_tagged (with_bytes granules at (byte ∷ bytes)) (place / granule_bytes)) same
    ∙ is_tagged-with_bytes_still (with_number granules at 1 byte) (at + 1) bytes (at / granule_bytes) (is_tagged-with_number_same granules at 1 byte)
is_tagged-with_bytes_same granules at (byte ∷ bytes) (suc i) below =
    let place : at + suc i ≡ at + 1 + i = omega arith in
    ap (λ place. is_tagged (with_bytes granules at (byte ∷ bytes)) (place / granule_bytes)) place
    ∙ is_tagged-with_bytes_same (with_number granules at 1 byte) (at + 1) bytes i (omega arith)

-- a number of one granule that ends before the bytes or begins after them stays
pub number_at-with_bytes_other : (granules : List Cap) (at : ℕ) (bytes : List ℕ) (k count : ℕ) → k % granule_bytes + count ≤ granule_bytes → (k + count ≤ at) ⊎ (at + length bytes ≤ k)
    → number_at (with_bytes granules at bytes) k count ≡ number_at granules k count
number_at-with_bytes_other granules at [] k count within apart = refl
number_at-with_bytes_other granules at (byte ∷ bytes) k count within apart =
    number_at-with_bytes_other (with_number granules at 1 byte) (at + 1) bytes k count within (later apart)
    ∙ number_at-with_number_other granules at 1 byte k count (omega arith) within (first apart)
  where
    later : (k + count ≤ at) ⊎ (at + suc (length bytes) ≤ k) → (k + count ≤ at + 1) ⊎ (at + 1 + length bytes ≤ k)
    later (inl before) = inl (omega arith)
    later (inr after) = inr (omega arith)

    first : (k + count ≤ at) ⊎ (at + suc (length bytes) ≤ k) → (k + count ≤ at) ⊎ (at + 1 ≤ k)
    first (inl before) = inl before
    first (inr after) = inr (omega arith)

-- the bytes are read back
pub bytes_at-with_bytes : (granules : List Cap) (at : ℕ) (bytes : List ℕ) → at + length bytes ≤ length granules * granule_bytes → AreBytes bytes → bytes_at (with_bytes granules at bytes) at (length bytes) ≡ bytes
bytes_at-with_bytes granules at [] within are = refl
bytes_at-with_bytes granules at (byte ∷ bytes) within are =
    rw (first, bytes_at-with_bytes (with_number granules at 1 byte) (at + 1) bytes rest (All-tail (λ byte. byte < 256) byte bytes are)) refl
  where
    fits : byte < 256
    fits = All-head (λ byte. byte < 256) byte bytes are

    place : IsPlace granules at 1
    place = record { size_is = inl refl; aligned = omega arith; within = omega arith }

    rest : at + 1 + length bytes ≤ length (with_number granules at 1 byte) * granule_bytes
    rest = let same = length-with_number granules at 1 byte in omega arith

    first : number_at (with_bytes (with_number granules at 1 byte) (at + 1) bytes) at 1 ≡ byte
    first =
        let whole : byte % 256 ≡ byte = omega (arith, fits) in
        number_at-with_bytes_other (with_number granules at 1 byte) (at + 1) bytes at 1 (omega arith) (inl (omega arith))
        ∙ number_at-with_number_same granules at 1 byte place ∙ whole

-- patterns stay patterns
pub ArePatterns-with_bytes : (granules : List Cap) (at : ℕ) (bytes : List ℕ) → ArePatterns granules → ArePatterns (with_bytes granules at bytes)
ArePatterns-with_bytes granules at [] patterns = patterns
ArePatterns-with_bytes granules at (byte ∷ bytes) patterns = ArePatterns-with_bytes (with_number granules at 1 byte) (at + 1) bytes (ArePatterns-with_number granules at 1 byte (omega arith) patterns)
