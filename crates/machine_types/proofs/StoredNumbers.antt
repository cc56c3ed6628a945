-- A number that is stored: its granule, what is read back, and what stays.
use Rattle.std.proofs.Common.{◌≡◌, ◌≢◌, ◌∙◌, ◌⊎◌, inl, inr, ℕ, ◌+◌, ◌*◌, ◌/◌, ◌%◌, ◌^◌, ◌<◌, ◌≤◌, false, List, length, ap, sym, arith}
use Rattle.std.proofs.lemmas.Bool.{cases_lt, cases_eq}
use Rattle.std.proofs.lemmas.List.{get_or-set_same, get_or-set_other, get_or_past, length-set, set_past}
use Rattle.std.proofs.lemmas.List.Elements.{All-set, All-get_or}
use Rattle.cap_format.specs.Numbers.{granule_bytes}
use Rattle.cap_format.specs.declared.cap.Cap.{Cap}
use Rattle.cap_format.specs.Made.{null}
use Rattle.machine_types.specs.Granules.{granule, number_at, with_bits, with_number, is_tagged}
use Rattle.machine_types.specs.MemoryLaws.{IsPlace, ArePatterns}
use Rattle.machine_types.proofs.NumberBits.{with_bits-same, with_bits-below, with_bits-above, with_bits-fits}
use Rattle.machine_types.proofs.NumberBytes.{place-granule}

-- past the last granule there is null
pub granule-past : (granules : List Cap) (g : ℕ) → length granules ≤ g → granule granules g ≡ null
granule-past granules g past = get_or_past granules g null past

-- each granule of patterns is a pattern, null past the last too
pub granule-pattern : (granules : List Cap) (g : ℕ) → ArePatterns granules → (granule granules g).bits < 2 ^ 128
granule-pattern granules g patterns = by (cases_lt g (length granules))
  where
    by : (g < length granules) ⊎ (length granules ≤ g) → (granule granules g).bits < 2 ^ 128
    by (inl there) = All-get_or (λ cap. cap.bits < 2 ^ 128) granules g null there patterns
    by (inr past) = rw (granule-past granules g past) (omega arith)

module _ (granules : List Cap) (at size v : ℕ) where
  -- as many granules as before
  pub length-with_number : length (with_number granules at size v) ≡ length granules
  length-with_number = length-set granules (at / granule_bytes) _

  -- the granule of the place has the number in its bits, and no tag
  pub granule-with_number_same : at / granule_bytes < length granules
      → granule (with_number granules at size v) (at / granule_bytes) ≡ record { bits = with_bits (granule granules (at / granule_bytes)).bits (8 * (at % granule_bytes)) (8 * size) v; tag = false }
  granule-with_number_same there = get_or-set_same granules (at / granule_bytes) _ null there

  -- every other granule stays
  pub granule-with_number_other : (g : ℕ) → g ≢ at / granule_bytes → granule (with_number granules at size v) g ≡ granule granules g
  granule-with_number_other g other = get_or-set_other granules (at / granule_bytes) g _ null other

  -- nothing is stored past the last granule
  pub with_number-past : length granules ≤ at / granule_bytes → with_number granules at size v ≡ granules
  with_number-past past = set_past granules (at / granule_bytes) _ past

  -- the granule of the place has no tag
  pub is_tagged-with_number_same : is_tagged (with_number granules at size v) (at / granule_bytes) ≡ false
  is_tagged-with_number_same = by (cases_lt (at / granule_bytes) (length granules))
    where
      by : (at / granule_bytes < length granules) ⊎ (length granules ≤ at / granule_bytes) → is_tagged (with_number granules at size v) (at / granule_bytes) ≡ false
      by (inl there) = ap (λ (cap : Cap). cap.tag) (granule-with_number_same there)
      by (inr past) = ap (λ (l : List Cap). is_tagged l (at / granule_bytes)) (with_number-past past) ∙ ap (λ (cap : Cap). cap.tag) (granule-past granules (at / granule_bytes) past)

  -- no granule gets a tag
  pub is_tagged-with_number_still : (g : ℕ) → is_tagged granules g ≡ false → is_tagged (with_number granules at size v) g ≡ false
  is_tagged-with_number_still g untagged = by (cases_eq g (at / granule_bytes))
    where
      by : (g ≡ at / granule_bytes) ⊎ (g ≢ at / granule_bytes) → is_tagged (with_number granules at size v) g ≡ false
      by (inl here) = ap (λ place. is_tagged (with_number granules at size v) place) here ∙ is_tagged-with_number_same
      by (inr other) = ap (λ (cap : Cap). cap.tag) (granule-with_number_other g other) ∙ untagged

  -- the number is read back, as much of it as fits
  pub number_at-with_number_same : IsPlace granules at size → number_at (with_number granules at size v) at size ≡ v % 2 ^ (8 * size)
  number_at-with_number_same place =
      ap (λ (cap : Cap). cap.bits / 2 ^ (8 * (at % granule_bytes)) % 2 ^ (8 * size)) (granule-with_number_same (place-granule granules at size place))
      ∙ with_bits-same (granule granules (at / granule_bytes)).bits (8 * (at % granule_bytes)) (8 * size) v

  -- a number of one granule that ends before this one or begins after it stays
  pub number_at-with_number_other : (k count : ℕ) → at % granule_bytes + size ≤ granule_bytes → k % granule_bytes + count ≤ granule_bytes → (k + count ≤ at) ⊎ (at + size ≤ k)
      → number_at (with_number granules at size v) k count ≡ number_at granules k count
  number_at-with_number_other k count within inside apart = by (cases_eq (k / granule_bytes) (at / granule_bytes)) (cases_lt (at / granule_bytes) (length granules))
    where
      -- the bits that are read of a granule
      read_of : Cap → ℕ
      read_of cap = cap.bits / 2 ^ (8 * (k % granule_bytes)) % 2 ^ (8 * count)

      field : (n : ℕ) → k / granule_bytes ≡ at / granule_bytes → (k + count ≤ at) ⊎ (at + size ≤ k)
          → with_bits n (8 * (at % granule_bytes)) (8 * size) v / 2 ^ (8 * (k % granule_bytes)) % 2 ^ (8 * count) ≡ n / 2 ^ (8 * (k % granule_bytes)) % 2 ^ (8 * count)
      field n same (inl before) = with_bits-below n (8 * (at % granule_bytes)) (8 * size) v (8 * (k % granule_bytes)) (8 * count) (omega arith)
      field n same (inr after) = ap (λ x. x % 2 ^ (8 * count)) (with_bits-above n (8 * (at % granule_bytes)) (8 * size) v (8 * (k % granule_bytes)) (omega arith))

      by : (k / granule_bytes ≡ at / granule_bytes) ⊎ (k / granule_bytes ≢ at / granule_bytes) → (at / granule_bytes < length granules) ⊎ (length granules ≤ at / granule_bytes)
          → number_at (with_number granules at size v) k count ≡ number_at granules k count
      by (inl same) (inl there) =
          ap (λ g. read_of (granule (with_number granules at size v) g)) same
          ∙ ap read_of (granule-with_number_same there)
          ∙ field (granule granules (at / granule_bytes)).bits same apart
          ∙ ap (λ g. read_of (granule granules g)) (sym same)
      by (inl same) (inr past) = ap (λ (l : List Cap). number_at l k count) (with_number-past past)
      by (inr other) end = ap read_of (granule-with_number_other (k / granule_bytes) other)

  -- patterns stay patterns
  pub ArePatterns-with_number : at % granule_bytes + size ≤ granule_bytes → ArePatterns granules → ArePatterns (with_number granules at size v)
  ArePatterns-with_number within patterns =
      All-set (λ cap. cap.bits < 2 ^ 128) granules (at / granule_bytes) _
      (with_bits-fits (granule granules (at / granule_bytes)).bits (8 * (at % granule_bytes)) (8 * size) v 128 (omega arith) (granule-pattern granules (at / granule_bytes) patterns)) patterns
