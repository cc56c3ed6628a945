-- A page that is made of bytes.
use Rattle.std.proofs.Common.{◌≡◌, ◌∙◌, inr, ℕ, ◌*◌, ◌/◌, ◌%◌, ◌^◌, ◌<◌, ◌≤◌, false, List, length, replicate, ap, arith}
use Rattle.std.proofs.lemmas.List.{length-replicate}
use Rattle.std.proofs.lemmas.List.Elements.{All-replicate}
use Rattle.cap_format.specs.Numbers.{page_bytes, page_granules, granule_bytes}
use Rattle.cap_format.specs.declared.cap.Cap.{Cap}
use Rattle.cap_format.specs.Made.{null}
use Rattle.machine_types.specs.Granules.{granule, number_at, bytes_at, is_tagged}
use Rattle.machine_types.specs.MemoryLaws.{AreBytes, ArePatterns}
use Rattle.machine_types.specs.Stores.{page_of_bytes}
use Rattle.machine_types.proofs.RegisterLemmas.{register-null}
use Rattle.machine_types.proofs.StoredBytes.{length-with_bytes, is_tagged-with_bytes_still, number_at-with_bytes_other, bytes_at-with_bytes, ArePatterns-with_bytes}

-- the granules of a page before its bytes are stored
cleared : List Cap
cleared = replicate page_granules null

-- each of them is null
granule-cleared : (g : ℕ) → granule cleared g ≡ null
unfolding cleared
granule-cleared g = register-null page_granules g

module _ (rights : ℕ) (bytes : List ℕ) where
  -- the bytes are read back
  pub bytes_at-page_of_bytes : length bytes ≤ page_bytes → AreBytes bytes → bytes_at (page_of_bytes rights bytes).granules 0 (length bytes) ≡ bytes
  bytes_at-page_of_bytes fit are = bytes_at-with_bytes (replicate page_granules null) 0 bytes (omega (arith, length-replicate page_granules null)) are

  -- each byte after them is zero
  pub number_at-page_of_bytes_rest : (k : ℕ) → length bytes ≤ k → number_at (page_of_bytes rights bytes).granules k 1 ≡ 0
  unfolding cleared
  number_at-page_of_bytes_rest k after =
      number_at-with_bytes_other cleared 0 bytes k 1 (omega arith) (inr (omega arith))
      ∙ ap (λ (cap : Cap). cap.bits / 2 ^ (8 * (k % granule_bytes)) % 2 ^ 8) (granule-cleared (k / granule_bytes)) ∙ none (8 * (k % granule_bytes))
    where
      none : (i : ℕ) → 0 / 2 ^ i % 2 ^ 8 ≡ 0
      none i = omega arith

  -- it has no tag
  pub is_tagged-page_of_bytes : (g : ℕ) → is_tagged (page_of_bytes rights bytes).granules g ≡ false
  unfolding cleared
  is_tagged-page_of_bytes g = is_tagged-with_bytes_still cleared 0 bytes g (ap (λ (cap : Cap). cap.tag) (granule-cleared g))

  -- it has 256 granules
  pub length-page_of_bytes : length (page_of_bytes rights bytes).granules ≡ page_granules
  length-page_of_bytes = length-with_bytes (replicate page_granules null) 0 bytes ∙ length-replicate page_granules null

  -- which are patterns
  pub ArePatterns-page_of_bytes : ArePatterns (page_of_bytes rights bytes).granules
  ArePatterns-page_of_bytes = ArePatterns-with_bytes (replicate page_granules null) 0 bytes (All-replicate (λ cap. cap.bits < 2 ^ 128) page_granules null (omega arith))
