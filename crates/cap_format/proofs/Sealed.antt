-- Patterns with other permissions or another kind: the bounds stay.
use Rattle.std.proofs.Common.{◌≡◌, ℕ, ◌+◌, ◌*◌, ◌/◌, ◌%◌, ◌^◌, ◌<◌, refl, ap, sym, ◌∙◌, arith}
use Rattle.std.specs.Prelude.{pos, ◌+ℤ◌}
use Rattle.std.specs.Int.RustNames.{bit_or}
use Rattle.std.proofs.lemmas.Nat.{or_shifted}
use Rattle.cap_format.specs.Pattern.{address_of, meta_of, internal_of, top_field_of, bottom_field_of, length_of, base_of, top_of}
use Rattle.cap_format.specs.Sealing.{with_perms_bits, with_kind_bits}

-- IE stands in the low 27 bits of the meta half
internal-low : (meta : ℕ) → meta / 2 ^ 26 % 2 ≡ meta % 2 ^ 27 / 2 ^ 26 % 2
internal-low meta = omega arith

-- so does T
top-low : (meta : ℕ) → meta / 2 ^ 14 % 2 ^ 12 ≡ meta % 2 ^ 27 / 2 ^ 14 % 2 ^ 12
top-low meta = omega arith

-- and B
bottom-low : (meta : ℕ) → meta / 2 ^ 0 % 2 ^ 14 ≡ meta % 2 ^ 27 % 2 ^ 14
bottom-low meta = omega arith

module _ (x y : ℕ) (address : address_of x ≡ address_of y) (low : meta_of x % 2 ^ 27 ≡ meta_of y % 2 ^ 27) where
  -- two patterns with the same such bits have the same IE
  internal-same : internal_of x ≡ internal_of y
  internal-same = internal-low (meta_of x) ∙ ap (λ m. m / 2 ^ 26 % 2) low ∙ sym (internal-low (meta_of y))

  -- and the same T
  top_field-same : top_field_of x ≡ top_field_of y
  top_field-same = top-low (meta_of x) ∙ ap (λ m. m / 2 ^ 14 % 2 ^ 12) low ∙ sym (top-low (meta_of y))

  -- and the same B
  bottom_field-same : bottom_field_of x ≡ bottom_field_of y
  bottom_field-same = bottom-low (meta_of x) ∙ ap (λ m. m % 2 ^ 14) low ∙ sym (bottom-low (meta_of y))

  -- with the same address they have the same base
  pub same-base : base_of x ≡ base_of y
  unfolding base_of
  same-base =
      let internal = internal-same in
      let top = top_field-same in
      let bottom = bottom_field-same in
      rw (address, internal, top, bottom) refl

  -- and the same length
  same-length : length_of x ≡ length_of y
  unfolding length_of
  same-length =
      let internal = internal-same in
      let top = top_field-same in
      let bottom = bottom_field-same in
      rw (internal, top, bottom) refl

  -- and the same top
  pub same-top : top_of x ≡ top_of y
  unfolding top_of
  same-top = ap (λ b. b +ℤ pos (length_of x)) same-base ∙ ap (λ l. base_of y +ℤ pos l) same-length

module _ (bits perms : ℕ) where
  -- other permissions leave the address
  pub perms-address : address_of (with_perms_bits bits perms) ≡ address_of bits
  perms-address = omega arith

  -- and the low bits of the meta half
  perms-low : meta_of (with_perms_bits bits perms) % 2 ^ 27 ≡ meta_of bits % 2 ^ 27
  perms-low = omega arith

  -- so the base
  pub perms-base : base_of (with_perms_bits bits perms) ≡ base_of bits
  perms-base = same-base _ _ perms-address perms-low

  -- and the top
  pub perms-top : top_of (with_perms_bits bits perms) ≡ top_of bits
  perms-top = same-top _ _ perms-address perms-low

module _ (bits kind : ℕ) where
  -- another kind leaves the address
  kind-address : address_of (with_kind_bits bits kind) ≡ address_of bits
  kind-address = omega arith

  -- and the low bits of the meta half
  kind-low : meta_of (with_kind_bits bits kind) % 2 ^ 27 ≡ meta_of bits % 2 ^ 27
  kind-low = omega arith

  -- so the base
  pub kind-base : base_of (with_kind_bits bits kind) ≡ base_of bits
  kind-base = same-base _ _ kind-address kind-low

  -- and the top
  pub kind-top : top_of (with_kind_bits bits kind) ≡ top_of bits
  kind-top = same-top _ _ kind-address kind-low

-- the bits with another kind, from their parts
pub kind-joined : (bits kind : ℕ) → bits < 2 ^ 128 → kind < 2 ^ 18 → bit_or (bit_or (bits / 2 ^ 109 * 2 ^ 109 % 2 ^ 128) (kind * 2 ^ 91 % 2 ^ 128)) (bits % 2 ^ 91) ≡ with_kind_bits bits kind
kind-joined bits kind fits small =
    let high : bits / 2 ^ 109 * 2 ^ 109 % 2 ^ 128 ≡ bits / 2 ^ 109 * 2 ^ 109 = omega arith in
    let low : kind * 2 ^ 91 % 2 ^ 128 ≡ kind * 2 ^ 91 = omega arith in
    let first : bit_or (bits / 2 ^ 109 * 2 ^ 109) (kind * 2 ^ 91) ≡ (bits / 2 ^ 109 * 2 ^ 18 + kind) * 2 ^ 91 = or_shifted (bits / 2 ^ 109) 109 (kind * 2 ^ 91) (omega arith) ∙ omega arith in
    let second = or_shifted (bits / 2 ^ 109 * 2 ^ 18 + kind) 91 (bits % 2 ^ 91) (omega arith) in
    rw (high, low, first, second) (omega arith)
