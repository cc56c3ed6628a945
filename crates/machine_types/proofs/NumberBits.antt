-- Bits of a number: what is read of a number with other bits, and how bits split into bytes.
use Rattle.std.proofs.Common.{◌≡◌, ◌∙◌, ℕ, suc, ◌+◌, ◌-◌, ◌*◌, ◌/◌, ◌%◌, ◌^◌, ◌<◌, ◌≤◌, ap, sym, arith}
use Rattle.std.proofs.lemmas.Nat.{pow_pos, pow-add, shr-shr, mod-pow-add, field_of, mod_below, mul-add-lt, shr_below, shr_high, mod_low}
use Rattle.std.proofs.Math.Pow.{mod-mod-pow}
use Rattle.machine_types.specs.Granules.{with_bits}

-- two places of a sum are one place
spread : (high bits low p q : ℕ) → high * (p * q) + bits * p + low ≡ (high * q + bits) * p + low
spread high bits low p q = grind arith

-- bits at a place are bits of what lies below a higher place
field-mod : (n high at count : ℕ) → at + count ≤ high → n % 2 ^ high / 2 ^ at % 2 ^ count ≡ n / 2 ^ at % 2 ^ count
field-mod n high at count within =
    let rest : high - (count + at) + (count + at) ≡ high = omega arith in
    sym (field_of (n % 2 ^ high) count at)
    ∙ ap (λ x. n % 2 ^ x % 2 ^ (count + at) / 2 ^ at) (sym rest)
    ∙ ap (λ x. x / 2 ^ at) (mod-mod-pow n (high - (count + at)) (count + at))
    ∙ field_of n count at

module _ (n low width bits : ℕ) where
  -- what lies above the low bits that stay
  upper : ℕ
  upper = n / 2 ^ (low + width) * 2 ^ width + bits % 2 ^ width

  -- a number with other bits, taken apart at their low end
  with_bits-parts : with_bits n low width bits ≡ upper * 2 ^ low + n % 2 ^ low
  unfolding upper
  with_bits-parts =
      ap (λ x. n / 2 ^ (low + width) * x + bits % 2 ^ width * 2 ^ low + n % 2 ^ low) (pow-add 2 low width)
      ∙ spread (n / 2 ^ (low + width)) (bits % 2 ^ width) (n % 2 ^ low) (2 ^ low) (2 ^ width)

  -- the bits that stay below fit there
  low-fits : n % 2 ^ low < 2 ^ low
  low-fits = mod_below n (2 ^ low) (pow_pos low)

  -- so do the bits that are put in, at their width
  bits-fit : bits % 2 ^ width < 2 ^ width
  bits-fit = mod_below bits (2 ^ width) (pow_pos width)

  -- what lies from their low end on
  with_bits-shr : with_bits n low width bits / 2 ^ low ≡ upper
  with_bits-shr = ap (λ x. x / 2 ^ low) with_bits-parts ∙ shr_high upper low (n % 2 ^ low) low-fits

  -- what lies below them
  with_bits-mod : with_bits n low width bits % 2 ^ low ≡ n % 2 ^ low
  with_bits-mod = ap (λ x. x % 2 ^ low) with_bits-parts ∙ mod_low upper low (n % 2 ^ low) low-fits

  -- the bits that were put in are read back, as many as fit
  pub with_bits-same : with_bits n low width bits / 2 ^ low % 2 ^ width ≡ bits % 2 ^ width
  unfolding upper
  with_bits-same = ap (λ x. x % 2 ^ width) with_bits-shr ∙ mod_low (n / 2 ^ (low + width)) width (bits % 2 ^ width) bits-fit

  -- bits below them stay
  pub with_bits-below : (at count : ℕ) → at + count ≤ low → with_bits n low width bits / 2 ^ at % 2 ^ count ≡ n / 2 ^ at % 2 ^ count
  with_bits-below at count within =
      sym (field-mod (with_bits n low width bits) low at count within)
      ∙ ap (λ x. x / 2 ^ at % 2 ^ count) with_bits-mod
      ∙ field-mod n low at count within

  -- what lies from their high end on
  with_bits-shr_end : with_bits n low width bits / 2 ^ (low + width) ≡ n / 2 ^ (low + width)
  unfolding upper
  with_bits-shr_end =
      sym (shr-shr (with_bits n low width bits) low width)
      ∙ ap (λ x. x / 2 ^ width) with_bits-shr
      ∙ shr_high (n / 2 ^ (low + width)) width (bits % 2 ^ width) bits-fit

  -- bits above them stay
  pub with_bits-above : (at : ℕ) → low + width ≤ at → with_bits n low width bits / 2 ^ at ≡ n / 2 ^ at
  with_bits-above at past =
      let rest : ℕ = at - (low + width) in
      let place : low + width + rest ≡ at = omega arith in
      ap (λ x. with_bits n low width bits / 2 ^ x) (sym place)
      ∙ sym (shr-shr (with_bits n low width bits) (low + width) rest)
      ∙ ap (λ x. x / 2 ^ rest) with_bits-shr_end
      ∙ shr-shr n (low + width) rest
      ∙ ap (λ x. n / 2 ^ x) place

  -- bits that are put into a number of so many bits leave it one
  pub with_bits-fits : (whole : ℕ) → low + width ≤ whole → n < 2 ^ whole → with_bits n low width bits < 2 ^ whole
  unfolding upper
  with_bits-fits whole within fits =
      let rest : ℕ = whole - (low + width) in
      let all : low + (width + rest) ≡ whole = omega arith in
      let turned : rest + (low + width) ≡ whole = omega arith in
      let high : n / 2 ^ (low + width) < 2 ^ rest = shr_below n rest (low + width) (rw turned fits) in
      let middle : upper < 2 ^ (width + rest) = rw (pow-add 2 width rest) (mul-add-lt (n / 2 ^ (low + width)) (2 ^ width) (bits % 2 ^ width) (2 ^ rest) high bits-fit) in
      let joined : upper * 2 ^ low + n % 2 ^ low < 2 ^ (low + (width + rest)) = rw (pow-add 2 low (width + rest)) (mul-add-lt upper (2 ^ low) (n % 2 ^ low) (2 ^ (width + rest)) middle low-fits) in
      rw (with_bits-parts, ← all) joined

-- the lowest byte of some bytes, and the others above it
pub field-byte : (n at count : ℕ) → n / 2 ^ (8 * at) % 2 ^ (8 * suc count) ≡ n / 2 ^ (8 * at) % 2 ^ 8 + 256 * (n / 2 ^ (8 * (at + 1)) % 2 ^ (8 * count))
field-byte n at count =
    let bits : 8 * suc count ≡ 8 * count + 8 = omega arith in
    let next : 8 * at + 8 ≡ 8 * (at + 1) = omega arith in
    ap (λ x. n / 2 ^ (8 * at) % 2 ^ x) bits
    ∙ mod-pow-add (n / 2 ^ (8 * at)) (8 * count) 8
    ∙ ap (λ x. x % 2 ^ (8 * count) * 2 ^ 8 + n / 2 ^ (8 * at) % 2 ^ 8) (shr-shr n (8 * at) 8 ∙ ap (λ x. n / 2 ^ x) next)
    ∙ turned (n / 2 ^ (8 * (at + 1)) % 2 ^ (8 * count)) (n / 2 ^ (8 * at) % 2 ^ 8)
  where
    turned : (high low : ℕ) → high * 2 ^ 8 + low ≡ low + 256 * high
    turned high low = omega arith
