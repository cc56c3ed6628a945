-- The base and the top of a pattern with new bounds.
use Rattle.std.proofs.Common.{◌≡◌, ℕ, inl, inr, ◌+◌, ◌-◌, ◌*◌, ◌/◌, ◌%◌, ◌^◌, ◌<◌, ◌≤◌, ap, sym, subst, ◌∙◌, arith}
use Rattle.std.specs.Prelude.{pos, ◌+ℤ◌}
use Rattle.std.proofs.lemmas.Bool.{cases_lt}
use Rattle.std.proofs.lemmas.Nat.{pow_pos, shl-shr, shr_high, mod_below}
use Rattle.std.proofs.Math.Nat.{lt_of_mul-lt-mul_right, pow-le-pow_right}
use Rattle.cap_format.specs.Pattern.{address_of, meta_of, internal_of, exponent_of, top_mantissa_of, bottom_mantissa_of, length_mantissa_of, span_of, length_of, base_of, top_of}
use Rattle.cap_format.specs.SetBounds.{low_end, high_end, bounds_for, bounded_base, bounded_top, bounded, exponent_for}
use Rattle.cap_format.proofs.Rounding.{pow-sum, reach, reach-order, down-near}
use Rattle.cap_format.proofs.Exponents.{exponent-least, exponent-long}
use Rattle.cap_format.proofs.Ends.{base-plain, top-plain, bits-plain, base-rounded, top-rounded, bits-rounded}
use Rattle.cap_format.proofs.Patterns.{pattern, pattern-meta, span-past, base-is, plain, plain-short, plain-address, plain-internal, plain-top, plain-bottom, plain-exponent, coarse, coarse-short, coarse-address, coarse-internal, coarse-top, coarse-bottom, coarse-exponent}

-- a length is that of its parts
length-is : (bits top bottom internal exponent length : ℕ) → internal_of bits ≡ internal → exponent_of bits ≡ exponent → top_mantissa_of bits ≡ top → bottom_mantissa_of bits ≡ bottom → span_of top bottom + 4096 * internal ≡ length → length_of bits ≡ length * 2 ^ exponent
unfolding length_of
length-is bits top bottom internal exponent length i e t b l =
    let mantissa : length_mantissa_of bits ≡ length =
    ap (λ x. span_of x (bottom_mantissa_of bits) + 4096 * internal_of bits) t
    ∙ ap (λ x. span_of top x + 4096 * internal_of bits) b
    ∙ ap (λ x. span_of top bottom + 4096 * x) i ∙ l in
    ap (λ x. x * 2 ^ exponent_of bits) mantissa ∙ ap (λ x. length * 2 ^ x) e

-- a top is the base plus the length
top-is : (bits base length : ℕ) → base_of bits ≡ pos base → length_of bits ≡ length → top_of bits ≡ pos (base + length)
unfolding top_of
top-is bits base length b l = ap (λ x. x +ℤ pos (length_of bits)) b ∙ ap (λ x. pos base +ℤ pos x) l

-- units of 2^(E+3) bytes are eight units of 2^E bytes each
units : (e q : ℕ) → (q * 2 ^ (e + 3) / 2 ^ e ≡ q * 8) × (q * 2 ^ (e + 3) ≡ q * 8 * 2 ^ e)
units e q =
    let unit : 2 ^ (e + 3) ≡ 8 * 2 ^ e = pow-sum (e + 3) 3 e (omega arith) in
    let scaled = ap (λ x. q * x) unit in
    let same : q * 2 ^ (e + 3) ≡ q * 8 * 2 ^ e = omega arith in
    (ap (λ x. x / 2 ^ e) same ∙ shl-shr (q * 8) e, same)

-- an end divided by its unit is a multiple of 8, and stands for the end
end-units : (e n : ℕ) → (n / 2 ^ (e + 3) * 2 ^ (e + 3) / 2 ^ e % 8 ≡ 0) × (n / 2 ^ (e + 3) * 2 ^ (e + 3) ≡ n / 2 ^ (e + 3) * 2 ^ (e + 3) / 2 ^ e * 2 ^ e)
end-units e n =
    let count = units e (n / 2 ^ (e + 3)) in
    (ap (λ x. x % 8) count.0 ∙ omega arith, count.1 ∙ ap (λ x. x * 2 ^ e) (sym count.0))

module _ (upper address size : ℕ) (fits : address < 2 ^ 64) (short : size < 4096) where
  -- the base of fewer than 4096 bytes is the address
  pub small-base : base_of (plain upper (address + size) address address) ≡ pos address
  small-base =
      let bits = plain upper (address + size) address address in
      let same : address_of bits ≡ address = plain-address upper (address + size) address address fits in
      let exponent : exponent_of bits ≡ 0 = plain-exponent upper (address + size) address address fits in
      let some = pow_pos (exponent_of bits + 11) in
      let unit : 2 ^ exponent_of bits ≡ 1 = ap (λ x. 2 ^ x) exponent in
      let scaled = ap (λ x. address * x) unit in
      base-is bits address address (omega arith) (plain-bottom upper (address + size) address address fits) (omega arith) (omega arith)

  -- their length is their number
  pub small-length : length_of (plain upper (address + size) address address) ≡ size
  small-length =
      length-is (plain upper (address + size) address address) ((address + size) % 4096) (address % 16384) 0 0 size
      (plain-internal upper (address + size) address address fits) (plain-exponent upper (address + size) address address fits) (plain-top upper (address + size) address address fits) (plain-bottom upper (address + size) address address fits)
      (let span = span-past address size in omega arith)
      ∙ omega arith

-- the high end of rounded bytes, in units of 2^E bytes
abbrev pub high-units : ℕ → ℕ → ℕ → ℕ
high-units e address size = high_end e address size / 2 ^ e

-- and the low end
abbrev pub low-units : ℕ → ℕ → ℕ
low-units e address = low_end e address / 2 ^ e

-- the pattern with these ends
abbrev pub large : ℕ → ℕ → ℕ → ℕ → ℕ
large upper e address size = coarse upper e (high-units e address size) (low-units e address) address

module _ (upper e address size : ℕ) (fits : address < 2 ^ 64) (small : e < 64) (long : 2 ^ e * 4096 ≤ reach e address size) (enough : reach e address size < 2 ^ (e + 13)) where
  -- the high end in units is a multiple of 8, and stands for the high end
  top-whole : ((high-units e address size) % 8 ≡ 0) × (high_end e address size ≡ (high-units e address size) * 2 ^ e)
  top-whole = end-units e (address + size + (2 ^ (e + 3) - 1))

  -- so does the low end
  bottom-whole : ((low-units e address) % 8 ≡ 0) × (low_end e address ≡ (low-units e address) * 2 ^ e)
  bottom-whole = end-units e address

  -- its address
  pub large-address : address_of (large upper e address size) ≡ address
  large-address = coarse-address upper e (high-units e address size) (low-units e address) address small top-whole.0 bottom-whole.0 fits

  -- its exponent
  large-exponent : exponent_of (large upper e address size) ≡ e
  large-exponent = coarse-exponent upper e (high-units e address size) (low-units e address) address small top-whole.0 bottom-whole.0 fits

  -- its base is the low end
  pub large-base : base_of (large upper e address size) ≡ pos (low_end e address)
  large-base =
      let same = large-address in
      let exponent = large-exponent in
      let low = (reach-order e address size).0 in
      let near = down-near address (2 ^ (e + 3)) (pow_pos (e + 3)) in
      let wide : 2 ^ (e + 3) ≤ 2 ^ (e + 11) = pow-le-pow_right {n = 2} (omega arith) {i = e + 3} {j = e + 11} (omega arith) in
      let unit : 2 ^ exponent_of (large upper e address size) ≡ 2 ^ e = ap (λ x. 2 ^ x) exponent in
      let block : 2 ^ (exponent_of (large upper e address size) + 11) ≡ 2 ^ (e + 11) = ap (λ x. 2 ^ (x + 11)) exponent in
      base-is (large upper e address size) (low_end e address) (low-units e address) (bottom-whole.1 ∙ ap (λ x. low-units e address * x) (sym unit)) (coarse-bottom upper e (high-units e address size) (low-units e address) address small top-whole.0 bottom-whole.0 fits) (omega arith) (omega arith)

  -- its length in units is from 4096 on and below 8192
  large-units : (4096 + (low-units e address) ≤ (high-units e address size)) × ((high-units e address size) < 8192 + (low-units e address))
  large-units =
      let high = top-whole.1 in
      let low = bottom-whole.1 in
      let some = pow_pos e in
      let limit : 2 ^ (e + 13) ≡ 8192 * 2 ^ e = pow-sum (e + 13) 13 e (omega arith) in
      let order : low_end e address < high_end e address size = omega arith in
      let least : (4095 + (low-units e address)) * 2 ^ e < (high-units e address size) * 2 ^ e = omega arith in
      let most : (high-units e address size) * 2 ^ e < (8192 + (low-units e address)) * 2 ^ e = omega arith in
      let above = lt_of_mul-lt-mul_right (2 ^ e) {m = 4095 + (low-units e address)} {n = (high-units e address size)} least in
      let below = lt_of_mul-lt-mul_right (2 ^ e) {m = (high-units e address size)} {n = 8192 + (low-units e address)} most in
      (omega arith, omega arith)

  -- its length is that of the rounded bytes
  pub large-length : length_of (large upper e address size) ≡ reach e address size
  large-length =
      let high = top-whole.1 in
      let low = bottom-whole.1 in
      let least = large-units.0 in
      let most = large-units.1 in
      let span : span_of (((low-units e address) + ((high-units e address size) - (low-units e address))) % 4096) ((low-units e address) % 16384) ≡ ((high-units e address size) - (low-units e address)) % 4096 = span-past (low-units e address) ((high-units e address size) - (low-units e address)) in
      let past : (low-units e address) + ((high-units e address size) - (low-units e address)) ≡ (high-units e address size) = omega arith in
      let mantissa : span_of ((high-units e address size) % 4096) ((low-units e address) % 16384) + 4096 * 1 ≡ (high-units e address size) - (low-units e address) = ap (λ x. span_of (x % 4096) ((low-units e address) % 16384) + 4096) (sym past) ∙ ap (λ x. x + 4096) span ∙ omega arith in
      let scaled = ap (λ x. x * 2 ^ e) past in
      length-is (large upper e address size) ((high-units e address size) % 4096) ((low-units e address) % 16384) 1 e ((high-units e address size) - (low-units e address))
      (coarse-internal upper e (high-units e address size) (low-units e address) address small top-whole.0 bottom-whole.0 fits) large-exponent
      (coarse-top upper e (high-units e address size) (low-units e address) address small top-whole.0 bottom-whole.0 fits) (coarse-bottom upper e (high-units e address size) (low-units e address) address small top-whole.0 bottom-whole.0 fits) mantissa
      ∙ omega arith

-- an address is below 2^64
pub address-fits : (bits : ℕ) → address_of bits < 2 ^ 64
address-fits bits = mod_below bits (2 ^ 64) (omega arith)

-- with fewer than 4096 bytes no exponent stands in a new pattern
bounded-plain : (bits size : ℕ) → size < 4096 → bounded bits size ≡ plain (meta_of bits / 2 ^ 27) (address_of bits + size) (address_of bits) (address_of bits)
bounded-plain bits size h = ap (λ x. pattern (meta_of bits / 2 ^ 27) x (address_of bits)) (bits-plain (address_of bits) size h)

-- with 4096 bytes or more the least exponent that is enough does
bounded-large : (bits size : ℕ) → 4096 ≤ size → bounded bits size ≡ large (meta_of bits / 2 ^ 27) (exponent_for (address_of bits) size) (address_of bits) size
bounded-large bits size h = ap (λ x. pattern (meta_of bits / 2 ^ 27) x (address_of bits)) (bits-rounded (address_of bits) size h)

-- the exponent of 4096 bytes or more is below 64, and the rounded bytes are as long as a mantissa from 4096 on says
exponent-fits : (address size : ℕ) → 4096 ≤ size → size ≤ 2 ^ 64 → (exponent_for address size < 64) × (2 ^ exponent_for address size * 4096 ≤ reach (exponent_for address size) address size) × (reach (exponent_for address size) address size < 2 ^ (exponent_for address size + 13))
exponent-fits address size some small =
    let least = exponent-least address size some small in
    let below = least.1 in
    (omega arith, exponent-long (exponent_for address size) address size some least.0, least.0.enough)

-- a new pattern has the old address
pub new-address : (bits size : ℕ) → size ≤ 2 ^ 64 → address_of (bounded bits size) ≡ address_of bits
new-address bits size small =
    elim (cases_lt size 4096) [
      | inl few ↦ ap address_of (bounded-plain bits size few) ∙ plain-address (meta_of bits / 2 ^ 27) (address_of bits + size) (address_of bits) (address_of bits) (address-fits bits)
      | inr many ↦
          (let fits = exponent-fits (address_of bits) size many small in
          ap address_of (bounded-large bits size many) ∙ large-address (meta_of bits / 2 ^ 27) (exponent_for (address_of bits) size) (address_of bits) size (address-fits bits) fits.0 fits.1 fits.2)
    ]

-- the base of a new pattern
pub new-base : (bits size : ℕ) → size ≤ 2 ^ 64 → base_of (bounded bits size) ≡ pos (bounded_base (address_of bits) size)
new-base bits size small =
    elim (cases_lt size 4096) [
      | inl few ↦
          ap base_of (bounded-plain bits size few)
          ∙ small-base (meta_of bits / 2 ^ 27) (address_of bits) size (address-fits bits) few
          ∙ ap pos (sym (base-plain (address_of bits) size few))
      | inr many ↦
          (let fits = exponent-fits (address_of bits) size many small in
          ap base_of (bounded-large bits size many)
          ∙ large-base (meta_of bits / 2 ^ 27) (exponent_for (address_of bits) size) (address_of bits) size (address-fits bits) fits.0 fits.1 fits.2
          ∙ ap pos (sym (base-rounded (address_of bits) size many)))
    ]

-- the top of a new pattern
pub new-top : (bits size : ℕ) → size ≤ 2 ^ 64 → top_of (bounded bits size) ≡ pos (bounded_top (address_of bits) size)
new-top bits size small =
    let address = address_of bits in
    let upper = meta_of bits / 2 ^ 27 in
    elim (cases_lt size 4096) [
      | inl few ↦
          ap top_of (bounded-plain bits size few)
          ∙ top-is (plain upper (address + size) address address) address size (small-base upper address size (address-fits bits) few) (small-length upper address size (address-fits bits) few)
          ∙ ap pos (sym (top-plain address size few))
      | inr many ↦
          (let fits = exponent-fits address size many small in
          let e = exponent_for address size in
          let low = (reach-order e address size).0 in
          let high = (reach-order e address size).1 in
          let whole : low_end e address + reach e address size ≡ high_end e address size = omega arith in
          ap top_of (bounded-large bits size many)
          ∙ top-is (large upper e address size) (low_end e address) (reach e address size) (large-base upper e address size (address-fits bits) fits.0 fits.1 fits.2) (large-length upper e address size (address-fits bits) fits.0 fits.1 fits.2)
          ∙ ap pos (whole ∙ sym (top-rounded address size many)))
    ]

-- the bits of new bounds are below 2^27
pub bounds-short : (address size : ℕ) → size ≤ 2 ^ 64 → bounds_for address size < 2 ^ 27
bounds-short address size small =
    elim (cases_lt size 4096) [
      | inl few ↦ subst (λ x. x < 2 ^ 27) (sym (bits-plain address size few)) (plain-short (address + size) address)
      | inr many ↦
          (let e = exponent_for address size in
          subst (λ x. x < 2 ^ 27) (sym (bits-rounded address size many))
          (coarse-short e (high-units e address size) (low-units e address) (exponent-fits address size many small).0
          (end-units e (address + size + (2 ^ (e + 3) - 1))).0 (end-units e address).0))
    ]

-- a new pattern has the old bits 63 to 27 of the meta half
pub new-upper : (bits size : ℕ) → size ≤ 2 ^ 64 → meta_of (bounded bits size) / 2 ^ 27 ≡ meta_of bits / 2 ^ 27
new-upper bits size small =
    let bounds = bounds_for (address_of bits) size in
    let short = bounds-short (address_of bits) size small in
    ap (λ x. x / 2 ^ 27) (pattern-meta (meta_of bits / 2 ^ 27) bounds (address_of bits) short (address-fits bits)) ∙ shr_high (meta_of bits / 2 ^ 27) 27 bounds short
