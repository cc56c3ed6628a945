-- The fields of a pattern with new bounds.
use Rattle.std.proofs.Common.{◌≡◌, ℕ, ◌+◌, ◌*◌, ◌/◌, ◌%◌, ◌^◌, ◌<◌, ◌≤◌, refl, ap, sym, ◌∙◌, arith}
use Rattle.std.specs.Prelude.{pos}
use Rattle.std.proofs.lemmas.Int.{ints}
use Rattle.std.proofs.lemmas.Bool.Decides.{nat_tests}
use Rattle.std.proofs.lemmas.Nat.{pow_pos, shr_high, mod_low, mod_below, div-add-mod', mod-mul-add}
use Rattle.std.proofs.Math.Nat.{mul-lt-mul_of_pos_right, mod-le}
use Rattle.cap_format.specs.Pattern.{address_of, meta_of, kind_of, perms_of, internal_of, top_field_of, bottom_field_of, exponent_of, top_mantissa_of, bottom_mantissa_of, span_of, base_of}
use Rattle.cap_format.specs.SetBounds.{bounds_bits}
use Rattle.cap_format.proofs.Bases.{base_of-only, window-size}
use Rattle.cap_format.proofs.Rounding.{pow-sum}

-- a pattern from bits 63 to 27 of the meta half, IE, T and B, and the address
abbrev pub pattern : ℕ → ℕ → ℕ → ℕ
pattern upper bounds address = (upper * 2 ^ 27 + bounds) * 2 ^ 64 + address

module _ (upper bounds address : ℕ) (short : bounds < 2 ^ 27) (fits : address < 2 ^ 64) where
  -- its address
  pub pattern-address : address_of (pattern upper bounds address) ≡ address
  pattern-address = mod_low (upper * 2 ^ 27 + bounds) 64 address fits

  -- its meta half
  pub pattern-meta : meta_of (pattern upper bounds address) ≡ upper * 2 ^ 27 + bounds
  pattern-meta = shr_high (upper * 2 ^ 27 + bounds) 64 address fits

  -- its IE
  pub pattern-internal : internal_of (pattern upper bounds address) ≡ bounds / 2 ^ 26
  pattern-internal = let m = pattern-meta in rw m (omega arith)

  -- its T, as it stands
  pub pattern-top : top_field_of (pattern upper bounds address) ≡ bounds / 2 ^ 14 % 2 ^ 12
  pattern-top = let m = pattern-meta in rw m (omega arith)

  -- its B, as it stands
  pub pattern-bottom : bottom_field_of (pattern upper bounds address) ≡ bounds % 2 ^ 14
  pattern-bottom = let m = pattern-meta in rw m (omega arith)

-- the kind stands in bits 63 to 27 of the meta half
pub upper-kind : (p q : ℕ) → meta_of p / 2 ^ 27 ≡ meta_of q / 2 ^ 27 → kind_of p ≡ kind_of q
upper-kind p q e = ap (λ x. x % 2 ^ 18) e

-- so do the permissions
pub upper-perms : (p q : ℕ) → meta_of p / 2 ^ 27 ≡ meta_of q / 2 ^ 27 → perms_of p ≡ perms_of q
upper-perms p q e = parts (meta_of p) ∙ ap (λ x. x / 2 ^ 21 % 2 ^ 16) e ∙ sym (parts (meta_of q))
  where
    parts : (m : ℕ) → m / 2 ^ 48 % 2 ^ 16 ≡ m / 2 ^ 27 / 2 ^ 21 % 2 ^ 16
    parts m = omega arith

-- T less B, modulo 2^12, is what T is past B modulo 2^12
pub span-past : (bottom length : ℕ) → span_of ((bottom + length) % 4096) (bottom % 16384) ≡ length % 4096
span-past bottom length = grind (arith, nat_tests)

-- a number that is B units of 2^E bytes up to whole windows, with the address less than a block above it, is the base
pub base-is : (bits low bottom : ℕ) → low ≡ bottom * 2 ^ exponent_of bits → bottom_mantissa_of bits ≡ bottom % 2 ^ 14 → low ≤ address_of bits → address_of bits < low + 2 ^ (exponent_of bits + 11) → base_of bits ≡ pos low
base-is bits low bottom is field from to =
    let exponent = exponent_of bits in
    let unit = 2 ^ exponent in
    let window : 2 ^ (exponent + 14) ≡ 16384 * unit = pow-sum (exponent + 14) 14 exponent (omega arith) in
    let blocks : 2 ^ (exponent + 14) ≡ 2 ^ (exponent + 11) * 8 = window-size exponent in
    let some : 0 < 2 ^ (exponent + 11) = pow_pos (exponent + 11) in
    let rest : bottom % 16384 * unit < 16384 * unit = mul-lt-mul_of_pos_right {m = bottom % 16384} {n = 16384} (mod_below bottom 16384 (omega arith)) (pow_pos exponent) in
    let parts : bottom / 16384 * 16384 + bottom % 16384 ≡ bottom = div-add-mod' bottom 16384 in
    let scaled = ap (λ x. x * unit) parts in
    let split : low ≡ bottom / 16384 * (16384 * unit) + bottom % 16384 * unit = omega arith in
    let remains : low % 2 ^ (exponent + 14) ≡ bottom_mantissa_of bits * unit =
    ap (λ x. low % x) window ∙ ap (λ x. x % (16384 * unit)) split ∙ mod-mul-add (bottom / 16384) (16384 * unit) (bottom % 16384 * unit) rest ∙ ap (λ x. x * unit) (sym field) in
    let inside : low % 2 ^ (exponent + 11) < 2 ^ (exponent + 11) = mod_below low (2 ^ (exponent + 11)) some in
    let least : low % 2 ^ (exponent + 11) ≤ low = mod-le low (2 ^ (exponent + 11)) in
    sym (base_of-only bits (pos low) record {
      congruent = ap pos remains;
      from = omega (arith, ints, inside, least, from);
      to = omega (arith, ints, inside, least, to, blocks, some);
    })

-- a pattern whose exponent does not stand in it
abbrev pub plain : ℕ → ℕ → ℕ → ℕ → ℕ
plain upper top bottom address = pattern upper (bounds_bits 0 0 top bottom) address

-- the bits of its bounds are below 2^27
pub plain-short : (top bottom : ℕ) → bounds_bits 0 0 top bottom < 2 ^ 27
plain-short top bottom = omega arith

-- a pattern whose exponent stands in it
abbrev pub coarse : ℕ → ℕ → ℕ → ℕ → ℕ → ℕ
coarse upper exponent top bottom address = pattern upper (bounds_bits 1 exponent top bottom) address

-- the bits of its bounds are below 2^27
pub coarse-short : (exponent top bottom : ℕ) → exponent < 64 → top % 8 ≡ 0 → bottom % 8 ≡ 0 → bounds_bits 1 exponent top bottom < 2 ^ 27
coarse-short exponent top bottom e t b = omega arith

module _ (upper top bottom address : ℕ) (fits : address < 2 ^ 64) where
  -- its address
  pub plain-address : address_of (plain upper top bottom address) ≡ address
  plain-address = pattern-address upper (bounds_bits 0 0 top bottom) address (plain-short top bottom) fits

  -- its IE is 0
  pub plain-internal : internal_of (plain upper top bottom address) ≡ 0
  plain-internal = pattern-internal upper (bounds_bits 0 0 top bottom) address (plain-short top bottom) fits ∙ omega arith

  -- its T is the low bits
  pub plain-top : top_mantissa_of (plain upper top bottom address) ≡ top % 2 ^ 12
  plain-top =
      let internal = plain-internal in
      let field : top_field_of (plain upper top bottom address) ≡ top % 2 ^ 12 = pattern-top upper (bounds_bits 0 0 top bottom) address (plain-short top bottom) fits ∙ omega arith in
      rw (internal, field) refl

  -- so is its B
  pub plain-bottom : bottom_mantissa_of (plain upper top bottom address) ≡ bottom % 2 ^ 14
  plain-bottom =
      let internal = plain-internal in
      let field : bottom_field_of (plain upper top bottom address) ≡ bottom % 2 ^ 14 = pattern-bottom upper (bounds_bits 0 0 top bottom) address (plain-short top bottom) fits ∙ omega arith in
      rw (internal, field) refl

  -- its exponent is 0
  pub plain-exponent : exponent_of (plain upper top bottom address) ≡ 0
  plain-exponent = let internal = plain-internal in rw internal refl

module _ (upper exponent top bottom address : ℕ) (small : exponent < 64) (whole_top : top % 8 ≡ 0) (whole_bottom : bottom % 8 ≡ 0) (fits : address < 2 ^ 64) where
  -- its address
  pub coarse-address : address_of (coarse upper exponent top bottom address) ≡ address
  coarse-address = pattern-address upper (bounds_bits 1 exponent top bottom) address (coarse-short exponent top bottom small whole_top whole_bottom) fits

  -- its IE is 1
  pub coarse-internal : internal_of (coarse upper exponent top bottom address) ≡ 1
  coarse-internal = pattern-internal upper (bounds_bits 1 exponent top bottom) address (coarse-short exponent top bottom small whole_top whole_bottom) fits ∙ omega arith

  -- its T, as it stands
  coarse-top_field : top_field_of (coarse upper exponent top bottom address) ≡ top % 2 ^ 12 + exponent / 8
  coarse-top_field = pattern-top upper (bounds_bits 1 exponent top bottom) address (coarse-short exponent top bottom small whole_top whole_bottom) fits ∙ omega arith

  -- its B, as it stands
  coarse-bottom_field : bottom_field_of (coarse upper exponent top bottom address) ≡ bottom % 2 ^ 14 + exponent % 8
  coarse-bottom_field = pattern-bottom upper (bounds_bits 1 exponent top bottom) address (coarse-short exponent top bottom small whole_top whole_bottom) fits ∙ omega arith

  -- its T is the low bits
  pub coarse-top : top_mantissa_of (coarse upper exponent top bottom address) ≡ top % 2 ^ 12
  coarse-top =
      let internal = coarse-internal in
      let field = coarse-top_field in
      rw (internal, field) (omega arith)

  -- so is its B
  pub coarse-bottom : bottom_mantissa_of (coarse upper exponent top bottom address) ≡ bottom % 2 ^ 14
  coarse-bottom =
      let internal = coarse-internal in
      let field = coarse-bottom_field in
      rw (internal, field) (omega arith)

  -- its exponent
  pub coarse-exponent : exponent_of (coarse upper exponent top bottom address) ≡ exponent
  coarse-exponent =
      let internal = coarse-internal in
      let top_is = coarse-top_field in
      let bottom_is = coarse-bottom_field in
      rw (internal, top_is, bottom_is) (omega arith)
