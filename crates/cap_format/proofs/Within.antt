-- New bounds of bytes that lie within the old ones lie within them too.
use Rattle.std.proofs.Common.{◌≡◌, ℕ, true, inl, inr, ◌+◌, ◌-◌, ◌*◌, ◌/◌, ◌%◌, ◌^◌, Bool, ◌&&◌, ◌<◌, ◌≤◌, refl, ap, sym, subst, ◌∙◌, arith}
use Rattle.std.specs.Prelude.{ℤ, pos, ◌-ℤ◌, ◌≤ℤ◌, int_le}
use Rattle.std.proofs.lemmas.Bool.{cases_lt, and_parts}
use Rattle.std.proofs.lemmas.Bool.Decides.{nat_tests}
use Rattle.std.proofs.lemmas.Int.{ints}
use Rattle.std.proofs.lemmas.Nat.{pow_pos, mod_below}
use Rattle.std.proofs.Math.Nat.{mul-lt-mul_of_pos_right}
use Rattle.cap_format.specs.Pattern.{address_of, meta_of, internal_of, exponent_of, top_field_of, bottom_field_of, top_mantissa_of, bottom_mantissa_of, length_mantissa_of, span_of, length_of, base_at, base_of, top_of}
use Rattle.cap_format.specs.Rights.{holds}
use Rattle.cap_format.specs.SetBounds.{low_end, high_end, bounded_base, bounded_top, exponent_for, IsLeastEnough}
use Rattle.cap_format.proofs.Bases.{span-small, top_mantissa-small, length_mantissa-small}
use Rattle.cap_format.proofs.Rounding.{pow-sum, reach, down-keeps, up-keeps, low-coarser, high-coarser}
use Rattle.cap_format.proofs.Exponents.{exponent-least}
use Rattle.cap_format.proofs.Ends.{base-plain, top-plain, base-rounded, top-rounded}

-- a field without its low three bits is a multiple of 8
masked-whole : (field : ℕ) → (field - field % 8) % 8 ≡ 0
masked-whole field = omega arith

-- so T is, where the exponent stands in it
top-whole : (bits : ℕ) → internal_of bits ≡ 1 → top_mantissa_of bits % 8 ≡ 0
top-whole bits i = rw i (masked-whole (top_field_of bits))

-- and B
bottom-whole : (bits : ℕ) → internal_of bits ≡ 1 → bottom_mantissa_of bits % 8 ≡ 0
bottom-whole bits i = rw i (masked-whole (bottom_field_of bits))

-- so is T less B
span-whole : (top bottom : ℕ) → top % 8 ≡ 0 → bottom % 8 ≡ 0 → span_of top bottom % 8 ≡ 0
span-whole top bottom t b = grind (arith, nat_tests)

-- the unit of rounding is eight bytes of the exponent
unit-is : (e : ℕ) → 2 ^ (e + 3) ≡ 8 * 2 ^ e
unit-is e = pow-sum (e + 3) 3 e (omega arith)

-- a base with such a B is a number of units, less 1536 units
base-units : (address e bottom : ℕ) → bottom % 8 ≡ 0 → (p : ℕ) × (base_at address e bottom ≡ pos (p * 2 ^ (e + 3)) -ℤ pos (1536 * 2 ^ (e + 3)))
base-units address e bottom whole =
    let block = address / 2 ^ (e + 11) in
    let place = block + (bottom / 2 ^ 11 + 6 + 7 * block) % 8 in
    let unit = unit-is e in
    let size : 2 ^ (e + 11) ≡ 256 * 2 ^ (e + 3) = pow-sum (e + 11) 8 (e + 3) (omega arith) in
    let low : bottom % 2048 ≡ bottom % 2048 / 8 * 8 = omega arith in
    let offset = ap (λ x. x * 2 ^ e) low in
    let scaled = ap (λ x. bottom % 2048 / 8 * x) unit in
    let placed = ap (λ x. place * x) size in
    (place * 256 + bottom % 2048 / 8, omega (arith, ints, size, offset, scaled, placed))

-- where the exponent stands in T and B, the length is a number of units, below 2^(E+13)
length-units : (bits : ℕ) → internal_of bits ≡ 1 → (l : ℕ) × (length_of bits ≡ l * 2 ^ (exponent_of bits + 3)) × (length_of bits < 2 ^ (exponent_of bits + 13))
unfolding length_of
length-units bits i =
    let e = exponent_of bits in
    let mantissa = length_mantissa_of bits in
    let span : span_of (top_mantissa_of bits) (bottom_mantissa_of bits) % 8 ≡ 0 = span-whole (top_mantissa_of bits) (bottom_mantissa_of bits) (top-whole bits i) (bottom-whole bits i) in
    let whole : mantissa % 8 ≡ 0 = eight (span_of (top_mantissa_of bits) (bottom_mantissa_of bits)) (internal_of bits) span in
    let short : mantissa < 8192 = length_mantissa-small bits in
    scaled mantissa e whole short
  where
    eight : (span internal : ℕ) → span % 8 ≡ 0 → (span + 4096 * internal) % 8 ≡ 0
    eight span internal h = omega arith

    scaled : (mantissa e : ℕ) → mantissa % 8 ≡ 0 → mantissa < 8192 → (l : ℕ) × (mantissa * 2 ^ e ≡ l * 2 ^ (e + 3)) × (mantissa * 2 ^ e < 2 ^ (e + 13))
    scaled mantissa e whole short =
        let unit = ap (λ x. mantissa / 8 * x) (unit-is e) in
        let limit : 2 ^ (e + 13) ≡ 8192 * 2 ^ e = pow-sum (e + 13) 13 e (omega arith) in
        let parts = ap (λ x. x * 2 ^ e) (let parts : mantissa ≡ mantissa / 8 * 8 = omega arith in parts) in
        let below : mantissa * 2 ^ e < 8192 * 2 ^ e = mul-lt-mul_of_pos_right {m = mantissa} {n = 8192} short (pow_pos e) in
        (mantissa / 8, omega arith, omega arith)

-- otherwise it is below 4096
length-short : (bits : ℕ) → internal_of bits ≡ 0 → length_of bits < 4096
unfolding length_of
length-short bits i =
    let span : span_of (top_mantissa_of bits) (bottom_mantissa_of bits) < 4096 = span-small (top_mantissa_of bits) (bottom_mantissa_of bits) (top_mantissa-small bits) in
    let mantissa : length_mantissa_of bits ≡ span_of (top_mantissa_of bits) (bottom_mantissa_of bits) = ap (λ x. span_of (top_mantissa_of bits) (bottom_mantissa_of bits) + 4096 * x) i ∙ omega arith in
    let exponent : exponent_of bits ≡ 0 = rw i refl in
    let same : length_mantissa_of bits * 2 ^ exponent_of bits ≡ span_of (top_mantissa_of bits) (bottom_mantissa_of bits) = ap (λ x. length_mantissa_of bits * 2 ^ x) exponent ∙ omega (arith, mantissa) in
    subst (λ x. x < 4096) (sym same) span

module _ (p q l e address size : ℕ) (from : p * 2 ^ (e + 3) ≤ address + q * 2 ^ (e + 3)) (to : address + size + q * 2 ^ (e + 3) ≤ (p + l) * 2 ^ (e + 3)) where
  -- the low end of the bytes, rounded to multiples of the old unit, stays within the old bounds
  low-within : p * 2 ^ (e + 3) ≤ low_end e address + q * 2 ^ (e + 3)
  low-within = down-keeps p q address (2 ^ (e + 3)) (pow_pos (e + 3)) from

  -- so does the high end
  high-within : high_end e address size + q * 2 ^ (e + 3) ≤ (p + l) * 2 ^ (e + 3)
  high-within = up-keeps (p + l) q (address + size) (2 ^ (e + 3)) (pow_pos (e + 3)) to

  -- so the old exponent is enough, and the least one is no larger
  least-within : (k : ℕ) → IsLeastEnough k address size → l * 2 ^ (e + 3) < 2 ^ (e + 13) → k ≤ e
  least-within k is short =
      let low = low-within in
      let high = high-within in
      elim (cases_lt e k) [
        | inl above ↦ (let long : 2 ^ (e + 13) ≤ reach e address size = is.least e above in absurd (omega arith))
        | inr h ↦ h
      ]

  -- and the bytes rounded with it stay within the old bounds too
  pub ends-within : (k : ℕ) → IsLeastEnough k address size → l * 2 ^ (e + 3) < 2 ^ (e + 13) → (p * 2 ^ (e + 3) ≤ low_end k address + q * 2 ^ (e + 3)) × (high_end k address size + q * 2 ^ (e + 3) ≤ (p + l) * 2 ^ (e + 3))
  ends-within k is short =
      let least = least-within k is short in
      let low = low-within in
      let high = high-within in
      let whole : k + (e - k) ≡ e = omega arith in
      let lower : low_end e address ≤ low_end k address = subst (λ x. low_end x address ≤ low_end k address) whole (low-coarser k (e - k) address) in
      let higher : high_end k address size ≤ high_end e address size = subst (λ x. high_end k address size ≤ high_end x address size) whole (high-coarser k (e - k) address size) in
      (omega arith, omega arith)

-- bytes within the bounds of a pattern
pub record AreHeld (bits address size : ℕ) : Type 0 where
  pub from : base_of bits ≤ℤ pos address
  pub to : pos (address + size) ≤ℤ top_of bits

-- the ends of new bounds for them are within too
pub held-within : (bits address size : ℕ) → size < 2 ^ 64 → AreHeld bits address size → (base_of bits ≤ℤ pos (bounded_base address size)) × (pos (bounded_top address size) ≤ℤ top_of bits)
unfolding base_of top_of
held-within bits address size small held =
    elim (cases_lt size 4096) [
      | inl few ↦ (rw (base-plain address size few) held.from, rw (top-plain address size few) held.to)
      | inr many ↦ elim (cases_lt (internal_of bits) 1) [
        | inl none ↦
            (let short = length-short bits (omega arith) in
            let from = held.from in
            let to = held.to in
            absurd (omega (arith, ints, short, from, to, many)))
        | inr some ↦
            (let internal : internal_of bits ≡ 1 = (let below : internal_of bits < 2 = mod_below (meta_of bits / 2 ^ 26) 2 (omega arith) in omega arith) in
            let e = exponent_of bits in
            let (p, base) = base-units (address_of bits) e (bottom_mantissa_of bits) (bottom-whole bits internal) in
            let (l, length, short) = length-units bits internal in
            let from = held.from in
            let to = held.to in
            let k = exponent_for address size in
            let low : p * 2 ^ (e + 3) ≤ address + 1536 * 2 ^ (e + 3) = omega (arith, ints, base, from) in
            let high : address + size + 1536 * 2 ^ (e + 3) ≤ (p + l) * 2 ^ (e + 3) = omega (arith, ints, base, length, to) in
            let ends = ends-within p 1536 l e address size low high k (exponent-least address size many (omega arith)).0 (omega arith) in
            let lower = ends.0 in
            let higher = ends.1 in
            (rw (base-rounded address size many) (omega (arith, ints, base, lower)), rw (top-rounded address size many) (omega (arith, ints, base, length, higher))))
      ]
    ]

-- a test of two integers that holds
below-when : (x y : ℤ) → int_le x y ≡ true → x ≤ℤ y
below-when x y h = grind (arith, ints)

-- bytes that pass the test are within
pub held-when : (bits address size : ℕ) → holds bits address size ≡ true → AreHeld bits address size
held-when bits address size h =
    let parts = and_parts (int_le (base_of bits) (pos address)) (int_le (pos (address + size)) (top_of bits)) h in
    record { from = below-when _ _ parts.0; to = below-when _ _ parts.1 }

-- where new bounds are tagged, they are within
pub tagged-within : (tag plain : Bool) (bits address size : ℕ) → size < 2 ^ 64 → (tag && (plain && holds bits address size)) ≡ true → (base_of bits ≤ℤ pos (bounded_base address size)) × (pos (bounded_top address size) ≤ℤ top_of bits)
tagged-within tag plain bits address size small h =
    let allowed = and_parts tag (plain && holds bits address size) h in
    let held = and_parts plain (holds bits address size) allowed.1 in
    held-within bits address size small (held-when bits address size held.1)
