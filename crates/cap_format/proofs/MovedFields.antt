-- The fields of a pattern: what they are from the exponent, the length and the base, and that these determine them.
use Rattle.std.proofs.Common.{◌≡◌, ℕ, ◌⊎◌, inl, inr, ◌+◌, ◌-◌, ◌*◌, ◌/◌, ◌%◌, ◌^◌, ◌<◌, ◌≤◌, refl, ap, sym, ◌∙◌, arith}
use Rattle.std.proofs.lemmas.Bool.{cases_lt}
use Rattle.std.proofs.lemmas.Bool.Decides.{nat_tests}
use Rattle.cap_format.specs.Pattern.{address_of, meta_of, internal_of, top_field_of, bottom_field_of, exponent_of, top_mantissa_of, bottom_mantissa_of, length_mantissa_of, span_of}
use Rattle.cap_format.specs.SetBounds.{bounds_bits}
use Rattle.cap_format.proofs.Bases.{span-small, top_mantissa-small}

-- IE is 0 or 1
pub internal-cases : (bits : ℕ) → (internal_of bits ≡ 0) ⊎ (internal_of bits ≡ 1)
internal-cases bits = elim (cases_lt (internal_of bits) 1) [ inl h ↦ inl (omega arith) | inr h ↦ inr (omega arith) ]

-- the span from B to the sum of B and a number below 2^12 is that number
pub span-sum : (bottom length : ℕ) → length < 4096 → span_of ((bottom + length) % 4096) (bottom % 16384) ≡ length
span-sum bottom length h = grind (arith, nat_tests)

-- the same for a number from 2^12 on, less 2^12
pub span-long : (bottom length : ℕ) → 4096 ≤ length → length < 8192 → span_of ((bottom + length) % 4096) (bottom % 16384) + 4096 ≡ length
span-long bottom length g h = grind (arith, nat_tests)

-- T is B and the span, modulo 2^12
pub span-top : (top bottom : ℕ) → top < 4096 → (bottom + span_of top bottom) % 4096 ≡ top
span-top top bottom h = grind (arith, nat_tests)

-- the span of two multiples of 8 is one
pub span-eighth : (top bottom : ℕ) → top < 4096 → top % 8 ≡ 0 → bottom % 8 ≡ 0 → span_of top bottom % 8 ≡ 0
span-eighth top bottom h t b = grind (arith, nat_tests)

-- where the exponent is not internal it is 0
pub plain-exponent : (bits : ℕ) → internal_of bits ≡ 0 → exponent_of bits ≡ 0
plain-exponent bits i = rw i refl

-- T is the whole field
pub plain-top : (bits : ℕ) → internal_of bits ≡ 0 → top_mantissa_of bits ≡ top_field_of bits
plain-top bits i = rw i refl

-- B is the whole field
pub plain-bottom : (bits : ℕ) → internal_of bits ≡ 0 → bottom_mantissa_of bits ≡ bottom_field_of bits
plain-bottom bits i = rw i refl

-- the length is the span
pub plain-length : (bits : ℕ) → internal_of bits ≡ 0 → length_mantissa_of bits ≡ span_of (top_mantissa_of bits) (bottom_mantissa_of bits)
plain-length bits i = ap (λ x. span_of (top_mantissa_of bits) (bottom_mantissa_of bits) + 4096 * x) i ∙ omega arith

-- where the exponent is internal it stands in the low bits of T and B
pub internal-exponent : (bits : ℕ) → internal_of bits ≡ 1 → exponent_of bits ≡ 8 * (top_field_of bits % 8) + bottom_field_of bits % 8
internal-exponent bits i = rw i refl

-- T is the field without those bits
pub internal-top : (bits : ℕ) → internal_of bits ≡ 1 → top_mantissa_of bits ≡ top_field_of bits - top_field_of bits % 8
internal-top bits i = rw i refl

-- B is the field without those bits
pub internal-bottom : (bits : ℕ) → internal_of bits ≡ 1 → bottom_mantissa_of bits ≡ bottom_field_of bits - bottom_field_of bits % 8
internal-bottom bits i = rw i refl

-- the length is 2^12 more than the span
pub internal-length : (bits : ℕ) → internal_of bits ≡ 1 → length_mantissa_of bits ≡ span_of (top_mantissa_of bits) (bottom_mantissa_of bits) + 4096
internal-length bits i = ap (λ x. span_of (top_mantissa_of bits) (bottom_mantissa_of bits) + 4096 * x) i

-- the field T from T, the exponent and IE
pub top-field : (bits : ℕ) → top_field_of bits ≡ top_mantissa_of bits + internal_of bits * (exponent_of bits / 8)
top-field bits = elim (internal-cases bits) [
  | inl i ↦ rw i (omega arith)
  | inr i ↦ rw i (omega arith)
]

-- the field B from B, the exponent and IE
pub bottom-field : (bits : ℕ) → bottom_field_of bits ≡ bottom_mantissa_of bits + internal_of bits * (exponent_of bits % 8)
bottom-field bits = elim (internal-cases bits) [
  | inl i ↦ rw i (omega arith)
  | inr i ↦ rw i (omega arith)
]

-- a meta half is its fields
pub meta-parts : (bits : ℕ) → meta_of bits ≡ meta_of bits / 2 ^ 27 * 2 ^ 27 + internal_of bits * 2 ^ 26 + top_field_of bits * 2 ^ 14 + bottom_field_of bits
meta-parts bits = parts (meta_of bits)
  where
    parts : (m : ℕ) → m ≡ m / 2 ^ 27 * 2 ^ 27 + m / 2 ^ 26 % 2 ^ 1 * 2 ^ 26 + m / 2 ^ 14 % 2 ^ 12 * 2 ^ 14 + m / 2 ^ 0 % 2 ^ 14
    parts m = omega arith

-- a pattern is its meta half and its address
pub pattern-parts : (bits : ℕ) → bits ≡ meta_of bits * 2 ^ 64 + address_of bits
pattern-parts bits = omega arith

-- two patterns with the same upper bits, IE, exponent, T, B and address are one
pub same-pattern : (p q : ℕ) → meta_of p / 2 ^ 27 ≡ meta_of q / 2 ^ 27 → internal_of p ≡ internal_of q → exponent_of p ≡ exponent_of q → top_mantissa_of p ≡ top_mantissa_of q → bottom_mantissa_of p ≡ bottom_mantissa_of q → address_of p ≡ address_of q → p ≡ q
same-pattern p q upper internal exponent top bottom address =
    let t : top_field_of p ≡ top_field_of q = top-field p ∙ ap (λ x. x + internal_of p * (exponent_of p / 8)) top ∙ ap (λ x. top_mantissa_of q + x * (exponent_of p / 8)) internal ∙ ap (λ x. top_mantissa_of q + internal_of q * (x / 8)) exponent ∙ sym (top-field q) in
    let b : bottom_field_of p ≡ bottom_field_of q = bottom-field p ∙ ap (λ x. x + internal_of p * (exponent_of p % 8)) bottom ∙ ap (λ x. bottom_mantissa_of q + x * (exponent_of p % 8)) internal ∙ ap (λ x. bottom_mantissa_of q + internal_of q * (x % 8)) exponent ∙ sym (bottom-field q) in
    joined p q upper internal t b address
  where
    joined : (p q : ℕ) → meta_of p / 2 ^ 27 ≡ meta_of q / 2 ^ 27 → internal_of p ≡ internal_of q → top_field_of p ≡ top_field_of q → bottom_field_of p ≡ bottom_field_of q → address_of p ≡ address_of q → p ≡ q
    joined p q u i t b a =
        let m = meta-parts p in
        let n = meta-parts q in
        let v = pattern-parts p in
        let w = pattern-parts q in
        v ∙ ap (λ x. x * 2 ^ 64 + address_of p) (m ∙ ap (λ x. x * 2 ^ 27 + internal_of p * 2 ^ 26 + top_field_of p * 2 ^ 14 + bottom_field_of p) u ∙ ap (λ x. meta_of q / 2 ^ 27 * 2 ^ 27 + x * 2 ^ 26 + top_field_of p * 2 ^ 14 + bottom_field_of p) i ∙ ap (λ x. meta_of q / 2 ^ 27 * 2 ^ 27 + internal_of q * 2 ^ 26 + x * 2 ^ 14 + bottom_field_of p) t ∙ ap (λ x. meta_of q / 2 ^ 27 * 2 ^ 27 + internal_of q * 2 ^ 26 + top_field_of q * 2 ^ 14 + x) b ∙ sym n) ∙ ap (λ x. meta_of q * 2 ^ 64 + x) a ∙ sym w

-- T and B are multiples of 8 where the exponent is internal
pub internal-eighths : (bits : ℕ) → internal_of bits ≡ 1 → (top_mantissa_of bits % 8 ≡ 0) × (bottom_mantissa_of bits % 8 ≡ 0)
internal-eighths bits i = (ap (λ x. x % 8) (internal-top bits i) ∙ cleared (top_field_of bits), ap (λ x. x % 8) (internal-bottom bits i) ∙ cleared (bottom_field_of bits))
  where
    cleared : (n : ℕ) → (n - n % 8) % 8 ≡ 0
    cleared n = omega arith

-- the length is one too
pub internal-length-eighth : (bits : ℕ) → internal_of bits ≡ 1 → length_mantissa_of bits % 8 ≡ 0
internal-length-eighth bits i =
    let eighths = internal-eighths bits i in
    let span = span-eighth (top_mantissa_of bits) (bottom_mantissa_of bits) (top_mantissa-small bits) eighths.0 eighths.1 in
    ap (λ x. x % 8) (internal-length bits i) ∙ shifted (span_of (top_mantissa_of bits) (bottom_mantissa_of bits)) span
  where
    shifted : (n : ℕ) → n % 8 ≡ 0 → (n + 4096) % 8 ≡ 0
    shifted n h = omega arith

-- IE is the length's bit 12
pub length-internal : (bits : ℕ) → length_mantissa_of bits / 4096 ≡ internal_of bits
length-internal bits = decided (span_of (top_mantissa_of bits) (bottom_mantissa_of bits)) (internal_of bits) (span-small (top_mantissa_of bits) (bottom_mantissa_of bits) (top_mantissa-small bits))
  where
    decided : (span internal : ℕ) → span < 4096 → (span + 4096 * internal) / 4096 ≡ internal
    decided span internal h = omega arith

-- T is B and the length, modulo 2^12
pub top-from-length : (bits : ℕ) → (bottom_mantissa_of bits + length_mantissa_of bits) % 4096 ≡ top_mantissa_of bits
top-from-length bits =
    dropped (bottom_mantissa_of bits) (span_of (top_mantissa_of bits) (bottom_mantissa_of bits)) (internal_of bits)
    ∙ span-top (top_mantissa_of bits) (bottom_mantissa_of bits) (top_mantissa-small bits)
  where
    dropped : (bottom span internal : ℕ) → (bottom + (span + 4096 * internal)) % 4096 ≡ (bottom + span) % 4096
    dropped bottom span internal = omega arith

-- what the fields of a pattern stand for
pub record HasShape (bits upper exponent length bottom : ℕ) : Type 0 where
  pub upper_is : meta_of bits / 2 ^ 27 ≡ upper
  pub exponent_is : exponent_of bits ≡ exponent
  pub length_is : length_mantissa_of bits ≡ length
  pub bottom_is : bottom_mantissa_of bits ≡ bottom

-- fields without an internal exponent, from a base and a length
pub plain-shape : (bits upper bottom length : ℕ) → length < 4096 → meta_of bits ≡ upper * 2 ^ 27 + bounds_bits 0 0 (bottom + length) bottom → HasShape bits upper 0 length (bottom % 2 ^ 14)
plain-shape bits upper bottom length short m =
    let i : internal_of bits ≡ 0 = omega arith in
    let t : top_field_of bits ≡ (bottom + length) % 4096 = omega arith in
    let b : bottom_field_of bits ≡ bottom % 16384 = omega arith in
    record {
      upper_is = omega arith;
      exponent_is = plain-exponent bits i;
      length_is = plain-length bits i ∙ ap (λ x. span_of x (bottom_mantissa_of bits)) (plain-top bits i ∙ t) ∙ ap (λ x. span_of ((bottom + length) % 4096) x) (plain-bottom bits i ∙ b) ∙ span-sum bottom length short;
      bottom_is = plain-bottom bits i ∙ b;
    }

-- fields with an internal exponent, from a base and a length that are multiples of 8
pub internal-shape : (bits upper exponent bottom length : ℕ) → exponent < 64 → bottom % 8 ≡ 0 → length % 8 ≡ 0 → 4096 ≤ length → length < 8192 → meta_of bits ≡ upper * 2 ^ 27 + bounds_bits 1 exponent (bottom + length) bottom → HasShape bits upper exponent length (bottom % 2 ^ 14)
internal-shape bits upper exponent bottom length small b_eighth l_eighth long short m =
    let i : internal_of bits ≡ 1 = omega arith in
    let t : top_field_of bits ≡ (bottom + length) % 4096 + exponent / 8 = omega arith in
    let b : bottom_field_of bits ≡ bottom % 16384 + exponent % 8 = omega arith in
    let top : top_mantissa_of bits ≡ (bottom + length) % 4096 = internal-top bits i ∙ ap (λ x. x - x % 8) t ∙ omega arith in
    let low : bottom_mantissa_of bits ≡ bottom % 16384 = internal-bottom bits i ∙ ap (λ x. x - x % 8) b ∙ omega arith in
    record {
      upper_is = omega arith;
      exponent_is = internal-exponent bits i ∙ ap (λ x. 8 * (x % 8) + bottom_field_of bits % 8) t ∙ ap (λ x. 8 * (((bottom + length) % 4096 + exponent / 8) % 8) + x % 8) b ∙ omega arith;
      length_is = internal-length bits i ∙ ap (λ x. span_of x (bottom_mantissa_of bits) + 4096) top ∙ ap (λ x. span_of ((bottom + length) % 4096) x + 4096) low ∙ span-long bottom length long short;
      bottom_is = low;
    }
