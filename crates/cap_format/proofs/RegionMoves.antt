-- Moves from region to region: over natural numbers, and then as moves of patterns.
use Rattle.std.proofs.Common.{◌≡◌, ℕ, inl, inr, ◌+◌, ◌-◌, ◌*◌, ◌/◌, ◌%◌, ◌^◌, ◌<◌, ◌≤◌, suc, refl, ap, sym, subst, ◌∙◌, arith}
use Rattle.std.specs.Prelude.{ℤ, pos, negsuc, ◌+ℤ◌, ◌-ℤ◌, ◌*ℤ◌, ◌≤ℤ◌, ◌<ℤ◌, unsigned_abs}
use Rattle.std.specs.Int.{int_rem_euclid}
use Rattle.std.proofs.lemmas.Int.{ints}
use Rattle.std.proofs.lemmas.Bool.{cases_lt}
use Rattle.std.proofs.lemmas.Nat.{pow_pos, pow-add, pow_below, mod_below, mod_low, shr_high, mod-pow-add, div-add-mod'}
use Rattle.std.proofs.Math.IntN.{negsuc-*ℤ-pos}
use Rattle.std.proofs.Math.Nat.{mul-le-mul_right, add-mul-mod_self_right, mul-mod_left, mul-div_cancel, pow-le-pow_right}
use Rattle.cap_format.specs.declared.TheConstants.{FIRST_REGION, REGION_BYTES}
use Rattle.cap_format.specs.Pattern.{address_of, meta_of, internal_of, exponent_of, bottom_mantissa_of, top_mantissa_of, bottom_field_of, top_field_of, length_mantissa_of, length_of, base_of, top_of, IsBase}
use Rattle.cap_format.specs.SetBounds.{bounds_bits}
use Rattle.cap_format.specs.Moves.{IsMove, moved_bits, IsRegionSize, distance, distance_of, IsInsideOf}
use Rattle.cap_format.specs.Region.{IsInside}
use Rattle.cap_format.proofs.Bases.{base_of-is, base_of-only, exponent-small, length_mantissa-small}
use Rattle.cap_format.proofs.MovedFields.{internal-cases, bottom-field, top-field, meta-parts, same-pattern, length-internal, internal-eighths, internal-length-eighth, top-from-length, plain-exponent, HasShape, plain-shape, internal-shape}

-- a factor that is not 0 can be left out
pub times-same : (m n k : ℕ) → 0 < k → m * k ≡ n * k → m ≡ n
times-same m n k some e = sym (mul-div_cancel m {n = k} some) ∙ ap (λ x. x / k) e ∙ mul-div_cancel n {n = k} some

-- numbers that differ by multiples of another have the same remainder
pub same-remainder : (x y m l n : ℕ) → x + m * n ≡ y + l * n → x % n ≡ y % n
same-remainder x y m l n e = sym (add-mul-mod_self_right x m n) ∙ ap (λ z. z % n) e ∙ add-mul-mod_self_right y l n

-- the product with a difference of naturals
difference-times : (to from n : ℕ) → (pos to -ℤ pos from) *ℤ pos n ≡ pos (to * n) -ℤ pos (from * n)
difference-times to from n = elim (cases_lt to from) [
  | inl h ↦ backward (from - to - 1) (omega arith)
  | inr h ↦ forward (to - from) (omega arith)
]
  where
    forward : (k : ℕ) → to ≡ from + k → (pos to -ℤ pos from) *ℤ pos n ≡ pos (to * n) -ℤ pos (from * n)
    forward k e =
        let ahead : (pos to -ℤ pos from) ≡ pos k = omega (arith, ints) in
        let product = ap (λ x. x * n) e in
        ap (λ z. z *ℤ pos n) ahead ∙ omega (arith, ints, product)

    backward : (k : ℕ) → from ≡ to + suc k → (pos to -ℤ pos from) *ℤ pos n ≡ pos (to * n) -ℤ pos (from * n)
    backward k e =
        let behind : (pos to -ℤ pos from) ≡ negsuc k = omega (arith, ints) in
        let product = ap (λ x. x * n) e in
        ap (λ z. z *ℤ pos n) behind ∙ negsuc-*ℤ-pos k n ∙ omega (arith, ints, product)

-- a number plus the distance from one region to another
pub distance-adds : (s from to x y : ℕ) → y + from * 2 ^ s ≡ x + to * 2 ^ s → (pos x +ℤ distance_of s from to) ≡ pos y
distance-adds s from to x y e =
    let d : distance_of s from to ≡ pos (to * 2 ^ s) -ℤ pos (from * 2 ^ s) = difference-times to from (2 ^ s) in
    omega (arith, ints, d)

-- what is to hold of a base, over natural numbers
pub record IsBaseAt (address exponent bottom base : ℕ) : Type 0 where
  pub congruent : base % 2 ^ (exponent + 14) ≡ bottom * 2 ^ exponent
  pub from : base ≤ address + base % 2 ^ (exponent + 11) + 2 ^ (exponent + 11)
  pub to : address + base % 2 ^ (exponent + 11) + 2 ^ (exponent + 11) < base + 2 ^ (exponent + 14)

-- a natural number is one integer
natural-same : {m n : ℕ} → pos m ≡ pos n → m ≡ n
natural-same e = cc

-- a base that is a natural number is one over natural numbers
pub natural-base : (bits base : ℕ) → base_of bits ≡ pos base → IsBaseAt (address_of bits) (exponent_of bits) (bottom_mantissa_of bits) base
natural-base bits base e =
    let is : IsBase bits (pos base) = subst (λ z. IsBase bits z) e (base_of-is bits) in
    of_base (address_of bits) (exponent_of bits) (bottom_mantissa_of bits) base is.congruent is.from is.to
  where
    of_base : (address exponent bottom base : ℕ) → pos (base % 2 ^ (exponent + 14)) ≡ pos (bottom * 2 ^ exponent) → ((pos base -ℤ pos (base % 2 ^ (exponent + 11))) -ℤ pos (2 ^ (exponent + 11))) ≤ℤ pos address → pos address <ℤ (((pos base -ℤ pos (base % 2 ^ (exponent + 11))) -ℤ pos (2 ^ (exponent + 11))) +ℤ pos (2 ^ (exponent + 14))) → IsBaseAt address exponent bottom base
    of_base address exponent bottom base congruent from to = record {
      congruent = natural-same congruent;
      from = omega (arith, ints);
      to = omega (arith, ints);
    }

-- and the other way round
pub base-natural : (bits base : ℕ) → IsBaseAt (address_of bits) (exponent_of bits) (bottom_mantissa_of bits) base → base_of bits ≡ pos base
base-natural bits base at =
    let parts = to_base (address_of bits) (exponent_of bits) (bottom_mantissa_of bits) base at in
    sym (base_of-only bits (pos base) record { congruent = ap pos at.congruent; from = parts.0; to = parts.1 })
  where
    to_base : (address exponent bottom base : ℕ) → IsBaseAt address exponent bottom base → (((pos base -ℤ pos (base % 2 ^ (exponent + 11))) -ℤ pos (2 ^ (exponent + 11))) ≤ℤ pos address) × (pos address <ℤ (((pos base -ℤ pos (base % 2 ^ (exponent + 11))) -ℤ pos (2 ^ (exponent + 11))) +ℤ pos (2 ^ (exponent + 14))))
    to_base address exponent bottom base at = (omega (arith, ints, at.from, at.to), omega (arith, ints, at.from, at.to))

-- the other number lies `to` units less `from` units further on
pub record IsShift (unit from to x y : ℕ) : Type 0 where
  pub shift : y + from * unit ≡ x + to * unit

-- a base is a multiple of 2^E
pub base-multiple : (address exponent bottom base : ℕ) → IsBaseAt address exponent bottom base → base % 2 ^ exponent ≡ 0
base-multiple address exponent bottom base at =
    let places : 2 ^ (exponent + 14) ≡ 2 ^ (14 + exponent) = ap (λ x. 2 ^ x) (omega arith) in
    let split = mod-pow-add base 14 exponent in
    let rest : base % 2 ^ exponent < 2 ^ exponent = mod_below base (2 ^ exponent) (pow_pos exponent) in
    let whole : base / 2 ^ exponent % 2 ^ 14 * 2 ^ exponent + base % 2 ^ exponent ≡ bottom * 2 ^ exponent = sym split ∙ ap (λ x. base % x) (sym places) ∙ at.congruent in
    sym (mod_low (base / 2 ^ exponent % 2 ^ 14) exponent (base % 2 ^ exponent) rest) ∙ ap (λ x. x % 2 ^ exponent) whole ∙ mul-mod_left bottom (2 ^ exponent)

-- B is the base divided by 2^E, modulo 2^14
pub base-bottom : (address exponent bottom base : ℕ) → IsBaseAt address exponent bottom base → base / 2 ^ exponent % 2 ^ 14 ≡ bottom
base-bottom address exponent bottom base at =
    let places : 2 ^ (exponent + 14) ≡ 2 ^ (14 + exponent) = ap (λ x. 2 ^ x) (omega arith) in
    let split = mod-pow-add base 14 exponent in
    let none = base-multiple address exponent bottom base at in
    let whole : base / 2 ^ exponent % 2 ^ 14 * 2 ^ exponent + base % 2 ^ exponent ≡ bottom * 2 ^ exponent = sym split ∙ ap (λ x. base % x) (sym places) ∙ at.congruent in
    times-same (base / 2 ^ exponent % 2 ^ 14) bottom (2 ^ exponent) (pow_pos exponent) (omega arith)

-- so many units of 2^(E+12) bytes
module _ (exponent units from to : ℕ) where
  abbrev pub unit : ℕ
  unit = units * 2 ^ (exponent + 12)

  -- in blocks of 2^(E+11) bytes
  unit-blocks : unit ≡ units * 2 * 2 ^ (exponent + 11)
  unit-blocks =
      let whole : 2 ^ (exponent + 12) ≡ 2 ^ exponent * 4096 = pow-add 2 exponent 12 in
      let block : 2 ^ (exponent + 11) ≡ 2 ^ exponent * 2048 = pow-add 2 exponent 11 in
      rw (whole, block) (omega arith)

  -- in multiples of 2^E
  pub unit-bytes : unit ≡ units * 4096 * 2 ^ exponent
  unit-bytes =
      let whole : 2 ^ (exponent + 12) ≡ 2 ^ exponent * 4096 = pow-add 2 exponent 12 in
      rw whole (omega arith)

  -- a move by units keeps the place in a block
  pub shift-block : (x y : ℕ) → IsShift unit from to x y → y % 2 ^ (exponent + 11) ≡ x % 2 ^ (exponent + 11)
  shift-block x y moved =
      let e = moved.shift in
      let blocks = unit-blocks in
      let f = ap (λ u. from * u) blocks in
      let t = ap (λ u. to * u) blocks in
      same-remainder y x (from * (units * 2)) (to * (units * 2)) (2 ^ (exponent + 11)) (omega arith)

  -- it keeps the remainder modulo 2^E
  pub shift-low : (x y : ℕ) → IsShift unit from to x y → y % 2 ^ exponent ≡ x % 2 ^ exponent
  shift-low x y moved =
      let e = moved.shift in
      let bytes = unit-bytes in
      let f = ap (λ u. from * u) bytes in
      let t = ap (λ u. to * u) bytes in
      same-remainder y x (from * (units * 4096)) (to * (units * 4096)) (2 ^ exponent) (omega arith)

  -- the base divided by 2^E moves by the units divided by 2^E
  pub shift-bottom : (x y : ℕ) → IsShift unit from to x y → x % 2 ^ exponent ≡ 0 → IsShift (units * 4096) from to (x / 2 ^ exponent) (y / 2 ^ exponent)
  shift-bottom x y moved none =
      let e = moved.shift in
      let still : y % 2 ^ exponent ≡ 0 = shift-low x y moved ∙ none in
      let before : x / 2 ^ exponent * 2 ^ exponent + x % 2 ^ exponent ≡ x = div-add-mod' x (2 ^ exponent) in
      let after : y / 2 ^ exponent * 2 ^ exponent + y % 2 ^ exponent ≡ y = div-add-mod' y (2 ^ exponent) in
      let bytes = unit-bytes in
      let f = ap (λ u. from * u) bytes in
      let t = ap (λ u. to * u) bytes in
      record { shift = times-same (y / 2 ^ exponent + from * (units * 4096)) (x / 2 ^ exponent + to * (units * 4096)) (2 ^ exponent) (pow_pos exponent) (omega arith) }

  -- a base and an address that move alike stay a base and its address
  pub shift-base : (address bottom base address' base' : ℕ) → IsBaseAt address exponent bottom base → IsShift unit from to address address' → IsShift unit from to base base' → IsBaseAt address' exponent (base' / 2 ^ exponent % 2 ^ 14) base'
  shift-base address bottom base address' base' at a b =
      let still : base' % 2 ^ exponent ≡ 0 = shift-low base base' b ∙ base-multiple address exponent bottom base at in
      let places : 2 ^ (exponent + 14) ≡ 2 ^ (14 + exponent) = ap (λ x. 2 ^ x) (omega arith) in
      let split = mod-pow-add base' 14 exponent in
      let block = shift-block base base' b in
      record {
        congruent = ap (λ x. base' % x) places ∙ split ∙ omega arith;
        from = omega (arith, at.from, a.shift, b.shift);
        to = omega (arith, at.to, a.shift, b.shift);
      }

-- with one exponent, one length is one mantissa
same-length : (p q : ℕ) → exponent_of p ≡ exponent_of q → length_of p ≡ length_of q → length_mantissa_of p ≡ length_mantissa_of q
unfolding length_of
same-length p q e l = times-same (length_mantissa_of p) (length_mantissa_of q) (2 ^ exponent_of p) (pow_pos (exponent_of p)) (l ∙ ap (λ x. length_mantissa_of q * 2 ^ x) (sym e))

-- with one exponent, one base is one B
same-bottom : (p q : ℕ) → exponent_of p ≡ exponent_of q → base_of p ≡ base_of q → bottom_mantissa_of p ≡ bottom_mantissa_of q
same-bottom p q e b =
    let first = base_of-is p in
    let second = base_of-is q in
    let congruent = sym first.congruent ∙ ap (λ z. int_rem_euclid z (pos (2 ^ (exponent_of p + 14)))) b ∙ ap (λ x. int_rem_euclid (base_of q) (pos (2 ^ (x + 14)))) e ∙ second.congruent in
    times-same (bottom_mantissa_of p) (bottom_mantissa_of q) (2 ^ exponent_of p) (pow_pos (exponent_of p)) (natural-same congruent ∙ ap (λ x. bottom_mantissa_of q * 2 ^ x) (sym e))

-- two moves of a pattern by one distance are one pattern
pub same-move : (bits : ℕ) (by : ℤ) (p q : ℕ) → IsMove bits by p → IsMove bits by q → p ≡ q
same-move bits by p q a b =
    let exponent : exponent_of p ≡ exponent_of q = a.exponent ∙ sym b.exponent in
    let length : length_mantissa_of p ≡ length_mantissa_of q = same-length p q exponent (a.length ∙ sym b.length) in
    let internal : internal_of p ≡ internal_of q = sym (length-internal p) ∙ ap (λ x. x / 4096) length ∙ length-internal q in
    let bottom : bottom_mantissa_of p ≡ bottom_mantissa_of q = same-bottom p q exponent (a.base ∙ sym b.base) in
    let top : top_mantissa_of p ≡ top_mantissa_of q = sym (top-from-length p) ∙ ap (λ x. (x + length_mantissa_of p) % 4096) bottom ∙ ap (λ x. (bottom_mantissa_of q + x) % 4096) length ∙ top-from-length q in
    same-pattern p q (a.upper ∙ sym b.upper) internal exponent top bottom (natural-same (a.address ∙ sym b.address))

-- a pattern inside a region has a base that is a natural number
pub record IsHeld (s bits region base : ℕ) : Type 0 where
  pub base_is : base_of bits ≡ pos base
  pub from : FIRST_REGION + region * 2 ^ s ≤ base
  pub to : base + length_of bits ≤ FIRST_REGION + region * 2 ^ s + 2 ^ s

-- its base is one
pub held : (s bits region : ℕ) → IsInsideOf s bits region → IsHeld s bits region (unsigned_abs (base_of bits))
unfolding top_of
held s bits region inside =
    let parts = of_numbers (base_of bits) (length_of bits) inside.from inside.to in
    record { base_is = parts.0; from = parts.1; to = parts.2 }
  where
    of_numbers : (base : ℤ) (length : ℕ) → pos (FIRST_REGION + region * 2 ^ s) ≤ℤ base → (base +ℤ pos length) ≤ℤ pos (FIRST_REGION + (region + 1) * 2 ^ s) → (base ≡ pos (unsigned_abs base)) × (FIRST_REGION + region * 2 ^ s ≤ unsigned_abs base) × (unsigned_abs base + length ≤ FIRST_REGION + region * 2 ^ s + 2 ^ s)
    of_numbers base length from to = (omega (arith, ints), omega (arith, ints), omega (arith, ints))

-- and the other way round
pub inside-held : (s bits region base : ℕ) → region < 64 → IsHeld s bits region base → IsInsideOf s bits region
unfolding top_of
inside-held s bits region base some held = record {
  region_is = some;
  from = omega (arith, ints, held.base_is, held.from);
  to = omega (arith, ints, held.base_is, held.to);
}

-- 2^12 units of 2^E or more that are no more than 2^s
power-near : (exponent s length : ℕ) → 4096 ≤ length → length * 2 ^ exponent ≤ 2 ^ s → exponent + 12 ≤ s
power-near exponent s length long short = elim (cases_lt s (exponent + 12)) [
  | inl h ↦ (
      let above : 2 ^ s < 2 ^ (exponent + 12) = pow_below s (exponent + 12) h in
      let whole : 2 ^ (exponent + 12) ≡ 2 ^ exponent * 4096 = pow-add 2 exponent 12 in
      let least : 4096 * 2 ^ exponent ≤ length * 2 ^ exponent = mul-le-mul_right {m = 4096} {n = length} (2 ^ exponent) long in
      absurd (omega arith))
  | inr h ↦ h
]

-- a pattern inside a region has a small exponent
pub exponent-near : (s bits region base : ℕ) → IsRegionSize s → IsHeld s bits region base → exponent_of bits + 12 ≤ s
unfolding length_of
exponent-near s bits region base size held =
    let short : length_of bits ≤ 2 ^ s = omega (arith, held.from, held.to) in
    elim (internal-cases bits) [
      | inl i ↦ subst (λ x. x + 12 ≤ s) (sym (plain-exponent bits i)) size.least
      | inr i ↦ power-near (exponent_of bits) s (length_mantissa_of bits) (long (length_mantissa_of bits) (length-internal bits ∙ i)) short
    ]
  where
    long : (length : ℕ) → length / 4096 ≡ 1 → 4096 ≤ length
    long length e = omega arith

-- an address in the window of a base is near it
pub address-near : (s exponent bottom address base : ℕ) → exponent + 12 ≤ s → IsBaseAt address exponent bottom base → (base ≤ address + 2 ^ s) × (address ≤ base + 4 * 2 ^ s)
address-near s exponent bottom address base near at =
    let block : 2 ^ (exponent + 11) ≡ 2 ^ exponent * 2048 = pow-add 2 exponent 11 in
    let window : 2 ^ (exponent + 14) ≡ 2 ^ exponent * 16384 = pow-add 2 exponent 14 in
    let whole : 2 ^ (exponent + 12) ≡ 2 ^ exponent * 4096 = pow-add 2 exponent 12 in
    let most : 2 ^ (exponent + 12) ≤ 2 ^ s = pow-le-pow_right {n = 2} (omega arith) near in
    let rest : base % 2 ^ (exponent + 11) < 2 ^ (exponent + 11) = mod_below base (2 ^ (exponent + 11)) (pow_pos (exponent + 11)) in
    (omega (arith, at.from, at.to), omega (arith, at.from, at.to))

-- the pattern with the upper bits, the exponent and the length of another
abbrev pub joined-bits : ℕ → ℕ → ℕ → ℕ
joined-bits bits bottom address = (meta_of bits / 2 ^ 27 * 2 ^ 27 + bounds_bits (internal_of bits) (exponent_of bits) (bottom + length_mantissa_of bits) bottom) * 2 ^ 64 + address

-- its address
pub joined-address : (bits bottom address : ℕ) → address < 2 ^ 64 → address_of (joined-bits bits bottom address) ≡ address
joined-address bits bottom address h = mod_low (meta_of bits / 2 ^ 27 * 2 ^ 27 + bounds_bits (internal_of bits) (exponent_of bits) (bottom + length_mantissa_of bits) bottom) 64 address h

-- its meta half
pub joined-meta : (bits bottom address : ℕ) → address < 2 ^ 64 → meta_of (joined-bits bits bottom address) ≡ meta_of bits / 2 ^ 27 * 2 ^ 27 + bounds_bits (internal_of bits) (exponent_of bits) (bottom + length_mantissa_of bits) bottom
joined-meta bits bottom address h = shr_high (meta_of bits / 2 ^ 27 * 2 ^ 27 + bounds_bits (internal_of bits) (exponent_of bits) (bottom + length_mantissa_of bits) bottom) 64 address h

-- its other fields
pub joined-shape : (bits bottom address : ℕ) → address < 2 ^ 64 → (internal_of bits ≡ 1 → bottom % 8 ≡ 0) → HasShape (joined-bits bits bottom address) (meta_of bits / 2 ^ 27) (exponent_of bits) (length_mantissa_of bits) (bottom % 2 ^ 14)
joined-shape bits bottom address h eighth =
    let meta = joined-meta bits bottom address h in
    let upper = meta_of bits / 2 ^ 27 in
    let length = length_mantissa_of bits in
    elim (internal-cases bits) [
      | inl i ↦ (
          let e = plain-exponent bits i in
          let m = meta ∙ ap (λ x. upper * 2 ^ 27 + bounds_bits x (exponent_of bits) (bottom + length) bottom) i ∙ ap (λ x. upper * 2 ^ 27 + bounds_bits 0 x (bottom + length) bottom) e in
          let shape = plain-shape (joined-bits bits bottom address) upper bottom length (short length (length-internal bits ∙ i)) m in
          record { upper_is = shape.upper_is; exponent_is = shape.exponent_is ∙ sym e; length_is = shape.length_is; bottom_is = shape.bottom_is })
      | inr i ↦ (
          let m = meta ∙ ap (λ x. upper * 2 ^ 27 + bounds_bits x (exponent_of bits) (bottom + length) bottom) i in
          internal-shape (joined-bits bits bottom address) upper (exponent_of bits) bottom length (exponent-small bits) (eighth i) (internal-length-eighth bits i) (long length (length-internal bits ∙ i)) (length_mantissa-small bits) m)
    ]
  where
    short : (length : ℕ) → length / 4096 ≡ 0 → length < 4096
    short length e = omega arith

    long : (length : ℕ) → length / 4096 ≡ 1 → 4096 ≤ length
    long length e = omega arith

-- it has 128 bits
pub joined-small : (bits bottom address : ℕ) → bits < 2 ^ 128 → address < 2 ^ 64 → (internal_of bits ≡ 1 → bottom % 8 ≡ 0) → joined-bits bits bottom address < 2 ^ 128
joined-small bits bottom address pattern h eighth =
    let length = length_mantissa_of bits in
    let small : bounds_bits (internal_of bits) (exponent_of bits) (bottom + length) bottom < 2 ^ 27 = elim (internal-cases bits) [
      | inl i ↦ subst (λ x. bounds_bits x (exponent_of bits) (bottom + length) bottom < 2 ^ 27) (sym i) (plain (exponent_of bits) (bottom + length) bottom)
      | inr i ↦ subst (λ x. bounds_bits x (exponent_of bits) (bottom + length) bottom < 2 ^ 27) (sym i) (inner (exponent_of bits) length bottom (exponent-small bits) (eighth i) (internal-length-eighth bits i))
    ] in
    whole (bounds_bits (internal_of bits) (exponent_of bits) (bottom + length) bottom) small
  where
    plain : (exponent top bottom : ℕ) → bounds_bits 0 exponent top bottom < 2 ^ 27
    plain exponent top bottom = omega arith

    inner : (exponent length bottom : ℕ) → exponent < 64 → bottom % 8 ≡ 0 → length % 8 ≡ 0 → bounds_bits 1 exponent (bottom + length) bottom < 2 ^ 27
    inner exponent length bottom e b l = omega arith

    whole : (bounds : ℕ) → bounds < 2 ^ 27 → (meta_of bits / 2 ^ 27 * 2 ^ 27 + bounds) * 2 ^ 64 + address < 2 ^ 128
    whole bounds small = omega arith

-- the base of a pattern with these fields
pub fields-base : (bits address exponent bottom base : ℕ) → address_of bits ≡ address → exponent_of bits ≡ exponent → bottom_mantissa_of bits ≡ bottom → IsBaseAt address exponent bottom base → base_of bits ≡ pos base
fields-base bits address exponent bottom base a e b at =
    base-natural bits base
    (subst (λ x. IsBaseAt x (exponent_of bits) (bottom_mantissa_of bits) base) (sym a)
    (subst (λ x. IsBaseAt address x (bottom_mantissa_of bits) base) (sym e)
    (subst (λ x. IsBaseAt address exponent x base) (sym b) at)))

-- where a number lies in a region, it and the number as far on in another differ as the regions do
module _ (s bits from to base : ℕ) (size : IsRegionSize s) (some : from < 64) (other : to < 64) (here : IsHeld s bits from base) where
  -- the base, the address and B in the other region
  abbrev new_base : ℕ
  new_base = base + to * 2 ^ s - from * 2 ^ s

  abbrev new_address : ℕ
  new_address = address_of bits + to * 2 ^ s - from * 2 ^ s

  abbrev new_bottom : ℕ
  new_bottom = new_base / 2 ^ exponent_of bits

  -- how often a region has 2^(E+12) bytes
  abbrev units : ℕ
  units = 2 ^ (s - (exponent_of bits + 12))

  -- the exponent is small
  near : exponent_of bits + 12 ≤ s
  near = exponent-near s bits from base size here

  -- a region has so many
  region-units : 2 ^ s ≡ units * 2 ^ (exponent_of bits + 12)
  region-units =
      let places : s ≡ s - (exponent_of bits + 12) + (exponent_of bits + 12) = parted s (exponent_of bits + 12) near in
      ap (λ x. 2 ^ x) places ∙ pow-add 2 (s - (exponent_of bits + 12)) (exponent_of bits + 12)
    where
      parted : (m n : ℕ) → n ≤ m → m ≡ m - n + n
      parted m n h = omega arith

  -- the base is one over natural numbers
  old : IsBaseAt (address_of bits) (exponent_of bits) (bottom_mantissa_of bits) base
  old = natural-base bits base here.base_is

  -- the address is far from both ends of the address space
  pub address-room : (from * 2 ^ s ≤ address_of bits + to * 2 ^ s) × (address_of bits + to * 2 ^ s < 2 ^ 64)
  address-room = bounded (address_of bits) (length_of bits) (address-near s (exponent_of bits) (bottom_mantissa_of bits) (address_of bits) base near old) here.from here.to
    where
      bounded : (address length : ℕ) → (base ≤ address + 2 ^ s) × (address ≤ base + 4 * 2 ^ s) → FIRST_REGION + from * 2 ^ s ≤ base → base + length ≤ FIRST_REGION + from * 2 ^ s + 2 ^ s → (from * 2 ^ s ≤ address + to * 2 ^ s) × (address + to * 2 ^ s < 2 ^ 64)
      bounded address length window low high =
          let limit : 2 ^ s ≤ 16777216 = pow-le-pow_right {n = 2} (omega arith) {i = s} {j = 24} size.most in
          let f : from * 2 ^ s ≤ 63 * 2 ^ s = mul-le-mul_right {m = from} {n = 63} (2 ^ s) (omega arith) in
          let t : to * 2 ^ s ≤ 63 * 2 ^ s = mul-le-mul_right {m = to} {n = 63} (2 ^ s) (omega arith) in
          (omega (arith, window.0, window.1), omega (arith, window.0, window.1))

  -- the address and the base move as the regions do
  address-shift : new_address + from * 2 ^ s ≡ address_of bits + to * 2 ^ s
  address-shift = kept (address_of bits + to * 2 ^ s) (from * 2 ^ s) address-room.0
    where
      kept : (m n : ℕ) → n ≤ m → m - n + n ≡ m
      kept m n h = omega arith

  base-shift : new_base + from * 2 ^ s ≡ base + to * 2 ^ s
  base-shift = omega (arith, here.from)

  -- the new address has 64 bits
  new_address-small : new_address < 2 ^ 64
  new_address-small = less (address_of bits + to * 2 ^ s) (from * 2 ^ s) address-room.1
    where
      less : (m n : ℕ) → m < 2 ^ 64 → m - n < 2 ^ 64
      less m n h = omega arith

  -- the moved pattern, by its parts
  pub moved-is : moved_bits bits (distance_of s from to) ≡ joined-bits bits new_bottom new_address
  unfolding moved_bits
  moved-is =
      let d = distance_of s from to in
      let b : unsigned_abs (base_of bits +ℤ d) ≡ new_base = ap unsigned_abs (ap (λ z. z +ℤ d) here.base_is ∙ distance-adds s from to base new_base base-shift) in
      let a : unsigned_abs (pos (address_of bits) +ℤ d) ≡ new_address = ap unsigned_abs (distance-adds s from to (address_of bits) new_address address-shift) in
      ap (λ x. joined-bits bits (x / 2 ^ exponent_of bits) (unsigned_abs (pos (address_of bits) +ℤ d))) b ∙ ap (λ x. joined-bits bits new_bottom x) a

  -- the moves of the base and of the address in units
  in-units : (x y : ℕ) → y + from * 2 ^ s ≡ x + to * 2 ^ s → IsShift (units * 2 ^ (exponent_of bits + 12)) from to x y
  in-units x y e = record { shift = ap (λ u. y + from * u) (sym region-units) ∙ e ∙ ap (λ u. x + to * u) region-units }

  -- B moves by multiples of 2^12
  bottom-shift : IsShift (units * 4096) from to (base / 2 ^ exponent_of bits) new_bottom
  bottom-shift = shift-bottom (exponent_of bits) units from to base new_base (in-units base new_base base-shift) (base-multiple (address_of bits) (exponent_of bits) (bottom_mantissa_of bits) base old)

  -- B before the move
  old-bottom : base / 2 ^ exponent_of bits % 2 ^ 14 ≡ bottom_mantissa_of bits
  old-bottom = base-bottom (address_of bits) (exponent_of bits) (bottom_mantissa_of bits) base old

  -- so it stays a multiple of 8 where the exponent is internal
  bottom-eighth : internal_of bits ≡ 1 → new_bottom % 8 ≡ 0
  bottom-eighth i = eighth (base / 2 ^ exponent_of bits) new_bottom (bottom_mantissa_of bits) units bottom-shift.shift old-bottom (internal-eighths bits i).1
    where
      eighth : (x y bottom units : ℕ) → y + from * (units * 4096) ≡ x + to * (units * 4096) → x % 2 ^ 14 ≡ bottom → bottom % 8 ≡ 0 → y % 8 ≡ 0
      eighth x y bottom units e b h = omega arith

  -- the other fields of the moved pattern
  shape : HasShape (joined-bits bits new_bottom new_address) (meta_of bits / 2 ^ 27) (exponent_of bits) (length_mantissa_of bits) (new_bottom % 2 ^ 14)
  shape = joined-shape bits new_bottom new_address new_address-small bottom-eighth

  -- the moved pattern's base
  joined-base : base_of (joined-bits bits new_bottom new_address) ≡ pos new_base
  joined-base =
      fields-base (joined-bits bits new_bottom new_address) new_address (exponent_of bits) (new_bottom % 2 ^ 14) new_base (joined-address bits new_bottom new_address new_address-small) shape.exponent_is shape.bottom_is
      (shift-base (exponent_of bits) units from to (address_of bits) (bottom_mantissa_of bits) base new_address new_base old (in-units (address_of bits) new_address address-shift) (in-units base new_base base-shift))

  -- its length
  joined-length : length_of (joined-bits bits new_bottom new_address) ≡ length_of bits
  unfolding length_of
  joined-length =
      let p = joined-bits bits new_bottom new_address in
      ap (λ x. x * 2 ^ exponent_of p) shape.length_is ∙ ap (λ x. length_mantissa_of bits * 2 ^ x) shape.exponent_is

  -- it is a move
  joined-move : bits < 2 ^ 128 → IsMove bits (distance_of s from to) (joined-bits bits new_bottom new_address)
  joined-move pattern = record {
    pattern = joined-small bits new_bottom new_address pattern new_address-small bottom-eighth;
    upper = shape.upper_is;
    exponent = shape.exponent_is;
    length = joined-length;
    address = ap pos (joined-address bits new_bottom new_address new_address-small) ∙ sym (distance-adds s from to (address_of bits) new_address address-shift);
    base = joined-base ∙ sym (distance-adds s from to base new_base base-shift) ∙ ap (λ z. z +ℤ distance_of s from to) (sym here.base_is);
  }

  -- it lies in the other region
  joined-inside : IsInsideOf s (joined-bits bits new_bottom new_address) to
  joined-inside =
      let p = joined-bits bits new_bottom new_address in
      let parts = placed (length_of bits) here.from here.to in
      inside-held s p to new_base other record { base_is = joined-base; from = parts.0; to = subst (λ x. new_base + x ≤ FIRST_REGION + to * 2 ^ s + 2 ^ s) (sym joined-length) parts.1 }
    where
      placed : (length : ℕ) → FIRST_REGION + from * 2 ^ s ≤ base → base + length ≤ FIRST_REGION + from * 2 ^ s + 2 ^ s → (FIRST_REGION + to * 2 ^ s ≤ new_base) × (new_base + length ≤ FIRST_REGION + to * 2 ^ s + 2 ^ s)
      placed length low high = (omega arith, omega arith)

  -- the move as a function is one
  pub moved-move : bits < 2 ^ 128 → IsMove bits (distance_of s from to) (moved_bits bits (distance_of s from to))
  moved-move pattern = subst (λ p. IsMove bits (distance_of s from to) p) (sym moved-is) (joined-move pattern)

  -- and it lies in the other region
  pub moved-inside : IsInsideOf s (moved_bits bits (distance_of s from to)) to
  moved-inside = subst (λ p. IsInsideOf s p to) (sym moved-is) joined-inside

  -- the length of a region in units of 2^E
  region-bottom : 2 ^ s / 2 ^ exponent_of bits ≡ units * 4096
  region-bottom = ap (λ x. x / 2 ^ exponent_of bits) (region-units ∙ unit-bytes (exponent_of bits) units from to) ∙ mul-div_cancel (units * 4096) {n = 2 ^ exponent_of bits} (pow_pos (exponent_of bits))

  -- T stays
  top-stays : (new_bottom + length_mantissa_of bits) % 2 ^ 12 ≡ top_mantissa_of bits
  top-stays = stays (base / 2 ^ exponent_of bits) new_bottom (bottom_mantissa_of bits) (length_mantissa_of bits) units bottom-shift.shift old-bottom ∙ top-from-length bits
    where
      stays : (x y bottom length units : ℕ) → y + from * (units * 4096) ≡ x + to * (units * 4096) → x % 2 ^ 14 ≡ bottom → (y + length) % 4096 ≡ (bottom + length) % 4096
      stays x y bottom length units e b = omega arith

  -- the field B and the distance in units of 2^E, with 64 regions more, modulo 2^14
  field-moves : (n : ℕ) → n + from ≡ to + 64 → (bottom_field_of bits + n * (2 ^ s / 2 ^ exponent_of bits)) % 2 ^ 14 ≡ new_bottom % 2 ^ 14 + internal_of bits * (exponent_of bits % 8)
  field-moves n e =
      ap (λ u. (bottom_field_of bits + n * u) % 2 ^ 14) region-bottom
      ∙ ap (λ b. (b + n * (units * 4096)) % 2 ^ 14) (bottom-field bits)
      ∙ elim (internal-cases bits) [
        | inl i ↦ ap (λ x. (bottom_mantissa_of bits + x * (exponent_of bits % 8) + n * (units * 4096)) % 2 ^ 14) i ∙ plain (base / 2 ^ exponent_of bits) new_bottom (bottom_mantissa_of bits) units (exponent_of bits % 8) bottom-shift.shift old-bottom ∙ ap (λ x. new_bottom % 2 ^ 14 + x * (exponent_of bits % 8)) (sym i)
        | inr i ↦ ap (λ x. (bottom_mantissa_of bits + x * (exponent_of bits % 8) + n * (units * 4096)) % 2 ^ 14) i ∙ inner (base / 2 ^ exponent_of bits) new_bottom (bottom_mantissa_of bits) units (exponent_of bits % 8) bottom-shift.shift old-bottom (internal-eighths bits i).1 (mod_below (exponent_of bits) 8 (omega arith)) ∙ ap (λ x. new_bottom % 2 ^ 14 + x * (exponent_of bits % 8)) (sym i)
      ]
    where
      plain : (x y bottom units low : ℕ) → y + from * (units * 4096) ≡ x + to * (units * 4096) → x % 2 ^ 14 ≡ bottom → (bottom + 0 * low + n * (units * 4096)) % 2 ^ 14 ≡ y % 2 ^ 14 + 0 * low
      plain x y bottom units low f b =
          let product = ap (λ k. k * units) e in
          omega arith

      inner : (x y bottom units low : ℕ) → y + from * (units * 4096) ≡ x + to * (units * 4096) → x % 2 ^ 14 ≡ bottom → bottom % 8 ≡ 0 → low < 8 → (bottom + 1 * low + n * (units * 4096)) % 2 ^ 14 ≡ y % 2 ^ 14 + 1 * low
      inner x y bottom units low f b h l =
          let product = ap (λ k. k * units) e in
          omega arith

  -- so the meta half with that field B is that of the moved pattern
  meta-moves : (n : ℕ) → n + from ≡ to + 64 → meta_of bits - bottom_field_of bits + (bottom_field_of bits + n * (2 ^ s / 2 ^ exponent_of bits)) % 2 ^ 14 ≡ meta_of bits / 2 ^ 27 * 2 ^ 27 + bounds_bits (internal_of bits) (exponent_of bits) (new_bottom + length_mantissa_of bits) new_bottom
  meta-moves n e =
      let top = ap (λ x. x + internal_of bits * (exponent_of bits / 8)) top-stays ∙ sym (top-field bits) in
      ap (λ x. meta_of bits - bottom_field_of bits + x) (field-moves n e)
      ∙ parts (meta_of bits) (meta_of bits / 2 ^ 27) (internal_of bits) (top_field_of bits) (bottom_field_of bits) (new_bottom % 2 ^ 14 + internal_of bits * (exponent_of bits % 8)) (meta-parts bits)
      ∙ ap (λ x. meta_of bits / 2 ^ 27 * 2 ^ 27 + (internal_of bits * 2 ^ 26 + x * 2 ^ 14 + (new_bottom % 2 ^ 14 + internal_of bits * (exponent_of bits % 8)))) (sym top)
    where
      parts : (meta upper internal top old new : ℕ) → meta ≡ upper * 2 ^ 27 + internal * 2 ^ 26 + top * 2 ^ 14 + old → meta - old + new ≡ upper * 2 ^ 27 + (internal * 2 ^ 26 + top * 2 ^ 14 + new)
      parts meta upper internal top old new h = omega arith

  -- the moved pattern from the fields of the old one, with no base
  pub moved-fields : (n address : ℕ) → n + from ≡ to + 64 → address + from * 2 ^ s ≡ address_of bits + to * 2 ^ s → (meta_of bits - bottom_field_of bits + (bottom_field_of bits + n * (2 ^ s / 2 ^ exponent_of bits)) % 2 ^ 14) * 2 ^ 64 + address ≡ moved_bits bits (distance_of s from to)
  moved-fields n address e a =
      let same : address ≡ new_address = one (address_of bits) address (to * 2 ^ s) (from * 2 ^ s) a in
      ap (λ x. (meta_of bits - bottom_field_of bits + (bottom_field_of bits + n * (2 ^ s / 2 ^ exponent_of bits)) % 2 ^ 14) * 2 ^ 64 + x) same
      ∙ ap (λ x. x * 2 ^ 64 + new_address) (meta-moves n e)
      ∙ sym moved-is
    where
      one : (x y t f : ℕ) → y + f ≡ x + t → y ≡ x + t - f
      one x y t f h = omega arith

-- a move of a pattern inside a region is one
pub inside-move : (s bits from to : ℕ) → IsRegionSize s → bits < 2 ^ 128 → to < 64 → IsInsideOf s bits from → IsMove bits (distance_of s from to) (moved_bits bits (distance_of s from to))
inside-move s bits from to size pattern other inside = moved-move s bits from to (unsigned_abs (base_of bits)) size inside.region_is other (held s bits from inside) pattern

-- it goes inside the other region
pub inside-moves : (s bits from to : ℕ) → IsRegionSize s → to < 64 → IsInsideOf s bits from → IsInsideOf s (moved_bits bits (distance_of s from to)) to
inside-moves s bits from to size other inside = moved-inside s bits from to (unsigned_abs (base_of bits)) size inside.region_is other (held s bits from inside)

-- distances add up
distances-join : (z : ℤ) (s from over to : ℕ) → ((z +ℤ distance_of s from over) +ℤ distance_of s over to) ≡ (z +ℤ distance_of s from to)
distances-join z s from over to =
    let first : distance_of s from over ≡ pos (over * 2 ^ s) -ℤ pos (from * 2 ^ s) = difference-times over from (2 ^ s) in
    let second : distance_of s over to ≡ pos (to * 2 ^ s) -ℤ pos (over * 2 ^ s) = difference-times to over (2 ^ s) in
    let both : distance_of s from to ≡ pos (to * 2 ^ s) -ℤ pos (from * 2 ^ s) = difference-times to from (2 ^ s) in
    omega (arith, ints, first, second, both)

-- the distance to the same region is none
distance-none : (z : ℤ) (s region : ℕ) → z ≡ (z +ℤ distance_of s region region)
distance-none z s region =
    let d : distance_of s region region ≡ pos (region * 2 ^ s) -ℤ pos (region * 2 ^ s) = difference-times region region (2 ^ s) in
    omega (arith, ints, d)

-- each pattern is a move of itself to the same region
self-move : (s bits region : ℕ) → bits < 2 ^ 128 → IsMove bits (distance_of s region region) bits
self-move s bits region pattern = record {
  pattern = pattern;
  upper = refl;
  exponent = refl;
  length = refl;
  address = distance-none (pos (address_of bits)) s region;
  base = distance-none (base_of bits) s region;
}

-- two moves, one after the other, are a move by the sum
joined-moves : (s bits over_bits to_bits from over to : ℕ) → IsMove bits (distance_of s from over) over_bits → IsMove over_bits (distance_of s over to) to_bits → IsMove bits (distance_of s from to) to_bits
joined-moves s bits over_bits to_bits from over to a b = record {
  pattern = b.pattern;
  upper = b.upper ∙ a.upper;
  exponent = b.exponent ∙ a.exponent;
  length = b.length ∙ a.length;
  address = b.address ∙ ap (λ z. z +ℤ distance_of s over to) a.address ∙ distances-join (pos (address_of bits)) s from over to;
  base = b.base ∙ ap (λ z. z +ℤ distance_of s over to) a.base ∙ distances-join (base_of bits) s from over to;
}

-- a move to the same region changes no bits
pub same-bits : (s bits region : ℕ) → IsRegionSize s → bits < 2 ^ 128 → IsInsideOf s bits region → moved_bits bits (distance_of s region region) ≡ bits
same-bits s bits region size pattern inside = same-move bits (distance_of s region region) (moved_bits bits (distance_of s region region)) bits (inside-move s bits region region size pattern inside.region_is inside) (self-move s bits region pattern)

-- two moves give the bits of one
pub twice-bits : (s bits from over to : ℕ) → IsRegionSize s → bits < 2 ^ 128 → over < 64 → to < 64 → IsInsideOf s bits from → moved_bits (moved_bits bits (distance_of s from over)) (distance_of s over to) ≡ moved_bits bits (distance_of s from to)
twice-bits s bits from over to size pattern between other inside =
    let first = inside-move s bits from over size pattern between inside in
    let over_bits = moved_bits bits (distance_of s from over) in
    let second = inside-move s over_bits over to size first.pattern other (inside-moves s bits from over size between inside) in
    same-move bits (distance_of s from to) (moved_bits over_bits (distance_of s over to)) (moved_bits bits (distance_of s from to)) (joined-moves s bits over_bits (moved_bits over_bits (distance_of s over to)) from over to first second) (inside-move s bits from to size pattern other inside)

-- the size of the regions of this machine
pub region-size : IsRegionSize 20
region-size = record { least = omega arith; most = omega arith }

-- inside a region of this machine
pub inside-region : (bits region : ℕ) → region < 64 → IsInside bits region → IsInsideOf 20 bits region
inside-region bits region some inside = record { region_is = some; from = inside.from; to = omega (arith, ints, inside.to) }

-- and the other way round
pub region-inside : (bits region : ℕ) → IsInsideOf 20 bits region → IsInside bits region
region-inside bits region inside = record { from = inside.from; to = omega (arith, ints, inside.to) }

-- from one region of this machine to another an address does not wrap
pub inside-room : (bits from to : ℕ) → from < 64 → to < 64 → IsInside bits from → (from * REGION_BYTES ≤ address_of bits + to * REGION_BYTES) × (address_of bits + to * REGION_BYTES < 2 ^ 64)
inside-room bits from to some other inside =
    let there = inside-region bits from some inside in
    address-room 20 bits from to (unsigned_abs (base_of bits)) region-size some other (held 20 bits from there)

-- what adding to the fields gives is the move
pub inside-fields : (bits from to address : ℕ) → from < 64 → to < 64 → IsInside bits from → address + from * REGION_BYTES ≡ address_of bits + to * REGION_BYTES → (meta_of bits - bottom_field_of bits + (bottom_field_of bits + (to + 64 - from) * (REGION_BYTES / 2 ^ exponent_of bits)) % 2 ^ 14) * 2 ^ 64 + address ≡ moved_bits bits (distance from to)
inside-fields bits from to address some other inside e =
    let there = inside-region bits from some inside in
    moved-fields 20 bits from to (unsigned_abs (base_of bits)) region-size some other (held 20 bits from there) (to + 64 - from) address (omega arith) e

-- it is a move, and inside the other region
pub inside-moved : (bits from to : ℕ) → bits < 2 ^ 128 → from < 64 → to < 64 → IsInside bits from → IsMove bits (distance from to) (moved_bits bits (distance from to)) × IsInside (moved_bits bits (distance from to)) to
inside-moved bits from to pattern some other inside =
    let there = inside-region bits from some inside in
    (inside-move 20 bits from to region-size pattern other there, region-inside (moved_bits bits (distance from to)) to (inside-moves 20 bits from to region-size other there))
