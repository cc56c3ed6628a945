-- The length that a size has where it is rounded up so that its bounds can be exact.
use Rattle.std.proofs.Common.{◌≡◌, ℕ, true, false, Bool, inl, inr, ◌==◌, ◌&&◌, ◌+◌, ◌-◌, ◌*◌, ◌/◌, ◌%◌, ◌^◌, ◌<◌, ◌≤◌, refl, ap, sym, ◌∙◌, arith}
use Rattle.std.specs.Prelude.{pos}
use Rattle.std.proofs.lemmas.Bool.{cases_lt, and_parts, and_from, eq-eqb, eqb-true, ne_eqb, cond-true, cond-false, lt-ltb, le-ltb}
use Rattle.std.proofs.lemmas.Nat.{pow_pos, div-add-mod', and_mask}
use Rattle.std.proofs.lemmas.Nat.Bits.{and_high_mask}
use Rattle.std.proofs.Math.Nat.{mod-eq_of_lt, mul-mod_left}
use Rattle.cap_format.specs.Pattern.{address_of}
use Rattle.cap_format.specs.SetBounds.{up_to, low_end, high_end, bounded_base, bounded_top, exponent_for, is_exact, exact_length, align_mask, KeepsMask, RoundsExactly, IsLeastEnough}
use Rattle.cap_format.proofs.Rounding.{pow-sum, reach, reach-least, reach-coarser, down-below, up-above, up-keeps}
use Rattle.cap_format.proofs.Exponents.{exponent-is, exponent-least, exponent-long}
use Rattle.cap_format.proofs.Ends.{base-plain, top-plain, base-rounded, top-rounded}
use Rattle.cap_format.proofs.Exact.{down-multiple, multiple-finer, base-aligned, top-aligned}
use Rattle.cap_format.proofs.NewBases.{address-fits, new-base, new-top}

-- rounding up from an address that is a multiple of the unit reaches no less than rounding up fewer bytes
reach-more : (e address size length : ℕ) → address % 2 ^ (e + 3) ≡ 0 → size ≤ length → up_to size (2 ^ (e + 3)) ≤ reach e address length
reach-more e address size length aligned order =
    let unit = 2 ^ (e + 3) in
    let start = div-add-mod' address unit in
    let above = up-above (address + length) unit (pow_pos (e + 3)) in
    let kept = up-keeps ((address + length + (unit - 1)) / unit) (address / unit) size unit (pow_pos (e + 3)) (omega arith) in
    let low = down-multiple address unit aligned in
    omega arith

-- and no more than rounding up as many
reach-less : (e address size length : ℕ) → address % 2 ^ (e + 3) ≡ 0 → size % 2 ^ (e + 3) ≡ 0 → length ≤ size → reach e address length ≤ size
reach-less e address size length aligned whole order =
    let unit = 2 ^ (e + 3) in
    let start = div-add-mod' address unit in
    let parts = div-add-mod' size unit in
    let kept = up-keeps (address / unit + size / unit) 0 (address + length) unit (pow_pos (e + 3)) (omega arith) in
    let low = down-multiple address unit aligned in
    omega arith

-- from 0 on just rounding up
reach-zero : (e size : ℕ) → reach e 0 size ≡ up_to size (2 ^ (e + 3))
reach-zero e size =
    let low = down-below 0 (2 ^ (e + 3)) in
    let none : 0 + size ≡ size = omega arith in
    let same = ap (λ x. up_to x (2 ^ (e + 3))) none in
    omega arith

-- where a size is rounded up
module _ (size : ℕ) (some : 4096 ≤ size) (small : size ≤ 2 ^ 64) where
  -- the exponent of so many bytes from 0 on
  abbrev exponent : ℕ
  exponent = exponent_for 0 size

  -- what is rounded to
  abbrev unit : ℕ
  unit = 2 ^ (exponent + 3)

  -- the rounded length
  abbrev whole : ℕ
  whole = up_to size unit

  -- the exponent is below 53
  exponent-small : exponent < 53
  exponent-small = (exponent-least 0 size some small).1

  -- and the least that is enough
  size-least : IsLeastEnough exponent 0 size
  size-least = (exponent-least 0 size some small).0

  -- a smaller one is not
  size-long : (e : ℕ) → e < exponent → 2 ^ (e + 13) ≤ up_to size (2 ^ (e + 3))
  size-long e below = let least = size-least.least e below in let same = reach-zero e size in omega arith

  -- the rounded length is a multiple of the unit
  whole-multiple : whole % unit ≡ 0
  whole-multiple = mul-mod_left ((size + (unit - 1)) / unit) unit

  -- it has 4096 times 2^E bytes or more
  whole-long : 2 ^ (12 + exponent) ≤ whole
  whole-long =
      let long = exponent-long exponent 0 size some size-least in
      let same = reach-zero exponent size in
      let power : 2 ^ (12 + exponent) ≡ 2 ^ exponent * 4096 = pow-sum (12 + exponent) exponent 12 (omega arith) in
      omega arith

  -- and fewer than 8192 times 2^E
  whole-short : whole < 2 ^ (exponent + 13)
  whole-short = let enough = size-least.enough in let same = reach-zero exponent size in omega arith

  -- it is no less than the size
  whole-above : size ≤ whole
  whole-above = up-above size unit (pow_pos (exponent + 3))

  -- and no more than 2^64, which is a multiple of the unit
  whole-small : whole ≤ 2 ^ 64
  whole-small =
      let below = exponent-small in
      let power : 2 ^ 64 ≡ 2 ^ (61 - exponent) * unit = pow-sum 64 (61 - exponent) (exponent + 3) (omega arith) in
      let kept = up-keeps (2 ^ (61 - exponent)) 0 size unit (pow_pos (exponent + 3)) (omega arith) in
      omega arith

  module _ (address : ℕ) (aligned : address % unit ≡ 0) where
    -- at a multiple of the unit the bounds of the rounded length begin at the address
    pub whole-base : bounded_base address whole ≡ address
    whole-base = base-aligned exponent address whole aligned whole-multiple exponent-small whole-long whole-short

    -- and end that length on
    pub whole-top : bounded_top address whole ≡ address + whole
    whole-top = top-aligned exponent address whole aligned whole-multiple exponent-small whole-long whole-short

    module _ (length : ℕ) (from : size ≤ length) (to : length < whole) where
      -- a shorter length from the size on has the same exponent
      shorter-exponent : exponent_for address length ≡ exponent
      shorter-exponent =
          let most = reach-less exponent address whole length aligned whole-multiple (omega arith) in
          let short = whole-short in
          exponent-is exponent address length exponent-small record {
            enough = omega arith;
            least = λ e below.
                let finer = multiple-finer address (e + 3) (exponent + 3) (omega arith) aligned in
                let more = reach-more e address size length finer from in
                let long = size-long e below in
                omega arith;
          }

      -- so its bounds are longer
      pub shorter-longer : address + length < bounded_top address length
      shorter-longer =
          let top = top-rounded address length (omega arith) ∙ ap (λ x. high_end x address length) shorter-exponent in
          let more = reach-more exponent address size length aligned from in
          let low = down-multiple address unit aligned in
          omega arith

  -- where the bounds of the rounded length begin at an address, that is a multiple of the unit
  pub whole-only : (address : ℕ) → bounded_base address whole ≡ address → address % unit ≡ 0
  whole-only address exact =
      let above = whole-above in
      let long : 4096 ≤ whole = omega arith in
      let least = (exponent-least address whole long whole-small).0 in
      let k = exponent_for address whole in
      let order : exponent ≤ k = elim (cases_lt k exponent) [
        | inl below ↦ (let enough = least.enough in
            let far = size-long k below in
            let near = reach-least k address whole in
            let same = reach-zero k size in
            let coarser = reach-coarser k (exponent - k) 0 size in
            let places : k + (exponent - k) ≡ exponent = omega arith in
            let reached = ap (λ x. reach x 0 size) places ∙ reach-zero exponent size in
            absurd (omega arith))
        | inr h ↦ h
      ] in
      let low : low_end k address ≡ address = sym (base-rounded address whole long) ∙ exact in
      multiple-finer address (exponent + 3) (k + 3) (omega arith) (ap (λ x. x % 2 ^ (k + 3)) (sym low) ∙ mul-mod_left (address / 2 ^ (k + 3)) (2 ^ (k + 3)))

-- bounds are exact where their base is the address and their top is the end
exact-when : (address size : ℕ) → bounded_base address size ≡ address → bounded_top address size ≡ address + size → is_exact address size ≡ true
exact-when address size base top = and_from _ _ (eq-eqb (bounded_base address size) address base) (eq-eqb (bounded_top address size) (address + size) top)

-- then their base is the address
exact-base : (address size : ℕ) → is_exact address size ≡ true → bounded_base address size ≡ address
exact-base address size h = eqb-true (bounded_base address size) address (and_parts (bounded_base address size == address) (bounded_top address size == address + size) h).0

-- bounds that end elsewhere are not exact
exact-not : (address size : ℕ) → address + size < bounded_top address size → is_exact address size ≡ false
exact-not address size longer = ap (λ b. (bounded_base address size == address) && b) (ne_eqb (bounded_top address size) (address + size) (λ e. omega arith)) ∙ none (bounded_base address size == address)
  where
    none : (b : Bool) → (b && false) ≡ false
    none b = elim b as (λ x. (x && false) ≡ false) [ true ↦ refl | false ↦ refl ]

-- an address of 64 bits keeps the mask of all bits
keeps-all : (address : ℕ) → address < 2 ^ 64 → KeepsMask address (2 ^ 64 - 1)
keeps-all address fits = and_mask address 64 ∙ mod-eq_of_lt fits

-- it keeps the mask of the bits from one on where it is a multiple of that bit
keeps-multiple : (address k : ℕ) → k ≤ 64 → address < 2 ^ 64 → address % 2 ^ k ≡ 0 → KeepsMask address (2 ^ 64 - 2 ^ k)
keeps-multiple address k within fits aligned = and_high_mask 64 k within address fits ∙ down-multiple address (2 ^ k) aligned

-- and only there
multiple-kept : (address k : ℕ) → k ≤ 64 → address < 2 ^ 64 → KeepsMask address (2 ^ 64 - 2 ^ k) → address % 2 ^ k ≡ 0
multiple-kept address k within fits kept =
    let same : address / 2 ^ k * 2 ^ k ≡ address = sym (and_high_mask 64 k within address fits) ∙ kept in
    ap (λ x. x % 2 ^ k) (sym same) ∙ mul-mod_left (address / 2 ^ k) (2 ^ k)

-- below 4096 bytes each address keeps the mask, and the bounds are exact
few-exact : (bits size : ℕ) → size < 4096 → RoundsExactly bits size
few-exact bits size few =
    let address = address_of bits in
    let length : exact_length size ≡ size = cond-true _ _ _ (lt-ltb size 4096 few) in
    let mask : align_mask size ≡ 2 ^ 64 - 1 = cond-true _ _ _ (lt-ltb size 4096 few) in
    record {
      rounded = refl;
      from = omega (arith, length);
      to = omega (arith, length);
      exact = (
        (λ _. rw mask (keeps-all address (address-fits bits))),
        (λ _. rw length (exact-when address size (base-plain address size few) (top-plain address size few))),
      );
      kept = λ _. record {
        base = rw length (new-base bits size (omega arith) ∙ ap pos (base-plain address size few));
        top = rw length (new-top bits size (omega arith) ∙ ap pos (top-plain address size few));
        least = λ shorter from to. absurd (omega (arith, length));
      };
    }

-- from 4096 bytes on the multiples of the unit keep the mask, and there the bounds are exact
many-exact : (bits size : ℕ) → 4096 ≤ size → size < 2 ^ 64 → RoundsExactly bits size
many-exact bits size many fits =
    let small : size ≤ 2 ^ 64 = omega arith in
    let address = address_of bits in
    let e = exponent_for 0 size in
    let within : e + 3 ≤ 64 = (let below = exponent-small size many small in omega arith) in
    let rounded = whole size many small in
    let length : exact_length size ≡ rounded = cond-false _ _ _ (le-ltb size 4096 many) in
    let mask : align_mask size ≡ 2 ^ 64 - 2 ^ (e + 3) = cond-false _ _ _ (le-ltb size 4096 many) in
    let aligned : KeepsMask address (align_mask size) → address % 2 ^ (e + 3) ≡ 0 = λ kept. multiple-kept address (e + 3) within (address-fits bits) (rw mask at kept) in
    record {
      rounded = refl;
      from = rw length (whole-above size many small);
      to = rw length (whole-small size many small);
      exact = (
        (λ h. let just = rw length at h in rw mask (keeps-multiple address (e + 3) within (address-fits bits) (whole-only size many small address (exact-base address rounded just)))),
        (λ kept. rw length (exact-when address rounded (whole-base size many small address (aligned kept)) (whole-top size many small address (aligned kept)))),
      );
      kept = λ kept. record {
        base = rw length (new-base bits rounded (whole-small size many small) ∙ ap pos (whole-base size many small address (aligned kept)));
        top = rw length (new-top bits rounded (whole-small size many small) ∙ ap pos (whole-top size many small address (aligned kept)));
        least = λ shorter from to. exact-not address shorter (shorter-longer size many small address (aligned kept) shorter from (rw length at to));
      };
    }

-- so it is for each size
pub exact-length : (bits size : ℕ) → size < 2 ^ 64 → RoundsExactly bits size
exact-length bits size fits = elim (cases_lt size 4096) [ inl few ↦ few-exact bits size few | inr many ↦ many-exact bits size many fits ]
