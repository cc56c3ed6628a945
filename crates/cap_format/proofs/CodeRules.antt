-- What a capability of code becomes where it moves, and where it goes on.
use Rattle.std.proofs.Common.{◌≡◌, ℕ, Bool, true, false, IsTrue, ◌==◌, ◌+◌, ◌/◌, ◌%◌, ◌^◌, ◌<◌, refl, ap, ◌∙◌, arith}
use Rattle.std.specs.Prelude.{ℤ, pos, ◌+ℤ◌, ◌≤ℤ◌, bit_and}
use Rattle.std.proofs.lemmas.Int.{ints}
use Rattle.std.proofs.lemmas.Bool.{and_from, eq-eqb}
use Rattle.std.proofs.lemmas.Bool.Decides.{Decides-int_eq}
use Rattle.cap_format.specs.Numbers.{most_regions, region_bytes, permit_execute}
use Rattle.cap_format.specs.declared.cap.Cap.{Cap}
use Rattle.cap_format.specs.Pattern.{address_of, kind_of, base_of, top_of, with_address_bits}
use Rattle.cap_format.specs.Region.{region_start, IsInside}
use Rattle.cap_format.specs.Rights.{allows, holds}
use Rattle.cap_format.specs.Made.{with_address}
use Rattle.cap_format.specs.Moves.{moved, distance}
use Rattle.cap_format.specs.Code.{IsCode}
use Rattle.cap_format.proofs.Bases.{with_address-address, with_address-meta, within-base, within-top}
use Rattle.cap_format.proofs.Patterns.{upper-kind, upper-perms}
use Rattle.cap_format.proofs.Within.{held-when}
use Rattle.cap_format.proofs.RegionMoves.{inside-moved}

-- regions lie a multiple of four bytes apart
moved-aligned : (address new from to : ℕ) → pos new ≡ (pos address +ℤ distance from to) → address % 4 ≡ 0 → new % 4 ≡ 0
moved-aligned address new from to is aligned = omega (arith, ints)

-- code that moves is code, inside the other region
pub code-moves : (cap : Cap) (from to : ℕ) → cap.bits < 2 ^ 128 → from < most_regions → to < most_regions → IsCode cap → IsInside cap.bits from → IsCode (moved cap from to) × IsInside (moved cap from to).bits to
code-moves cap from to pattern some other code inside = moves cap.bits cap.tag pattern code inside
  where
    moves : (bits : ℕ) (tag : Bool) → bits < 2 ^ 128 → IsCode record { bits = bits; tag = tag } → IsInside bits from → IsCode (moved record { bits = bits; tag = tag } from to) × IsInside (moved record { bits = bits; tag = tag } from to).bits to
    moves bits true pattern code inside =
        let (move, there) = inside-moved bits from to pattern some other inside in (
          record {
            tagged = refl;
            plain = upper-kind _ bits move.upper ∙ code.plain;
            executes = ap (λ x. bit_and x permit_execute == permit_execute) (upper-perms _ bits move.upper) ∙ code.executes;
            aligned = moved-aligned (address_of bits) _ from to move.address code.aligned;
          },
          there,
        )
    moves bits false pattern code inside = let tagged = code.tagged in absurd (cc)

-- below a region's end an address has 64 bits
below-end : (top : ℤ) (address region : ℕ) → region < most_regions → pos address ≤ℤ top → top ≤ℤ pos (region_start region + region_bytes) → address < 2 ^ 64
below-end top address region some low high = omega (arith, ints)

-- an address from the base to the top of a capability that is inside a region
module _ (cap : Cap) (region address : ℕ) (some : region < most_regions) (inside : IsInside cap.bits region) (from : base_of cap.bits ≤ℤ pos address) (to : pos address ≤ℤ top_of cap.bits) where
  -- it has 64 bits
  pub there-fits : address < 2 ^ 64
  there-fits = let high = inside.to in below-end (top_of cap.bits) address region some to high

  -- so the base stays
  there-base : base_of (with_address_bits cap.bits address) ≡ base_of cap.bits
  there-base = within-base cap.bits address there-fits from to

  -- and the top
  there-top : top_of (with_address_bits cap.bits address) ≡ top_of cap.bits
  there-top = within-top cap.bits address there-fits from to

  -- at a multiple of 4 it is code, where the capability is tagged and plain and may execute
  pub code-there : IsTrue cap.tag → kind_of cap.bits ≡ 0 → IsTrue (allows cap.bits permit_execute) → address % 4 ≡ 0 → IsCode (with_address cap address)
  unfolding with_address
  code-there tagged plain executes aligned =
      let upper = ap (λ m. m / 2 ^ 27) (with_address-meta cap.bits address there-fits) in
      record {
        tagged = and_from _ _ (and_from _ _ (and_from cap.tag (kind_of cap.bits == 0) tagged (eq-eqb (kind_of cap.bits) 0 plain)) ((Decides-int_eq _ _).1 there-base)) ((Decides-int_eq _ _).1 there-top);
        plain = upper-kind _ cap.bits upper ∙ plain;
        executes = ap (λ x. bit_and x permit_execute == permit_execute) (upper-perms _ cap.bits upper) ∙ executes;
        aligned = ap (λ x. x % 4) (with_address-address cap.bits address there-fits) ∙ aligned;
      }

  -- inside the region
  pub inside-there : IsInside (with_address cap address).bits region
  unfolding with_address
  inside-there = record { from = rw there-base inside.from; to = rw there-top inside.to }

-- code goes on to the next word
module _ (cap : Cap) (region : ℕ) (some : region < most_regions) (code : IsCode cap) (inside : IsInside cap.bits region) (held : IsTrue (holds cap.bits (address_of cap.bits) 4)) where
  -- the address of the next word
  abbrev next : ℕ
  next = address_of cap.bits + 4

  -- it lies from the base to the top
  next-within : (base_of cap.bits ≤ℤ pos next) × (pos next ≤ℤ top_of cap.bits)
  next-within =
      let bytes = held-when cap.bits (address_of cap.bits) 4 held in
      let from = bytes.from in
      (omega (arith, ints, from), bytes.to)

  -- it has 64 bits
  pub next-fits : next < 2 ^ 64
  next-fits = there-fits cap region next some inside next-within.0 next-within.1

  -- it is code
  pub code-next : IsCode (with_address cap next)
  code-next = let aligned = code.aligned in code-there cap region next some inside next-within.0 next-within.1 code.tagged code.plain code.executes (omega arith)

  -- inside the region
  pub inside-next : IsInside (with_address cap next).bits region
  inside-next = inside-there cap region next some inside next-within.0 next-within.1
