-- Tagged plain capabilities: the root of a region, and what another address and exact bounds make of one.
use Rattle.std.proofs.Common.{◌≡◌, ◌∙◌, ℕ, ◌+◌, ◌*◌, ◌/◌, ◌^◌, ◌<◌, ◌≤◌, ◌==◌, true, IsTrue, refl, ap, arith}
use Rattle.std.specs.Prelude.{pos, int_le}
use Rattle.std.proofs.lemmas.Int.{ints}
use Rattle.std.proofs.lemmas.Bool.{and_from, and_parts, eq-eqb, eqb-true}
use Rattle.std.proofs.lemmas.Bool.Decides.{Decides-int_eq}
use Rattle.cap_format.specs.Numbers.{region_bytes, most_regions}
use Rattle.cap_format.specs.declared.cap.Cap.{Cap}
use Rattle.cap_format.specs.Pattern.{address_of, meta_of, kind_of, base_of, top_of, with_address_bits, KeepsBoundsWithin}
use Rattle.cap_format.specs.Region.{region_start, IsInside}
use Rattle.cap_format.specs.Rights.{holds}
use Rattle.cap_format.specs.SetBounds.{bounds_for, bounded, bounded_base, bounded_top, is_exact, set_bounds}
use Rattle.cap_format.specs.Made.{root, with_address}
use Rattle.cap_format.proofs.Bases.{with_address-address, with_address-meta}
use Rattle.cap_format.proofs.NewBases.{bounds-short, new-address, new-base, new-top, new-upper}
use Rattle.cap_format.proofs.Patterns.{upper-kind, upper-perms}
use Rattle.elf_loader.specs.StartLaws.{IsPlainCap}
use Rattle.cap_format.proofs.Roots.{unbounded, capability-address, capability-base, capability-top, capability-perms, capability-kind, root-base, root-top}

-- a pattern with new bounds has 128 bits
bounded-pattern : (bits size : ℕ) → bits < 2 ^ 128 → size ≤ 2 ^ 64 → bounded bits size < 2 ^ 128
bounded-pattern bits size fits small = by (bounds_for (address_of bits) size) (bounds-short (address_of bits) size small)
  where
    by : (bounds : ℕ) → bounds < 2 ^ 27 → (meta_of bits / 2 ^ 27 * 2 ^ 27 + bounds) * 2 ^ 64 + address_of bits < 2 ^ 128
    by bounds short = omega arith

-- the root of a region is one from the region's start to its end, at its start
pub root-plain : (region rights : ℕ) → region < most_regions → rights < 2 ^ 16
    → IsPlainCap rights (region_start region) (region_start region + region_bytes) (region_start region) (root region rights)
root-plain region rights some fits =
    let start = region_start region in record {
      tagged = refl;
      plain = capability-kind start region_bytes rights (omega arith) (omega arith) fits;
      perms = capability-perms start region_bytes rights (omega arith) (omega arith) fits;
      base = capability-base start region_bytes rights (omega arith) (omega arith) fits ∙ ap pos (root-base region);
      top = capability-top start region_bytes rights (omega arith) (omega arith) fits ∙ ap pos (root-top region);
      address = capability-address start region_bytes rights (omega arith) (omega arith) fits;
      pattern = bounded-pattern (unbounded start rights) region_bytes (omega arith) (omega arith);
    }

-- one whose bounds lie in a region is inside it
pub plain-inside : {rights low high at : ℕ} {cap : Cap} (region : ℕ) → IsPlainCap rights low high at cap → region_start region ≤ low → high ≤ region_start region + region_bytes
    → IsInside cap.bits region
plain-inside region is from to = record { from = rw is.base (omega (arith, ints)); to = rw is.top (omega (arith, ints)) }

module _ (keeps : KeepsBoundsWithin) {rights low high at : ℕ} {cap : Cap} (is : IsPlainCap rights low high at cap) (new : ℕ) (fits : new < 2 ^ 64) (from : low ≤ new) (to : new ≤ high) where
  -- with an address from the base to the top its pattern has the same base and the same top
  kept : (base_of (with_address_bits cap.bits new) ≡ base_of cap.bits) × (top_of (with_address_bits cap.bits new) ≡ top_of cap.bits)
  kept = keeps cap.bits new is.pattern fits (rw is.base (omega (arith, ints))) (rw is.top (omega (arith, ints)))

  -- the bits above its bounds are the same
  same-upper : meta_of (with_address_bits cap.bits new) / 2 ^ 27 ≡ meta_of cap.bits / 2 ^ 27
  same-upper = ap (λ m. m / 2 ^ 27) (with_address-meta cap.bits new fits)

  -- and it has 128 bits
  address-pattern : with_address_bits cap.bits new < 2 ^ 128
  address-pattern = let fits_all = is.pattern in omega arith

  -- so with that address it is the same but for its address
  pub with_address-plain : IsPlainCap rights low high new (with_address cap new)
  unfolding with_address
  with_address-plain = record {
    tagged = and_from _ _ (and_from _ _ (and_from _ _ is.tagged (eq-eqb (kind_of cap.bits) 0 is.plain)) ((Decides-int_eq _ _).1 kept.0)) ((Decides-int_eq _ _).1 kept.1);
    plain = upper-kind _ cap.bits same-upper ∙ is.plain;
    perms = upper-perms _ cap.bits same-upper ∙ is.perms;
    base = kept.0 ∙ is.base;
    top = kept.1 ∙ is.top;
    address = with_address-address cap.bits new fits;
    pattern = address-pattern;
  }

-- the ends of exact bounds are those of the bytes
exact-ends : (at size : ℕ) → IsTrue (is_exact at size) → (bounded_base at size ≡ at) × (bounded_top at size ≡ at + size)
exact-ends at size exact =
    let parts = and_parts (bounded_base at size == at) (bounded_top at size == at + size) exact in
    (eqb-true (bounded_base at size) at parts.0, eqb-true (bounded_top at size) (at + size) parts.1)

module _ {rights low high at : ℕ} {cap : Cap} (is : IsPlainCap rights low high at cap) (size : ℕ) (small : size < 2 ^ 64) (from : low ≤ at) (to : at + size ≤ high) where
  -- bytes from the address on that end at the top or before it are held
  bytes-held : IsTrue (holds cap.bits (address_of cap.bits) size)
  bytes-held = rw (is.address, is.base, is.top) (and_from _ _ (below low at from) (below (at + size) high to))
    where
      below : (m n : ℕ) → m ≤ n → int_le (pos m) (pos n) ≡ true
      below m n h = grind (arith, ints)

  -- with exact bounds for these it is the same but for its bounds
  pub set_bounds-plain : IsTrue (is_exact at size) → IsPlainCap rights at (at + size) at (set_bounds cap size).cap
  unfolding set_bounds
  set_bounds-plain exact =
      let upper = new-upper cap.bits size (omega arith) in
      let ends = exact-ends at size exact in record {
        tagged = and_from cap.tag _ is.tagged (and_from (kind_of cap.bits == 0) _ (eq-eqb (kind_of cap.bits) 0 is.plain) bytes-held);
        plain = upper-kind _ cap.bits upper ∙ is.plain;
        perms = upper-perms _ cap.bits upper ∙ is.perms;
        base = new-base cap.bits size (omega arith) ∙ ap (λ x. pos (bounded_base x size)) is.address ∙ ap pos ends.0;
        top = new-top cap.bits size (omega arith) ∙ ap (λ x. pos (bounded_top x size)) is.address ∙ ap pos ends.1;
        address = new-address cap.bits size (omega arith) ∙ is.address;
        pattern = bounded-pattern cap.bits size is.pattern (omega arith);
      }
