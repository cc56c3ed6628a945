-- A plain capability made of its permissions, its address and its size, and the root of a region.
use Rattle.std.proofs.Common.{◌≡◌, ℕ, ◌+◌, ◌*◌, ◌/◌, ◌^◌, ◌<◌, ap, ◌∙◌, arith}
use Rattle.std.specs.Prelude.{pos}
use Rattle.std.specs.Int.RustNames.{bit_or}
use Rattle.std.proofs.lemmas.Nat.{or_shifted}
use Rattle.cap_format.specs.Numbers.{region_bytes}
use Rattle.cap_format.specs.Pattern.{address_of, meta_of, perms_of, kind_of, base_of, top_of}
use Rattle.cap_format.specs.Region.{region_start}
use Rattle.cap_format.specs.SetBounds.{bounds_for, bounded, bounded_base, bounded_top}
use Rattle.cap_format.proofs.Patterns.{upper-kind, upper-perms}
use Rattle.cap_format.proofs.NewBases.{new-address, new-base, new-top, new-upper, bounds-short}
use Rattle.cap_format.proofs.Exact.{power-base, power-top}

-- the pattern with these permissions and this address, before it has bounds
abbrev pub unbounded : ℕ → ℕ → ℕ
unbounded address perms = perms * 2 ^ 112 + address

module _ (address size perms : ℕ) (fits : address < 2 ^ 64) (small : size < 2 ^ 64) (rights : perms < 2 ^ 16) where
  -- its address
  unbounded-address : address_of (unbounded address perms) ≡ address
  unbounded-address = omega arith

  -- bits 63 to 27 of its meta half are the permissions, and zeros
  unbounded-upper : meta_of (unbounded address perms) / 2 ^ 27 ≡ perms * 2 ^ 21
  unbounded-upper = omega arith

  -- with bounds it has the same address
  pub capability-address : address_of (bounded (unbounded address perms) size) ≡ address
  capability-address = new-address (unbounded address perms) size (omega arith) ∙ unbounded-address

  -- the base of the bounds from there on
  pub capability-base : base_of (bounded (unbounded address perms) size) ≡ pos (bounded_base address size)
  capability-base = new-base (unbounded address perms) size (omega arith) ∙ ap (λ x. pos (bounded_base x size)) unbounded-address

  -- and their top
  pub capability-top : top_of (bounded (unbounded address perms) size) ≡ pos (bounded_top address size)
  capability-top = new-top (unbounded address perms) size (omega arith) ∙ ap (λ x. pos (bounded_top x size)) unbounded-address

  -- its permissions
  pub capability-perms : perms_of (bounded (unbounded address perms) size) ≡ perms
  capability-perms = upper-perms (bounded (unbounded address perms) size) (unbounded address perms) (new-upper (unbounded address perms) size (omega arith)) ∙ omega arith

  -- and the kind of a plain one
  pub capability-kind : kind_of (bounded (unbounded address perms) size) ≡ 0
  capability-kind = upper-kind (bounded (unbounded address perms) size) (unbounded address perms) (new-upper (unbounded address perms) size (omega arith)) ∙ omega arith

  -- it is the permissions, the bounds and the address, joined
  pub capability-joined : bit_or (perms * 2 ^ 48) (bounds_for address size) * 2 ^ 64 + address ≡ bounded (unbounded address perms) size
  capability-joined =
      let short = bounds-short address size (omega arith) in
      let meta = or_shifted perms 48 (bounds_for address size) (omega arith) in
      let same = unbounded-address in
      let upper = unbounded-upper in
      rw (meta, upper, same) (omega arith)

-- a root's base is its region's start
pub root-base : (region : ℕ) → bounded_base (region_start region) region_bytes ≡ region_start region
root-base region = power-base 20 (region_start region) (omega arith) (omega arith) (omega arith)

-- its top is its region's end
pub root-top : (region : ℕ) → bounded_top (region_start region) region_bytes ≡ region_start region + region_bytes
root-top region = power-top 20 (region_start region) (omega arith) (omega arith) (omega arith)
