-- What holds of a capability that fits.
use Rattle.std.proofs.Common.{◌≡◌, ℕ, ◌+◌, ◌-◌, ◌≤◌, ℤ, true, arith, bit_and, leb}
use Rattle.std.proofs.lemmas.Bool.{and_parts, eqb-true, leb-true}
use Rattle.cap_format.specs.Numbers.{region_bytes, all_permissions}
use Rattle.cap_format.specs.Region.{region_start}
use Rattle.cap_format.specs.SetBounds.{is_exact}
use Rattle.asm_image.specs.Places.{natural}
use Rattle.asm_image.specs.Values.{fits_cap}

-- its bounds lie in the region and are exact, its address is within them or at their end, and there are its permissions
pub record IsFitting (base : ℕ) (size offset perms : ℤ) : Type 0 where
  pub inside : base + natural size ≤ region_bytes
  pub exact : is_exact (region_start 0 + base) (natural size) ≡ true
  pub within : natural offset ≤ natural size
  pub known : bit_and (natural perms) all_permissions ≡ natural perms

-- bounds that the region has room for end in it
ends-inside : (base size : ℕ) → leb base region_bytes ≡ true → leb size (region_bytes - base) ≡ true → base + size ≤ region_bytes
ends-inside base size low short = omega (arith, leb-true base region_bytes low, leb-true size (region_bytes - base) short)

-- A capability that fits has such bounds, such an offset and such permissions.
pub fitting : (base : ℕ) (size offset perms : ℤ) → fits_cap base size offset perms ≡ true → IsFitting base size offset perms
fitting base size offset perms fits =
    let (signs, rest) = and_parts _ _ fits in
    let (low, from-size) = and_parts _ _ rest in
    let (short, from-exact) = and_parts _ _ from-size in
    let (exact, from-offset) = and_parts _ _ from-exact in
    let (within, known) = and_parts _ _ from-offset in
    record {
      inside = ends-inside base (natural size) low short;
      exact = exact;
      within = leb-true (natural offset) (natural size) within;
      known = eqb-true (bit_and (natural perms) all_permissions) (natural perms) known;
    }
