-- A capability with another address.
use Rattle.std.proofs.Common.{◌≡◌, ℕ, Bool, true, false, ◌==◌, ◌&&◌, ◌↔◌, IsTrue, refl}
use Rattle.std.specs.Prelude.{ℤ}
use Rattle.std.specs.Ordering.{int_eq}
use Rattle.std.proofs.lemmas.Bool.Decides.{same_from_decides, Decides-and, Decides-int_eq}
use Rattle.cap_format.specs.declared.cap.Cap.{Cap}
use Rattle.cap_format.specs.Pattern.{kind_of, base_of, top_of, with_address_bits}
use Rattle.cap_format.specs.Made.{with_address}

-- whether both bounds are the same, as one test
pub same-bounds : (same : Bool) (b b' t t' : ℤ) → (IsTrue same ↔ ((b ≡ b') × (t ≡ t'))) → same ≡ (int_eq b b' && int_eq t t')
same-bounds same b b' t t' h = same_from_decides same (int_eq b b' && int_eq t t') h (Decides-and (int_eq b b') (int_eq t t') (Decides-int_eq b b') (Decides-int_eq t t'))

-- with the bits of another address, and the tag where it is kept
pub with_address-from : (cap : Cap) (address bits : ℕ) (tag : Bool) → bits ≡ with_address_bits cap.bits address → tag ≡ (cap.tag && (kind_of cap.bits == 0) && int_eq (base_of bits) (base_of cap.bits) && int_eq (top_of bits) (top_of cap.bits)) → ◌≡◌ {A = Cap} record { bits = bits; tag = tag } (with_address cap address)
unfolding with_address
with_address-from cap address bits tag e t = rw (t, e) refl

-- where it is plain and has a tag, the bounds decide
pub plain-decided : (tag plain b t : Bool) → tag ≡ true → plain ≡ true → (tag && plain && b && t) ≡ (b && t)
plain-decided tag plain b t e f = rw (e, f) refl

-- without a tag it has none afterwards
pub untagged-stays : (tag plain b t : Bool) → tag ≡ false → (tag && plain && b && t) ≡ false
untagged-stays tag plain b t e = rw e refl

-- where it is sealed the tag goes
pub sealed-dropped : (tag plain b t : Bool) → plain ≡ false → (tag && plain && b && t) ≡ false
sealed-dropped tag plain b t f = rw f (elim tag as (λ x. (x && false && b && t) ≡ false) [ true ↦ refl | false ↦ refl ])
