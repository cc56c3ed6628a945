-- Integers modulo a power of two: the signed integer of a number of so many bits, and back.
use Rattle.std.proofs.Common.{◌≡◌, ◌∙◌, ℕ, zero, suc, ◌+◌, ◌-◌, ◌*◌, ◌%◌, ◌^◌, ◌<◌, ◌≤◌, ⊎_elim, ℤ, pos, negsuc, ◌+ℤ◌, ◌-ℤ◌, refl, sym, ap, arith}
use Rattle.std.specs.Prelude.{unsigned_abs}
use Rattle.std.specs.Int.Signed.{mag}
use mir.Val.{bits, hbits}
use Rattle.std.specs.Int.{Width, w8, w16, w32, w64, w128, cast_signed, cast_unsigned}
use Rattle.std.proofs.lemmas.Bool.{cases_lt}
use Rattle.std.proofs.lemmas.Bool.Decides.{nat_tests}
use Rattle.std.proofs.lemmas.Int.{ints}
use Rattle.std.proofs.lemmas.Nat.{mod_below, pow_pos}
use Rattle.std.proofs.Math.Nat.{pow-suc, mod-eq_of_lt}
use Rattle.riscv_decode.specs.Words.{signed}
use Rattle.int_step.specs.Values.{wrapped}

-- the modulus is twice its half
pub modulus-twice : (width : ℕ) → 0 < width → 2 ^ width ≡ 2 ^ (width - 1) + 2 ^ (width - 1)
modulus-twice zero some = absurd (omega arith)
modulus-twice (suc n) some = let same : suc n - 1 ≡ n = omega arith in rw same (omega (arith, pow-suc 2 n))

-- A number of so many bits is a signed integer with the same residue: itself below the half of the modulus, and from there on
-- less by the modulus.
pub signed-low : (width n : ℕ) → n < 2 ^ (width - 1) → signed width n ≡ pos n
signed-low width n low = grind (arith, nat_tests)

pub signed-high : (width n : ℕ) → 2 ^ (width - 1) ≤ n → signed width n ≡ pos n -ℤ pos (2 ^ width)
signed-high width n high = grind (arith, nat_tests)

-- there it is negative
pub signed-negative : (width n : ℕ) → 2 ^ (width - 1) ≤ n → n < 2 ^ width → signed width n ≡ negsuc (2 ^ width - 1 - n)
signed-negative width n high fits = signed-high width n high ∙ omega (arith, ints)

-- `mag` is n of n and of -(n + 1): it is the absolute value, or less by one
pub mag-near : (z : ℤ) → (mag z ≤ unsigned_abs z) × (unsigned_abs z ≤ mag z + 1)
mag-near (pos n) = omega arith
mag-near (negsuc n) = omega arith

-- the signed integer has so many bits
pub signed-fits : (width n : ℕ) → 0 < width → n < 2 ^ width → mag (signed width n) < 2 ^ (width - 1)
signed-fits width n some fits = let twice = modulus-twice width some in ⊎_elim
    (λ low. rw (signed-low width n low) low)
    (λ high. rw (signed-negative width n high fits) (omega arith))
    (cases_lt n (2 ^ (width - 1)))

-- so it is no farther from 0 than that half
pub signed-near : (width n : ℕ) → 0 < width → n < 2 ^ width → unsigned_abs (signed width n) ≤ 2 ^ (width - 1)
signed-near width n some fits = omega (arith, signed-fits width n some fits, mag-near (signed width n))

-- it and the number have one residue
pub signed-residue : (width n : ℕ) → (j : ℕ) × (signed width n +ℤ pos (j * 2 ^ width) ≡ pos n)
signed-residue width n = ⊎_elim
    (λ low. (0, let same = signed-low width n low in omega (arith, ints)))
    (λ high. (1, let same = signed-high width n high in omega (arith, ints)))
    (cases_lt n (2 ^ (width - 1)))

-- half the modulus of a type, as the casts have it
half-is : (w : Width) → hbits w ≡ bits w - 1
half-is w8 = refl
half-is w16 = refl
half-is w32 = refl
half-is w64 = refl
half-is w128 = refl

-- a type has bits
pub some-bits : (w : Width) → 0 < bits w
some-bits w8 = omega arith
some-bits w16 = omega arith
some-bits w32 = omega arith
some-bits w64 = omega arith
some-bits w128 = omega arith

-- the code's cast of bits to a signed integer gives the same
pub signed-cast : (w : Width) (n : ℕ) → n < 2 ^ bits w → cast_signed w n ≡ signed (bits w) n
signed-cast w n fits = let half : 2 ^ hbits w ≡ 2 ^ (bits w - 1) = ap (λ x. 2 ^ x) (half-is w) in rw half (grind (arith, ints, nat_tests))

-- what is left of an integer is below the modulus
pub wrapped-below : (width : ℕ) (z : ℤ) → wrapped width z < 2 ^ width
wrapped-below width (pos n) = mod_below n (2 ^ width) (pow_pos width)
wrapped-below width (negsuc n) = omega (arith, pow_pos width)

-- the code's cast of an integer to bits
pub wrapped-cast : (w : Width) (z : ℤ) → unsigned_abs z < 2 ^ bits w → cast_unsigned w z ≡ wrapped (bits w) z
wrapped-cast w (pos n) fits = sym (mod-eq_of_lt fits)
wrapped-cast w (negsuc n) fits = let same : n % 2 ^ bits w ≡ n = mod-eq_of_lt (omega arith) in rw same (omega arith)

-- an integer of so many bits is the signed integer of what is left of it
pub signed-wrapped : (width : ℕ) (z : ℤ) → 0 < width → mag z < 2 ^ (width - 1) → signed width (wrapped width z) ≡ z
signed-wrapped width (pos n) some fits =
    let twice = modulus-twice width some in
    let same : n % 2 ^ width ≡ n = mod-eq_of_lt (omega arith) in
    rw same (signed-low width n fits)
signed-wrapped width (negsuc n) some fits =
    let twice = modulus-twice width some in
    let same : n % 2 ^ width ≡ n = mod-eq_of_lt (omega arith) in
    rw same (signed-high width (2 ^ width - 1 - n) (omega arith) ∙ omega (arith, ints))

-- a number of so many bits is what is left of its signed integer
pub wrapped-signed : (width n : ℕ) → n < 2 ^ width → wrapped width (signed width n) ≡ n
wrapped-signed width n fits = ⊎_elim
    (λ low. ap (wrapped width) (signed-low width n low) ∙ mod-eq_of_lt fits)
    (λ high. ap (wrapped width) (signed-negative width n high fits) ∙ ap (λ x. 2 ^ width - 1 - x) (mod-eq_of_lt (omega arith)) ∙ omega arith)
    (cases_lt n (2 ^ (width - 1)))
