-- Integers with the same residue: what is left of them, and of their products, is the same.
use Rattle.std.proofs.Common.{◌≡◌, ◌∙◌, ℕ, ◌+◌, ◌-◌, ◌*◌, ◌%◌, ◌<◌, ◌≤◌, ℤ, pos, ◌+ℤ◌, ◌*ℤ◌, refl, sym, ap, arith}
use Rattle.std.specs.Int.{int_rem_euclid}
use Rattle.std.proofs.Math.IntN.{*ℤ_comm}
use borrow.Author.Differences.{up, down}
use Rattle.std.proofs.lemmas.Int.{ints, int_rem_euclid_is}
use Rattle.std.proofs.Math.Nat.{mul-le-mul_left}

module _ (m : ℕ) (some : 0 < m) where
  -- two integers that differ by a multiple of the modulus leave the same
  pub same-residue : (a b : ℤ) (j k : ℕ) → a +ℤ pos (j * m) ≡ b +ℤ pos (k * m) → int_rem_euclid a (pos m) ≡ int_rem_euclid b (pos m)
  same-residue a b j k e =
      let t = down a + down b in
      let far : t * 1 ≤ t * m = mul-le-mul_left t some in
      let n = up a + (j + t) * m - down a in
      int_rem_euclid_is a (pos m) m (j + t) n some refl (omega (arith, ints)) ∙ sym (int_rem_euclid_is b (pos m) m (k + t) n some refl (omega (arith, ints)))

  -- so do their products with another
  times : (a b c : ℤ) (j k : ℕ) → a +ℤ pos (j * m) ≡ b +ℤ pos (k * m) → int_rem_euclid (a *ℤ c) (pos m) ≡ int_rem_euclid (b *ℤ c) (pos m)
  times a b c j k e =
      let sum : up a + j * m + down b ≡ up b + k * m + down a = omega (arith, ints) in
      let above = ap (λ x. x * up c) sum in
      let below = ap (λ x. x * down c) sum in
      same-residue (a *ℤ c) (b *ℤ c) (j * up c + k * down c) (k * up c + j * down c) (omega (arith, ints))

  -- and the product of two integers leaves what the product of two numbers with the same residues leaves
  pub residue-product : (x y : ℤ) (a b j k : ℕ) → x +ℤ pos (j * m) ≡ pos a → y +ℤ pos (k * m) ≡ pos b → int_rem_euclid (x *ℤ y) (pos m) ≡ pos (a * b % m)
  residue-product x y a b j k first second =
      times x (pos a) y j 0 (omega (arith, ints)) ∙ ap (λ z. int_rem_euclid z (pos m)) (*ℤ_comm (pos a) y) ∙ times y (pos b) (pos a) k 0 (omega (arith, ints)) ∙ ap (λ z. int_rem_euclid z (pos m)) (*ℤ_comm (pos b) (pos a))
