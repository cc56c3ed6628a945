-- The front of a list.
use Rattle.std.proofs.Common.{◌≡◌, ℕ, ◌<◌, Bool, List, length, take, set, ap, arith, subst}
use Rattle.std.proofs.Math.Seq.{take-set-lt}
use Rattle.std.proofs.lemmas.List.{length-take}

-- a set within the front of a list is a set in the front
pub take-set-front : (n : ℕ) (xs front : List Bool) (i : ℕ) (b : Bool) → take n xs ≡ front → i < length front → take n (set xs i b) ≡ set front i b
take-set-front n xs front i b is within =
    let short : i < n = omega (arith, length-take n xs, ap length is) in
    subst (λ (ys : List Bool). take n (set xs i b) ≡ set ys i b) is (take-set-lt n xs i b short)
