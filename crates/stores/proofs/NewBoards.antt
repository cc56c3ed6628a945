-- A board that was just made.
use Rattle.std.proofs.Common.{◌≡◌, ℕ, zero, suc, Bool, false, cond, replicate, count_by, refl, arith}
use Rattle.std.proofs.lemmas.List.Folds.{sum_by-replicate}
use Rattle.frame_owners.specs.Homes.{owner, nobody}

-- none of so many is used
pub unused-count : (count : ℕ) → count_by (λ used. used) (replicate count false) ≡ 0
unused-count count = omega (arith, sum_by-replicate (λ (used : Bool). cond {A = ℕ} used 1 0) count false)

-- nobody has any of so many frames
pub nobody-shares : (count f : ℕ) → (owner (replicate count nobody) f).sharers ≡ 0
nobody-shares zero f = refl
nobody-shares (suc count) zero = refl
nobody-shares (suc count) (suc f) = nobody-shares count f
