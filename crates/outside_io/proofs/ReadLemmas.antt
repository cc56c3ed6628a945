-- A read that takes the front of what is left.
use Rattle.std.proofs.Common.{◌≡◌, ℕ, ◌+◌, List, ◌++◌, length, take, drop, sym, ap, ◌∙◌, subst, take-append-drop}
use Rattle.std.proofs.Math.Seq.{take-append_seam, drop-drop}

-- the front of a buffer is what was put there
front_taken : (front tail : List ℕ) (n : ℕ) → length front ≡ n → take n (front ++ tail) ≡ front
front_taken front tail n e = subst (λ k. take k (front ++ tail) ≡ front) e (take-append_seam front tail)

-- what was left is the front of the buffer, and then what is left
pub left_split : (xs front tail : List ℕ) (at n : ℕ) → length front ≡ n → front ≡ take n (drop at xs) → drop at xs ≡ take n (front ++ tail) ++ drop (at + n) xs
left_split xs front tail at n e is = rw (front_taken front tail n e) (rw is (sym (ap (λ l. take n (drop at xs) ++ l) (sym (drop-drop n at xs)) ∙ take-append-drop n (drop at xs))))
