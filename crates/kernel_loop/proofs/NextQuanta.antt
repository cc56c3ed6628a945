-- The next quantum of a schedule.
use Rattle.std.proofs.Common.{◌≡◌, ◌∙◌, sym, ap, refl, ℕ, suc, ◌+◌, ◌-◌, ◌<◌, Option, Some, List, ◌∷◌, ◌++◌, length, drop, get_or, replicate, arith}
use Rattle.std.proofs.Math.Seq.{drop-cons}
use Rattle.machine.specs.Applying.{head_of, tail_of}
use Rattle.machine_steps.specs.Runs.{quanta_of}
use Rattle.kernel_loop.specs.Quanta.{unused, quanta_from}

-- a pair that is not used up gives its quantum
given : (n used q : ℕ) (more : List ℕ) → used < n → replicate (n - used) q ++ more ≡ q ∷ (replicate (n - (used + 1)) q ++ more)
given n used q more less = let one : n - used ≡ suc (n - (used + 1)) = omega arith in rw one refl

here : (schedule : List (ℕ × ℕ)) (k used : ℕ) → k < length schedule → quanta_from schedule k used ≡ replicate ((get_or schedule k (0, 0)).1 - used) (get_or schedule k (0, 0)).0 ++ quanta_of (drop (suc k) schedule)
here schedule k used low = ap (λ (pairs : List (ℕ × ℕ)). unused pairs used) (drop-cons schedule k (0, 0) low)

-- all quanta that are left, where the pair is not used up
pub takes : (schedule : List (ℕ × ℕ)) (k used : ℕ) → k < length schedule → used < (get_or schedule k (0, 0)).1
    → quanta_from schedule k used ≡ (get_or schedule k (0, 0)).0 ∷ quanta_from schedule k (used + 1)
takes schedule k used low less =
    here schedule k used low ∙ given (get_or schedule k (0, 0)).1 used (get_or schedule k (0, 0)).0 (quanta_of (drop (suc k) schedule)) less
    ∙ ap (λ (x : List ℕ). (get_or schedule k (0, 0)).0 ∷ x) (sym (here schedule k (used + 1) low))

-- what is taken, and what is left then, of the quanta that there were
pub taken-head : (pairs schedule : List (ℕ × ℕ)) (k used : ℕ) (left : List ℕ) → pairs ≡ schedule → k < length pairs → used < (get_or pairs k (0, 0)).1 → quanta_from schedule k used ≡ left → ◌≡◌ {A = Option ℕ} (Some (get_or pairs k (0, 0)).0) (head_of left)
taken-head pairs schedule k used left same low less is = ap head_of (sym (takes pairs k used low less) ∙ ap (λ (x : List (ℕ × ℕ)). quanta_from x k used) same ∙ is)

pub taken-rest : (pairs schedule : List (ℕ × ℕ)) (k used : ℕ) (left : List ℕ) → pairs ≡ schedule → k < length pairs → used < (get_or pairs k (0, 0)).1 → quanta_from schedule k used ≡ left → quanta_from schedule k (used + 1) ≡ tail_of left
taken-rest pairs schedule k used left same low less is =
    ap (λ (x : List (ℕ × ℕ)). quanta_from x k (used + 1)) (sym same) ∙ ap tail_of (sym (takes pairs k used low less) ∙ ap (λ (x : List (ℕ × ℕ)). quanta_from x k used) same ∙ is)
