-- Marks that are written slot by slot.
use Rattle.std.proofs.Common.{◌≡◌, ◌∙◌, sym, ap, ℕ, ◌+◌, ◌<◌, ◌⊎◌, inl, inr, Bool, false, List, length, get_or, slice_set, arith}
use Rattle.std.proofs.lemmas.Bool.{cases_order}
use Rattle.std.proofs.lemmas.List.{get_or-set_same, get_or-set_other}
use Rattle.machine.specs.Machines.{Machine}
use Rattle.machine.specs.Readiness.{is_ready}
use Rattle.trap_syscalls.specs.declared.world.World.{World}
use Rattle.kernel_loop.specs.Marks.{HasParts, IsRemarked}

-- a world whose marks were written, and then written again
pub remarked-twice : (a b c : World) → IsRemarked a b → IsRemarked b c → IsRemarked a c
remarked-twice a b c first then = then ∙ ap (λ (w : World). record w { processes = record w.processes { marks = c.processes.marks } }) first

-- it has the parts that it had
pub remarked-parts : (m : Machine) (a b : World) → IsRemarked a b → HasParts m a → HasParts m b
remarked-parts m a b same parts = record {
  processes = parts.processes ∙ sym (ap (λ (w : World). w.processes.processes) same);
  tables = parts.tables ∙ sym (ap (λ (w : World). w.files.tables) same);
  pipes = parts.pipes ∙ sym (ap (λ (w : World). w.files.pipes) same);
}

-- the slots below one are marked
abbrev pub MarkedBelow : Machine → List Bool → ℕ → Type 0
MarkedBelow m marks n = (k : ℕ) → k < n → get_or marks k false ≡ is_ready m k

-- one more is
pub marked-more : (m : Machine) (old new : List Bool) (n : ℕ) → n < length old → new ≡ slice_set old n (is_ready m n) → MarkedBelow m old n → MarkedBelow m new (n + 1)
marked-more m old new n low is below k less = ap (λ (marks : List Bool). get_or marks k false) is ∙ by (cases_order k n)
  where
    by : (k ≡ n) ⊎ ((k < n) ⊎ (n < k)) → get_or (slice_set old n (is_ready m n)) k false ≡ is_ready m k
    by (inl same) = rw same (get_or-set_same old n (is_ready m n) false low)
    by (inr (inl lower)) = get_or-set_other old n k (is_ready m n) false (λ e. absurd (omega arith)) ∙ below k lower
    by (inr (inr higher)) = absurd (omega arith)
