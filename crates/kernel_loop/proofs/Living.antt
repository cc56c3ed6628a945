-- Whether some process is live, slot by slot.
use Rattle.std.proofs.Common.{◌≡◌, ◌∙◌, ap, refl, ℕ, zero, suc, ◌<◌, ◌||◌, Bool, true, false, Option, List, [], ◌∷◌, length, arith}
use Rattle.std.specs.List.{list_any}
use Rattle.machine.specs.declared.process.Process.{Process}
use Rattle.machine.specs.Processes.{process_at, lives}

-- one is live, so some are
or-true : (b : Bool) → (b || true) ≡ true
or-true true = refl
or-true false = refl

pub some-live : (os : List (Option Process)) (slot : ℕ) → lives (process_at os slot) ≡ true → list_any lives os ≡ true
some-live [] slot live = absurd (cc)
some-live (o ∷ os) zero live = ap (λ (b : Bool). b || list_any lives os) live
some-live (o ∷ os) (suc slot) live = ap (λ (b : Bool). lives o || b) (some-live os slot live) ∙ or-true (lives o)

-- none is live of those of each slot, so none is
pub none-live : (os : List (Option Process)) → ((slot : ℕ) → slot < length os → lives (process_at os slot) ≡ false) → list_any lives os ≡ false
none-live [] dead = refl
none-live (o ∷ os) dead =
    ap (λ (b : Bool). b || list_any lives os) (dead 0 (omega arith)) ∙ none-live os (λ slot low. dead (suc slot) (omega (arith, low)))
