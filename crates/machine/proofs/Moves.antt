-- Moves of pages between regions.
use Rattle.std.proofs.Common.{◌≡◌, ap, refl, ℕ, ◌<◌, Option, Some, None, List}
use Rattle.std.specs.Option.{option_map}
use Rattle.cap_format.specs.Numbers.{most_regions}
use Rattle.cap_format.specs.declared.cap.Cap.{Cap}
use Rattle.machine_types.specs.Held.{AreHeld}
use Rattle.machine_types.specs.MemoryLaws.{PagesAreMoved}
use Rattle.machine_types.specs.Stores.{Page, moved_page}

-- a page of a region, where it is there, holds what the region may hold
abbrev pub HoldsIn : ℕ → Option Page → Type 0
HoldsIn region o = (p : Page) → o ≡ Some p → AreHeld region p.granules

-- two moves of a page are one
pub twice-page : PagesAreMoved → (r s t : ℕ) → r < most_regions → s < most_regions → t < most_regions → (o : Option Page) → HoldsIn r o
    → option_map (moved_page s t) (option_map (moved_page r s) o) ≡ option_map (moved_page r t) o
twice-page moves r s t a b d None h = refl
twice-page moves r s t a b d (Some p) h = ap (λ (granules : List Cap). Some (record { rights = p.rights; granules = granules })) (moves.twice r s t p.granules a b d (h p refl))

-- a move to the same region changes nothing
pub same-page : PagesAreMoved → (r : ℕ) → r < most_regions → (o : Option Page) → HoldsIn r o → option_map (moved_page r r) o ≡ o
same-page moves r a None h = refl
same-page moves r a (Some p) h = ap (λ (granules : List Cap). Some (record { rights = p.rights; granules = granules })) (moves.itself r p.granules a (h p refl))

-- a moved page holds what the other region may hold
pub held-page : PagesAreMoved → (r s : ℕ) → r < most_regions → s < most_regions → (o : Option Page) → HoldsIn r o → HoldsIn s (option_map (moved_page r s) o)
held-page moves r s a b None h q e = absurd (cc)
held-page moves r s a b (Some p) h q e =
    let same : moved_page r s p ≡ q = cc in
    rw (← same) (moves.held r s p.granules a b (h p refl))
