-- Capabilities, and the granules of a page, that move from one region to another.
use Rattle.std.proofs.Common.{◌≡◌, ◌∙◌, ℕ, zero, suc, ◌<◌, Bool, true, false, List, [], ◌∷◌, length, refl, ap}
use Rattle.std.proofs.lemmas.List.{length-map}
use Rattle.std.proofs.lemmas.List.Elements.{All-head, All-tail, All-map, All-weaker}
use Rattle.cap_format.specs.Numbers.{most_regions}
use Rattle.cap_format.specs.declared.cap.Cap.{Cap}
use Rattle.cap_format.specs.Moves.{moved}
use Rattle.cap_format.proofs.RegionMoves.{region-size, inside-region, inside-moved, same-bits, twice-bits}
use Rattle.machine_types.specs.Granules.{granule, is_tagged}
use Rattle.machine_types.specs.Held.{IsHeld, AreHeld}
use Rattle.machine_types.specs.Stores.{moved_granules}

-- a capability without a tag moves to itself
pub moved-untagged : (cap : Cap) (from to : ℕ) → cap.tag ≡ false → moved cap from to ≡ cap
moved-untagged cap from to untagged = rw untagged refl

-- a move keeps the tag
pub tag-moved : (cap : Cap) (from to : ℕ) → (moved cap from to).tag ≡ cap.tag
tag-moved cap from to = by cap.bits cap.tag
  where
    by : (bits : ℕ) (tag : Bool) → (moved (record { bits = bits; tag = tag }) from to).tag ≡ tag
    by bits true = refl
    by bits false = refl

-- a capability that its region may hold goes to one that the other region may hold
pub IsHeld-moved : (from to : ℕ) (cap : Cap) → from < most_regions → to < most_regions → IsHeld from cap → IsHeld to (moved cap from to)
IsHeld-moved from to cap small other held = by cap.bits cap.tag held
  where
    by : (bits : ℕ) (tag : Bool) → IsHeld from (record { bits = bits; tag = tag }) → IsHeld to (moved (record { bits = bits; tag = tag }) from to)
    by bits true held =
        let goes = inside-moved bits from to held.pattern small other (held.inside refl) in
        record { pattern = goes.0.pattern; inside = λ _. goes.1 }
    by bits false held = record { pattern = held.pattern; inside = λ tagged. cc }

-- a move to the same region is none
pub moved-itself : (region : ℕ) (cap : Cap) → region < most_regions → IsHeld region cap → moved cap region region ≡ cap
moved-itself region cap small held = by cap.bits cap.tag held
  where
    by : (bits : ℕ) (tag : Bool) → IsHeld region (record { bits = bits; tag = tag }) → moved (record { bits = bits; tag = tag }) region region ≡ record { bits = bits; tag = tag }
    by bits true held = ap (λ (x : ℕ). record { bits = x; tag = true }) (same-bits 20 bits region region-size held.pattern (inside-region bits region small (held.inside refl)))
    by bits false held = refl

-- two moves are one
pub moved-twice : (from over to : ℕ) (cap : Cap) → from < most_regions → over < most_regions → to < most_regions → IsHeld from cap → moved (moved cap from over) over to ≡ moved cap from to
moved-twice from over to cap small between other held = by cap.bits cap.tag held
  where
    by : (bits : ℕ) (tag : Bool) → IsHeld from (record { bits = bits; tag = tag })
        → moved (moved (record { bits = bits; tag = tag }) from over) over to ≡ moved (record { bits = bits; tag = tag }) from to
    by bits true held = ap (λ (x : ℕ). record { bits = x; tag = true }) (twice-bits 20 bits from over to region-size held.pattern between other (inside-region bits from small (held.inside refl)))
    by bits false held = refl

-- each granule moves, and null past the last is null
pub granule-moved_granules : (from to : ℕ) (granules : List Cap) (g : ℕ) → granule (moved_granules from to granules) g ≡ moved (granule granules g) from to
granule-moved_granules from to [] g = refl
granule-moved_granules from to (cap ∷ granules) zero = refl
granule-moved_granules from to (cap ∷ granules) (suc g) = granule-moved_granules from to granules g

-- as many granules as before
pub length-moved_granules : (from to : ℕ) (granules : List Cap) → length (moved_granules from to granules) ≡ length granules
length-moved_granules from to granules = length-map granules (λ cap. moved cap from to)

-- granules without a tag stay
pub granule-moved_granules_untagged : (from to : ℕ) (granules : List Cap) (g : ℕ) → is_tagged granules g ≡ false → granule (moved_granules from to granules) g ≡ granule granules g
granule-moved_granules_untagged from to granules g untagged = granule-moved_granules from to granules g ∙ moved-untagged (granule granules g) from to untagged

-- tags stay
pub is_tagged-moved_granules : (from to : ℕ) (granules : List Cap) (g : ℕ) → is_tagged (moved_granules from to granules) g ≡ is_tagged granules g
is_tagged-moved_granules from to granules g = ap (λ (cap : Cap). cap.tag) (granule-moved_granules from to granules g) ∙ tag-moved (granule granules g) from to

-- what the region may hold goes to what the other may hold
pub AreHeld-moved_granules : (from to : ℕ) (granules : List Cap) → from < most_regions → to < most_regions → AreHeld from granules → AreHeld to (moved_granules from to granules)
AreHeld-moved_granules from to granules small other held =
    All-map (IsHeld to) (λ cap. moved cap from to) granules
    (All-weaker (IsHeld from) (λ (cap : Cap). IsHeld to (moved cap from to)) (λ cap. IsHeld-moved from to cap small other) granules held)

-- a move of granules to the same region is none
pub moved_granules-itself : (region : ℕ) (granules : List Cap) → region < most_regions → AreHeld region granules → moved_granules region region granules ≡ granules
moved_granules-itself region [] small held = refl
moved_granules-itself region (cap ∷ granules) small held =
    rw (moved-itself region cap small (All-head (IsHeld region) cap granules held), moved_granules-itself region granules small (All-tail (IsHeld region) cap granules held)) refl

-- two moves of granules are one
pub moved_granules-twice : (from over to : ℕ) (granules : List Cap) → from < most_regions → over < most_regions → to < most_regions → AreHeld from granules
    → moved_granules over to (moved_granules from over granules) ≡ moved_granules from to granules
moved_granules-twice from over to [] small between other held = refl
moved_granules-twice from over to (cap ∷ granules) small between other held =
    rw (moved-twice from over to cap small between other (All-head (IsHeld from) cap granules held), moved_granules-twice from over to granules small between other (All-tail (IsHeld from) cap granules held)) refl
