-- A root is held in its region.
use Rattle.std.proofs.Common.{◌≡◌, ◌∙◌, ℕ, ◌+◌, ◌*◌, ◌/◌, ◌^◌, ◌<◌, ap, arith}
use Rattle.std.specs.Prelude.{pos}
use Rattle.std.proofs.lemmas.Int.{ints}
use Rattle.cap_format.specs.Numbers.{region_bytes, most_regions}
use Rattle.cap_format.specs.Pattern.{address_of, meta_of, base_of, top_of}
use Rattle.cap_format.specs.Region.{region_start, IsInside}
use Rattle.cap_format.specs.SetBounds.{bounds_for}
use Rattle.cap_format.specs.Made.{root}
use Rattle.cap_format.proofs.Roots.{unbounded, capability-base, capability-top, root-base, root-top}
use Rattle.cap_format.proofs.NewBases.{bounds-short}
use Rattle.machine_types.specs.Held.{IsHeld}

-- its base is the region's start, and its top the region's end
root-inside : (region perms : ℕ) → region < most_regions → perms < 2 ^ 16 → IsInside (root region perms).bits region
root-inside region perms some fits =
    let base : base_of (root region perms).bits ≡ pos (region_start region) = capability-base (region_start region) region_bytes perms (omega arith) (omega arith) (omega arith) ∙ ap pos (root-base region) in
    let top : top_of (root region perms).bits ≡ pos (region_start region + region_bytes) = capability-top (region_start region) region_bytes perms (omega arith) (omega arith) (omega arith) ∙ ap pos (root-top region) in
    record { from = rw base (omega (arith, ints)); to = rw top (omega (arith, ints)) }

-- its bits are a pattern
root-pattern : (region perms : ℕ) → region < most_regions → perms < 2 ^ 16 → (root region perms).bits < 2 ^ 128
root-pattern region perms some fits = by (bounds_for (address_of (unbounded (region_start region) perms)) region_bytes) (bounds-short (address_of (unbounded (region_start region) perms)) region_bytes (omega arith))
  where
    by : (bounds : ℕ) → bounds < 2 ^ 27 → (meta_of (unbounded (region_start region) perms) / 2 ^ 27 * 2 ^ 27 + bounds) * 2 ^ 64 + address_of (unbounded (region_start region) perms) < 2 ^ 128
    by bounds short = omega arith

pub root-held : (region perms : ℕ) → region < most_regions → perms < 2 ^ 16 → IsHeld region (root region perms)
root-held region perms some fits = record {
  pattern = root-pattern region perms some fits;
  inside = λ tagged. root-inside region perms some fits;
}
