-- How pages stand that a call doesn't touch, fork or end. What remembers how pages stand lives on this law.
use Rattle.std.specs.Prelude.{ℕ, ◌≡◌, ◌≢◌, ◌⊎◌, true, Option, Some, None, List, All}
use Rattle.cap_format.specs.declared.cap.Cap.{Cap}
use Rattle.machine_types.specs.declared.config.Rule.TheVariants.{Full}
use Rattle.machine_types.specs.declared.touches.Access.{Access}
use Rattle.machine_types.specs.declared.touches.Note.{Note}
use Rattle.machine_types.specs.declared.touches.Touched.TheVariants.{No}
use Rattle.contents.specs.Content.{Content}
use Rattle.contents.specs.Accesses.{read_of, read_cap_of, fetch_of, write_of, write_cap_of}
use Rattle.contents.specs.Regions.{begin_of, end_of, add_page_of, seed_cap_of, fork_of}
use Rattle.contents.specs.Transfers.{prepare_of, write_bytes_of}
use Rattle.contents.specs.Looks.{Standing, standing_of}
use Rattle.contents.specs.Touching.{notes_of_load, notes_of_store, notes_of_transfer}
use Rattle.contents.specs.Whole.{IsWhole}

-- The page is there or not as before, with its rights and its home; and if it was alone, it is.
abbrev pub StandsStill : Option Standing → Option Standing → Type 0
StandsStill None None = Unit {0}
StandsStill None (Some after) = ⊥
StandsStill (Some before) None = ⊥
StandsStill (Some before) (Some after) = (after.rights ≡ before.rights) × (after.home ≡ before.home) × (before.alone ≡ true → after.alone ≡ true)

-- of the parent's pages rights and home alone stay
abbrev pub StandsWithOthers : Option Standing → Option Standing → Type 0
StandsWithOthers None None = Unit {0}
StandsWithOthers None (Some after) = ⊥
StandsWithOthers (Some before) None = ⊥
StandsWithOthers (Some before) (Some after) = (after.rights ≡ before.rights) × (after.home ≡ before.home)

-- the page stands still from one content to the other
abbrev pub IsStill : Content → Content → ℕ → ℕ → Type 0
IsStill c after r p = StandsStill (standing_of c r p) (standing_of after r p)

-- the note is none, or it is of another page
abbrev pub IsElsewhere : ℕ → ℕ → ℕ → Note → Type 0
IsElsewhere r p region note = (note.touched ≡ No) ⊎ ((r ≢ region) ⊎ (p ≢ note.page))

-- Each page stands still that a call doesn't touch, add, fork or end. A page that shared may be alone afterwards. The pages of
-- a parent keep rights and home, and under `full` they stand still too.
pub record StandingsStay : Type 0 where
  pub begin : (c : Content) (region r p : ℕ) → r ≢ region → IsStill c (begin_of c region) r p
  pub end : (c : Content) (region r p : ℕ) → r ≢ region → IsStill c (end_of c region) r p
  pub add_page : (c : Content) (region page rights : ℕ) (bytes : List ℕ) (r p : ℕ) → (r ≢ region) ⊎ (p ≢ page) → IsStill c (add_page_of c region page rights bytes).after r p
  pub seed_cap : (c : Content) (region at : ℕ) (cap : Cap) (r p : ℕ) → IsStill c (seed_cap_of c region at cap) r p
  pub read : (c : Content) (region at size r p : ℕ) → IsWhole c → All (IsElsewhere r p region) (notes_of_load (read_of c region at size).answer) → IsStill c (read_of c region at size).after r p
  pub read_cap : (c : Content) (region at r p : ℕ) → IsWhole c → All (IsElsewhere r p region) (notes_of_load (read_cap_of c region at).answer) → IsStill c (read_cap_of c region at).after r p
  pub fetch : (c : Content) (region at r p : ℕ) → IsWhole c → All (IsElsewhere r p region) (notes_of_load (fetch_of c region at).answer) → IsStill c (fetch_of c region at).after r p
  pub write : (c : Content) (region at size v r p : ℕ) → IsWhole c → All (IsElsewhere r p region) (notes_of_store (write_of c region at size v).answer) → IsStill c (write_of c region at size v).after r p
  pub write_cap : (c : Content) (region at : ℕ) (cap : Cap) (r p : ℕ) → IsWhole c → All (IsElsewhere r p region) (notes_of_store (write_cap_of c region at cap).answer) → IsStill c (write_cap_of c region at cap).after r p
  pub prepare : (c : Content) (region at n : ℕ) (access : Access) (r p : ℕ) → IsWhole c → All (IsElsewhere r p region) (notes_of_transfer (prepare_of c region at n access).answer) → IsStill c (prepare_of c region at n access).after r p
  pub write_bytes : (c : Content) (region at : ℕ) (bytes : List ℕ) (r p : ℕ) → IsStill c (write_bytes_of c region at bytes) r p
  pub fork : (c : Content) (from to r p : ℕ) → r ≢ to → r ≢ from → IsStill c (fork_of c from to).after r p
  pub parent : (c : Content) (from to p : ℕ) → from ≢ to → StandsWithOthers (standing_of c from p) (standing_of (fork_of c from to).after from p)
  pub parent_full : (c : Content) (from to p : ℕ) → from ≢ to → c.rule ≡ Full → IsStill c (fork_of c from to).after from p
