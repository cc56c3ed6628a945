-- A pool of frames.
use Rattle.std.specs.Prelude.{◌≡◌, ℕ, ◌<◌, ◌≤◌, Bool, true, false, List, length, slice_index_or, slice_set, count_by}

-- The size, and for each frame that was made whether it is used. Frames from the size on are not used.
pub record Pool : Type 0 where
  pub size : ℕ
  pub used : List Bool

-- the frame is used
abbrev pub is_used : Pool → ℕ → Bool
is_used pool frame = slice_index_or pool.used frame false

-- how many are used
abbrev pub used_count : Pool → ℕ
used_count pool = count_by (λ used. used) pool.used

abbrev pub with_used : Pool → ℕ → Bool → Pool
with_used pool frame used = record pool { used = slice_set pool.used frame used }

-- it isn't used, and each one below it is
pub record IsLeastFree (pool : Pool) (frame : ℕ) : Type 0 where
  pub below : frame < pool.size
  pub free : is_used pool frame ≡ false
  pub least : (k : ℕ) → k < frame → is_used pool k ≡ true

-- The size is at most the number of frames that were made, and no frame from the size on is used.
pub record IsPool (pool : Pool) : Type 0 where
  pub size_is : pool.size ≤ length pool.used
  pub past : (k : ℕ) → pool.size ≤ k → is_used pool k ≡ false
