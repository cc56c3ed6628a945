-- Laws of reads: what a read answers is what `peek` shows.
use Rattle.std.specs.Prelude.{ℕ, Bool, ◌≡◌, ◌<◌, ◌+◌, ◌*◌, ◌/◌, ◌%◌, ◌^◌, Option, Some, Ok, length, slice_index_or}
use Rattle.std.specs.Option.{option_map}
use Rattle.cap_format.specs.Numbers.{granule_bytes}
use Rattle.cap_format.specs.declared.cap.Cap.{Cap}
use Rattle.machine_types.specs.declared.touches.Note.{Note}
use Rattle.contents.specs.Content.{Content}
use Rattle.contents.specs.Accesses.{page_of_place, granule_of_place, read_of, read_cap_of, fetch_of}
use Rattle.contents.specs.Transfers.{read_bytes_of}
use Rattle.contents.specs.Looks.{peek_of}

-- what `peek` shows of the granule at a place
abbrev pub seen : Content → ℕ → ℕ → Option Cap
seen c region at = peek_of c region (page_of_place at) (granule_of_place at)

-- the tag that `peek` shows at a place
abbrev pub tag_seen : Content → ℕ → ℕ → Option Bool
tag_seen c region at = option_map (λ cap. cap.tag) (seen c region at)

-- so many bytes of a granule as a number, from this byte on, the lowest first
abbrev pub bytes_of : ℕ → ℕ → Cap → ℕ
bytes_of byte size cap = cap.bits / 2 ^ (8 * byte) % 2 ^ (8 * size)

-- the bytes at a place, as `peek` shows their granule
abbrev pub number_seen : Content → ℕ → ℕ → ℕ → Option ℕ
number_seen c region at size = option_map (bytes_of (at % granule_bytes) size) (seen c region at)

-- A read answers the bytes of the granule that `peek` shows, and a fetch four of them; one of a capability answers that
-- granule. Byte k of many is the byte that a read of one byte answers k places on, and what `peek` shows there.
pub record ReadsAreSeen : Type 0 where
  pub read : (c : Content) (region at size : ℕ) (answer : ℕ × Note) → (read_of c region at size).answer ≡ Ok answer → number_seen c region at size ≡ Some answer.0
  pub fetch : (c : Content) (region at : ℕ) (answer : ℕ × Note) → (fetch_of c region at).answer ≡ Ok answer → number_seen c region at 4 ≡ Some answer.0
  pub read_cap : (c : Content) (region at : ℕ) (answer : Cap × Note) → (read_cap_of c region at).answer ≡ Ok answer → seen c region at ≡ Some answer.0
  pub count : (c : Content) (region at n : ℕ) → length (read_bytes_of c region at n) ≡ n
  pub each : (c : Content) (region at n k : ℕ) (cap : Cap) → k < n → seen c region (at + k) ≡ Some cap → slice_index_or (read_bytes_of c region at n) k 0 ≡ bytes_of ((at + k) % granule_bytes) 1 cap
  pub one : (c : Content) (region at n k : ℕ) (answer : ℕ × Note) → k < n → (read_of c region (at + k) 1).answer ≡ Ok answer → slice_index_or (read_bytes_of c region at n) k 0 ≡ answer.0
