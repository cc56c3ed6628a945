-- Numbers that are read from the front of bytes, the lowest byte first.
use Rattle.std.proofs.Common.{◌≡◌, ℕ, ◌-◌, List, length, take, drop, arith}
use Rattle.std.specs.Int.{w16, w32, w64, from_le_bytes}
use Rattle.std.proofs.lemmas.List.{get_or-take, length-drop, take_all}
use Rattle.byteorder.specs.Endian.{little_number}

-- what stands from a place on
pub from-place : (place : ℕ) (bytes : List ℕ) → take (length bytes - place) (drop place bytes) ≡ drop place bytes
from-place place bytes = take_all (length bytes - place) (drop place bytes) (simp length-drop (omega arith))

pub little-16 : (xs : List ℕ) → little_number 2 xs ≡ from_le_bytes w16 (take 2 xs)
little-16 xs = omega (arith, get_or-take 2 xs 0 0 (omega arith), get_or-take 2 xs 1 0 (omega arith))

pub little-32 : (xs : List ℕ) → little_number 4 xs ≡ from_le_bytes w32 (take 4 xs)
little-32 xs = omega (arith, get_or-take 4 xs 0 0 (omega arith), get_or-take 4 xs 1 0 (omega arith), get_or-take 4 xs 2 0 (omega arith), get_or-take 4 xs 3 0 (omega arith))

pub little-64 : (xs : List ℕ) → little_number 8 xs ≡ from_le_bytes w64 (take 8 xs)
little-64 xs = omega (
  arith,
  get_or-take 8 xs 0 0 (omega arith),
  get_or-take 8 xs 1 0 (omega arith),
  get_or-take 8 xs 2 0 (omega arith),
  get_or-take 8 xs 3 0 (omega arith),
  get_or-take 8 xs 4 0 (omega arith),
  get_or-take 8 xs 5 0 (omega arith),
  get_or-take 8 xs 6 0 (omega arith),
  get_or-take 8 xs 7 0 (omega arith),
)
