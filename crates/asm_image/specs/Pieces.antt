-- What a file is made of, piece by piece. Numbers stand with the lowest byte first (ELF64, System V ABI).
use Rattle.std.specs.Prelude.{ℕ, List, [], ◌∷◌, ◌++◌}
use Rattle.std.specs.Int.{w16, w32, w64, to_le_bytes}

-- numbers of 2, 4 and 8 bytes, and bytes
pub data Piece : Type 0 where
  Half : ℕ → Piece
  Word : ℕ → Piece
  Quad : ℕ → Piece
  Bytes : List ℕ → Piece

unfoldable pub piece_bytes : Piece → List ℕ
piece_bytes (Half n) = to_le_bytes w16 n
piece_bytes (Word n) = to_le_bytes w32 n
piece_bytes (Quad n) = to_le_bytes w64 n
piece_bytes (Bytes bytes) = bytes

-- the bytes of pieces, one after another
abbrev pub bytes_of : List Piece → List ℕ
bytes_of [] = []
bytes_of (piece ∷ pieces) = piece_bytes piece ++ bytes_of pieces
