-- What a file of pieces has from a place on.
use Rattle.std.proofs.Common.{◌≡◌, ◌∙◌, ℕ, ◌+◌, ◌^◌, ◌<◌, List, [], ◌∷◌, ◌++◌, length, take, drop, refl, ap, sym, arith, length-append}
use Rattle.std.specs.Int.{w16, w32, w64, from_le_bytes}
use Rattle.std.proofs.lemmas.Nat.{from_le_bytes-to_le_bytes_2, from_le_bytes-to_le_bytes_4, from_le_bytes-to_le_bytes_8}
use Rattle.std.proofs.lemmas.List.{drop-drop}
use Rattle.std.proofs.Math.Seq.{take-append_seam, drop-append_seam}
use Rattle.cap_format.specs.FileNumbers.{u16_at, u32_at, u64_at}
use Rattle.asm_image.specs.Pieces.{Piece, Half, Word, Quad, Bytes, piece_bytes, bytes_of}

-- how many bytes a piece has
abbrev pub size : Piece → ℕ
size (Half n) = 2
size (Word n) = 4
size (Quad n) = 8
size (Bytes bytes) = length bytes

length-piece : (piece : Piece) → length (piece_bytes piece) ≡ size piece
unfolding piece_bytes
length-piece (Half n) = refl
length-piece (Word n) = refl
length-piece (Quad n) = refl
length-piece (Bytes bytes) = refl

-- and how many bytes pieces have
abbrev pub size_all : List Piece → ℕ
size_all [] = 0
size_all (piece ∷ pieces) = size piece + size_all pieces

-- pieces behind others add their bytes
pub size-append : (before after : List Piece) → size_all (before ++ after) ≡ size_all before + size_all after
size-append [] after = omega arith
size-append (piece ∷ before) after = omega (arith, size-append before after)

-- the bytes of pieces are so many
pub length-pieces : (pieces : List Piece) → length (bytes_of pieces) ≡ size_all pieces
length-pieces [] = refl
length-pieces (piece ∷ pieces) = omega (arith, length-append (piece_bytes piece) (bytes_of pieces), length-piece piece, length-pieces pieces)

-- from a place on the file is these pieces
pub record From (file : List ℕ) (place : ℕ) (pieces : List Piece) : Type 0 where
  pub is : drop place file ≡ bytes_of pieces

-- the number of 2 bytes that stands at a place
pub read16 : {file : List ℕ} {rest : List Piece} {place n : ℕ} → From file place (Half n ∷ rest) → n < 2 ^ 16 → u16_at file place ≡ n
unfolding u16_at piece_bytes
read16 {file} {rest} {place} {n} stands fits = ap (λ bytes. from_le_bytes w16 (take 2 bytes)) stands.is ∙ from_le_bytes-to_le_bytes_2 n fits

-- of 4 bytes
pub read32 : {file : List ℕ} {rest : List Piece} {place n : ℕ} → From file place (Word n ∷ rest) → n < 2 ^ 32 → u32_at file place ≡ n
unfolding u32_at piece_bytes
read32 {file} {rest} {place} {n} stands fits = ap (λ bytes. from_le_bytes w32 (take 4 bytes)) stands.is ∙ from_le_bytes-to_le_bytes_4 n fits

-- of 8 bytes
pub read64 : {file : List ℕ} {rest : List Piece} {place n : ℕ} → From file place (Quad n ∷ rest) → n < 2 ^ 64 → u64_at file place ≡ n
unfolding u64_at piece_bytes
read64 {file} {rest} {place} {n} stands fits = ap (λ bytes. from_le_bytes w64 (take 8 bytes)) stands.is ∙ from_le_bytes-to_le_bytes_8 n fits

-- and bytes that stand there
pub read-bytes : {file bytes : List ℕ} {rest : List Piece} {place : ℕ} → From file place (Bytes bytes ∷ rest) → take (length bytes) (drop place file) ≡ bytes
unfolding piece_bytes
read-bytes {file} {bytes} {rest} {place} stands = ap (take (length bytes)) stands.is ∙ take-append_seam bytes (bytes_of rest)

-- what stands behind a piece
pub past : {file : List ℕ} {piece : Piece} {rest : List Piece} {place : ℕ} → From file place (piece ∷ rest) → (next : ℕ) → place + size piece ≡ next → From file next rest
past {file} {piece} {rest} {place} stands next so_far = record {
  is = ap (λ k. drop k file) (sym so_far) ∙ ap (λ k. drop (place + k) file) (sym (length-piece piece)) ∙ sym (drop-drop (length (piece_bytes piece)) place file)
      ∙ ap (drop (length (piece_bytes piece))) stands.is ∙ drop-append_seam (piece_bytes piece) (bytes_of rest);
}

-- and behind some pieces
pub past-all : {file : List ℕ} {place : ℕ} (pieces rest : List Piece) → From file place (pieces ++ rest) → (next : ℕ) → place + size_all pieces ≡ next → From file next rest
past-all {file} {place} [] rest stands next so_far = record { is = ap (λ k. drop k file) (omega arith) ∙ stands.is }
past-all {file} {place} (piece ∷ pieces) rest stands next so_far =
    past-all {place = place + size piece} pieces rest (past stands (place + size piece) refl) next (omega arith)
