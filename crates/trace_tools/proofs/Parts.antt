-- Tokens that stand in a row, with blanks between them, are the tokens that a line is found to have.
use Rattle.std.proofs.Common.{◌≡◌, ◌∙◌, ap, ap₂, refl, ℕ, ◌+◌, ◌<◌, Bool, true, false, not, List, [], ◌∷◌, ◌++◌, length, get_or, drop, Some, option_map, arith}
use Rattle.std.specs.Prelude.{◌==◌}
use Rattle.std.proofs.lemmas.Bool.{and_parts, and_from}
use Rattle.std.proofs.Math.Seq.{take-append_seam, drop-append_seam}
use Rattle.asm_text.specs.declared.tokens.Token.{Token}
use Rattle.asm_text.specs.declared.tokens.Lexeme.{Lexeme}
use Rattle.asm_text.specs.Bytes.{is_blank, are}
use Rattle.asm_text.specs.Tokens.{token_of, lexeme_length}
use Rattle.asm_text.specs.Lines.{lexed, led_by, lexeme_at}
use Rattle.asm_text.proofs.LexedLines.{lexed-longest}

-- a blank, or the bytes of a token
pub data Piece : Type 0 where
  Blank : Piece
  Part : List ℕ → Token → Piece

-- the bytes of a row
abbrev pub text-of : List Piece → List ℕ
text-of [] = []
text-of (Blank ∷ pieces) = 32 ∷ text-of pieces
text-of (Part bytes token ∷ pieces) = bytes ++ text-of pieces

-- a token at a place
abbrev pub lexeme-from : ℕ → List ℕ → Token → Lexeme
lexeme-from place bytes token = record { token = token; span = record { first = place; past = place + length bytes } }

-- the tokens of a row, from a place on
abbrev pub lexemes-from : ℕ → List Piece → List Lexeme
lexemes-from place [] = []
lexemes-from place (Blank ∷ pieces) = lexemes-from (place + 1) pieces
lexemes-from place (Part bytes token ∷ pieces) = lexeme-from place bytes token ∷ lexemes-from (place + length bytes) pieces

-- bytes have no line feed
abbrev pub no-feed : List ℕ → Bool
no-feed bytes = are (λ byte. not (byte == 10)) bytes

-- some bytes are the longest token before others
pub record IsPart (bytes : List ℕ) (token : Token) (rest : List ℕ) : Type 0 where
  pub some : 0 < length bytes
  pub not-blank : is_blank (get_or bytes 0 0) ≡ false
  pub no-comment : get_or bytes 0 0 ≡ 35 → ⊥
  pub length-is : lexeme_length (bytes ++ rest) ≡ length bytes
  pub token-is : token_of bytes ≡ Some token
  pub unbroken : no-feed bytes ≡ true

-- and so is each part of a row
abbrev pub AreParts : List Piece → Type 0
AreParts [] = Unit {0}
AreParts (Blank ∷ pieces) = AreParts pieces
AreParts (Part bytes token ∷ pieces) = IsPart bytes token (text-of pieces) × AreParts pieces

-- one part further
lexed-part : (place : ℕ) (bytes : List ℕ) (token : Token) (rest : List ℕ) → IsPart bytes token rest
    → lexed place 0 (bytes ++ rest) ≡ led_by (Some (lexeme-from place bytes token)) (lexed (place + length bytes) 0 rest)
lexed-part place [] token rest part = absurd (let some : 0 < 0 = part.some in omega arith)
lexed-part place (byte ∷ bytes) token rest part =
    let all = byte ∷ (bytes ++ rest) in
    let count = length (byte ∷ bytes) in
    let here : lexeme_at place count all ≡ Some (lexeme-from place (byte ∷ bytes) token) =
    ap (λ front. option_map (λ (t : Token). lexeme-from place (byte ∷ bytes) t) (token_of front)) (take-append_seam (byte ∷ bytes) rest)
    ∙ ap (option_map (λ (t : Token). lexeme-from place (byte ∷ bytes) t)) part.token-is in
    lexed-longest place all (omega arith) part.not-blank part.no-comment
    ∙ ap (λ n. led_by (lexeme_at place n all) (lexed (place + n) 0 (drop n all))) part.length-is
    ∙ ap₂ (λ t left. led_by t (lexed (place + count) 0 left)) here (drop-append_seam (byte ∷ bytes) rest)

-- the tokens of a row are those
pub lexed-parts : (place : ℕ) (pieces : List Piece) → AreParts pieces → lexed place 0 (text-of pieces) ≡ record { lexemes = lexemes-from place pieces; whole = true }
unfolding lexed
lexed-parts place [] parts = refl
lexed-parts place (Blank ∷ pieces) parts = lexed-parts (place + 1) pieces parts
lexed-parts place (Part bytes token ∷ pieces) parts =
    lexed-part place bytes token (text-of pieces) parts.0 ∙ ap (led_by (Some (lexeme-from place bytes token))) (lexed-parts (place + length bytes) pieces parts.1)

-- bytes of a class before others of it are all of it
pub are-both : (class : ℕ → Bool) (bytes rest : List ℕ) → are class bytes ≡ true → are class rest ≡ true → are class (bytes ++ rest) ≡ true
are-both class [] rest first second = second
are-both class (byte ∷ bytes) rest first second =
    let parts = and_parts (class byte) (are class bytes) first in
    and_from _ _ parts.0 (are-both class bytes rest parts.1 second)

-- a row has no line feed
pub parts-unbroken : (pieces : List Piece) → AreParts pieces → no-feed (text-of pieces) ≡ true
parts-unbroken [] parts = refl
parts-unbroken (Blank ∷ pieces) parts = parts-unbroken pieces parts
parts-unbroken (Part bytes token ∷ pieces) parts = are-both (λ byte. not (byte == 10)) bytes (text-of pieces) parts.0.unbroken (parts-unbroken pieces parts.1)
