-- The lines of a source, and the tokens of a line with their places. This project's own.
use Rattle.std.specs.Prelude.{ℕ, zero, suc, ◌+◌, ◌-◌, Bool, true, false, ◌==◌, if◌then◌else◌, Option, Some, None, option_map, List, [], ◌∷◌, take, drop}
use Rattle.asm_text.specs.declared.listing.Span.{Span}
use Rattle.asm_text.specs.declared.tokens.Lexeme.{Lexeme}
use Rattle.asm_text.specs.Bytes.{is_blank, is_text, are}
use Rattle.asm_text.specs.Tokens.{token_of, lexeme_length}

-- a line: its bytes, without the line feed, and the place of the first one in the text
pub record Line : Type 0 where
  pub place : ℕ
  pub bytes : List ℕ

-- a byte at a place, before the rest of its line
abbrev pub begun : ℕ → ℕ → List Line → List Line
begun place byte [] = record { place = place; bytes = byte ∷ [] } ∷ []
begun place byte (line ∷ lines) = record { place = place; bytes = byte ∷ line.bytes } ∷ lines

-- the lines of a text that stands at a place; a line feed ends one, and begins none where the text ends
abbrev pub lines_from : ℕ → List ℕ → List Line
lines_from place [] = []
lines_from place (byte ∷ text) = if byte == 10 then record { place = place; bytes = [] } ∷ lines_from (place + 1) text else begun place byte (lines_from (place + 1) text)

-- the bytes of a text at a span
abbrev pub slice_of : List ℕ → Span → List ℕ
slice_of text span = take (span.past - span.first) (drop span.first text)

-- the tokens of a line up to the first place where there is none, and whether that is the line's end
pub record Lexed : Type 0 where
  pub lexemes : List Lexeme
  pub whole : Bool

-- the token at a place, before the others
abbrev pub led_by : Option Lexeme → Lexed → Lexed
led_by None rest = record { lexemes = []; whole = false }
led_by (Some lexeme) rest = record { lexemes = lexeme ∷ rest.lexemes; whole = rest.whole }

-- the token of so many bytes, which stand at a place
abbrev pub lexeme_at : ℕ → ℕ → List ℕ → Option Lexeme
lexeme_at place count bytes = option_map (λ token. record { token = token; span = record { first = place; past = place + count } }) (token_of (take count bytes))

-- The tokens of the bytes from a place on, of which the first so many stand within a token. A blank parts tokens, `#` begins a comment, and
-- else the longest token counts.
unfoldable pub lexed : ℕ → ℕ → List ℕ → Lexed
lexed place within [] = record { lexemes = []; whole = true }
lexed place (suc within) (byte ∷ bytes) = lexed (place + 1) within bytes
lexed place zero (byte ∷ bytes) =
    if is_blank byte then lexed (place + 1) zero bytes
    else (if byte == 35 then record { lexemes = []; whole = are is_text bytes }
    else led_by (lexeme_at place (lexeme_length (byte ∷ bytes)) (byte ∷ bytes)) (lexed (place + 1) (lexeme_length (byte ∷ bytes) - 1) bytes))

-- the tokens of a line
abbrev pub lexed_line : Line → Lexed
lexed_line line = lexed line.place 0 line.bytes
