-- The tokens of a line stand one behind another in the text.
use Rattle.std.proofs.Common.{◌≡◌, ◌∙◌, sym, ap, refl, ℕ, zero, suc, ◌+◌, ◌-◌, ◌<◌, ◌≤◌, eqb, List, [], ◌∷◌, ◌++◌, Option, Some, None, length, take, drop, inl, inr, arith}
use Rattle.std.specs.Prelude.{option_map}
use Rattle.std.proofs.lemmas.Bool.{cases_Bool}
use Rattle.std.proofs.lemmas.List.{drop-drop, take-append-le}
use Rattle.asm_text.specs.declared.tokens.Token.{Token}
use Rattle.asm_text.specs.declared.tokens.Lexeme.{Lexeme}
use Rattle.asm_text.specs.Bytes.{is_blank}
use Rattle.asm_text.specs.Tokens.{token_of, lexeme_length}
use Rattle.asm_text.specs.Lines.{slice_of, Lexed, led_by, lexed}
use Rattle.asm_text.proofs.Longest.{lexeme-longest}

-- a token is what its bytes in the text are
pub record IsLexeme (text : List ℕ) (lexeme : Lexeme) : Type 0 where
  pub some : lexeme.span.first < lexeme.span.past
  pub is : token_of (slice_of text lexeme.span) ≡ Some lexeme.token

-- tokens stand one behind another in a part of the text
abbrev pub AreLexemes : List ℕ → ℕ → List Lexeme → ℕ → Type 0
AreLexemes text from [] end = from ≤ end
AreLexemes text from (lexeme ∷ lexemes) end = (from ≤ lexeme.span.first) × IsLexeme text lexeme × AreLexemes text lexeme.span.past lexemes end

-- in a greater part too
pub lexemes-before : (text : List ℕ) (from later : ℕ) (lexemes : List Lexeme) (end : ℕ) → from ≤ later → AreLexemes text later lexemes end → AreLexemes text from lexemes end
lexemes-before text from later [] end before are = omega arith
lexemes-before text from later (lexeme ∷ lexemes) end before are = (omega (arith, are.0), are.1, are.2)

-- the part has its end behind its beginning
pub lexemes-within : (text : List ℕ) (from : ℕ) (lexemes : List Lexeme) (end : ℕ) → AreLexemes text from lexemes end → from ≤ end
lexemes-within text from [] end are = are
lexemes-within text from (lexeme ∷ lexemes) end are = omega (arith, are.0, are.1.some, lexemes-within text lexeme.span.past lexemes end are.2)

-- the bytes at a place
slice-is : (text : List ℕ) (place count : ℕ) (bytes more : List ℕ) → drop place text ≡ bytes ++ more → count ≤ length bytes → take (place + count - place) (drop place text) ≡ take count bytes
slice-is text place count bytes more stand within =
    let same : place + count - place ≡ count = omega arith in
    rw (same, stand) (take-append-le count bytes more within)

-- the token at a place before the others
led-places : (text : List ℕ) (place count : ℕ) (bytes more : List ℕ) (token : Option Token) (rest : Lexed) (end : ℕ) → drop place text ≡ bytes ++ more → count ≤ length bytes → place ≤ end
    → token_of (take count bytes) ≡ token → (0 < count → AreLexemes text (place + count) rest.lexemes end)
    → AreLexemes text place (led_by (option_map (λ t. record { token = t; span = record { first = place; past = place + count } }) token) rest).lexemes end
led-places text place count bytes more None rest end stand within ends is behind = ends
led-places text place zero bytes more (Some token) rest end stand within ends is behind = cc
led-places text place (suc count) bytes more (Some token) rest end stand within ends is behind =
    (omega arith, record { some = omega arith; is = ap token_of (slice-is text place (suc count) bytes more stand within) ∙ is }, behind (omega arith))

-- what stands behind the first byte
pub behind-byte : (text : List ℕ) (place byte : ℕ) (bytes : List ℕ) → drop place text ≡ byte ∷ bytes → drop (place + 1) text ≡ bytes
behind-byte text place byte bytes stand = sym (drop-drop 1 place text) ∙ ap (drop 1) stand

-- The tokens of a line's bytes stand in the part of the text that these are.
pub lexed-places : (text : List ℕ) (place within : ℕ) (bytes more : List ℕ) → drop place text ≡ bytes ++ more → within ≤ length bytes
    → AreLexemes text (place + within) (lexed place within bytes).lexemes (place + length bytes)
unfolding lexed
lexed-places text place within [] more stand low = omega arith
lexed-places text place (suc within) (byte ∷ bytes) more stand low =
    let from : place + suc within ≡ place + 1 + within = omega arith in
    let to : place + suc (length bytes) ≡ place + 1 + length bytes = omega arith in
    rw (from, to) (lexed-places text (place + 1) within bytes more (behind-byte text place byte (bytes ++ more) stand) (omega arith))
lexed-places text place zero (byte ∷ bytes) more stand low =
    let to : place + suc (length bytes) ≡ place + 1 + length bytes = omega arith in
    let next = behind-byte text place byte (bytes ++ more) stand in
    elim (cases_Bool (is_blank byte)) [
      | inl blank ↦
          let rest = lexed-places text (place + 1) zero bytes more next (omega arith) in
          rw (blank, to) (lexemes-before text (place + 0) (place + 1 + 0) (lexed (place + 1) zero bytes).lexemes (place + 1 + length bytes) (omega arith) rest)
      | inr other ↦ elim (cases_Bool (eqb byte 35)) [
        | inl comment ↦ rw (other, comment) (omega arith)
        | inr token ↦
            let count = lexeme_length (byte ∷ bytes) in
            let low = (lexeme-longest (byte ∷ bytes)).within in
            let rest = lexed-places text (place + 1) (count - 1) bytes more next (omega arith) in
            let start : place + 0 ≡ place = omega arith in
            let led = led-places text place count (byte ∷ bytes) more (token_of (take count (byte ∷ bytes))) (lexed (place + 1) (count - 1) bytes) (place + 1 + length bytes) stand low (omega arith) refl
            (λ some. let from : place + count ≡ place + 1 + (count - 1) = omega arith in rw from rest) in
            rw (other, token, to, start) led
      ]
    ]
