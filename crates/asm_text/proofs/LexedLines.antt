-- The tokens of a line from a place on, one blank or one token further.
use Rattle.std.proofs.Common.{◌≡◌, ◌∙◌, ap, refl, ℕ, zero, suc, ◌+◌, ◌-◌, ◌<◌, true, false, eqb, List, [], ◌∷◌, length, get_or, drop, inl, inr, arith}
use Rattle.std.proofs.lemmas.Bool.{cases_Bool, ne_eqb}
use Rattle.asm_text.specs.Bytes.{is_blank, is_text, are}
use Rattle.asm_text.specs.Tokens.{lexeme_length}
use Rattle.asm_text.specs.Scanning.{run_length}
use Rattle.asm_text.specs.Lines.{lexed, led_by, lexeme_at}

-- the bytes within a token are passed over
lexed-within : (place within : ℕ) (bytes : List ℕ) → lexed place within bytes ≡ lexed (place + within) 0 (drop within bytes)
unfolding lexed
lexed-within place zero [] = refl
lexed-within place (suc within) [] = refl
lexed-within place zero (byte ∷ bytes) = let same : place + 0 ≡ place = omega arith in rw same refl
lexed-within place (suc within) (byte ∷ bytes) =
    let same : place + 1 + within ≡ place + suc within = omega arith in
    lexed-within (place + 1) within bytes ∙ ap (λ n. lexed n 0 (drop within bytes)) same

-- and so are the blanks
pub lexed-blanks : (place : ℕ) (bytes : List ℕ) → lexed place 0 bytes ≡ lexed (place + run_length is_blank bytes) 0 (drop (run_length is_blank bytes) bytes)
unfolding lexed
lexed-blanks place [] = refl
lexed-blanks place (byte ∷ bytes) = elim (cases_Bool (is_blank byte)) [
  | inl blank ↦
      let same : place + 1 + run_length is_blank bytes ≡ place + suc (run_length is_blank bytes) = omega arith in
      rw blank (lexed-blanks (place + 1) bytes ∙ ap (λ n. lexed n 0 (drop (run_length is_blank bytes) bytes)) same)
  | inr other ↦ let same : place + 0 ≡ place = omega arith in rw (other, same, other) refl
]

-- a line without bytes has no tokens
pub lexed-nothing : (place : ℕ) (bytes : List ℕ) → length bytes ≡ 0 → lexed place 0 bytes ≡ record { lexemes = []; whole = true }
unfolding lexed
lexed-nothing place [] none = refl
lexed-nothing place (byte ∷ bytes) none = absurd (omega arith)

-- a comment has none
pub lexed-comment : (place : ℕ) (bytes : List ℕ) → 0 < length bytes → get_or bytes 0 0 ≡ 35 → lexed place 0 bytes ≡ record { lexemes = []; whole = are is_text bytes }
unfolding lexed
lexed-comment place [] some is = absurd (omega arith)
lexed-comment place (byte ∷ bytes) some is = rw is refl

-- else the longest token is the first
lexed-token : (place count : ℕ) (byte : ℕ) (bytes : List ℕ) → is_blank byte ≡ false → eqb byte 35 ≡ false → lexeme_length (byte ∷ bytes) ≡ count
    → lexed place 0 (byte ∷ bytes) ≡ led_by (lexeme_at place count (byte ∷ bytes)) (lexed (place + count) 0 (drop count (byte ∷ bytes)))
unfolding lexed
lexed-token place zero byte bytes blank comment is = rw (blank, comment, is) refl
lexed-token place (suc count) byte bytes blank comment is =
    let less : suc count - 1 ≡ count = omega arith in
    let same : place + 1 + count ≡ place + suc count = omega arith in
    rw (blank, comment, is, less) (ap (led_by (lexeme_at place (suc count) (byte ∷ bytes))) (lexed-within (place + 1) count bytes ∙ ap (λ n. lexed n 0 (drop count bytes)) same))

-- the same of bytes that aren't empty
pub lexed-longest : (place : ℕ) (bytes : List ℕ) → 0 < length bytes → is_blank (get_or bytes 0 0) ≡ false → (get_or bytes 0 0 ≡ 35 → ⊥)
    → lexed place 0 bytes ≡ led_by (lexeme_at place (lexeme_length bytes) bytes) (lexed (place + lexeme_length bytes) 0 (drop (lexeme_length bytes) bytes))
lexed-longest place [] some blank comment = absurd (omega arith)
lexed-longest place (byte ∷ bytes) some blank comment = lexed-token place (lexeme_length (byte ∷ bytes)) byte bytes blank (ne_eqb byte 35 comment) refl
