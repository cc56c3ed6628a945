-- The form of a token, by its first byte.
use Rattle.std.proofs.Common.{◌≡◌, ◌∙◌, sym, ap, refl, subst, ℕ, Bool, true, false, eqb, ◌||◌, List, [], ◌∷◌, Some, None, ◌⊎◌, inl, inr, arith}
use Rattle.std.proofs.lemmas.Bool.{cases_Bool, eqb-true, ne_eqb, or_from, false≢true}
use Rattle.std.proofs.lemmas.Bool.Decides.{nat_tests}
use Rattle.std.specs.Prelude.{is_some}
use Rattle.asm_text.specs.declared.tokens.Token.TheVariants.{Text}
use Rattle.asm_text.specs.Bytes.{begins_word, is_in_word, is_digit, are}
use Rattle.asm_text.specs.Tokens.{is_word, is_number, closes, is_string, mark_of, mark_token, is_lexeme, token_of}

-- a byte that begins a word is none that doesn't
word-other : (byte other : ℕ) → begins_word byte ≡ true → begins_word other ≡ false → eqb byte other ≡ false
word-other byte other is not-word = ne_eqb byte other (λ same. false≢true (sym not-word ∙ sym (ap begins_word same) ∙ is))

-- and is no digit
word-no-digit : (byte : ℕ) → begins_word byte ≡ true → is_digit byte ≡ false
word-no-digit byte is = grind (arith, nat_tests)

-- what begins as a word is no number
word-no-number : (byte : ℕ) (bytes : List ℕ) → begins_word byte ≡ true → is_number (byte ∷ bytes) ≡ false
word-no-number byte [] is = rw (word-no-digit byte is, word-other byte 45 is refl) refl
word-no-number byte (next ∷ bytes) is = rw (word-no-digit byte is, word-other byte 48 is refl, word-other byte 45 is refl) refl

-- no string
word-no-string : (byte : ℕ) (bytes : List ℕ) → begins_word byte ≡ true → is_string (byte ∷ bytes) ≡ false
word-no-string byte bytes is = rw (word-other byte 34 is refl) refl

-- and no mark
word-no-mark : (byte : ℕ) (bytes : List ℕ) → begins_word byte ≡ true → is_some (mark_token (byte ∷ bytes)) ≡ false
word-no-mark byte [] is = rw (word-other byte 44 is refl, word-other byte 58 is refl, word-other byte 40 is refl, word-other byte 41 is refl) refl
word-no-mark byte (next ∷ bytes) is = refl

-- one of two forms alone
pub or-first : (first second : Bool) → second ≡ false → (first || second) ≡ first
or-first true second none = refl
or-first false second none = none

-- a token that begins as a word is a word
pub lexeme-word : (byte : ℕ) (bytes : List ℕ) → begins_word byte ≡ true → is_lexeme (byte ∷ bytes) ≡ are is_in_word bytes
lexeme-word byte bytes is =
    let others : (is_number (byte ∷ bytes) || (is_string (byte ∷ bytes) || is_some (mark_token (byte ∷ bytes)))) ≡ false =
    or_from _ _ (word-no-number byte bytes is) (or_from _ _ (word-no-string byte bytes is) (word-no-mark byte bytes is)) in
    or-first (is_word (byte ∷ bytes)) _ others ∙ rw is refl

-- one that begins with `"` is a string
pub lexeme-string : (bytes : List ℕ) → is_lexeme (34 ∷ bytes) ≡ closes bytes
lexeme-string [] = refl
lexeme-string (byte ∷ bytes) = or-first (closes (byte ∷ bytes)) false refl

-- the bytes that are marks
mark-cases : (byte : ℕ) → is_some (mark_of byte) ≡ true → (byte ≡ 44) ⊎ ((byte ≡ 58) ⊎ ((byte ≡ 40) ⊎ (byte ≡ 41)))
mark-cases byte is = elim (cases_Bool (eqb byte 44)) [
  | inl same ↦ inl (eqb-true byte 44 same)
  | inr first ↦ elim (cases_Bool (eqb byte 58)) [
    | inl same ↦ inr (inl (eqb-true byte 58 same))
    | inr second ↦ elim (cases_Bool (eqb byte 40)) [
      | inl same ↦ inr (inr (inl (eqb-true byte 40 same)))
      | inr third ↦ elim (cases_Bool (eqb byte 41)) [
        | inl same ↦ inr (inr (inr (eqb-true byte 41 same)))
        | inr fourth ↦ absurd (false≢true (rw (first, second, third, fourth) at is))
      ]
    ]
  ]
]

-- there are no bytes
abbrev pub is_none : List ℕ → Bool
is_none [] = true
is_none (byte ∷ bytes) = false

-- one that begins with a mark is that mark alone
pub lexeme-mark : (byte : ℕ) (bytes : List ℕ) → is_some (mark_of byte) ≡ true → is_lexeme (byte ∷ bytes) ≡ is_none bytes
lexeme-mark byte bytes is =
    let P : ℕ → Type 0 = λ first. is_lexeme (first ∷ bytes) ≡ is_none bytes in
    elim (mark-cases byte is) [
      | inl same ↦ subst P (sym same) (comma bytes)
      | inr (inl same) ↦ subst P (sym same) (colon bytes)
      | inr (inr (inl same)) ↦ subst P (sym same) (open_mark bytes)
      | inr (inr (inr same)) ↦ subst P (sym same) (close_mark bytes)
    ]
  where
    comma : (bytes : List ℕ) → is_lexeme (44 ∷ bytes) ≡ is_none bytes
    comma [] = refl
    comma (byte ∷ bytes) = refl

    colon : (bytes : List ℕ) → is_lexeme (58 ∷ bytes) ≡ is_none bytes
    colon [] = refl
    colon (byte ∷ bytes) = refl

    open_mark : (bytes : List ℕ) → is_lexeme (40 ∷ bytes) ≡ is_none bytes
    open_mark [] = refl
    open_mark (byte ∷ bytes) = refl

    close_mark : (bytes : List ℕ) → is_lexeme (41 ∷ bytes) ≡ is_none bytes
    close_mark [] = refl
    close_mark (byte ∷ bytes) = refl

-- and any other is a number
pub lexeme-number : (byte : ℕ) (bytes : List ℕ) → begins_word byte ≡ false → eqb byte 34 ≡ false → mark_of byte ≡ None
    → is_lexeme (byte ∷ bytes) ≡ is_number (byte ∷ bytes)
lexeme-number byte [] word quote mark = rw (word, quote, mark) (or-first (is_number (byte ∷ [])) false refl)
lexeme-number byte (next ∷ bytes) word quote mark = rw (word, quote) (or-first (is_number (byte ∷ next ∷ bytes)) false refl)

-- the token of a string
pub string-token : (bytes : List ℕ) → is_lexeme (34 ∷ bytes) ≡ true → token_of (34 ∷ bytes) ≡ Some Text
string-token [] whole = absurd (false≢true whole)
string-token (byte ∷ bytes) whole = let closed = sym (lexeme-string (byte ∷ bytes)) ∙ whole in rw closed refl

-- and of a mark
pub mark-token : (byte : ℕ) (bytes : List ℕ) → is_some (mark_of byte) ≡ true → is_lexeme (byte ∷ bytes) ≡ true → token_of (byte ∷ bytes) ≡ mark_of byte
mark-token byte [] is whole =
    let P : ℕ → Type 0 = λ first. token_of (first ∷ []) ≡ mark_of first in
    elim (mark-cases byte is) [
      | inl same ↦ subst P (sym same) refl
      | inr (inl same) ↦ subst P (sym same) refl
      | inr (inr (inl same)) ↦ subst P (sym same) refl
      | inr (inr (inr same)) ↦ subst P (sym same) refl
    ]
mark-token byte (next ∷ bytes) is whole = absurd (false≢true (sym (lexeme-mark byte (next ∷ bytes) is) ∙ whole))
