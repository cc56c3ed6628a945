-- The tokens of words and strings have those forms.
use Rattle.std.proofs.Common.{◌≡◌, subst, ℕ, true, eqb, List, [], ◌∷◌, Some, inl, inr}
use Rattle.std.proofs.lemmas.Bool.{cases_Bool}
use Rattle.std.proofs.lemmas.Option.{cond_some}
use Rattle.asm_text.specs.declared.tokens.Token.{Token}
use Rattle.asm_text.specs.declared.tokens.Token.TheVariants.{Word, Number, Text, Comma, Colon, Open, Close}
use Rattle.asm_text.specs.Tokens.{is_word, is_number, is_string, mark_of, is_in_range, integer_of, mark_token, token_of}

-- a token is a mark
abbrev IsMark : Token → Type 0
IsMark Comma = Unit {0}
IsMark Colon = Unit {0}
IsMark Open = Unit {0}
IsMark Close = Unit {0}
IsMark Word = ⊥
IsMark (Number n) = ⊥
IsMark Text = ⊥

-- one that is the same as a mark
same-mark : (mark token : Token) → IsMark mark → Some mark ≡ Some token → IsMark token
same-mark mark token is same = let equal : mark ≡ token = cc in subst IsMark equal is

-- the token of a byte alone is a mark
byte-mark : (byte : ℕ) (token : Token) → mark_of byte ≡ Some token → IsMark token
byte-mark byte token is = elim (cases_Bool (eqb byte 44)) [
  | inl comma ↦ same-mark Comma token tt (rw comma at is)
  | inr no-comma ↦ elim (cases_Bool (eqb byte 58)) [
    | inl colon ↦ same-mark Colon token tt (rw (no-comma, colon) at is)
    | inr no-colon ↦ elim (cases_Bool (eqb byte 40)) [
      | inl opens ↦ same-mark Open token tt (rw (no-comma, no-colon, opens) at is)
      | inr no-open ↦ elim (cases_Bool (eqb byte 41)) [
        | inl closes ↦ same-mark Close token tt (rw (no-comma, no-colon, no-open, closes) at is)
        | inr no-close ↦ absurd (let none = rw (no-comma, no-colon, no-open, no-close) at is in cc)
      ]
    ]
  ]
]

-- and so is that of a mark's text
text-mark : (bytes : List ℕ) (token : Token) → mark_token bytes ≡ Some token → IsMark token
text-mark [] token is = cc
text-mark (byte ∷ []) token is = byte-mark byte token is
text-mark (byte ∷ next ∷ bytes) token is = cc

-- a token that is a word has the form of a word
pub word-form : (bytes : List ℕ) → token_of bytes ≡ Some Word → is_word bytes ≡ true
word-form bytes is = elim (cases_Bool (is_word bytes)) [
  | inl word ↦ word
  | inr no-word ↦ elim (cases_Bool (is_number bytes)) [
    | inl number ↦ absurd (let found = cond_some (is_in_range (integer_of bytes)) (Number (integer_of bytes)) Word (rw (no-word, number) at is) in let same = found.1 in cc)
    | inr no-number ↦ elim (cases_Bool (is_string bytes)) [
      | inl string ↦ absurd (let same = rw (no-word, no-number, string) at is in cc)
      | inr no-string ↦ absurd (text-mark bytes Word (rw (no-word, no-number, no-string) at is))
    ]
  ]
]

-- and one that is a string that of a string
pub string-form : (bytes : List ℕ) → token_of bytes ≡ Some Text → is_string bytes ≡ true
string-form bytes is = elim (cases_Bool (is_string bytes)) [
  | inl string ↦ string
  | inr no-string ↦ elim (cases_Bool (is_word bytes)) [
    | inl word ↦ absurd (let same = rw word at is in cc)
    | inr no-word ↦ elim (cases_Bool (is_number bytes)) [
      | inl number ↦ absurd (let found = cond_some (is_in_range (integer_of bytes)) (Number (integer_of bytes)) Text (rw (no-word, number) at is) in let same = found.1 in cc)
      | inr no-number ↦ absurd (text-mark bytes Text (rw (no-word, no-number, no-string) at is))
    ]
  ]
]
