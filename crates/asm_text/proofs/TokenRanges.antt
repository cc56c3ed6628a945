-- The numbers of tokens are in their range.
use Rattle.std.proofs.Common.{◌≡◌, refl, ℕ, zero, suc, ◌+◌, ◌-◌, true, eqb, ℤ, pos, List, [], ◌∷◌, Option, Some, None, take, inl, inr, arith}
use Rattle.std.specs.Prelude.{IfSome, option_map, option_and_then, int_le}
use Rattle.std.specs.List.{AllByRecursion}
use Rattle.std.proofs.lemmas.Bool.{cases_Bool, cond_both}
use Rattle.std.proofs.lemmas.Int.{ints}
use Rattle.asm_text.specs.declared.tokens.Token.{Token}
use Rattle.asm_text.specs.declared.tokens.Token.TheVariants.{Number}
use Rattle.asm_text.specs.declared.tokens.Lexeme.{Lexeme}
use Rattle.asm_text.specs.Bytes.{is_blank}
use Rattle.asm_text.specs.Tokens.{is_word, is_number, is_string, mark_of, is_in_range, integer_of, number_token, mark_token, token_of, lexeme_length}
use Rattle.asm_text.specs.Lines.{Lexed, led_by, lexeme_at, lexed}
use Rattle.asm_text.specs.Ranges.{IsNumber, IsNatural}

-- what is made of what was found
pub made-is : {X Y : Type 0} (make : X → Y) (found : Option X) (P : X → Type 0) (Q : Y → Type 0) → IfSome found P → ((x : X) → P x → Q (make x)) → IfSome (option_map make found) Q
made-is make None P Q is makes = tt
made-is make (Some x) P Q is makes = makes x is

-- and what is found by it
pub next-is : {X Y : Type 0} (next : X → Option Y) (found : Option X) (P : X → Type 0) (Q : Y → Type 0) → IfSome found P → ((x : X) → P x → IfSome (next x) Q) → IfSome (option_and_then next found) Q
next-is next None P Q is finds = tt
next-is next (Some x) P Q is finds = finds x is

-- also where nothing is known of what was found
pub next-any : {X Y : Type 0} (next : X → Option Y) (found : Option X) (Q : Y → Type 0) → ((x : X) → IfSome (next x) Q) → IfSome (option_and_then next found) Q
next-any next None Q finds = tt
next-any next (Some x) Q finds = finds x

-- what is found may be known by what it was found in
pub found-is : {X : Type 0} (found : Option X) (P : X → Type 0) → ((x : X) → found ≡ Some x → P x) → IfSome found P
found-is None P is = tt
found-is (Some x) P is = is x refl

-- a number that passes the test of its range is in it
pub number-range : (n : ℤ) → is_in_range n ≡ true → IsNumber n
number-range n is = record { least = grind (arith, ints); past = grind (arith, ints) }

-- and one that isn't negative is a natural
pub natural-range : (n : ℤ) → IsNumber n → int_le (pos 0) n ≡ true → IsNatural n
natural-range n number is = record { least = grind (arith, ints); past = number.past }

-- the number that a token is
abbrev pub HasNumber : Token → Type 0
HasNumber (Number n) = IsNumber n
HasNumber _ = Unit {0}

-- those of tokens
abbrev pub HaveNumbers : List Lexeme → Type 0
HaveNumbers lexemes = AllByRecursion (λ lexeme. HasNumber lexeme.token) lexemes

-- a mark is none
mark-range : (byte : ℕ) → IfSome (mark_of byte) HasNumber
mark-range byte = grind arith

-- and neither is its text
text-range : (bytes : List ℕ) → IfSome (mark_token bytes) HasNumber
text-range [] = tt
text-range (byte ∷ []) = mark-range byte
text-range (byte ∷ next ∷ bytes) = tt

-- a number out of the range is no token
integer-range : (n : ℤ) → IfSome (number_token n) HasNumber
integer-range n = cond_both (is_in_range n) (Some (Number n)) None (λ found. IfSome found HasNumber) (λ is. number-range n is) (λ other. tt)

-- so the token of some bytes has its number in the range
token-range : (bytes : List ℕ) → IfSome (token_of bytes) HasNumber
token-range bytes = elim (cases_Bool (is_word bytes)) [
  | inl word ↦ rw word tt
  | inr no-word ↦ elim (cases_Bool (is_number bytes)) [
    | inl number ↦ rw (no-word, number) (integer-range (integer_of bytes))
    | inr no-number ↦ elim (cases_Bool (is_string bytes)) [
      | inl string ↦ rw (no-word, no-number, string) tt
      | inr no-string ↦ rw (no-word, no-number, no-string) (text-range bytes)
    ]
  ]
]

-- the token at a place before the others
led-range : (found : Option Lexeme) (rest : Lexed) → IfSome found (λ lexeme. HasNumber lexeme.token) → HaveNumbers rest.lexemes → HaveNumbers (led_by found rest).lexemes
led-range None rest first others = tt
led-range (Some lexeme) rest first others = (first, others)

-- The tokens of a line have their numbers in the range.
pub lexed-range : (place within : ℕ) (bytes : List ℕ) → HaveNumbers (lexed place within bytes).lexemes
unfolding lexed
lexed-range place within [] = tt
lexed-range place (suc within) (byte ∷ bytes) = lexed-range (place + 1) within bytes
lexed-range place zero (byte ∷ bytes) =
    let count = lexeme_length (byte ∷ bytes) in
    elim (cases_Bool (is_blank byte)) [
      | inl blank ↦ rw blank (lexed-range (place + 1) zero bytes)
      | inr other ↦ elim (cases_Bool (eqb byte 35)) [
        | inl comment ↦ rw (other, comment) tt
        | inr token ↦
            let first = made-is (λ token. record { token = token; span = record { first = place; past = place + count } }) (token_of (take count (byte ∷ bytes))) HasNumber
            (λ (lexeme : Lexeme). HasNumber lexeme.token) (token-range (take count (byte ∷ bytes))) (λ token is. is) in
            rw (other, token) (led-range (lexeme_at place count (byte ∷ bytes)) (lexed (place + 1) (count - 1) bytes) first (lexed-range (place + 1) (count - 1) bytes))
      ]
    ]
