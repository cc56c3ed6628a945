-- The operands that tokens say are in their ranges.
use Rattle.std.proofs.Common.{refl, ℕ, ◌<◌, ◌≤◌, Bool, true, false, ℤ, pos, List, [], ◌∷◌, Option, Some, None, arith}
use Rattle.std.specs.Prelude.{IfSome, option_map, option_and_then, int_le}
use Rattle.std.proofs.lemmas.Bool.{cond_both}
use Rattle.std.proofs.lemmas.Int.{ints}
use Rattle.asm_text.specs.declared.listing.Span.{Span}
use Rattle.asm_text.specs.declared.tokens.Token.{Token}
use Rattle.asm_text.specs.declared.tokens.Token.TheVariants.{Number}
use Rattle.asm_text.specs.declared.tokens.Lexeme.{Lexeme}
use Rattle.asm_text.specs.declared.operands.Slot.{Slot}
use Rattle.asm_text.specs.declared.operands.Slot.TheVariants as slot
use Rattle.asm_text.specs.declared.operands.Operands.{Operands}
use Rattle.asm_text.specs.Statements.{register_of, rights_of, word_in, number_from, unless_negative, natural_from, text_from, label_in, value_from, value_in, register_in, is_comma, is_open, is_close, marked, put, filled, no_operands}
use Rattle.asm_text.specs.Ranges.{IsNumber, IsNatural, IsValue}
use Rattle.asm_text.proofs.RegisterNames.{register-is}
use Rattle.asm_text.proofs.TokenRanges.{made-is, next-is, next-any, found-is, number-range, natural-range, HasNumber, HaveNumbers}

-- the number that a token is
number-found : (token : Token) → HasNumber token → IfSome (number_from token) IsNumber
number-found (Number n) is = is
number-found _ is = tt

-- one that isn't negative
natural-found : (token : Token) → HasNumber token → IfSome (natural_from token) IsNatural
natural-found token is =
    next-is unless_negative (number_from token) IsNumber IsNatural (number-found token is)
    (λ n number. cond_both (int_le (pos 0) n) (Some n) None (λ found. IfSome found IsNatural) (natural-range n number) (λ other. tt))

-- the value that it is
pub value-found : (token : Token) (label : Option Span) → HasNumber token → IfSome (value_from token label) IsValue
value-found (Number n) label is = is
value-found _ None is = tt
value-found _ (Some name) is = tt

-- the register that it is
register-found : (text : List ℕ) (lexeme : Lexeme) → IfSome (register_in text lexeme) (λ n. n < 32)
register-found text lexeme =
    next-any register_of (word_in text lexeme) (λ n. n < 32) (λ name. found-is (register_of name) (λ n. n < 32) (λ n is. omega (arith, (register-is name n is).0)))

-- the rights of a segment
abbrev IsRights : ℕ → Type 0
IsRights n = (4 ≤ n) × (n ≤ 7)

-- and those that a word says
rights-found : (name : List ℕ) → IfSome (rights_of name) IsRights
rights-found name = grind arith

-- operands with such registers and numbers, whatever their rights
pub record HaveRanges (operands : Operands) : Type 0 where
  pub rd : operands.rd < 32
  pub rs1 : operands.rs1 < 32
  pub rs2 : operands.rs2 < 32
  pub value : IsValue operands.value
  pub number : IsNumber operands.number
  pub length : IsNumber operands.length
  pub offset : IsNumber operands.offset
  pub perms : IsNumber operands.perms

-- zero is a number
zero-number : IsNumber (pos 0)
zero-number = number-range (pos 0) refl

-- no operands are such
none-ranged : HaveRanges no_operands
none-ranged = record {
  rd = omega arith;
  rs1 = omega arith;
  rs2 = omega arith;
  value = zero-number;
  number = zero-number;
  length = zero-number;
  offset = zero-number;
  perms = zero-number;
}

-- the place of a name is of no matter
name-ranged : (found : Option Span) (operands : Operands) → HaveRanges operands → IfSome (option_map (λ span. record operands { name = span }) found) HaveRanges
name-ranged None operands has = tt
name-ranged (Some span) operands has = assumption

-- nor are rights
rights-ranged : (found : Option ℕ) (operands : Operands) → HaveRanges operands → IfSome (option_map (λ n. record operands { rights = n }) found) HaveRanges
rights-ranged None operands has = tt
rights-ranged (Some n) operands has = assumption

-- where a mark is
marked-ranged : (is : Bool) (operands : Operands) → HaveRanges operands → IfSome (marked is operands) HaveRanges
marked-ranged true operands has = has
marked-ranged false operands has = tt

-- a natural is a number
natural-number : (n : ℤ) → IsNatural n → IsNumber n
natural-number n natural = record { least = grind (arith, ints, natural.least); past = natural.past }

-- operands stay such with the one that a token says
put-ranged : (text : List ℕ) (s : Slot) (lexeme : Lexeme) (operands : Operands) → HasNumber lexeme.token → HaveRanges operands → IfSome (put text s lexeme operands) HaveRanges
put-ranged text slot.Rd lexeme operands is has = made-is (λ n. record operands { rd = n }) (register_in text lexeme) (λ n. n < 32) HaveRanges (register-found text lexeme) (λ n low. assumption)
put-ranged text slot.Rs1 lexeme operands is has = made-is (λ n. record operands { rs1 = n }) (register_in text lexeme) (λ n. n < 32) HaveRanges (register-found text lexeme) (λ n low. assumption)
put-ranged text slot.Rs2 lexeme operands is has = made-is (λ n. record operands { rs2 = n }) (register_in text lexeme) (λ n. n < 32) HaveRanges (register-found text lexeme) (λ n low. assumption)
put-ranged text slot.Value lexeme operands is has =
    made-is (λ v. record operands { value = v }) (value_in text lexeme) IsValue HaveRanges (value-found lexeme.token (label_in text lexeme) is) (λ v number. assumption)
put-ranged text slot.Comma lexeme operands is has = marked-ranged (is_comma lexeme.token) operands has
put-ranged text slot.Open lexeme operands is has = marked-ranged (is_open lexeme.token) operands has
put-ranged text slot.Close lexeme operands is has = marked-ranged (is_close lexeme.token) operands has
put-ranged text slot.Label lexeme operands is has = name-ranged (label_in text lexeme) operands has
put-ranged text slot.Text lexeme operands is has = name-ranged (text_from lexeme.token lexeme.span) operands has
put-ranged text slot.Number lexeme operands is has =
    made-is (λ n. record operands { number = n }) (number_from lexeme.token) IsNumber HaveRanges (number-found lexeme.token is) (λ n number. assumption)
put-ranged text slot.Natural lexeme operands is has =
    made-is (λ n. record operands { number = n }) (natural_from lexeme.token) IsNatural HaveRanges (natural-found lexeme.token is) (λ n natural. assumption (natural-number n natural))
put-ranged text slot.Rights lexeme operands is has = rights-ranged (option_and_then rights_of (word_in text lexeme)) operands has
put-ranged text slot.Length lexeme operands is has =
    made-is (λ n. record operands { length = n }) (number_from lexeme.token) IsNumber HaveRanges (number-found lexeme.token is) (λ n number. assumption)
put-ranged text slot.Offset lexeme operands is has =
    made-is (λ n. record operands { offset = n }) (number_from lexeme.token) IsNumber HaveRanges (number-found lexeme.token is) (λ n number. assumption)
put-ranged text slot.Perms lexeme operands is has =
    made-is (λ n. record operands { perms = n }) (number_from lexeme.token) IsNumber HaveRanges (number-found lexeme.token is) (λ n number. assumption)

-- no slots take no tokens
filled-none : (text : List ℕ) (lexemes : List Lexeme) (operands : Operands) (P : Operands → Type 0) → P operands → IfSome (filled text [] lexemes operands) P
filled-none text [] operands P is = is
filled-none text (lexeme ∷ lexemes) operands P is = tt

-- and others take a token for the first of them, and tokens for the others
filled-first : (text : List ℕ) (s : Slot) (slots : List Slot) (lexemes : List Lexeme) (operands : Operands) (P Q : Operands → Type 0) → HaveNumbers lexemes
    → ((lexeme : Lexeme) → HasNumber lexeme.token → IfSome (put text s lexeme operands) P)
    → ((others : List Lexeme) (after : Operands) → HaveNumbers others → P after → IfSome (filled text slots others after) Q)
    → IfSome (filled text (s ∷ slots) lexemes operands) Q
filled-first text s slots [] operands P Q numbers puts fills = tt
filled-first text s slots (lexeme ∷ lexemes) operands P Q numbers puts fills =
    next-is (filled text slots lexemes) (put text s lexeme operands) P Q (puts lexeme numbers.0) (λ after is. fills lexemes after numbers.1 is)

-- so what fills a form has such registers and numbers
filled-ranged : (text : List ℕ) (slots : List Slot) (lexemes : List Lexeme) (operands : Operands) → HaveNumbers lexemes → HaveRanges operands → IfSome (filled text slots lexemes operands) HaveRanges
filled-ranged text [] lexemes operands numbers has = filled-none text lexemes operands HaveRanges has
filled-ranged text (s ∷ slots) lexemes operands numbers has =
    filled-first text s slots lexemes operands HaveRanges HaveRanges numbers (λ lexeme is. put-ranged text s lexeme operands is has) (λ others after numbers has. filled-ranged text slots others after numbers has)

-- The operands of a statement have such registers and numbers.
pub form-ranged : (text : List ℕ) (slots : List Slot) (lexemes : List Lexeme) → HaveNumbers lexemes → IfSome (filled text slots lexemes no_operands) HaveRanges
form-ranged text slots lexemes numbers = filled-ranged text slots lexemes no_operands numbers none-ranged

-- a natural that is put in
natural-put : (text : List ℕ) (lexeme : Lexeme) → HasNumber lexeme.token → IfSome (put text slot.Natural lexeme no_operands) (λ operands. IsNatural operands.number)
natural-put text lexeme is =
    made-is (λ n. record no_operands { number = n }) (natural_from lexeme.token) IsNatural (λ (operands : Operands). IsNatural operands.number) (natural-found lexeme.token is) (λ n natural. natural)

-- A form of a natural alone has one.
pub natural-filled : (text : List ℕ) (lexemes : List Lexeme) → HaveNumbers lexemes → IfSome (filled text (slot.Natural ∷ []) lexemes no_operands) (λ operands. IsNatural operands.number)
natural-filled text lexemes numbers =
    filled-first text slot.Natural [] lexemes no_operands (λ operands. IsNatural operands.number) (λ operands. IsNatural operands.number) numbers (natural-put text)
    (λ others after numbers is. filled-none text others after (λ operands. IsNatural operands.number) is)

-- a natural and rights
abbrev pub AreOfSegment : Operands → Type 0
AreOfSegment operands = IsNatural operands.number × (4 ≤ operands.rights) × (operands.rights ≤ 7)

-- rights that are put in behind a natural
rights-put : (text : List ℕ) (lexeme : Lexeme) (operands : Operands) → IsNatural operands.number → IfSome (put text slot.Rights lexeme operands) AreOfSegment
rights-put text lexeme operands natural =
    made-is (λ n. record operands { rights = n }) (option_and_then rights_of (word_in text lexeme)) IsRights AreOfSegment
    (next-any rights_of (word_in text lexeme) IsRights rights-found) (λ n rights. (natural, rights.0, rights.1))

-- A form of both has both.
pub segment-filled : (text : List ℕ) (lexemes : List Lexeme) → HaveNumbers lexemes → IfSome (filled text (slot.Natural ∷ slot.Rights ∷ []) lexemes no_operands) AreOfSegment
segment-filled text lexemes numbers =
    filled-first text slot.Natural (slot.Rights ∷ []) lexemes no_operands (λ operands. IsNatural operands.number) AreOfSegment numbers (natural-put text)
    (λ others after numbers natural.
    filled-first text slot.Rights [] others after AreOfSegment AreOfSegment numbers (λ lexeme is. rights-put text lexeme after natural)
    (λ more both numbers is. filled-none text more both AreOfSegment is))
