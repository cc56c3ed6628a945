-- What the tokens of a row say by their bytes is what a line says by them.
use Rattle.std.proofs.Common.{◌≡◌, ◌∙◌, sym, ap, refl, ℕ, ◌+◌, ◌-◌, List, [], ◌∷◌, ◌++◌, length, drop, Option, Some, None, option_map, append_assoc, drop-drop, arith}
use Rattle.std.specs.Prelude.{option_and_then}
use Rattle.std.proofs.Math.Seq.{take-append_seam, drop-append_seam}
use Rattle.asm_text.specs.declared.tokens.Token.{Token}
use Rattle.asm_text.specs.declared.tokens.Token.TheVariants as token
use Rattle.asm_text.specs.declared.listing.Span.{Span}
use Rattle.asm_text.specs.declared.operands.Slot.{Slot}
use Rattle.asm_text.specs.declared.operands.Slot.TheVariants as slot
use Rattle.asm_text.specs.declared.operands.Operands.{Operands}
use Rattle.asm_text.specs.Lines.{slice_of}
use Rattle.asm_text.specs.Statements.{register_of, word_from, value_from, is_comma, is_open, is_close, marked, put, filled}
use Rattle.trace_tools.proofs.Parts.{Piece, Blank, Part, text-of, lexeme-from, lexemes-from}

-- the bytes that a text has at a place
pub slice-part : (text : List ℕ) (place : ℕ) (bytes rest : List ℕ) → drop place text ≡ bytes ++ rest → slice_of text (record { first = place; past = place + length bytes }) ≡ bytes
slice-part text place bytes rest is =
    let count : place + length bytes - place ≡ length bytes = omega arith in
    rw (count, is) (take-append_seam bytes rest)

-- and those behind them
pub drop-part : (text : List ℕ) (place : ℕ) (bytes rest : List ℕ) → drop place text ≡ bytes ++ rest → drop (place + length bytes) text ≡ rest
drop-part text place bytes rest is = sym (drop-drop (length bytes) place text) ∙ ap (drop (length bytes)) is ∙ drop-append_seam bytes rest

-- the operands with the one that a token of these bytes says, where it is no label
abbrev pub put-by : Slot → Token → List ℕ → Operands → Option Operands
put-by slot.Rd t bytes operands = option_map (λ n. record operands { rd = n }) (option_and_then register_of (word_from t bytes))
put-by slot.Rs1 t bytes operands = option_map (λ n. record operands { rs1 = n }) (option_and_then register_of (word_from t bytes))
put-by slot.Rs2 t bytes operands = option_map (λ n. record operands { rs2 = n }) (option_and_then register_of (word_from t bytes))
put-by slot.Value t bytes operands = option_map (λ v. record operands { value = v }) (value_from t None)
put-by slot.Comma t bytes operands = marked (is_comma t) operands
put-by slot.Open t bytes operands = marked (is_open t) operands
put-by slot.Close t bytes operands = marked (is_close t) operands
put-by _ t bytes operands = None

-- those of a row in a form
abbrev pub filled-by : List Piece → List Slot → Operands → Option Operands
filled-by [] [] operands = Some operands
filled-by [] (slot ∷ slots) operands = None
filled-by (Blank ∷ pieces) slots operands = filled-by pieces slots operands
filled-by (Part bytes t ∷ pieces) [] operands = None
filled-by (Part bytes t ∷ pieces) (slot ∷ slots) operands = option_and_then (filled-by pieces slots) (put-by slot t bytes operands)

-- a value that is no label is the same whatever label stands there
value-same : (t : Token) (label : Option Span) (operands new : Operands) → option_map (λ v. record operands { value = v }) (value_from t None) ≡ Some new
    → option_map (λ v. record operands { value = v }) (value_from t label) ≡ Some new
value-same (token.Number n) label operands new is = is
value-same _ label operands new is = cc

-- what a token says by its bytes is what it says by its place
put-same : (text : List ℕ) (place : ℕ) (bytes rest : List ℕ) (s : Slot) (t : Token) (operands new : Operands) → drop place text ≡ bytes ++ rest
    → put-by s t bytes operands ≡ Some new → put text s (lexeme-from place bytes t) operands ≡ Some new
put-same text place bytes rest slot.Rd t operands new there is = rw (slice-part text place bytes rest there) is
put-same text place bytes rest slot.Rs1 t operands new there is = rw (slice-part text place bytes rest there) is
put-same text place bytes rest slot.Rs2 t operands new there is = rw (slice-part text place bytes rest there) is
put-same text place bytes rest slot.Value t operands new there is = value-same t _ operands new is
put-same text place bytes rest slot.Comma t operands new there is = is
put-same text place bytes rest slot.Open t operands new there is = is
put-same text place bytes rest slot.Close t operands new there is = is
put-same text place bytes rest _ t operands new there is = cc

-- what is said after something, where something is
then-some : (next : Operands → Option Operands) (first : Option Operands) (new : Operands) → option_and_then next first ≡ Some new
    → (middle : Operands) × (first ≡ Some middle) × (next middle ≡ Some new)
then-some next None new is = cc
then-some next (Some middle) new is = (middle, refl, is)

-- the tokens of a row say in a form what their bytes do
pub filled-same : (text behind : List ℕ) (place : ℕ) (pieces : List Piece) (slots : List Slot) (old new : Operands) → drop place text ≡ text-of pieces ++ behind
    → filled-by pieces slots old ≡ Some new → filled text slots (lexemes-from place pieces) old ≡ Some new
filled-same text behind place [] [] old new there is = is
filled-same text behind place [] (s ∷ slots) old new there is = cc
filled-same text behind place (Blank ∷ pieces) slots old new there is =
    filled-same text behind (place + 1) pieces slots old new (drop-part text place (32 ∷ []) (text-of pieces ++ behind) there) is
filled-same text behind place (Part bytes t ∷ pieces) [] old new there is = cc
filled-same text behind place (Part bytes t ∷ pieces) (s ∷ slots) old new there is =
    let apart : drop place text ≡ bytes ++ (text-of pieces ++ behind) = there ∙ append_assoc bytes (text-of pieces) behind in
    let (middle, first, others) = then-some (filled-by pieces slots) (put-by s t bytes old) new is in
    rw (put-same text place bytes (text-of pieces ++ behind) s t old middle apart first)
    (filled-same text behind (place + length bytes) pieces slots middle new (drop-part text place bytes (text-of pieces ++ behind) apart) others)
