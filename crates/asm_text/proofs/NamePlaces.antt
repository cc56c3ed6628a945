-- The names and strings that tokens are stand at their places.
use Rattle.std.proofs.Common.{◌≡◌, ◌∙◌, ap, refl, subst, ℕ, ◌≤◌, true, List, [], ◌∷◌, Option, Some, None, inl, inr, ◌⊎◌, arith}
use Rattle.std.specs.Prelude.{All, option_and_then}
use Rattle.std.proofs.lemmas.List.Elements.{All-nil, All-cons}
use Rattle.std.proofs.lemmas.Option.{cond_some}
use Rattle.asm_text.specs.declared.listing.Span.{Span}
use Rattle.asm_text.specs.declared.listing.Value.{Value}
use Rattle.asm_text.specs.declared.listing.Value.TheVariants as value
use Rattle.asm_text.specs.declared.tokens.Token.{Token}
use Rattle.asm_text.specs.declared.tokens.Token.TheVariants.{Word, Number, Text, Comma, Colon, Open, Close}
use Rattle.asm_text.specs.declared.tokens.Lexeme.{Lexeme}
use Rattle.asm_text.specs.Lines.{slice_of}
use Rattle.asm_text.specs.Statements.{is_label_name, word_from, label_at, label_in, value_from, value_in, text_from}
use Rattle.asm_text.specs.Spans.{value_spans, AreRising, IsName, IsString}
use Rattle.asm_text.proofs.TokenKinds.{word-form, string-form}
use Rattle.asm_text.proofs.LexemePlaces.{IsLexeme}
use Rattle.asm_text.proofs.RisingSpans.{rising-before, rising-behind}

-- spans are those of names, and stand in a part of the text
pub record AreNames (text : List ℕ) (from : ℕ) (spans : List Span) (end : ℕ) : Type 0 where
  pub rising : AreRising from spans end
  pub names : All (IsName text) spans

-- no spans are
pub names-none : (text : List ℕ) (from end : ℕ) → from ≤ end → AreNames text from [] end
names-none text from end within = record { rising = within; names = All-nil (IsName text) }

-- they stand in a greater part too
pub names-within : (text : List ℕ) (before from : ℕ) (spans : List Span) (end behind : ℕ) → before ≤ from → end ≤ behind → AreNames text from spans end → AreNames text before spans behind
names-within text before from spans end behind low high are = record {
  rising = rising-behind before spans end behind high (rising-before before from spans end low are.rising);
  names = are.names;
}

-- a label is a word without a dot, at the place of its token
label-parts : (token : Token) (bytes : List ℕ) (span name : Span) → option_and_then (label_at span) (word_from token bytes) ≡ Some name → (token ≡ Word) × (is_label_name bytes ≡ true) × (span ≡ name)
label-parts Word bytes span name is =
    let found = cond_some (is_label_name bytes) span name is in
    (refl, found.0, found.1)
label-parts (Number n) bytes span name is = cc
label-parts Text bytes span name is = cc
label-parts Comma bytes span name is = cc
label-parts Colon bytes span name is = cc
label-parts Open bytes span name is = cc
label-parts Close bytes span name is = cc

-- so the text there is one
pub label-name : (text : List ℕ) (lexeme : Lexeme) (name : Span) → IsLexeme text lexeme → label_in text lexeme ≡ Some name → (lexeme.span ≡ name) × IsName text name
label-name text lexeme name lexed is =
    let parts = label-parts lexeme.token (slice_of text lexeme.span) lexeme.span name is in
    let word = word-form (slice_of text lexeme.span) (lexed.is ∙ ap Some parts.0) in
    (parts.2, subst (λ span. IsName text span) parts.2 (word, parts.1))

-- and it stands in a part of the text that its token is in
pub label-stands : (text : List ℕ) (from : ℕ) (lexeme : Lexeme) (name : Span) → IsLexeme text lexeme → from ≤ lexeme.span.first → label_in text lexeme ≡ Some name
    → AreNames text from (name ∷ []) lexeme.span.past
label-stands text from lexeme name lexed low is =
    let parts = label-name text lexeme name lexed is in
    record {
      rising = subst (λ span. AreRising from (span ∷ []) lexeme.span.past) parts.0 (low, lexed.some, omega arith);
      names = All-cons (IsName text) name [] parts.1 (All-nil (IsName text));
    }

-- a value is a number, or the name of a label
value-parts : (token : Token) (label : Option Span) (found : Value) → value_from token label ≡ Some found → (value_spans found ≡ []) ⊎ ((name : Span) × (label ≡ Some name) × (found ≡ value.Name name))
value-parts (Number n) label found is = inl (let same : value.Number n ≡ found = cc in rw (← same) refl)
value-parts Word None found is = cc
value-parts Word (Some name) found is = inr (name, refl, cc)
value-parts Text None found is = cc
value-parts Text (Some name) found is = inr (name, refl, cc)
value-parts Comma None found is = cc
value-parts Comma (Some name) found is = inr (name, refl, cc)
value-parts Colon None found is = cc
value-parts Colon (Some name) found is = inr (name, refl, cc)
value-parts Open None found is = cc
value-parts Open (Some name) found is = inr (name, refl, cc)
value-parts Close None found is = cc
value-parts Close (Some name) found is = inr (name, refl, cc)

-- whose name stands there
pub value-stands : (text : List ℕ) (from : ℕ) (lexeme : Lexeme) (found : Value) → IsLexeme text lexeme → from ≤ lexeme.span.first → value_in text lexeme ≡ Some found
    → AreNames text from (value_spans found) lexeme.span.past
value-stands text from lexeme found lexed low is = elim (value-parts lexeme.token (label_in text lexeme) found is) [
  | inl none ↦ rw none (names-none text from lexeme.span.past (omega (arith, lexed.some)))
  | inr named ↦ rw named.2 (label-stands text from lexeme named.0 lexed low named.1)
]

-- a string stands at the place of its token
string-parts : (token : Token) (span found : Span) → text_from token span ≡ Some found → (token ≡ Text) × (span ≡ found)
string-parts Text span found is = (refl, cc)
string-parts Word span found is = cc
string-parts (Number n) span found is = cc
string-parts Comma span found is = cc
string-parts Colon span found is = cc
string-parts Open span found is = cc
string-parts Close span found is = cc

-- where the text is one
pub string-stands : (text : List ℕ) (lexeme : Lexeme) (found : Span) → IsLexeme text lexeme → text_from lexeme.token lexeme.span ≡ Some found → (lexeme.span ≡ found) × IsString text found
string-stands text lexeme found lexed is =
    let parts = string-parts lexeme.token lexeme.span found is in
    let string = string-form (slice_of text lexeme.span) (lexed.is ∙ ap Some parts.0) in
    (parts.1, subst (λ span. IsString text span) parts.1 string)
