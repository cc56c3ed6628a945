-- Labels and then a statement, one after another.
use Rattle.std.proofs.Common.{◌≡◌, refl, ℕ, true, false, List, [], ◌∷◌, Option, Some, None}
use Rattle.std.specs.Prelude.{option_and_then, is_some}
use Rattle.std.proofs.lemmas.Bool.{and_right}
use Rattle.std.proofs.lemmas.Option.{cond_some}
use Rattle.asm_text.specs.declared.listing.Span.{Span}
use Rattle.asm_text.specs.declared.listing.What.TheVariants.{Label}
use Rattle.asm_text.specs.declared.tokens.Lexeme.{Lexeme}
use Rattle.asm_text.specs.Source.{item, before, statement_items, line_items}
use Rattle.asm_text.specs.Statements.{is_label_name, label_at, label_in, word_in, is_colon}
use Rattle.asm_text.specs.Cursors.{first_of, others_of, is_at_colon}

-- the place of a label is that of its word
label-is : (span name : Span) (word : Option (List ℕ)) → option_and_then (label_at span) word ≡ Some name → span ≡ name
label-is span name None is = cc
label-is span name (Some word) is = (cond_some (is_label_name word) span name is).1

-- and of its token
pub label-place : (text : List ℕ) (lexeme : Lexeme) (name : Span) → label_in text lexeme ≡ Some name → lexeme.span ≡ name
label-place text lexeme name is = label-is lexeme.span name (word_in text lexeme) is

-- where no label stands there is a statement
pub no-label : (text : List ℕ) (line : ℕ) (lexemes : List Lexeme) (first : Lexeme) → first_of lexemes ≡ Some first → label_in text first ≡ None
    → line_items text line lexemes ≡ statement_items text line (first ∷ others_of lexemes)
no-label text line [] first is none = cc
no-label text line (lexeme ∷ []) first is none =
    let same : lexeme ≡ first = cc in
    rw same refl
no-label text line (lexeme ∷ colon ∷ lexemes) first is none =
    let same : lexeme ≡ first = cc in
    rw (same, none) refl

-- and so there is where no colon stands behind the first token
pub no-colon : (text : List ℕ) (line : ℕ) (lexemes : List Lexeme) (first : Lexeme) → first_of lexemes ≡ Some first → is_at_colon (others_of lexemes) ≡ false
    → line_items text line lexemes ≡ statement_items text line (first ∷ others_of lexemes)
no-colon text line [] first is other = cc
no-colon text line (lexeme ∷ []) first is other =
    let same : lexeme ≡ first = cc in
    rw same refl
no-colon text line (lexeme ∷ colon ∷ lexemes) first is other =
    let same : lexeme ≡ first = cc in
    rw (same, and_right (is_some (label_in text first)) (is_colon colon.token) other) refl

-- behind a label and its colon the line goes on
pub more-items : (text : List ℕ) (line : ℕ) (lexemes : List Lexeme) (first : Lexeme) (name : Span) → first_of lexemes ≡ Some first → label_in text first ≡ Some name
    → is_at_colon (others_of lexemes) ≡ true → line_items text line lexemes ≡ before (item line (Label name)) (line_items text line (others_of (others_of lexemes)))
more-items text line [] first name is some colon = cc
more-items text line (lexeme ∷ []) first name is some colon = cc
more-items text line (lexeme ∷ second ∷ lexemes) first name is some colon =
    let same : lexeme ≡ first = cc in
    rw (same, some, colon, label-place text first name some) refl

-- and nothing is read where there is no token
pub no-items : (text : List ℕ) (line : ℕ) (lexemes : List Lexeme) → first_of lexemes ≡ None → line_items text line lexemes ≡ Some []
no-items text line [] none = refl
no-items text line (lexeme ∷ lexemes) none = cc
