-- The values of data, one after another.
use Rattle.std.proofs.Common.{◌≡◌, refl, ℕ, true, false, List, [], ◌∷◌, Some, None, inl, inr}
use Rattle.std.proofs.lemmas.Bool.{cases_Bool}
use Rattle.asm_text.specs.declared.listing.Item.{Item}
use Rattle.asm_text.specs.declared.listing.Value.{Value}
use Rattle.asm_text.specs.declared.listing.What.TheVariants.{Bytes}
use Rattle.asm_text.specs.declared.statements.DataSize.{DataSize}
use Rattle.asm_text.specs.declared.tokens.Lexeme.{Lexeme}
use Rattle.asm_text.specs.Source.{item, before, data_items}
use Rattle.asm_text.specs.Statements.{bytes_of, value_in, is_comma}
use Rattle.asm_text.specs.Cursors.{first_of, others_of}

-- the item of a value
abbrev pub data-item : ℕ → DataSize → Value → Item
data-item line size value = item line (Bytes (bytes_of size) value)

-- data has some values
pub no-data : (text : List ℕ) (line : ℕ) (size : DataSize) (lexemes : List Lexeme) → first_of lexemes ≡ None → data_items text line size lexemes ≡ None
no-data text line size [] none = refl
no-data text line size (lexeme ∷ lexemes) none = cc

-- it begins with a value
pub no-value : (text : List ℕ) (line : ℕ) (size : DataSize) (lexemes : List Lexeme) (first : Lexeme) → first_of lexemes ≡ Some first → value_in text first ≡ None → data_items text line size lexemes ≡ None
no-value text line size [] first is none = cc
no-value text line size (lexeme ∷ []) first is none =
    let same : lexeme ≡ first = cc in
    rw (same, none) refl
no-value text line size (lexeme ∷ comma ∷ lexemes) first is none =
    let same : lexeme ≡ first = cc in
    elim (cases_Bool (is_comma comma.token)) [ inl comes ↦ rw (comes, same, none) refl | inr lacks ↦ rw lacks refl ]

-- a value alone is data
pub last-value : (text : List ℕ) (line : ℕ) (size : DataSize) (lexemes : List Lexeme) (first : Lexeme) (value : Value) → first_of lexemes ≡ Some first → first_of (others_of lexemes) ≡ None
    → value_in text first ≡ Some value → data_items text line size lexemes ≡ Some (data-item line size value ∷ [])
last-value text line size [] first value is last some = cc
last-value text line size (lexeme ∷ []) first value is last some =
    let same : lexeme ≡ first = cc in
    rw (same, some) refl
last-value text line size (lexeme ∷ next ∷ lexemes) first value is last some = cc

-- behind a value there is a comma, if anything
pub no-comma : (text : List ℕ) (line : ℕ) (size : DataSize) (lexemes : List Lexeme) (next : Lexeme) → first_of (others_of lexemes) ≡ Some next
    → is_comma next.token ≡ false → data_items text line size lexemes ≡ None
no-comma text line size [] next is other = refl
no-comma text line size (lexeme ∷ []) next is other = cc
no-comma text line size (lexeme ∷ comma ∷ lexemes) next is other =
    let same : comma ≡ next = cc in
    rw (same, other) refl

-- and behind a comma there is data again
pub more-data : (text : List ℕ) (line : ℕ) (size : DataSize) (lexemes : List Lexeme) (first next : Lexeme) (value : Value) → first_of lexemes ≡ Some first
    → first_of (others_of lexemes) ≡ Some next → is_comma next.token ≡ true → value_in text first ≡ Some value
    → data_items text line size lexemes ≡ before (data-item line size value) (data_items text line size (others_of (others_of lexemes)))
more-data text line size [] first next value is is-next comma some = cc
more-data text line size (lexeme ∷ []) first next value is is-next comma some = cc
more-data text line size (lexeme ∷ second ∷ lexemes) first next value is is-next comma some =
    let same : lexeme ≡ first = cc in
    let same-next : second ≡ next = cc in
    rw (same-next, comma, same, some) refl
