-- What a cursor over a line stands for: what of the line is still to be read.
use Rattle.std.specs.Prelude.{◌≡◌, ◌≢◌, ℕ, ◌-◌, ◌<◌, ◌≤◌, Bool, true, false, is_some, Option, Some, None, IfSome, Result, Ok, Err, List, [], ◌∷◌, ◌++◌, take, drop, length, slice_get}
use Rattle.asm_text.specs.declared.listing.Span.{Span}
use Rattle.asm_text.specs.declared.listing.Item.{Item}
use Rattle.asm_text.specs.declared.tokens.Lexeme.{Lexeme}
use Rattle.asm_text.specs.declared.cursor.Front.{Front}
use Rattle.asm_text.specs.declared.cursor.Front.TheVariants.{Token, End, Fault}
use Rattle.asm_text.specs.declared.source.SourceReason.{SourceReason}
use Rattle.asm_text.specs.Lines.{Lexed, lexed, led_by}
use Rattle.asm_text.specs.Statements.{is_colon}

-- the text, and the tokens of the line that are left
pub record Reading : Type 0 where
  pub text : List ℕ
  pub left : Lexed

-- what is left from one place of a text up to another; nothing, where a fault was met
abbrev pub left_from : List ℕ → ℕ → ℕ → Bool → Lexed
left_from text at past true = lexed at 0 (take (past - at) (drop at text))
left_from text at past false = record { lexemes = []; whole = false }

-- the first of some tokens, and the others
abbrev pub first_of : List Lexeme → Option Lexeme
first_of [] = None
first_of (lexeme ∷ lexemes) = Some lexeme

abbrev pub others_of : List Lexeme → List Lexeme
others_of [] = []
others_of (lexeme ∷ lexemes) = lexemes

-- the reading behind the first token
abbrev pub behind : Reading → Reading
behind r = record { text = r.text; left = record { lexemes = others_of r.left.lexemes; whole = r.left.whole } }

-- the first of some tokens is a colon
abbrev pub is_at_colon : List Lexeme → Bool
is_at_colon [] = false
is_at_colon (lexeme ∷ lexemes) = is_colon lexeme.token

-- a span lies in the text
pub record IsPlaced (text : List ℕ) (span : Span) : Type 0 where
  pub some : span.first < span.past
  pub within : span.past ≤ length text

-- a token is the first of those from one place of a text up to another
pub record IsNext (text : List ℕ) (at past : ℕ) (lexeme : Lexeme) : Type 0 where
  pub placed : IsPlaced text lexeme.span
  pub from : at < lexeme.span.past
  pub to : lexeme.span.past ≤ past
  pub left : left_from text at past true ≡ led_by (Some lexeme) (left_from text lexeme.span.past past true)

-- what stands there: a token, the end of a line without a fault, or a fault
abbrev pub HasFront : List ℕ → ℕ → ℕ → Front → Type 0
HasFront text at past (Token lexeme) = IsNext text at past lexeme
HasFront text at past End = left_from text at past true ≡ record { lexemes = []; whole = true }
HasFront text at past Fault = left_from text at past true ≡ record { lexemes = []; whole = false }

-- a cursor goes on in the same line
pub record GoesOn (old new : Reading) : Type 0 where
  pub text : new.text ≡ old.text
  pub whole : new.left.whole ≡ old.left.whole

-- items were put behind others, where there are some; and else nothing is said of them
pub record HasRead (found : Option (List Item)) (old new : List Item) (is : Bool) : Type 0 where
  pub is_are : is ≡ is_some found
  pub items : IfSome found (λ items. new ≡ old ++ items)

-- the same of a line, or its fault
abbrev pub HasLine : Result (List Item) SourceReason → List Item → List Item → Option SourceReason → Type 0
HasLine (Ok items) old new reason = (reason ≡ None) × (new ≡ old ++ items)
HasLine (Err fault) old new reason = reason ≡ Some fault

-- a byte that ends no line
abbrev pub IsNoLineEnd : Option ℕ → Type 0
IsNoLineEnd byte = byte ≢ Some 10

-- the first line feed from a place on, or the end of the text
pub record IsLineEnd (text : List ℕ) (at past : ℕ) : Type 0 where
  pub from : at ≤ past
  pub to : past ≤ length text
  pub before : (k : ℕ) → at ≤ k → k < past → IsNoLineEnd (slice_get text k)
  pub here : past < length text → slice_get text past ≡ Some 10
