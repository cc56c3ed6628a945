-- The places of the names and strings of a listing in its text.
use Rattle.std.specs.Prelude.{◌≡◌, ℕ, ◌<◌, ◌≤◌, true, List, [], ◌∷◌, ◌++◌, All, length, Result, Err, ⊤}
use Rattle.asm_text.specs.declared.listing.Span.{Span}
use Rattle.asm_text.specs.declared.listing.Value.{Value}
use Rattle.asm_text.specs.declared.listing.Value.TheVariants as value
use Rattle.asm_text.specs.declared.listing.What.{What}
use Rattle.asm_text.specs.declared.listing.What.TheVariants as what
use Rattle.asm_text.specs.declared.listing.Item.{Item}
use Rattle.asm_text.specs.declared.source.SourceFault.{SourceFault}
use Rattle.asm_text.specs.declared.source.SourceRefusal.{SourceRefusal}
use Rattle.asm_text.specs.declared.source.SourceRefusal.TheVariants.{Fault, NoMemory}
use Rattle.asm_text.specs.Tokens.{is_word, is_string}
use Rattle.asm_text.specs.Lines.{slice_of}
use Rattle.asm_text.specs.Statements.{is_label_name}

-- the place of the name that a value is
abbrev pub value_spans : Value → List Span
value_spans (value.Number n) = []
value_spans (value.Name span) = span ∷ []

-- the places of the names of an item, and that of its string
abbrev pub names_of : What → List Span
names_of (what.Label name) = name ∷ []
names_of (what.Segment at rights) = []
names_of (what.Entry name) = name ∷ []
names_of (what.Bytes size value) = value_spans value
names_of (what.Ascii text) = []
names_of (what.Space count) = []
names_of (what.Align to) = []
names_of (what.Bss count) = []
names_of (what.Cap base length offset perms) = base ∷ []
names_of (what.Instr instr value) = value_spans value

abbrev pub strings_of : What → List Span
strings_of (what.Ascii text) = text ∷ []
strings_of _ = []

-- those of all items, in order; an item has at most one
abbrev pub spans_of : List Item → List Span
spans_of [] = []
spans_of (item ∷ items) = (names_of item.what ++ strings_of item.what) ++ spans_of items

-- each lies behind the one before it, up to the end of the text
abbrev pub AreRising : ℕ → List Span → ℕ → Type 0
AreRising from [] end = from ≤ end
AreRising from (span ∷ spans) end = (from ≤ span.first) × (span.first < span.past) × AreRising span.past spans end

-- the text there is a label, or a string
abbrev pub IsName : List ℕ → Span → Type 0
IsName text span = (is_word (slice_of text span) ≡ true) × (is_label_name (slice_of text span) ≡ true)

abbrev pub IsString : List ℕ → Span → Type 0
IsString text span = is_string (slice_of text span) ≡ true

-- The spans of a listing rise in its text, and are the places of its names and strings there.
pub record HasSpans (text : List ℕ) (items : List Item) : Type 0 where
  pub rising : AreRising 0 (spans_of items) (length text)
  pub names : All (λ item. All (IsName text) (names_of item.what)) items
  pub strings : All (λ item. All (IsString text) (strings_of item.what)) items

-- what is read or made of a source is refused by its fault, but for want of memory
abbrev pub IsRefusedAs : {A : Type 0} → Result A SourceFault → SourceRefusal → Type 0
IsRefusedAs found (Fault fault) = found ≡ Err fault
IsRefusedAs found NoMemory = ⊤
