-- The names and strings of a line's items stand where its tokens do.
use Rattle.std.proofs.Common.{◌≡◌, ◌∙◌, sym, ap, refl, subst, ℕ, ◌≤◌, true, List, [], ◌∷◌, Option, Some, None, inl, inr, ◌&&◌, append-nil, arith}
use Rattle.std.specs.Prelude.{option_map, option_and_then, is_some}
use Rattle.std.proofs.lemmas.Bool.{cases_Bool, and_parts, false≢true}
use Rattle.std.proofs.lemmas.Option.{option_and_then_some}
use Rattle.std.proofs.lemmas.List.Elements.{All-nil, All-cons}
use Rattle.asm_text.specs.declared.listing.Span.{Span}
use Rattle.asm_text.specs.declared.listing.What.{What}
use Rattle.asm_text.specs.declared.listing.What.TheVariants as what
use Rattle.asm_text.specs.declared.listing.Item.{Item}
use Rattle.asm_text.specs.declared.tokens.Lexeme.{Lexeme}
use Rattle.asm_text.specs.declared.statements.DataSize.{DataSize}
use Rattle.asm_text.specs.declared.statements.Statement.{Statement}
use Rattle.asm_text.specs.declared.statements.Statement.TheVariants as statement
use Rattle.asm_text.specs.declared.operands.Slot.TheVariants as slot
use Rattle.asm_text.specs.declared.operands.Operands.{Operands}
use Rattle.asm_text.specs.Source.{item, before, data_items, items_of, statement_items, line_items}
use Rattle.asm_text.specs.Statements.{bytes_of, statement_named, form_of, word_in, label_in, value_in, is_comma, is_colon, put, filled, no_operands, said}
use Rattle.asm_text.specs.Spans.{names_of, strings_of, value_spans, AreRising, IsName, IsString}
use Rattle.asm_text.proofs.LexemePlaces.{AreLexemes, lexemes-within}
use Rattle.asm_text.proofs.RisingSpans.{SaysSpans, AreSpanned, spanned-none, spanned-first, spanned-within}
use Rattle.asm_text.proofs.NamePlaces.{AreNames, names-none, names-within, label-name, label-stands, value-stands, string-stands}
use Rattle.asm_text.proofs.OperandPlaces.{filled-value, filled-label, filled-string}

-- what was made of something that was found
record IsMade {X Y : Type 0} (make : X → Y) (found : Option X) (made : Y) : Type 0 where
  of : X
  is : found ≡ Some of
  makes : make of ≡ made

-- what was made was made of something
made-of : {X Y : Type 0} (make : X → Y) (found : Option X) (made : Y) → option_map make found ≡ Some made → IsMade make found made
made-of make None made is = cc
made-of make (Some x) made is = record { of = x; is = refl; makes = cc }

-- an item with names alone
says-names : (text : List ℕ) (from : ℕ) (says : What) (end : ℕ) → strings_of says ≡ [] → AreNames text from (names_of says) end → SaysSpans text from says end
says-names text from says end none are = record {
  rising = rw (none, append-nil (names_of says)) are.rising;
  names = are.names;
  strings = rw none (All-nil (IsString text));
}

-- the value of what fills a form, if it is a name
value-said : (text : List ℕ) (from : ℕ) (s : Statement) (lexemes : List Lexeme) (o : Operands) (end : ℕ) → AreLexemes text from lexemes end → filled text (form_of s) lexemes no_operands ≡ Some o
    → AreNames text from (value_spans o.value) end
value-said text from s lexemes o end lexed is =
    filled-value text from (form_of s) lexemes no_operands o from end (omega arith) (names-none text from from (omega arith)) lexed is

-- a label at the beginning of a form
label-said : (text : List ℕ) (from : ℕ) (lexeme : Lexeme) (lexemes : List Lexeme) (name : Span) (end : ℕ) → AreLexemes text from (lexeme ∷ lexemes) end → label_in text lexeme ≡ Some name
    → AreNames text from (name ∷ []) end
label-said text from lexeme lexemes name end lexed is =
    names-within text from from (name ∷ []) lexeme.span.past end (omega arith) (lexemes-within text lexeme.span.past lexemes end lexed.2) (label-stands text from lexeme name lexed.1 lexed.0 is)

-- a string alone
string-said : (text : List ℕ) (from : ℕ) (lexemes : List Lexeme) (o : Operands) (end : ℕ) → AreLexemes text from lexemes end → filled text (slot.Text ∷ []) lexemes no_operands ≡ Some o
    → SaysSpans text from (what.Ascii o.name) end
string-said text from [] o end lexed is = cc
string-said text from (lexeme ∷ []) o end lexed is =
    let some = option_and_then_some (filled text [] []) (put text slot.Text lexeme no_operands) o is (λ after put same. let equal : after ≡ o = cc in filled-string text lexeme no_operands o (put ∙ ap Some equal)) in
    let stands = string-stands text lexeme o.name lexed.1 some in
    record {
      rising = subst (λ span. AreRising from (span ∷ []) end) stands.0 (lexed.0, lexed.1.some, lexed.2);
      names = All-nil (IsName text);
      strings = All-cons (IsString text) o.name [] stands.1 (All-nil (IsString text));
    }
string-said text from (lexeme ∷ next ∷ lexemes) o end lexed is =
    option_and_then_some (filled text [] (next ∷ lexemes)) (put text slot.Text lexeme no_operands) o is (λ after put none. cc)

-- what a statement says by the tokens of its form
statement-said : (text : List ℕ) (from : ℕ) (s : Statement) (lexemes : List Lexeme) (o : Operands) (end : ℕ) → AreLexemes text from lexemes end → filled text (form_of s) lexemes no_operands ≡ Some o
    → SaysSpans text from (said s o) end
statement-said text from (statement.Instr instr) lexemes o end lexed is = says-names text from (said (statement.Instr instr) o) end refl (value-said text from (statement.Instr instr) lexemes o end lexed is)
statement-said text from statement.Segment lexemes o end lexed is = says-names text from (said statement.Segment o) end refl (names-none text from end (lexemes-within text from lexemes end lexed))
statement-said text from statement.Entry [] o end lexed is = cc
statement-said text from statement.Entry (lexeme ∷ lexemes) o end lexed is =
    says-names text from (said statement.Entry o) end refl (label-said text from lexeme lexemes o.name end lexed (filled-label text [] lexeme lexemes no_operands o refl is))
statement-said text from (statement.Data size) lexemes o end lexed is = says-names text from (said (statement.Data size) o) end refl (value-said text from (statement.Data size) lexemes o end lexed is)
statement-said text from statement.Ascii lexemes o end lexed is = string-said text from lexemes o end lexed is
statement-said text from statement.Space lexemes o end lexed is = says-names text from (said statement.Space o) end refl (names-none text from end (lexemes-within text from lexemes end lexed))
statement-said text from statement.Align lexemes o end lexed is = says-names text from (said statement.Align o) end refl (names-none text from end (lexemes-within text from lexemes end lexed))
statement-said text from statement.Bss lexemes o end lexed is = says-names text from (said statement.Bss o) end refl (names-none text from end (lexemes-within text from lexemes end lexed))
statement-said text from statement.Cap [] o end lexed is = cc
statement-said text from statement.Cap (lexeme ∷ lexemes) o end lexed is =
    says-names text from (said statement.Cap o) end refl (label-said text from lexeme lexemes o.name end lexed
    (filled-label text (slot.Comma ∷ slot.Length ∷ slot.Comma ∷ slot.Offset ∷ slot.Comma ∷ slot.Perms ∷ []) lexeme lexemes no_operands o refl is))

-- its item
other-items : (text : List ℕ) (line from : ℕ) (s : Statement) (lexemes : List Lexeme) (items : List Item) (end : ℕ) → AreLexemes text from lexemes end
    → option_map (λ operands. item line (said s operands) ∷ []) (filled text (form_of s) lexemes no_operands) ≡ Some items → AreSpanned text from items end
other-items text line from s lexemes items end lexed is =
    let made = made-of (λ operands. item line (said s operands) ∷ []) (filled text (form_of s) lexemes no_operands) items is in
    subst (λ (x : List Item). AreSpanned text from x end) made.makes
    (spanned-first text from (item line (said s made.of)) [] end end (statement-said text from s lexemes made.of end lexed made.is) (spanned-none text end end (omega arith)))

-- the values of data
data-places : (text : List ℕ) (line : ℕ) (size : DataSize) (from : ℕ) (lexemes : List Lexeme) (items : List Item) (end : ℕ) → AreLexemes text from lexemes end
    → data_items text line size lexemes ≡ Some items → AreSpanned text from items end
data-places text line size from [] items end lexed is = cc
data-places text line size from (lexeme ∷ []) items end lexed is =
    let made = made-of (λ value. item line (what.Bytes (bytes_of size) value) ∷ []) (value_in text lexeme) items is in
    let says = says-names text from (what.Bytes (bytes_of size) made.of) lexeme.span.past refl (value-stands text from lexeme made.of lexed.1 lexed.0 made.is) in
    subst (λ (x : List Item). AreSpanned text from x end) made.makes
    (spanned-first text from (item line (what.Bytes (bytes_of size) made.of)) [] lexeme.span.past end says (spanned-none text lexeme.span.past end lexed.2))
data-places text line size from (lexeme ∷ comma ∷ lexemes) items end lexed is = elim (cases_Bool (is_comma comma.token)) [
  | inr other ↦ absurd (let none = rw other at is in cc)
  | inl comes ↦ option_and_then_some (λ value. before (item line (what.Bytes (bytes_of size) value)) (data_items text line size lexemes)) (value_in text lexeme) items (rw comes at is)
      (λ value some makes.
      let made = made-of (λ (others : List Item). item line (what.Bytes (bytes_of size) value) ∷ others) (data_items text line size lexemes) items makes in
      let says = says-names text from (what.Bytes (bytes_of size) value) lexeme.span.past refl (value-stands text from lexeme value lexed.1 lexed.0 some) in
      let behind = data-places text line size comma.span.past lexemes made.of end lexed.2.2 made.is in
      let near : lexeme.span.past ≤ comma.span.past = omega (arith, lexed.2.0, lexed.2.1.some) in
      subst (λ (x : List Item). AreSpanned text from x end) made.makes
      (spanned-first text from (item line (what.Bytes (bytes_of size) value)) made.of lexeme.span.past end says (spanned-within text lexeme.span.past comma.span.past made.of end near behind)))
]

-- the items of a statement
items-places : (text : List ℕ) (line from : ℕ) (s : Statement) (lexemes : List Lexeme) (items : List Item) (end : ℕ) → AreLexemes text from lexemes end → items_of text line s lexemes ≡ Some items
    → AreSpanned text from items end
items-places text line from (statement.Data size) lexemes items end lexed is = data-places text line size from lexemes items end lexed is
items-places text line from (statement.Instr instr) lexemes items end lexed is = other-items text line from (statement.Instr instr) lexemes items end lexed is
items-places text line from statement.Segment lexemes items end lexed is = other-items text line from statement.Segment lexemes items end lexed is
items-places text line from statement.Entry lexemes items end lexed is = other-items text line from statement.Entry lexemes items end lexed is
items-places text line from statement.Ascii lexemes items end lexed is = other-items text line from statement.Ascii lexemes items end lexed is
items-places text line from statement.Space lexemes items end lexed is = other-items text line from statement.Space lexemes items end lexed is
items-places text line from statement.Align lexemes items end lexed is = other-items text line from statement.Align lexemes items end lexed is
items-places text line from statement.Bss lexemes items end lexed is = other-items text line from statement.Bss lexemes items end lexed is
items-places text line from statement.Cap lexemes items end lexed is = other-items text line from statement.Cap lexemes items end lexed is

-- with its name
statement-places : (text : List ℕ) (line from : ℕ) (lexeme : Lexeme) (lexemes : List Lexeme) (items : List Item) (end : ℕ) → AreLexemes text from (lexeme ∷ lexemes) end
    → statement_items text line (lexeme ∷ lexemes) ≡ Some items → AreSpanned text from items end
statement-places text line from lexeme lexemes items end lexed is =
    let near : from ≤ lexeme.span.past = omega (arith, lexed.0, lexed.1.some) in
    option_and_then_some (λ s. items_of text line s lexemes) (option_and_then statement_named (word_in text lexeme)) items is
    (λ s named makes. spanned-within text from lexeme.span.past items end near (items-places text line lexeme.span.past s lexemes items end lexed.2 makes))

-- a label that is there
some-label : (found : Option Span) → is_some found ≡ true → (name : Span) × (found ≡ Some name)
some-label None is = absurd (false≢true is)
some-label (Some name) is = (name, refl)

-- The items of a line.
pub line-places : (text : List ℕ) (line from : ℕ) (lexemes : List Lexeme) (items : List Item) (end : ℕ) → AreLexemes text from lexemes end → line_items text line lexemes ≡ Some items
    → AreSpanned text from items end
line-places text line from [] items end lexed is =
    let none : [] ≡ items = cc in
    subst (λ (x : List Item). AreSpanned text from x end) none (spanned-none text from end lexed)
line-places text line from (lexeme ∷ []) items end lexed is = statement-places text line from lexeme [] items end lexed is
line-places text line from (lexeme ∷ colon ∷ lexemes) items end lexed is = elim (cases_Bool (is_some (label_in text lexeme) && is_colon colon.token)) [
  | inr other ↦ statement-places text line from lexeme (colon ∷ lexemes) items end lexed (rw other at is)
  | inl both ↦
      let made = made-of (λ (others : List Item). item line (what.Label lexeme.span) ∷ others) (line_items text line lexemes) items (rw both at is) in
      let label = some-label (label_in text lexeme) (and_parts (is_some (label_in text lexeme)) (is_colon colon.token) both).0 in
      let same = (label-name text lexeme label.0 lexed.1 label.1).0 in
      let named = label-stands text from lexeme lexeme.span lexed.1 lexed.0 (label.1 ∙ ap Some (sym same)) in
      let says = says-names text from (what.Label lexeme.span) lexeme.span.past refl named in
      let behind = line-places text line colon.span.past lexemes made.of end lexed.2.2 made.is in
      let near : lexeme.span.past ≤ colon.span.past = omega (arith, lexed.2.0, lexed.2.1.some) in
      subst (λ (x : List Item). AreSpanned text from x end) made.makes
      (spanned-first text from (item line (what.Label lexeme.span)) made.of lexeme.span.past end says (spanned-within text lexeme.span.past colon.span.past made.of end near behind))
]
