-- Spans that rise, and the items that have them.
use Rattle.std.proofs.Common.{◌≡◌, refl, ℕ, ◌≤◌, List, [], ◌∷◌, ◌++◌, append_assoc, arith}
use Rattle.std.specs.Prelude.{All}
use Rattle.std.proofs.lemmas.List.Elements.{All-nil, All-cons, All-append}
use Rattle.asm_text.specs.declared.listing.Span.{Span}
use Rattle.asm_text.specs.declared.listing.What.{What}
use Rattle.asm_text.specs.declared.listing.Item.{Item}
use Rattle.asm_text.specs.Spans.{names_of, strings_of, spans_of, AreRising, IsName, IsString}

-- spans that rise from a place on do so from one before it
pub rising-before : (from later : ℕ) (spans : List Span) (end : ℕ) → from ≤ later → AreRising later spans end → AreRising from spans end
rising-before from later [] end before rising = omega arith
rising-before from later (span ∷ spans) end before rising = (omega (arith, rising.0), rising.1, rising.2)

-- and up to a place behind
pub rising-behind : (from : ℕ) (spans : List Span) (end later : ℕ) → end ≤ later → AreRising from spans end → AreRising from spans later
rising-behind from [] end later behind rising = omega arith
rising-behind from (span ∷ spans) end later behind rising = (rising.0, rising.1, rising-behind span.past spans end later behind rising.2)

-- spans behind others
pub rising-append : (from : ℕ) (spans others : List Span) (middle end : ℕ) → AreRising from spans middle → AreRising middle others end → AreRising from (spans ++ others) end
rising-append from [] others middle end rising behind = rising-before from middle others end rising behind
rising-append from (span ∷ spans) others middle end rising behind = (rising.0, rising.1, rising-append span.past spans others middle end rising.2 behind)

-- the spans of some items and of others
pub spans-append : (items others : List Item) → spans_of (items ++ others) ≡ spans_of items ++ spans_of others
spans-append [] others = refl
spans-append (item ∷ items) others =
    rw (spans-append items others, append_assoc (names_of item.what ++ strings_of item.what) (spans_of items) (spans_of others)) refl

-- the names that an item says, and its string, stand in a part of the text
pub record SaysSpans (text : List ℕ) (from : ℕ) (what : What) (end : ℕ) : Type 0 where
  pub rising : AreRising from (names_of what ++ strings_of what) end
  pub names : All (IsName text) (names_of what)
  pub strings : All (IsString text) (strings_of what)

-- and so do those of items
pub record AreSpanned (text : List ℕ) (from : ℕ) (items : List Item) (end : ℕ) : Type 0 where
  pub rising : AreRising from (spans_of items) end
  pub names : All (λ item. All (IsName text) (names_of item.what)) items
  pub strings : All (λ item. All (IsString text) (strings_of item.what)) items

-- no items have none
pub spanned-none : (text : List ℕ) (from end : ℕ) → from ≤ end → AreSpanned text from [] end
spanned-none text from end within = record {
  rising = within;
  names = All-nil (λ (item : Item). All (IsName text) (names_of item.what));
  strings = All-nil (λ (item : Item). All (IsString text) (strings_of item.what));
}

-- an item before others
pub spanned-first : (text : List ℕ) (from : ℕ) (item : Item) (items : List Item) (middle end : ℕ) → SaysSpans text from item.what middle → AreSpanned text middle items end
    → AreSpanned text from (item ∷ items) end
spanned-first text from item items middle end says behind = record {
  rising = rising-append from (names_of item.what ++ strings_of item.what) (spans_of items) middle end says.rising behind.rising;
  names = All-cons (λ (item : Item). All (IsName text) (names_of item.what)) item items says.names behind.names;
  strings = All-cons (λ (item : Item). All (IsString text) (strings_of item.what)) item items says.strings behind.strings;
}

-- items before others
pub spanned-append : (text : List ℕ) (from : ℕ) (items others : List Item) (middle end : ℕ) → AreSpanned text from items middle → AreSpanned text middle others end
    → AreSpanned text from (items ++ others) end
spanned-append text from items others middle end spanned behind = record {
  rising = rw (spans-append items others) (rising-append from (spans_of items) (spans_of others) middle end spanned.rising behind.rising);
  names = All-append (λ (item : Item). All (IsName text) (names_of item.what)) items others spanned.names behind.names;
  strings = All-append (λ (item : Item). All (IsString text) (strings_of item.what)) items others spanned.strings behind.strings;
}

-- they stand in a greater part too
pub spanned-within : (text : List ℕ) (before from : ℕ) (items : List Item) (end : ℕ) → before ≤ from → AreSpanned text from items end → AreSpanned text before items end
spanned-within text before from items end within spanned = record {
  rising = rising-before before from (spans_of items) end within spanned.rising;
  names = spanned.names;
  strings = spanned.strings;
}
