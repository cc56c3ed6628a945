-- The names and strings of a source stand at their places in it.
use Rattle.std.proofs.Common.{◌≡◌, sym, ap, refl, subst, ℕ, ◌+◌, ◌≤◌, Bool, true, false, cond, List, [], ◌∷◌, ◌++◌, Option, Some, None, Result, Ok, Err, length, arith}
use Rattle.asm_text.specs.declared.listing.Item.{Item}
use Rattle.asm_text.specs.declared.source.SourceFault.{SourceFault}
use Rattle.asm_text.specs.declared.source.SourceReason.{SourceReason}
use Rattle.asm_text.specs.declared.source.SourceReason.TheVariants.{BadText}
use Rattle.asm_text.specs.Lines.{Line, lexed, lexed_line, lines_from}
use Rattle.asm_text.specs.Source.{line_items, with_items, line_of, joined, of_lines, source_of}
use Rattle.asm_text.specs.Spans.{HasSpans}
use Rattle.asm_text.proofs.SourceRead.{source-read}
use Rattle.asm_text.proofs.LexemePlaces.{AreLexemes, lexed-places}
use Rattle.asm_text.proofs.LinePlaces.{IsLineAt, AreLinesAt, lines-at}
use Rattle.asm_text.proofs.RisingSpans.{AreSpanned, spanned-none, spanned-append, spanned-within}
use Rattle.asm_text.proofs.ItemPlaces.{line-places}

-- the items of a line that says some
items-said : (found : Option (List Item)) (items : List Item) → with_items found ≡ Ok items → found ≡ Some items
items-said None items is = cc
items-said (Some said) items is = let same : said ≡ items = cc in ap Some same

-- and of one whose tokens say some
lexed-said : (whole : Bool) (found : Option (List Item)) (items : List Item) → cond whole (with_items found) (Err BadText) ≡ Ok items → found ≡ Some items
lexed-said true found items is = items-said found items is
lexed-said false found items is = cc

-- a line's tokens stand in it
line-lexed : (text : List ℕ) (place : ℕ) (line : Line) → IsLineAt text place line → AreLexemes text place (lexed_line line).lexemes (place + length line.bytes)
line-lexed text place line at =
    let start : place + 0 ≡ place = omega arith in
    let lexed-there = lexed-places text place 0 line.bytes at.more at.stands (omega arith) in
    subst (λ p. AreLexemes text place (lexed p 0 line.bytes).lexemes (place + length line.bytes)) (sym at.place-is) (rw start at lexed-there)

-- and so do the names and strings of its items
line-spans : (text : List ℕ) (number place : ℕ) (line : Line) (items : List Item) → IsLineAt text place line → line_of text number line ≡ Ok items → AreSpanned text place items (place + length line.bytes)
unfolding line_of
line-spans text number place line items at is =
    line-places text number place (lexed_line line).lexemes items (place + length line.bytes) (line-lexed text place line at)
    (lexed-said (lexed_line line).whole (line_items text number (lexed_line line).lexemes) items is)

-- what a line and the others say
record AreJoined (said : Result (List Item) SourceReason) (rest : Result (List Item) SourceFault) (items : List Item) : Type 0 where
  first : List Item
  others : List Item
  said-is : said ≡ Ok first
  rest-is : rest ≡ Ok others
  are : first ++ others ≡ items

-- where they say items each of them does
joined-parts : (number : ℕ) (said : Result (List Item) SourceReason) (rest : Result (List Item) SourceFault) (items : List Item) → joined number said rest ≡ Ok items → AreJoined said rest items
joined-parts number (Err reason) rest items is = cc
joined-parts number (Ok first) (Err later) items is = cc
joined-parts number (Ok first) (Ok others) items is = record { first = first; others = others; said-is = refl; rest-is = refl; are = cc }

-- the items of lines
lines-spans : (text : List ℕ) (number from place : ℕ) (lines : List Line) (items : List Item) → from ≤ place → from ≤ length text → AreLinesAt text place lines → of_lines text number lines ≡ Ok items
    → AreSpanned text from items (length text)
lines-spans text number from place [] items low within at is =
    let none : [] ≡ items = cc in
    subst (λ (x : List Item). AreSpanned text from x (length text)) none (spanned-none text from (length text) within)
lines-spans text number from place (line ∷ lines) items low within at is =
    let parts = joined-parts number (line_of text number line) (of_lines text (number + 1) lines) items is in
    let end = place + length line.bytes in
    let here = line-spans text number place line parts.first at.0 parts.said-is in
    let behind = lines-spans text (number + 1) end (end + 1) lines parts.others (omega arith) at.0.within at.1 parts.rest-is in
    let both = spanned-within text from place (parts.first ++ parts.others) (length text) low (spanned-append text place parts.first parts.others end (length text) here behind) in
    subst (λ (x : List Item). AreSpanned text from x (length text)) parts.are both

-- The items of a source.
pub source-spans : (text : List ℕ) (items : List Item) → source_of text ≡ Ok items → HasSpans text items
source-spans text items is =
    let spanned = lines-spans text 1 0 0 (lines_from 0 text) items (omega arith) (omega arith) (lines-at text 0 text refl) (source-read text items is) in
    record { rising = spanned.rising; names = spanned.names; strings = spanned.strings }
