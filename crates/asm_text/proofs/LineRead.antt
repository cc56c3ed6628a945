-- What was read of a line is what the line says, or its fault.
use Rattle.std.proofs.Common.{◌≡◌, ◌∙◌, sym, ap, refl, subst, ℕ, true, false, List, Option, Some, None}
use Rattle.asm_text.specs.declared.listing.Item.{Item}
use Rattle.asm_text.specs.declared.source.SourceReason.TheVariants.{BadText, BadStatement}
use Rattle.asm_text.specs.Lines.{Line, lexed_line}
use Rattle.asm_text.specs.Source.{line_items, with_items, line_of}
use Rattle.asm_text.specs.Cursors.{Reading, HasRead, HasLine}

-- the items that were read
items-read : (found : Option (List Item)) (old new : List Item) → HasRead found old new true → HasLine (with_items found) old new None
items-read None old new read = absurd (let both : false ≡ true = sym read.is_are in cc)
items-read (Some items) old new read = (refl, read.items)

-- or that there are none
none-read : (found : Option (List Item)) (old new : List Item) → HasRead found old new false → HasLine (with_items found) old new (Some BadStatement)
none-read None old new read = refl
none-read (Some items) old new read = absurd (let both : false ≡ true = read.is_are in cc)

-- a line with bytes or tokens that are none
pub bad-text : (text : List ℕ) (number : ℕ) (line : Line) (start : Reading) (old new : List Item) → start ≡ record { text = text; left = lexed_line line } → start.left.whole ≡ false
    → HasLine (line_of text number line) old new (Some BadText)
unfolding line_of
bad-text text number line start old new begins bad =
    let whole : (lexed_line line).whole ≡ false = ap (λ (r : Reading). r.left.whole) (sym begins) ∙ bad in
    rw whole refl

-- a line of tokens that say these items
pub line-said : (text : List ℕ) (number : ℕ) (line : Line) (start : Reading) (old new : List Item) → start ≡ record { text = text; left = lexed_line line } → start.left.whole ≡ true
    → HasRead (line_items start.text number start.left.lexemes) old new true → HasLine (line_of text number line) old new None
unfolding line_of
line-said text number line start old new begins is read =
    let whole : (lexed_line line).whole ≡ true = ap (λ (r : Reading). r.left.whole) (sym begins) ∙ is in
    let here = subst (λ (r : Reading). HasRead (line_items r.text number r.left.lexemes) old new true) begins read in
    rw whole (items-read (line_items text number (lexed_line line).lexemes) old new here)

-- and one of tokens that say nothing
pub bad-statement : (text : List ℕ) (number : ℕ) (line : Line) (start : Reading) (old new : List Item) → start ≡ record { text = text; left = lexed_line line } → start.left.whole ≡ true
    → HasRead (line_items start.text number start.left.lexemes) old new false → HasLine (line_of text number line) old new (Some BadStatement)
unfolding line_of
bad-statement text number line start old new begins is read =
    let whole : (lexed_line line).whole ≡ true = ap (λ (r : Reading). r.left.whole) (sym begins) ∙ is in
    let here = subst (λ (r : Reading). HasRead (line_items r.text number r.left.lexemes) old new false) begins read in
    rw whole (none-read (line_items text number (lexed_line line).lexemes) old new here)
