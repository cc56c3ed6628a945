-- The numbers of a source are in their ranges.
use Rattle.std.proofs.Common.{◌≡◌, ℕ, ◌+◌, List, [], ◌∷◌, Option, Some, None, Result, Ok, Err}
use Rattle.std.specs.Prelude.{IfSome, IfOk}
use Rattle.std.proofs.lemmas.Bool.{cond_both}
use Rattle.std.proofs.lemmas.Result.{IfOk-at_ok}
use Rattle.std.proofs.lemmas.List.Elements.{All-append}
use Rattle.asm_text.specs.declared.listing.Item.{Item}
use Rattle.asm_text.specs.declared.source.SourceFault.{SourceFault}
use Rattle.asm_text.specs.declared.source.SourceReason.{SourceReason}
use Rattle.asm_text.specs.declared.source.SourceReason.TheVariants.{BadText}
use Rattle.asm_text.specs.Lines.{Line, lexed_line, lines_from}
use Rattle.asm_text.specs.Source.{line_items, with_items, line_of, joined, of_lines, source_of}
use Rattle.asm_text.specs.Ranges.{HasRanges}
use Rattle.asm_text.proofs.SourceRead.{source-read}
use Rattle.asm_text.proofs.TokenRanges.{lexed-range}
use Rattle.asm_text.proofs.ItemRanges.{AreRanged, ranged-none, line-ranged}

-- the items of a line that says some
items-ranged : (found : Option (List Item)) → IfSome found AreRanged → IfOk (with_items found) AreRanged
items-ranged None are = tt
items-ranged (Some items) are = are

-- those of a line
line-ok : (text : List ℕ) (number : ℕ) (line : Line) → IfOk (line_of text number line) AreRanged
unfolding line_of
line-ok text number line =
    let items = line_items text number (lexed_line line).lexemes in
    cond_both (lexed_line line).whole (with_items items) (Err BadText) (λ found. IfOk found AreRanged)
    (λ whole. items-ranged items (line-ranged text number (lexed_line line).lexemes (lexed-range line.place 0 line.bytes))) (λ other. tt)

-- those of a line and of the others
joined-ranged : (number : ℕ) (said : Result (List Item) SourceReason) (rest : Result (List Item) SourceFault) → IfOk said AreRanged → IfOk rest AreRanged → IfOk (joined number said rest) AreRanged
joined-ranged number (Err reason) rest first others = tt
joined-ranged number (Ok items) (Err later) first others = tt
joined-ranged number (Ok items) (Ok rest) first others = All-append (λ (item : Item). HasRanges item.what) items rest first others

-- those of lines
lines-ranged : (text : List ℕ) (number : ℕ) (lines : List Line) → IfOk (of_lines text number lines) AreRanged
lines-ranged text number [] = ranged-none
lines-ranged text number (line ∷ lines) =
    joined-ranged number (line_of text number line) (of_lines text (number + 1) lines) (line-ok text number line) (lines-ranged text (number + 1) lines)

-- The items of a source.
pub source-ranged : (text : List ℕ) (items : List Item) → source_of text ≡ Ok items → AreRanged items
source-ranged text items is = IfOk-at_ok AreRanged (source-read text items is) (lines-ranged text 1 (lines_from 0 text))
