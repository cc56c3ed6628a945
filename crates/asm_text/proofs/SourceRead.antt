-- The lines of a source that are read one after another.
use Rattle.std.proofs.Common.{◌≡◌, sym, ap, refl, ℕ, ◌≤◌, Bool, true, false, ltb, cond, List, [], ◌++◌, Some, None, Result, Ok, Err, length, drop, append_assoc, append-nil, arith}
use Rattle.std.proofs.lemmas.List.{drop_all}
use Rattle.std.proofs.lemmas.Bool.{lt-ltb, le-ltb}
use Rattle.asm_text.specs.declared.listing.Item.{Item}
use Rattle.asm_text.specs.declared.source.SourceFault.{SourceFault}
use Rattle.asm_text.specs.declared.source.SourceReason.{SourceReason}
use Rattle.asm_text.specs.declared.source.SourceReason.TheVariants.{TooLong}
use Rattle.asm_text.specs.Lines.{lines_from}
use Rattle.asm_text.specs.Source.{fault, joined, of_lines, source_of}
use Rattle.asm_text.specs.Cursors.{HasLine}

-- items before those that are said
abbrev pub put-before : List Item → Result (List Item) SourceFault → Result (List Item) SourceFault
put-before items (Ok rest) = Ok (items ++ rest)
put-before items (Err later) = Err later

-- before all others there are none
pub put-none : (found : Result (List Item) SourceFault) → put-before [] found ≡ found
put-none (Ok items) = refl
put-none (Err later) = refl

-- a source of more than so many bytes is too long
pub too-long : (text : List ℕ) → 1048577 ≤ length text → source_of text ≡ Err (fault 0 TooLong)
unfolding source_of
too-long text long = rw (lt-ltb 1048576 (length text) (omega arith)) refl

-- and any other is its lines
pub source-lines : (text : List ℕ) → length text ≤ 1048576 → source_of text ≡ of_lines text 1 (lines_from 0 text)
unfolding source_of
source-lines text short = rw (le-ltb 1048576 (length text) short) refl

-- lines that say items, where the text isn't too long
read-lines : (text : List ℕ) (items : List Item) (long : Bool) → cond long (Err (fault 0 TooLong)) (of_lines text 1 (lines_from 0 text)) ≡ Ok items → of_lines text 1 (lines_from 0 text) ≡ Ok items
read-lines text items true is = cc
read-lines text items false is = is

-- a source that says items is its lines
pub source-read : (text : List ℕ) (items : List Item) → source_of text ≡ Ok items → of_lines text 1 (lines_from 0 text) ≡ Ok items
unfolding source_of
source-read text items is = read-lines text items (ltb 1048576 (length text)) is

-- a line's items were put behind others
pub line-put : (number : ℕ) (line : Result (List Item) SourceReason) (rest : Result (List Item) SourceFault) (old new : List Item) → HasLine line old new None
    → put-before old (joined number line rest) ≡ put-before new rest
line-put number (Ok items) (Ok rest) old new has = ap Ok (rw has.1 (sym (append_assoc old items rest)))
line-put number (Ok items) (Err later) old new has = refl
line-put number (Err reason) rest old new has = cc

-- or a line has a fault
pub line-fault : (number : ℕ) (line : Result (List Item) SourceReason) (rest : Result (List Item) SourceFault) (old new : List Item) (reason : SourceReason) → HasLine line old new (Some reason)
    → put-before old (joined number line rest) ≡ Err (fault number reason)
line-fault number (Ok items) rest old new reason has = absurd (let none = has.0 in cc)
line-fault number (Err found) rest old new reason has = let same : reason ≡ found = cc in rw same refl

-- behind the end of the text there are no lines
pub all-lines : (text : List ℕ) (number at : ℕ) (items : List Item) → length text ≤ at → put-before items (of_lines text number (lines_from at (drop at text))) ≡ Ok items
all-lines text number at items past = rw (drop_all at text past, append-nil items) refl
