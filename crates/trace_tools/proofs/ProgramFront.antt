-- The three lines before the words of a program are read as a segment, its entry and its label.
use Rattle.std.proofs.Common.{◌≡◌, ◌∙◌, ap, ap₂, refl, ℕ, ◌≤◌, List, [], ◌∷◌, ◌++◌, length, Ok, pos}
use Rattle.std.specs.Prelude.{All, codes}
use Rattle.riscv_decode.specs.RoundTrips.{WordsGoRound}
use Rattle.asm_text.specs.declared.listing.Item.{Item}
use Rattle.asm_text.specs.declared.listing.Span.{Span}
use Rattle.asm_text.specs.declared.listing.What.TheVariants.{Segment, Entry, Label}
use Rattle.asm_text.specs.Tokens.{lexeme_length}
use Rattle.asm_text.specs.Lines.{lines_from, lexed}
use Rattle.asm_text.specs.Source.{item, line_of, joined, of_lines, source_of}
use Rattle.asm_text.proofs.FirstLines.{line-of}
use Rattle.asm_text.proofs.SourceRead.{source-lines}
use Rattle.trace_tools.specs.Laws.{items_from, source, program_source, IsWord}
use Rattle.trace_tools.proofs.SourceLines.{lines-read}

-- the three lines before others
abbrev pub front : List ℕ → List ℕ
front rest = codes ".segment 0 rx\n.entry start\nstart:\n" ++ rest

-- the place of the name of the entry
abbrev entry-at : Span
entry-at = record { first = 21; past = 26 }

-- the place of the label
abbrev label-at : Span
label-at = record { first = 27; past = 32 }

-- the items of a program: theirs, and those of its words
abbrev pub program-items : List ℕ → List Item
program-items words = item 1 (Segment (pos 0) 5) ∷ item 2 (Entry entry-at) ∷ item 3 (Label label-at) ∷ items_from 4 words

-- they are lines
front-lines : (rest : List ℕ)
    → lines_from 0 (front rest) ≡ line-of 0 (codes ".segment 0 rx") ∷ line-of 14 (codes ".entry start") ∷ line-of 27 (codes "start:") ∷ lines_from 34 rest
front-lines rest = refl

-- and each says its item
first-line : (rest : List ℕ) → line_of (front rest) 1 (line-of 0 (codes ".segment 0 rx")) ≡ Ok (item 1 (Segment (pos 0) 5) ∷ [])
unfolding line_of lexed lexeme_length
first-line rest = refl

-- so does the second
second-line : (rest : List ℕ) → line_of (front rest) 2 (line-of 14 (codes ".entry start")) ≡ Ok (item 2 (Entry entry-at) ∷ [])
unfolding line_of lexed lexeme_length
second-line rest = refl

-- and the third
third-line : (rest : List ℕ) → line_of (front rest) 3 (line-of 27 (codes "start:")) ≡ Ok (item 3 (Label label-at) ∷ [])
unfolding line_of lexed lexeme_length
third-line rest = refl

-- So a program's source is read as these and the items of its words.
pub program-read : (round : WordsGoRound) (words : List ℕ) → All IsWord words → length (program_source words) ≤ 1048576 → source_of (program_source words) ≡ Ok (program-items words)
program-read round words small short =
    let text = program_source words in
    let rest = source words in
    let others = lines-read round text 4 34 words small refl in
    source-lines text short ∙ ap (of_lines text 1) (front-lines rest)
    ∙ ap₂ (joined 1) (first-line rest) (ap₂ (joined 2) (second-line rest) (ap₂ (joined 3) (third-line rest) others))
