-- The statements of words, one a line, are read as the items of the words.
use Rattle.std.proofs.Common.{◌≡◌, ◌∙◌, sym, ap, refl, ℕ, ◌+◌, ◌≤◌, true, List, [], ◌∷◌, ◌++◌, length, drop, Option, Some, None, Ok, pos, append_assoc}
use Rattle.std.specs.Prelude.{All, codes}
use Rattle.std.proofs.lemmas.List.Elements.{All-head, All-tail}
use Rattle.riscv_decode.specs.declared.instr.Instr.{Instr}
use Rattle.riscv_decode.specs.declared.instr.Instr.TheVariants.{Reg}
use Rattle.riscv_decode.specs.Decoded.{decoded}
use Rattle.riscv_decode.specs.RoundTrips.{WordsGoRound}
use Rattle.asm_text.specs.declared.listing.What.TheVariants as what
use Rattle.asm_text.specs.declared.listing.Value.TheVariants.{Number}
use Rattle.asm_text.specs.Lines.{lines_from, lexed}
use Rattle.asm_text.specs.Statements.{with_registers}
use Rattle.asm_text.specs.Source.{item, line_items, with_items, of_lexed, line_of, joined, of_lines, source_of}
use Rattle.asm_text.proofs.FirstLines.{line-of}
use Rattle.asm_text.proofs.SourceRead.{source-lines}
use Rattle.asm_image.specs.Values.{with_immediate}
use Rattle.trace_tools.specs.Statements.{text_of, statement}
use Rattle.trace_tools.specs.Laws.{immediate_of, what_of, items_from, source, IsWord}
use Rattle.trace_tools.proofs.Parts.{Piece, text-of, lexemes-from, no-feed, AreParts, lexed-parts, parts-unbroken}
use Rattle.trace_tools.proofs.PartsRead.{drop-part}
use Rattle.trace_tools.proofs.InstrParts.{instr-pieces, instr-text, operands-of}
use Rattle.trace_tools.proofs.InstrTokens.{instr-parts}
use Rattle.trace_tools.proofs.InstrLines.{instr-items, data-pieces, data-text, data-parts, data-items}
use Rattle.trace_tools.proofs.FedLines.{first-fed}

-- an instruction with its own operands, as the statement says it
said-own : (instr : Instr) → what.Instr (with_registers instr (operands-of instr)) (operands-of instr).value ≡ what.Instr (with_immediate instr (pos 0)) (Number (immediate_of instr))
said-own (Reg op rd rs1 rs2) = refl
said-own _ = refl

-- the tokens of a word's statement
abbrev pieces-found : Option Instr → ℕ → List Piece
pieces-found (Some instr) word = instr-pieces instr
pieces-found None word = data-pieces word

-- they are its statement
text-found : (found : Option Instr) (word : ℕ) → text-of (pieces-found found word) ≡ text_of found word
text-found (Some instr) word = instr-text instr
text-found None word = data-text word

module _ (round : WordsGoRound) where
  -- they are found
  parts-found : (found : Option Instr) (word : ℕ) → decoded word ≡ found → IsWord word → AreParts (pieces-found found word)
  parts-found (Some instr) word is small = instr-parts instr (round.decoded word instr small is).0
  parts-found None word is small = data-parts word small

  -- and say the word's item
  items-found : (text behind : List ℕ) (number place : ℕ) (found : Option Instr) (word : ℕ) → decoded word ≡ found → IsWord word → drop place text ≡ text-of (pieces-found found word) ++ behind
      → line_items text number (lexemes-from place (pieces-found found word)) ≡ Some (item number (what_of found word) ∷ [])
  items-found text behind number place (Some instr) word is small there =
      instr-items text behind number place instr (round.decoded word instr small is).0 there ∙ ap (λ w. Some (item number w ∷ [])) (said-own instr)
  items-found text behind number place None word is small there = data-items text behind number place word there

  -- the statement of a word has no line feed
  statement-unbroken : (word : ℕ) → IsWord word → no-feed (statement word) ≡ true
  unfolding statement
  statement-unbroken word small =
      ap no-feed (sym (text-found (decoded word) word)) ∙ parts-unbroken (pieces-found (decoded word) word) (parts-found (decoded word) word refl small)

  -- and as a line it says the word's item
  statement-read : (text behind : List ℕ) (number place word : ℕ) → IsWord word → drop place text ≡ statement word ++ behind
      → line_of text number (line-of place (statement word)) ≡ Ok (item number (what_of (decoded word) word) ∷ [])
  unfolding statement line_of
  statement-read text behind number place word small there =
      let pieces = pieces-found (decoded word) word in
      let same = text-found (decoded word) word in
      let tokens : lexed place 0 (text_of (decoded word) word) ≡ record { lexemes = lexemes-from place pieces; whole = true } =
      ap (lexed place 0) (sym same) ∙ lexed-parts place pieces (parts-found (decoded word) word refl small) in
      let items = items-found text behind number place (decoded word) word refl small (there ∙ ap (λ bytes. bytes ++ behind) (sym same)) in
      ap (of_lexed text number) tokens ∙ ap with_items items

  -- So the lines of words are read from any place on, and with any number.
  pub lines-read : (text : List ℕ) (number place : ℕ) (words : List ℕ) → All IsWord words → drop place text ≡ source words
      → of_lines text number (lines_from place (source words)) ≡ Ok (items_from number words)
  lines-read text number place [] small there = refl
  lines-read text number place (word ∷ words) small there =
      let here = All-head IsWord word words small in
      let apart : source (word ∷ words) ≡ statement word ++ (10 ∷ source words) = append_assoc (statement word) (codes "\n") (source words) in
      let behind : drop (place + length (statement word)) text ≡ 10 ∷ source words = drop-part text place (statement word) (10 ∷ source words) (there ∙ apart) in
      let next : drop (place + length (statement word) + 1) text ≡ source words = drop-part text (place + length (statement word)) (10 ∷ []) (source words) behind in
      let lines : lines_from place (source (word ∷ words)) ≡ line-of place (statement word) ∷ lines_from (place + length (statement word) + 1) (source words) =
      ap (lines_from place) apart ∙ first-fed place (statement word) (source words) (statement-unbroken word here) in
      let first = statement-read text (10 ∷ source words) number place word here (there ∙ apart) in
      let rest = lines-read text (number + 1) (place + length (statement word) + 1) words (All-tail IsWord word words small) next in
      ap (of_lines text number) lines
      ∙ ap (λ items. joined number items (of_lines text (number + 1) (lines_from (place + length (statement word) + 1) (source words)))) first
      ∙ ap (joined number (Ok (item number (what_of (decoded word) word) ∷ []))) rest

  -- The statements of words are read as their items.
  pub source-read : (words : List ℕ) → All IsWord words → length (source words) ≤ 1048576 → source_of (source words) ≡ Ok (items_from 1 words)
  source-read words small short = source-lines (source words) short ∙ lines-read (source words) 1 0 words small refl
