-- The segment of the items of words has their bytes.
use Rattle.std.proofs.Common.{◌≡◌, ◌∙◌, ap, refl, ℕ, ◌+◌, Bool, true, List, [], ◌∷◌, ◌++◌, Option, Some, None, w32, append_assoc, append-nil}
use Rattle.std.specs.Prelude.{All, flat_map}
use Rattle.std.specs.Int.{to_le_bytes}
use Rattle.std.proofs.lemmas.List.Elements.{All-head, All-tail}
use Rattle.riscv_decode.specs.declared.instr.Instr.{Instr}
use Rattle.riscv_decode.specs.Decoded.{decoded}
use Rattle.riscv_decode.specs.RoundTrips.{WordsGoRound}
use Rattle.asm_text.specs.Source.{item}
use Rattle.asm_image.specs.declared.place.OpenSegment.{OpenSegment}
use Rattle.asm_image.specs.Places.{place_in, open_after}
use Rattle.asm_image.specs.Labels.{Offsets}
use Rattle.asm_image.specs.Program.{Segment}
use Rattle.asm_image.specs.Assembled.{segments_from, relocation_of, relocations_from}
use Rattle.trace_tools.specs.Laws.{what_of, items_from, IsWord}
use Rattle.trace_tools.proofs.ValuesGoBack.{value-same}
use Rattle.trace_tools.proofs.WordRules.{opened, word-begins, word-opens}

-- the segment of these bytes
abbrev pub filled-with : List ℕ → List Segment
filled-with bytes = record { start = 0; rights = 5; bytes = bytes; bss = 0 } ∷ []

-- behind some bytes the words put theirs
pub words-fill : (round : WordsGoRound) (text : List ℕ) (offsets : Offsets) (line : ℕ) (words : List ℕ) (size : ℕ) (counts : Bool) (bytes : List ℕ) → All IsWord words
    → segments_from text offsets (Some (opened size counts)) bytes (items_from line words) ≡ filled-with (bytes ++ flat_map (to_le_bytes w32) words)
words-fill round text offsets line [] size counts bytes small = rw (append-nil bytes) refl
words-fill round text offsets line (word ∷ words) size counts bytes small =
    let here = value-same round text offsets (place_in (Some (opened size counts))) word (All-head IsWord word words small) in
    let rest = words-fill round text offsets (line + 1) words (size + 4) true (bytes ++ to_le_bytes w32 word) (All-tail IsWord word words small) in
    rw (word-opens text line word size counts, word-begins line (decoded word) word, here)
    (rest ∙ ap filled-with (append_assoc bytes (to_le_bytes w32 word) (flat_map (to_le_bytes w32) words)))

-- a word's item has no relocation
found-unmoved : (text : List ℕ) (offsets : Offsets) (at : ℕ) (found : Option Instr) (word : ℕ) → relocation_of text offsets at (what_of found word) ≡ []
found-unmoved text offsets at None word = refl
found-unmoved text offsets at (Some instr) word = refl

-- and neither have those of words
pub words-unmoved : (text : List ℕ) (offsets : Offsets) (line : ℕ) (words : List ℕ) (current : Option OpenSegment) → relocations_from text offsets current (items_from line words) ≡ []
words-unmoved text offsets line [] current = refl
words-unmoved text offsets line (word ∷ words) current =
    rw (found-unmoved text offsets (place_in current) (decoded word) word)
    (words-unmoved text offsets (line + 1) words (open_after text (item line (what_of (decoded word) word)) current))
