-- The items of words keep the rules on places, names and values.
use Rattle.std.proofs.Common.{◌≡◌, refl, ℕ, ◌+◌, ◌*◌, ◌%◌, ◌≤◌, Bool, true, false, List, [], ◌∷◌, ◌++◌, length, Option, Some, None, le-leb, eq-eqb, arith}
use Rattle.std.specs.Prelude.{All}
use Rattle.std.proofs.lemmas.List.Elements.{All-head, All-tail}
use Rattle.riscv_decode.specs.declared.instr.Instr.{Instr}
use Rattle.riscv_decode.specs.Decoded.{decoded}
use Rattle.riscv_decode.specs.RoundTrips.{WordsGoRound}
use Rattle.asm_text.specs.Source.{item}
use Rattle.asm_image.specs.declared.place.OpenSegment.{OpenSegment}
use Rattle.asm_image.specs.Places.{place_in, begun_by, open_after}
use Rattle.asm_image.specs.Faults.{LineRule, AllMet}
use Rattle.asm_image.specs.Labels.{Offsets}
use Rattle.asm_image.specs.Rules.{rules_by, places_rules, name_rules, names_after, entry_after, names_rules, value_rules, values_rules}
use Rattle.trace_tools.specs.Laws.{what_of, items_from, IsWord}
use Rattle.trace_tools.proofs.ValuesGoBack.{value-fits}

-- rules that all hold, behind others that do
pub met-both : (first second : List LineRule) → AllMet first → AllMet second → AllMet (first ++ second)
met-both [] second here there = there
met-both (rule ∷ first) second here there = (here.0, met-both first second here.1 there)

-- the segment of the words, with so many bytes so far
abbrev pub opened : ℕ → Bool → OpenSegment
opened size counts = record { line = 1; start = 0; rights = 5; size = size; bss = 0; counts = counts; full = false }

-- a word's item begins no segment
pub word-begins : (line : ℕ) (found : Option Instr) (word : ℕ) → begun_by (item line (what_of found word)) ≡ None
word-begins line None word = refl
word-begins line (Some instr) word = refl

-- and adds its 4 bytes to the one that is open
found-opens : (text : List ℕ) (line : ℕ) (found : Option Instr) (word size : ℕ) (counts : Bool)
    → open_after text (item line (what_of found word)) (Some (opened size counts)) ≡ Some (opened (size + 4) true)
found-opens text line None word size true = refl
found-opens text line None word size false = refl
found-opens text line (Some instr) word size true = refl
found-opens text line (Some instr) word size false = refl

-- the same of what a word is found to be
pub word-opens : (text : List ℕ) (line word size : ℕ) (counts : Bool)
    → open_after text (item line (what_of (decoded word) word)) (Some (opened size counts)) ≡ Some (opened (size + 4) true)
word-opens text line word size counts = found-opens text line (decoded word) word size counts

-- it keeps the rules on its place
place-met : (text : List ℕ) (count line : ℕ) (found : Option Instr) (word size : ℕ) (counts : Bool) → size % 4 ≡ 0 → size + 4 ≤ 1048576
    → AllMet (rules_by text count (item line (what_of found word)) None (Some (opened size counts)))
place-met text count line None word size counts whole within = (refl, (refl, (eq-eqb _ 0 (omega arith), (le-leb _ _ (omega arith), tt))))
place-met text count line (Some instr) word size counts whole within = (refl, (refl, (eq-eqb _ 0 (omega arith), (le-leb _ _ (omega arith), tt))))

-- So the items of words do, where the segment has some bytes and no more than the region.
pub places-met : (text : List ℕ) (count line : ℕ) (words : List ℕ) (size : ℕ) (counts : Bool) → (words ≡ [] → counts ≡ true) → size % 4 ≡ 0 → size + 4 * length words ≤ 1048576
    → AllMet (places_rules text count (Some (opened size counts)) (items_from line words))
places-met text count line [] size counts some whole within = (some refl, tt)
places-met text count line (word ∷ words) size counts some whole within =
    let here = place-met text count line (decoded word) word size counts whole (omega arith) in
    let rest = places-met text count (line + 1) words (size + 4) true (λ _. refl) (omega arith) (omega arith) in
    rw (word-opens text line word size counts, word-begins line (decoded word) word)
    (met-both (rules_by text count (item line (what_of (decoded word) word)) None (Some (opened size counts)))
    (places_rules text count (Some (opened (size + 4) true)) (items_from (line + 1) words)) here rest)

-- A word's item has no name and is no entry.
found-unnamed : (text : List ℕ) (names : List (List ℕ)) (entry : Bool) (line : ℕ) (found : Option Instr) (word : ℕ)
    → (name_rules text names entry line (what_of found word) ≡ []) × (names_after text names (what_of found word) ≡ names) × (entry_after entry (what_of found word) ≡ entry)
found-unnamed text names entry line None word = (refl, refl, refl)
found-unnamed text names entry line (Some instr) word = (refl, refl, refl)

-- so they keep the rules on names
pub names-met : (text : List ℕ) (names : List (List ℕ)) (entry : Bool) (line : ℕ) (words : List ℕ) → AllMet (names_rules text names entry (items_from line words))
names-met text names entry line [] = tt
names-met text names entry line (word ∷ words) =
    let none = found-unnamed text names entry line (decoded word) word in
    rw (none.0, none.1, none.2) (names-met text names entry (line + 1) words)

-- Their values fit.
pub values-met : (round : WordsGoRound) (text : List ℕ) (offsets : Offsets) (line : ℕ) (words : List ℕ) (current : Option OpenSegment) → All IsWord words
    → AllMet (values_rules text offsets current (items_from line words))
values-met round text offsets line [] current small = tt
values-met round text offsets line (word ∷ words) current small =
    let behind = open_after text (item line (what_of (decoded word) word)) current in
    met-both (value_rules text offsets (place_in current) line (what_of (decoded word) word)) (values_rules text offsets behind (items_from (line + 1) words))
    (value-fits round text offsets (place_in current) word (All-head IsWord word words small) line)
    (values-met round text offsets (line + 1) words behind (All-tail IsWord word words small))
