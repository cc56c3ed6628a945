-- The words of a program are assembled to a file with just these words.
use Rattle.std.proofs.Common.{◌≡◌, ◌≢◌, ◌∙◌, ap, ap₂, refl, ℕ, ◌+◌, ◌<◌, ◌≤◌, ◌^◌, true, false, ltb, List, [], ◌∷◌, ◌++◌, length, Option, Some, None, Ok, w32, lt-ltb, arith}
use Rattle.std.specs.Prelude.{All, flat_map, unwrap_or, codes}
use Rattle.std.specs.Int.{to_le_bytes}
use Rattle.std.proofs.lemmas.Bool.{or_left}
use Rattle.cap_format.specs.Numbers.{page_bytes}
use Rattle.cap_format.specs.SetBounds.{up_to}
use Rattle.cap_format.specs.declared.image.Relocation.{Relocation}
use Rattle.riscv_decode.specs.RoundTrips.{WordsGoRound}
use Rattle.asm_text.specs.declared.source.SourceReason.TheVariants.{NoEntry}
use Rattle.asm_image.specs.Faults.{need◌else◌on◌, least_fault, or_else}
use Rattle.asm_image.specs.Labels.{offsets_in, entry_in}
use Rattle.asm_image.specs.Rules.{places_rules, names_rules, values_rules}
use Rattle.asm_image.specs.Program.{Segment, Program, file_of}
use Rattle.asm_image.specs.Assembled.{segments_in, program_of, relocations_from, place_fault, value_fault, is_start, entry_fault, fault_of, file_or, assembled, assembled_or, file_from}
use Rattle.asm_image.proofs.FoundRules.{found-met}
use Rattle.trace_tools.specs.Laws.{program_source, code_of, IsWord}
use Rattle.trace_tools.proofs.WordRules.{met-both, opened, places-met, names-met, values-met}
use Rattle.trace_tools.proofs.WordSegments.{filled-with, words-fill, words-unmoved}
use Rattle.trace_tools.proofs.ProgramFront.{program-items, program-read}

module _ (round : WordsGoRound) (words : List ℕ) (small : All IsWord words) where
  -- the label of a program is the place of its entry, 0
  entry-known : entry_in (program_source words) (offsets_in (program_source words) (program-items words)) (program-items words) ≡ Some 0
  unfolding offsets_in
  entry-known = refl

  -- its segment has the words' bytes
  segments-are : segments_in (program_source words) (program-items words) ≡ filled-with (flat_map (to_le_bytes w32) words)
  segments-are = words-fill round (program_source words) (offsets_in (program_source words) (program-items words)) 4 words 0 false [] small

  -- and there are no relocations
  relocations-are : relocations_from (program_source words) (offsets_in (program_source words) (program-items words)) None (program-items words) ≡ []
  relocations-are = words-unmoved (program_source words) (offsets_in (program_source words) (program-items words)) 4 words (Some (opened 0 false))

  -- so it comes to the program of the words
  program-is : program_of (program_source words) (program-items words) ≡ code_of words
  unfolding program_of
  program-is =
      let with = λ (segments : List Segment) (relocations : List Relocation) (entry : Option ℕ).
      let p : Program = record { segments = segments; relocations = relocations; entry = unwrap_or entry 0 } in p in
      ap₂ (λ s r. with s r (entry_in (program_source words) (offsets_in (program_source words) (program-items words)) (program-items words))) segments-are relocations-are
      ∙ ap (with (filled-with (flat_map (to_le_bytes w32) words)) []) entry-known

-- a segment of some words holds the entry
words-hold : (words : List ℕ) → words ≢ [] → is_start (filled-with (flat_map (to_le_bytes w32) words)) (Some 0) ≡ true
words-hold [] some = absurd (some refl)
words-hold (word ∷ words) some =
    let bytes = flat_map (to_le_bytes w32) (word ∷ words) in
    let end : 0 < up_to (0 + (length bytes + 0)) page_bytes = omega arith in
    or_left (ltb 0 (up_to (0 + (length bytes + 0)) page_bytes)) false (lt-ltb 0 (up_to (0 + (length bytes + 0)) page_bytes) end)

module _ (round : WordsGoRound) (words : List ℕ) (small : All IsWord words) (some : words ≢ []) (few : length words ≤ 2 ^ 18) where
  -- the places keep their rules
  no-place : place_fault (program_source words) (program-items words) ≡ None
  no-place =
      let text = program_source words in
      let places = places-met text 1 4 words 0 false (λ none. absurd (some none)) refl (omega arith) in
      let names = names-met text (codes "start" ∷ []) true 4 words in
      found-met None (places_rules text 0 None (program-items words) ++ names_rules text [] false (program-items words))
      (met-both (places_rules text 0 None (program-items words)) (names_rules text [] false (program-items words)) (refl, (refl, places)) (refl, (refl, names)))

  -- the values keep theirs
  no-value : value_fault (program_source words) (program-items words) ≡ None
  unfolding offsets_in
  no-value =
      let text = program_source words in
      found-met None (values_rules text (offsets_in text (program-items words)) None (program-items words))
      (refl, values-met round text (offsets_in text (program-items words)) 4 words (Some (opened 0 false)) small)

  -- and the entry stands on the segment
  no-entry : entry_fault (program_source words) (program-items words) ≡ None
  no-entry =
      let start : is_start (segments_in (program_source words) (program-items words)) (entry_in (program_source words) (offsets_in (program_source words) (program-items words)) (program-items words)) ≡ true =
      ap₂ is_start (segments-are round words small) (entry-known round words small) ∙ words-hold words some in
      ap (λ holds. least_fault ((need holds else NoEntry on 0) ∷ [])) start

  -- so there is no fault
  no-fault : fault_of (program_source words) (program-items words) ≡ None
  unfolding fault_of
  no-fault = ap₂ or_else no-place (ap₂ or_else no-value no-entry)

  -- The words are assembled to a file with just these words.
  pub words-assembled : length (program_source words) ≤ 1048576 → file_from (program_source words) ≡ Ok (file_of (code_of words))
  unfolding file_from assembled
  words-assembled short =
      let text = program_source words in
      ap (assembled_or text) (program-read round words small short)
      ∙ ap₂ file_or no-fault (ap file_of (program-is round words small))
