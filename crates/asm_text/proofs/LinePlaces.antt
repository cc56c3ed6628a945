-- The lines of a text stand one behind another in it.
use Rattle.std.proofs.Common.{◌≡◌, ◌∙◌, sym, ap, refl, ℕ, suc, ◌+◌, ◌<◌, ◌≤◌, eqb, List, [], ◌∷◌, ◌++◌, length, drop, inl, inr, arith, length-drop}
use Rattle.std.proofs.lemmas.Bool.{cases_Bool}
use Rattle.asm_text.specs.Lines.{Line, begun, lines_from}
use Rattle.asm_text.proofs.LexemePlaces.{behind-byte}

-- a line's bytes stand at its place
pub record IsLineAt (text : List ℕ) (place : ℕ) (line : Line) : Type 0 where
  pub place-is : line.place ≡ place
  pub more : List ℕ
  pub stands : drop place text ≡ line.bytes ++ more
  pub within : place + length line.bytes ≤ length text

-- each line begins behind the byte behind the one before it
abbrev pub AreLinesAt : List ℕ → ℕ → List Line → Type 0
AreLinesAt text place [] = Unit {0}
AreLinesAt text place (line ∷ lines) = IsLineAt text place line × AreLinesAt text (place + length line.bytes + 1) lines

-- a byte before the lines
begun-at : (text : List ℕ) (place byte : ℕ) (rest : List ℕ) (lines : List Line) → drop place text ≡ byte ∷ rest → place < length text → AreLinesAt text (place + 1) lines
    → AreLinesAt text place (begun place byte lines)
begun-at text place byte rest [] stand within are = (record { place-is = refl; more = rest; stands = stand; within = omega arith }, tt)
begun-at text place byte rest (line ∷ lines) stand within are =
    let same : rest ≡ line.bytes ++ are.0.more = sym (behind-byte text place byte rest stand) ∙ are.0.stands in
    let next : place + suc (length line.bytes) + 1 ≡ place + 1 + length line.bytes + 1 = omega arith in
    (record { place-is = refl; more = are.0.more; stands = stand ∙ ap (λ x. byte ∷ x) same; within = omega (arith, are.0.within) }, rw next are.1)

-- The lines of a text do.
pub lines-at : (text : List ℕ) (place : ℕ) (rest : List ℕ) → drop place text ≡ rest → AreLinesAt text place (lines_from place rest)
lines-at text place [] stand = tt
lines-at text place (byte ∷ rest) stand =
    let some : place < length text = omega (arith, length-drop place text, ap length stand) in
    let behind = lines-at text (place + 1) rest (behind-byte text place byte rest stand) in
    elim (cases_Bool (eqb byte 10)) [
      | inl feed ↦
          let here : place + 0 ≡ place = omega arith in
          rw (feed, here) (record { place-is = refl; more = byte ∷ rest; stands = stand; within = omega arith }, behind)
      | inr other ↦ rw other (begun-at text place byte rest (lines_from (place + 1) rest) stand some behind)
    ]
