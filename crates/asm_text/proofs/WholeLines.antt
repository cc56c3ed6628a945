-- The lines of a text are that text, parted at its line feeds.
use Rattle.std.proofs.Common.{◌≡◌, sym, ap, refl, ℕ, ◌+◌, ◌<◌, Bool, true, false, not, eqb, List, [], ◌∷◌, ◌++◌, length, inl, inr, arith}
use Rattle.std.specs.Prelude.{◌==◌, All, flat_map}
use Rattle.std.proofs.lemmas.Bool.{cases_Bool, and_from, eqb-true}
use Rattle.std.proofs.lemmas.List.Elements.{All-nil, All-cons, All-head, All-tail}
use Rattle.asm_text.specs.Bytes.{are}
use Rattle.asm_text.specs.Lines.{Line, begun, lines_from}

-- the bytes of lines, each with a line feed behind it
abbrev fed : List Line → List ℕ
fed lines = flat_map (λ line. line.bytes ++ (10 ∷ [])) lines

-- a byte before the first line is one before their bytes
begun-fed : (place byte : ℕ) (lines : List Line) (text : List ℕ) → 0 < length text → fed lines ≡ text → fed (begun place byte lines) ≡ byte ∷ text
begun-fed place byte [] text some is = absurd (let none : length text ≡ 0 = ap length (sym is) in omega arith)
begun-fed place byte (line ∷ lines) text some is = ap (λ bytes. byte ∷ bytes) is

-- a text that ends in a line feed isn't empty
feed-some : (text : List ℕ) → 0 < length (text ++ (10 ∷ []))
feed-some [] = omega arith
feed-some (byte ∷ text) = omega arith

-- the lines of a text that ends in a line feed are that text
pub lines-whole : (place : ℕ) (text : List ℕ) → fed (lines_from place (text ++ (10 ∷ []))) ≡ text ++ (10 ∷ [])
lines-whole place [] = refl
lines-whole place (byte ∷ text) = elim (cases_Bool (eqb byte 10)) [
  | inl feed ↦
      let same : byte ≡ 10 = eqb-true byte 10 feed in
      rw (feed, same) (ap (λ bytes. 10 ∷ bytes) (lines-whole (place + 1) text))
  | inr other ↦ rw other (begun-fed place byte (lines_from (place + 1) (text ++ (10 ∷ []))) (text ++ (10 ∷ [])) (feed-some text) (lines-whole (place + 1) text))
]

-- bytes have no line feed
abbrev no-feed : List ℕ → Bool
no-feed bytes = are (λ byte. not (byte == 10)) bytes

-- and those of a line have none
abbrev is-unbroken : Line → Type 0
is-unbroken line = no-feed line.bytes ≡ true

-- bytes without one have none with another byte before them
unbroken-more : (byte : ℕ) (bytes : List ℕ) → eqb byte 10 ≡ false → no-feed bytes ≡ true → no-feed (byte ∷ bytes) ≡ true
unbroken-more byte bytes other is = and_from _ _ (ap not other) is

-- so a line stays without one when another byte begins it
begun-unbroken : (place byte : ℕ) (lines : List Line) → eqb byte 10 ≡ false → All is-unbroken lines → All is-unbroken (begun place byte lines)
begun-unbroken place byte [] other all = All-cons is-unbroken (record { place = place; bytes = byte ∷ [] }) [] (unbroken-more byte [] other refl) (All-nil is-unbroken)
begun-unbroken place byte (line ∷ lines) other all =
    All-cons is-unbroken (record { place = place; bytes = byte ∷ line.bytes }) lines
    (unbroken-more byte line.bytes other (All-head is-unbroken line lines all)) (All-tail is-unbroken line lines all)

-- no line of a text has one
pub lines-unbroken : (place : ℕ) (text : List ℕ) → All is-unbroken (lines_from place text)
lines-unbroken place [] = All-nil is-unbroken
lines-unbroken place (byte ∷ text) = elim (cases_Bool (eqb byte 10)) [
  | inl feed ↦ rw feed (All-cons is-unbroken (record { place = place; bytes = [] }) (lines_from (place + 1) text) refl (lines-unbroken (place + 1) text))
  | inr other ↦ rw other (begun-unbroken place byte (lines_from (place + 1) text) other (lines-unbroken (place + 1) text))
]
