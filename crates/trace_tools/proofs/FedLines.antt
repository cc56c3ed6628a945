-- The first line of a text ends at the first line feed.
use Rattle.std.proofs.Common.{◌≡◌, refl, ℕ, ◌+◌, true, List, [], ◌∷◌, ◌++◌, length, not, arith}
use Rattle.std.specs.Prelude.{◌==◌}
use Rattle.std.proofs.lemmas.Bool.{and_parts, not-true}
use Rattle.asm_text.specs.Lines.{lines_from}
use Rattle.asm_text.proofs.FirstLines.{line-of}
use Rattle.trace_tools.proofs.Parts.{no-feed}

-- bytes without a line feed, and one behind them, are the first line
pub first-fed : (place : ℕ) (bytes text : List ℕ) → no-feed bytes ≡ true → lines_from place (bytes ++ (10 ∷ text)) ≡ line-of place bytes ∷ lines_from (place + length bytes + 1) text
first-fed place [] text none = let same : place + 0 + 1 ≡ place + 1 = omega arith in rw same refl
first-fed place (byte ∷ bytes) text none =
    let parts = and_parts (not (byte == 10)) (no-feed bytes) none in
    let behind : place + 1 + length bytes + 1 ≡ place + length (byte ∷ bytes) + 1 = omega arith in
    rw (not-true (byte == 10) parts.0, first-fed (place + 1) bytes text parts.1, behind) refl
