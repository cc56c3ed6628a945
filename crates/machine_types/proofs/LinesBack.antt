-- The lines of the text of lines are these lines, with or without a last line feed.
use Rattle.std.proofs.Common.{◌≡◌, ◌≢◌, ◌∙◌, ℕ, eqb, false, List, [], ◌∷◌, ◌++◌, append_assoc, refl, ap}
use Rattle.std.specs.List.{All, AllByRecursion}
use Rattle.std.proofs.lemmas.Bool.{ne_eqb}
use Rattle.std.proofs.lemmas.List.Elements.{recursion_from_All, All-head, All-tail}
use Rattle.machine_types.specs.NumberLists.{lines_of, continued, text_of, IsLine}
use Rattle.machine_types.proofs.FirstPlaces.{last-line}

-- a line that a line feed ends, by recursion
ended-line : (line rest : List ℕ) → AllByRecursion (λ byte. byte ≢ 10) line → lines_of (line ++ (10 ∷ rest)) ≡ line ∷ lines_of rest
ended-line [] rest none = refl
ended-line (byte ∷ line) rest none =
    let other : eqb byte 10 ≡ false = ne_eqb byte 10 none.0 in
    rw other (ap (continued byte) (ended-line line rest none.1))

-- a line that a line feed ends
line-ended : (line rest : List ℕ) → IsLine line → lines_of (line ++ (10 ∷ rest)) ≡ line ∷ lines_of rest
line-ended line rest none = ended-line line rest (recursion_from_All (λ byte. byte ≢ 10) line none)

-- lines that each have a line feed at the end
pub lines-back : (lines : List (List ℕ)) → All IsLine lines → lines_of (text_of lines) ≡ lines
lines-back [] all = refl
lines-back (line ∷ lines) all =
    line-ended line (text_of lines) (All-head IsLine line lines all)
    ∙ ap (λ (others : List (List ℕ)). line ∷ others) (lines-back lines (All-tail IsLine line lines all))

-- a line alone, without a line feed
line-alone : (line : List ℕ) → IsLine line → line ≢ [] → lines_of line ≡ line ∷ []
line-alone [] none some = absurd (some refl)
line-alone (byte ∷ line) none some = last-line byte line (λ j below. none j 0 below)

-- lines, the last of which has no line feed
pub last-back : (lines : List (List ℕ)) (line : List ℕ) → All IsLine lines → IsLine line → line ≢ [] → lines_of (text_of lines ++ line) ≡ lines ++ (line ∷ [])
last-back [] line all none some = line-alone line none some
last-back (first ∷ lines) line all none some =
    ap lines_of (append_assoc first (10 ∷ text_of lines) line)
    ∙ line-ended first (text_of lines ++ line) (All-head IsLine first lines all)
    ∙ ap (λ (others : List (List ℕ)). first ∷ others) (last-back lines line (All-tail IsLine first lines all) none some)
