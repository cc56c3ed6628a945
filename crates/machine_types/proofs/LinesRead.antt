-- The list that lines are from a number on, and how a line adds to it.
use Rattle.std.proofs.Common.{◌≡◌, ◌∙◌, ℕ, ◌<◌, ◌≤◌, ◌+◌, ◌&&◌, leb, Bool, true, false, cond, refl, sym, ap}
use Rattle.std.proofs.Common.{Option, Some, None, Result, Ok, Err, List, [], ◌∷◌, ◌++◌, append_assoc, append-nil, length}
use Rattle.std.proofs.lemmas.Bool.{le-leb, lt-leb, lt-ltb, le-ltb}
use Rattle.machine_types.specs.Numbers.{most_lines, list_bytes}
use Rattle.machine_types.specs.NumberLists.{lines_of, entry_of, first_wrong, list_with, list_of}

-- the list that lines are, the first of which has a number
abbrev pub list_from : ℕ → ℕ → ℕ → List (List ℕ) → Result (List (ℕ × ℕ)) ℕ
list_from least most n lines = list_with least most lines (first_wrong least most n lines)

-- a list behind entries
abbrev pub joined : List (ℕ × ℕ) → Result (List (ℕ × ℕ)) ℕ → Result (List (ℕ × ℕ)) ℕ
joined entries (Ok list) = Ok (entries ++ list)
joined entries (Err n) = Err n

-- A line that says nothing is wrong.
pub wrong-line : (least most n : ℕ) (line : List ℕ) (lines : List (List ℕ)) → entry_of least most line ≡ None
    → list_from least most n (line ∷ lines) ≡ Err n
wrong-line least most n line lines nothing = rw nothing (by (leb n most_lines))
  where
    by : (few : Bool) → list_with least most (line ∷ lines) (cond (few && false) (first_wrong least most (n + 1) lines) (Some n)) ≡ Err n
    by true = refl
    by false = refl

-- A line too many is wrong.
pub late-line : (least most n : ℕ) (line : List ℕ) (lines : List (List ℕ)) → most_lines < n → list_from least most n (line ∷ lines) ≡ Err n
late-line least most n line lines late = rw (lt-leb n most_lines late) refl

-- A line in time that says something stands before what the others say.
pub right-line : (least most n : ℕ) (line : List ℕ) (lines : List (List ℕ)) (entry : ℕ × ℕ) → n ≤ most_lines → entry_of least most line ≡ Some entry
    → list_from least most n (line ∷ lines) ≡ joined (entry ∷ []) (list_from least most (n + 1) lines)
right-line least most n line lines entry few said = rw (le-leb n most_lines few, said) (by (first_wrong least most (n + 1) lines))
  where
    by : (wrong : Option ℕ) → list_with least most (line ∷ lines) wrong ≡ joined (entry ∷ []) (list_with least most lines wrong)
    by None = rw said refl
    by (Some place) = refl

-- what stands behind entries stands behind them one by one
joined-twice : (entries : List (ℕ × ℕ)) (entry : ℕ × ℕ) (list : Result (List (ℕ × ℕ)) ℕ) → joined entries (joined (entry ∷ []) list) ≡ joined (entries ++ (entry ∷ [])) list
joined-twice entries entry (Ok list) = ap (λ (all : List (ℕ × ℕ)). Ok all) (sym (append_assoc entries (entry ∷ []) list))
joined-twice entries entry (Err n) = refl

-- no entries stand before a list
pub joined-none : (list : Result (List (ℕ × ℕ)) ℕ) → list ≡ joined [] list
joined-none (Ok list) = refl
joined-none (Err n) = refl

-- nothing stands behind all entries
pub joined-all : (entries : List (ℕ × ℕ)) (whole : Result (List (ℕ × ℕ)) ℕ) → whole ≡ joined entries (Ok []) → whole ≡ Ok entries
joined-all entries whole same = same ∙ ap (λ (all : List (ℕ × ℕ)). Ok all) (append-nil entries)

-- One line more is read.
pub line-read : (least most n : ℕ) (line : List ℕ) (lines : List (List ℕ)) (entry : ℕ × ℕ) (entries : List (ℕ × ℕ)) (whole : Result (List (ℕ × ℕ)) ℕ)
    → n ≤ most_lines → entry_of least most line ≡ Some entry → whole ≡ joined entries (list_from least most n (line ∷ lines))
    → whole ≡ joined (entries ++ (entry ∷ [])) (list_from least most (n + 1) lines)
line-read least most n line lines entry entries whole few said so_far =
    so_far ∙ ap (joined entries) (right-line least most n line lines entry few said) ∙ joined-twice entries entry (list_from least most (n + 1) lines)

-- The next line says nothing.
pub wrong-read : (least most n : ℕ) (line : List ℕ) (lines others : List (List ℕ)) (entries : List (ℕ × ℕ)) (whole : Result (List (ℕ × ℕ)) ℕ)
    → whole ≡ joined entries (list_from least most n lines) → lines ≡ line ∷ others → entry_of least most line ≡ None → whole ≡ Err n
wrong-read least most n line lines others entries whole so_far next nothing =
    so_far ∙ ap (joined entries) (ap (list_from least most n) next ∙ wrong-line least most n line others nothing)

-- There is a line too many.
pub late-read : (least most n : ℕ) (line : List ℕ) (lines others : List (List ℕ)) (entries : List (ℕ × ℕ)) (whole : Result (List (ℕ × ℕ)) ℕ)
    → whole ≡ joined entries (list_from least most n lines) → lines ≡ line ∷ others → most_lines < n → whole ≡ Err n
late-read least most n line lines others entries whole so_far next late =
    so_far ∙ ap (joined entries) (ap (list_from least most n) next ∙ late-line least most n line others late)

-- The list of a text that isn't too long is that of its lines.
pub short-text : (least most : ℕ) (text : List ℕ) → length text ≤ list_bytes → list_of least most text ≡ list_from least most 1 (lines_of text)
unfolding list_of
short-text least most text short = rw (le-ltb list_bytes (length text) short) refl

-- A longer text is wrong at line 0.
pub long-text : (least most : ℕ) (text : List ℕ) → list_bytes < length text → list_of least most text ≡ Err 0
unfolding list_of
long-text least most text long = rw (lt-ltb list_bytes (length text) long) refl
