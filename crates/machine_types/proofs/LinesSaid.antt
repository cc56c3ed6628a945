-- A list without a wrong line is what its lines say, and lines that all say something are one.
use Rattle.std.proofs.Common.{◌≡◌, ◌∙◌, ⊎_elim, ℕ, ◌≤◌, ◌<◌, ◌+◌, ◌&&◌, leb, true, false, is_some, IsSome, Option, Some, None, Ok, Err, List, [], ◌∷◌, map, length, refl, sym, ap, arith}
use Rattle.std.specs.List.{All}
use Rattle.std.proofs.lemmas.Bool.{cases_Bool, cases_lt, and_parts, leb-true, le-leb}
use Rattle.std.proofs.lemmas.List.Elements.{All-head, All-tail}
use Rattle.machine_types.specs.Numbers.{most_lines, list_bytes}
use Rattle.machine_types.specs.NumberLists.{lines_of, entry_of, with_entry, entries_of, first_wrong, list_with, list_of}
use Rattle.machine_types.proofs.LinesRead.{list_from, short-text, long-text}

-- the lines from a number on are few enough, and what is read is what each says
pub record AreAllRead (least most m : ℕ) (lines : List (List ℕ)) : Type 0 where
  pub few : length lines + m ≤ most_lines + 1
  pub said : map (λ entry. Some entry) (entries_of least most lines) ≡ map (entry_of least most) lines

-- what a line says stands before what the others say
said-more : (least most : ℕ) (line : List ℕ) (lines : List (List ℕ)) (entry : Option (ℕ × ℕ)) → is_some entry ≡ true → entry_of least most line ≡ entry
    → map (λ entry. Some entry) (entries_of least most lines) ≡ map (entry_of least most) lines
    → map (λ entry. Some entry) (with_entry entry (entries_of least most lines)) ≡ entry ∷ map (entry_of least most) lines
said-more least most line lines None some same rest = cc
said-more least most line lines (Some entry) some same rest = ap (λ (said : List (Option (ℕ × ℕ))). Some entry ∷ said) rest

-- Where no line is wrong, all are read.
pub none-wrong : (least most m : ℕ) (lines : List (List ℕ)) → m ≤ most_lines + 1 → first_wrong least most m lines ≡ None → AreAllRead least most m lines
none-wrong least most m [] begun none = record { few = omega arith; said = refl }
none-wrong least most m (line ∷ lines) begun none =
    ⊎_elim (λ passes. right passes (none-wrong least most (m + 1) lines)) wrong (cases_Bool (leb m most_lines && is_some (entry_of least most line)))
  where
    right : (leb m most_lines && is_some (entry_of least most line)) ≡ true
        → (m + 1 ≤ most_lines + 1 → first_wrong least most (m + 1) lines ≡ None → AreAllRead least most (m + 1) lines) → AreAllRead least most m (line ∷ lines)
    right passes others =
        let parts : (leb m most_lines ≡ true) × (is_some (entry_of least most line) ≡ true) = and_parts (leb m most_lines) (is_some (entry_of least most line)) passes in
        let early : m ≤ most_lines = leb-true m most_lines parts.0 in
        let rest : AreAllRead least most (m + 1) lines = others (omega arith) (rw passes at none) in
        record { few = omega (arith, rest.few); said = said-more least most line lines (entry_of least most line) parts.1 refl rest.said }

    wrong : (leb m most_lines && is_some (entry_of least most line)) ≡ false → AreAllRead least most m (line ∷ lines)
    wrong fails =
        let first : Some m ≡ None = rw fails at none in
        cc

-- A list that is read has no wrong line.
read-none : (least most : ℕ) (entries : List (ℕ × ℕ)) (lines : List (List ℕ)) (wrong : Option ℕ) → list_with least most lines wrong ≡ Ok entries → wrong ≡ None
read-none least most entries lines None read = refl
read-none least most entries lines (Some wrong) read = cc

-- A list that is read is what the lines say.
read-entries : (least most : ℕ) (entries : List (ℕ × ℕ)) (lines : List (List ℕ)) (wrong : Option ℕ) → list_with least most lines wrong ≡ Ok entries
    → entries_of least most lines ≡ entries
read-entries least most entries lines None read = cc
read-entries least most entries lines (Some wrong) read = cc

-- A text that is read isn't too long.
pub text-is-short : (least most : ℕ) (text : List ℕ) (entries : List (ℕ × ℕ)) → list_of least most text ≡ Ok entries → length text ≤ list_bytes
text-is-short least most text entries read = ⊎_elim long (λ short. short) (cases_lt list_bytes (length text))
  where
    long : list_bytes < length text → length text ≤ list_bytes
    long more =
        let refused : list_of least most text ≡ Err 0 = long-text least most text more in
        cc

-- Each line of a text that is read is read.
pub text-read : (least most : ℕ) (text : List ℕ) (entries : List (ℕ × ℕ)) → list_of least most text ≡ Ok entries
    → (length (lines_of text) ≤ most_lines) × (map (λ entry. Some entry) entries ≡ map (entry_of least most) (lines_of text))
text-read least most text entries read =
    let from : list_from least most 1 (lines_of text) ≡ Ok entries = sym (short-text least most text (text-is-short least most text entries read)) ∙ read in
    let all : AreAllRead least most 1 (lines_of text)
    = none-wrong least most 1 (lines_of text) (omega arith) (read-none least most entries (lines_of text) (first_wrong least most 1 (lines_of text)) from) in
    let same : entries_of least most (lines_of text) ≡ entries = read-entries least most entries (lines_of text) (first_wrong least most 1 (lines_of text)) from in
    (omega (arith, all.few), ap (map (λ (entry : ℕ × ℕ). Some entry)) (sym same) ∙ all.said)

-- Where each line says something and there are few enough, none is wrong.
pub all-right : (least most m : ℕ) (lines : List (List ℕ)) → m + length lines ≤ most_lines + 1 → All (λ line. IsSome (entry_of least most line)) lines
    → first_wrong least most m lines ≡ None
all-right least most m [] few all = refl
all-right least most m (line ∷ lines) few all =
    let early : leb m most_lines ≡ true = le-leb m most_lines (omega arith) in
    let says : is_some (entry_of least most line) ≡ true = All-head (λ (one : List ℕ). IsSome (entry_of least most one)) line lines all in
    rw (early, says) (all-right least most (m + 1) lines (omega arith) (All-tail (λ (one : List ℕ). IsSome (entry_of least most one)) line lines all))

-- Such a text is read.
pub right-text : (least most : ℕ) (text : List ℕ) → length text ≤ list_bytes → length (lines_of text) ≤ most_lines
    → All (λ line. IsSome (entry_of least most line)) (lines_of text) → list_of least most text ≡ Ok (entries_of least most (lines_of text))
right-text least most text short few all =
    short-text least most text short ∙ ap (list_with least most (lines_of text)) (all-right least most 1 (lines_of text) (omega arith) all)
