-- Lists of numbers in text, one a line, each alone or with how often it is repeated. This project's own.
use Rattle.std.specs.Prelude.{ℕ, ◌≡◌, ◌≢◌, ◌+◌, ◌-◌, ◌^◌, ◌≤◌, ◌<◌, ◌==◌, ◌&&◌, ◌⊎◌, nat_le, nat_lt, is_some, IsSome, if◌then◌else◌, Option, Some, None, Result, Ok, Err, List, [], ◌∷◌, ◌++◌, All, length, map, get_or, decimal, ⊤}
use Rattle.machine_types.specs.declared.number_lists.ListRefusal.{ListRefusal}
use Rattle.machine_types.specs.declared.number_lists.ListRefusal.TheVariants.{Line, NoMemory}
use Rattle.machine_types.specs.Numbers.{most_repeats, most_lines, list_bytes}
use Rattle.machine_types.specs.DecimalNumbers.{number_in}

-- a byte before the first line of others
abbrev pub continued : ℕ → List (List ℕ) → List (List ℕ)
continued byte [] = (byte ∷ []) ∷ []
continued byte (line ∷ lines) = (byte ∷ line) ∷ lines

-- The lines of a text. A line feed ends one, and begins none where the text ends.
abbrev pub lines_of : List ℕ → List (List ℕ)
lines_of [] = []
lines_of (byte ∷ text) = if byte == 10 then [] ∷ lines_of text else continued byte (lines_of text)

-- what stands before the first star, and what stands behind it
abbrev pub before_star : List ℕ → List ℕ
before_star [] = []
before_star (byte ∷ line) = if byte == 42 then [] else byte ∷ before_star line

abbrev pub behind_star : List ℕ → Option (List ℕ)
behind_star [] = None
behind_star (byte ∷ line) = if byte == 42 then Some line else behind_star line

-- a number and how often it is repeated
abbrev pub paired : Option ℕ → Option ℕ → Option (ℕ × ℕ)
paired (Some number) (Some repeats) = Some (number, repeats)
paired None repeats = None
paired (Some number) None = None

-- how often: once, or as often as stands behind the star
abbrev pub repeats_of : Option (List ℕ) → Option ℕ
repeats_of None = Some 1
repeats_of (Some text) = number_in 1 most_repeats text

-- what a line says, whose number is from the least to the most
abbrev pub entry_of : ℕ → ℕ → List ℕ → Option (ℕ × ℕ)
entry_of least most line = paired (number_in least most (before_star line)) (repeats_of (behind_star line))

-- the number of the first wrong line of those from a number on: it says nothing, or there are too many before it
abbrev pub first_wrong : ℕ → ℕ → ℕ → List (List ℕ) → Option ℕ
first_wrong least most n [] = None
first_wrong least most n (line ∷ lines) =
    if nat_le n most_lines && is_some (entry_of least most line) then first_wrong least most (n + 1) lines else Some n

-- what the lines say
abbrev pub with_entry : Option (ℕ × ℕ) → List (ℕ × ℕ) → List (ℕ × ℕ)
with_entry None entries = entries
with_entry (Some entry) entries = entry ∷ entries

abbrev pub entries_of : ℕ → ℕ → List (List ℕ) → List (ℕ × ℕ)
entries_of least most [] = []
entries_of least most (line ∷ lines) = with_entry (entry_of least most line) (entries_of least most lines)

abbrev pub list_with : ℕ → ℕ → List (List ℕ) → Option ℕ → Result (List (ℕ × ℕ)) ℕ
list_with least most lines None = Ok (entries_of least most lines)
list_with least most lines (Some wrong) = Err wrong

-- The list that a text is, or its first wrong line, counted from 1. A longer text is wrong at line 0.
unfoldable pub list_of : ℕ → ℕ → List ℕ → Result (List (ℕ × ℕ)) ℕ
list_of least most text =
    if nat_lt list_bytes (length text) then Err 0
    else list_with least most (lines_of text) (first_wrong least most 1 (lines_of text))

-- a text is refused at the line that is wrong, but for want of memory
abbrev pub IsRefusedAs : Result (List (ℕ × ℕ)) ℕ → ListRefusal → Type 0
IsRefusedAs list (Line n) = list ≡ Err n
IsRefusedAs list NoMemory = ⊤

-- the text of lines, each with a line feed at its end
abbrev pub text_of : List (List ℕ) → List ℕ
text_of [] = []
text_of (line ∷ lines) = line ++ (10 ∷ text_of lines)

-- the bytes of a line: no line feed is among them
abbrev pub IsLine : List ℕ → Type 0
IsLine line = All (λ byte. byte ≢ 10) line

-- the text of an entry
abbrev pub entry_text : ℕ × ℕ → List ℕ
entry_text entry = decimal entry.0 ++ (42 ∷ decimal entry.1)

-- Of lines that are numbered from m on, the first wrong one has the number n: those before it say something, it doesn't or stands behind as
-- many lines as there may be, and no line before it does.
pub record IsFirstWrong (least most m n : ℕ) (lines : List (List ℕ)) : Type 0 where
  pub from : m ≤ n
  pub to : n < m + length lines
  pub early : n ≤ most_lines + 1
  pub before : (k : ℕ) → k + m < n → IsSome (entry_of least most (get_or lines k []))
  pub here : (most_lines < n) ⊎ (entry_of least most (get_or lines (n - m) []) ≡ None)

-- Lines are read back, with or without the last line feed; so are a number alone, which stands once, and one that is repeated. What a line
-- says is in its ranges. A text is refused at its first wrong line, of which there is one, and a longer one at line 0. It is read exactly
-- where each line says something and there are few enough, and what is read is what the lines say, in order.
pub record ListsAreExact : Type 0 where
  pub lines : (lines : List (List ℕ)) → All IsLine lines → lines_of (text_of lines) ≡ lines
  pub last : (lines : List (List ℕ)) (line : List ℕ) → All IsLine lines → IsLine line → line ≢ [] → lines_of (text_of lines ++ line) ≡ lines ++ (line ∷ [])
  pub alone : (least most n : ℕ) → least ≤ n → n ≤ most → n < 2 ^ 64 → entry_of least most (decimal n) ≡ Some (n, 1)
  pub repeated : (least most n k : ℕ) → least ≤ n → n ≤ most → n < 2 ^ 64 → 1 ≤ k → k ≤ most_repeats → entry_of least most (entry_text (n, k)) ≡ Some (n, k)
  pub entry : (least most n k : ℕ) (line : List ℕ) → entry_of least most line ≡ Some (n, k) → ((line ≡ decimal n) × (k ≡ 1)) ⊎ (line ≡ entry_text (n, k))
  pub ranges : (least most n k : ℕ) (line : List ℕ) → entry_of least most line ≡ Some (n, k) → (least ≤ n) × (n ≤ most) × (1 ≤ k) × (k ≤ most_repeats)
  pub wrong : (least most n : ℕ) (text : List ℕ) → length text ≤ list_bytes → list_of least most text ≡ Err n → IsFirstWrong least most 1 n (lines_of text)
  pub one : (least most p q : ℕ) (lines : List (List ℕ)) → IsFirstWrong least most 1 p lines → IsFirstWrong least most 1 q lines → p ≡ q
  pub right : (least most : ℕ) (text : List ℕ) → length text ≤ list_bytes → length (lines_of text) ≤ most_lines
      → All (λ line. IsSome (entry_of least most line)) (lines_of text) → list_of least most text ≡ Ok (entries_of least most (lines_of text))
  pub read : (least most : ℕ) (text : List ℕ) (entries : List (ℕ × ℕ)) → list_of least most text ≡ Ok entries
      → (length text ≤ list_bytes) × (length (lines_of text) ≤ most_lines) × (map (λ entry. Some entry) entries ≡ map (entry_of least most) (lines_of text))
  pub long : (least most : ℕ) (text : List ℕ) → list_bytes < length text → list_of least most text ≡ Err 0
  pub refused : (list : Result (List (ℕ × ℕ)) ℕ) (n : ℕ) → IsRefusedAs list (Line n) → list ≡ Err n
  pub limits : (most_repeats ≡ 1000000000) × (most_lines ≡ 100000) × (list_bytes ≡ 1048576)
