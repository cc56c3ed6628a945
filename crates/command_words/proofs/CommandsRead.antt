-- Words are read as the command that they are, or as their fault.
use Rattle.std.proofs.Common.{◌≡◌, ◌∙◌, sym, ap, refl, ℕ, zero, suc, ◌+◌, ◌-◌, ◌<◌, true, false, List, [], ◌∷◌, length, get_or, take, drop, Option, Some, None, Ok, inl, inr, arith}
use Rattle.std.specs.Prelude.{codes, bytes_eq}
use Rattle.std.proofs.lemmas.Bool.{cases_Bool}
use Rattle.command_words.specs.declared.words.Command.{Command}
use Rattle.command_words.specs.Grammar.{Word, CommandRow, is_file_name, frames_name, regions_name, slots_name, steps_name, schedule_name, run_options, tool, are_arguments}
use Rattle.command_words.specs.Grammar.{command_named, is_command, begins_command}
use Rattle.command_words.specs.Commands.{place_behind, options_of, command_by, command_of, fault_place, read_of, IsFaultAt}
use Rattle.command_words.specs.Reading.{fault_at, read_last, tool_of}
use Rattle.command_words.proofs.Reader.{read_from}
use Rattle.command_words.proofs.Tables.{other-text}
use Rattle.command_words.proofs.Places.{none-begins, fault-of, one-fault}
use Rattle.command_words.proofs.CommandTable.{run-row, command-row, is-by-row, begins-by-row, no-row-is, no-row-begins, read-tool, no-row}
use Rattle.command_words.proofs.OptionsSaid.{place_or, said}
use Rattle.command_words.proofs.ArgumentsRead.{arguments-read}
use Rattle.command_words.proofs.FaultsRead.{IsFirst, fault-read}
use Rattle.command_words.proofs.Steps.{no-options}

-- words that are a command are read as what it says
pub command-read-of : (words : List Word) → is_command words ≡ true → read_of words ≡ Ok (command_of words)
unfolding read_of
command-read-of words is = rw is refl

-- words that are no command are read as their fault
pub fault-read-of : (words : List Word) (place : ℕ) → is_command words ≡ false → IsFaultAt words place → read_of words ≡ fault_at place
unfolding read_of
fault-read-of words place none fault = rw none (ap fault_at (one-fault words (fault_place words) place (fault-of words) fault))

-- words whose first finds no row are at fault at the first
other-read : (word : Word) (words : List Word) → command_named word ≡ None → read_of (word ∷ words) ≡ fault_at 1
other-read word words none = fault-read-of (word ∷ words) 1 (no-row-is word words none) (record {
  some = omega arith;
  within = omega arith;
  before = λ k small. (let first : k ≡ 0 = omega arith in rw first none-begins);
  at = λ within. no-row-begins word [] none;
})

-- no words are at fault behind them
nothing-read : read_of [] ≡ fault_at 1
unfolding read_of is_command
nothing-read = refl

-- the first fault of arguments is that of the command
argument-fault : (name : Word) (row : CommandRow) (words : List Word) (place : ℕ) → command_named name ≡ Some row → IsFirst row.options words place → IsFaultAt (name ∷ words) (suc place)
argument-fault name row words place found first = record {
  some = omega arith;
  within = omega (arith, first.within);
  before = before;
  at = λ within. begins-by-row name (take place words) row found ∙ first.at (omega arith);
}
  where
    before : (k : ℕ) → k < suc place → begins_command (take k (name ∷ words)) ≡ true
    before zero small = none-begins
    before (suc k) small = begins-by-row name (take k words) row found ∙ first.before k (omega arith)

-- a place or none is that place
place-itself : (place : Option ℕ) → place_or None place ≡ place
place-itself None = refl
place-itself (Some place) = refl

-- What arguments say where nothing was said before is what the options say behind a command's name, which is none of theirs.
said-first : (name : Word) (words : List Word) → is_file_name name ≡ true → said (options_of []) 1 words ≡ options_of (name ∷ words)
said-first name words file =
    let other = λ (option : Word) (none : is_file_name option ≡ false). other-text name option file none in
    rw (
      other frames_name refl,
      other regions_name refl,
      other slots_name refl,
      other steps_name refl,
      other schedule_name refl,
      place-itself (place_behind schedule_name 1 words),
    ) refl

-- arguments behind a command's name that are a command
arguments-taken : (name : Word) (row : CommandRow) (words : List Word) → command_named name ≡ Some row → are_arguments row.options (is_file_name ∷ []) words ≡ true
    → read_of (name ∷ words) ≡ read_from name row.options (options_of []) 1 words
arguments-taken name row words found are =
    let known = command-row name row found in
    let file : is_file_name name ≡ true = ap is_file_name (sym known.1) ∙ known.0.file in
    let index : 1 + length words - 1 ≡ length (name ∷ words) - 1 = omega arith in
    command-read-of (name ∷ words) (is-by-row name words row found ∙ are)
    ∙ sym (arguments-read name row.options (options_of []) 1 words known.0.options are ∙ ap (λ x. Ok (command_by name (said (options_of []) 1 words) x)) index
    ∙ ap (λ x. Ok (command_by name x (length (name ∷ words) - 1))) (said-first name words file))

-- arguments behind a command's name that are none
arguments-refused : (name : Word) (row : CommandRow) (words : List Word) → command_named name ≡ Some row → are_arguments row.options (is_file_name ∷ []) words ≡ false
    → read_of (name ∷ words) ≡ read_from name row.options (options_of []) 1 words
arguments-refused name row words found aren't =
    let fault = fault-read name row.options (options_of []) 1 words aren't in
    let index : suc fault.place ≡ 1 + fault.place = omega arith in
    fault-read-of (name ∷ words) (suc fault.place) (is-by-row name words row found ∙ aren't) (argument-fault name row words fault.place found fault.first)
    ∙ ap fault_at index ∙ sym fault.read

-- The words of a command are read as they stand behind its name, with all options of its row left and nothing said.
command-read : (name : Word) (row : CommandRow) (words : List Word) → command_named name ≡ Some row → read_of (name ∷ words) ≡ read_from name row.options (options_of []) 1 words
command-read name row words found = elim (cases_Bool (are_arguments row.options (is_file_name ∷ []) words)) [
  | inl are ↦ arguments-taken name row words found are
  | inr aren't ↦ arguments-refused name row words found aren't
]

-- the same, where the first word is `run`
pub run-words : (words : List Word) → 0 < length words → get_or words 0 [] ≡ codes "run" → read_of words ≡ read_from (codes "run") run_options (options_of []) 1 (drop 1 words)
run-words [] some is = absurd (omega arith)
run-words (word ∷ words) some is = rw is (command-read (codes "run") run-row words refl)

-- where the first word is a tool's name, the second is the last
pub tool-words : (words : List Word) (command : Command) → 0 < length words → tool_of (get_or words 0 []) ≡ Some command → read_of words ≡ read_last command 1 (drop 1 words)
tool-words [] command some is = absurd (omega arith)
tool-words (word ∷ words) command some is =
    let named = read-tool word command is in
    let both : Some (command_by word (options_of []) 1) ≡ Some command = sym (named.read (options_of [])) ∙ is in
    let same : command_by word (options_of []) 1 ≡ command = cc in
    command-read word (tool word) words named.row ∙ no-options word (options_of []) 1 words ∙ ap (λ x. read_last x 1 words) same

-- where the first word is another, it is at fault
pub other-words : (words : List Word) → 0 < length words → bytes_eq (get_or words 0 []) (codes "run") ≡ false → tool_of (get_or words 0 []) ≡ None → read_of words ≡ fault_at 1
other-words [] some other none = absurd (omega arith)
other-words (word ∷ words) some other none = other-read word words (no-row word other none)

-- where there is no word, the fault is behind them
pub no-words-read : (words : List Word) → length words ≡ 0 → read_of words ≡ fault_at 1
no-words-read [] none = nothing-read
no-words-read (word ∷ words) none = absurd (omega arith)
