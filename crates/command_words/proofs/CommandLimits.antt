-- A command that was read is within the limits.
use Rattle.std.proofs.Common.{◌≡◌, sym, refl, subst, ℕ, ◌-◌, ◌<◌, ◌≤◌, true, false, List, [], ◌∷◌, length, Option, Some, None, Result, Ok, Err, inl, inr, arith}
use Rattle.std.specs.Prelude.{codes, is_some, IfSome, IfOk}
use Rattle.std.proofs.lemmas.Bool.{false≢true}
use Rattle.std.proofs.lemmas.Option.{IfSome_then}
use Rattle.cap_format.specs.Numbers.{most_frames, most_regions}
use Rattle.machine_types.specs.Numbers.{most_slots, most_steps}
use Rattle.machine_types.specs.DecimalNumbers.{number_in}
use Rattle.machine_types.proofs.DecimalTexts.{number-in-parts, number-in-number}
use Rattle.command_words.specs.declared.words.Command.{Command}
use Rattle.command_words.specs.declared.words.WordFault.{WordFault}
use Rattle.command_words.specs.Numbers.{default_frames, default_regions, default_slots, default_steps}
use Rattle.command_words.specs.Grammar.{Word, is_number, is_file_name, frames_name, regions_name, slots_name, steps_name, schedule_name, option_named, run_options, are_arguments}
use Rattle.command_words.specs.Commands.{word_behind, place_behind, number_or, config_of, options_of, command_of, read_of}
use Rattle.command_words.specs.Sayings.{IsWithinLimits, IsCommandOf}
use Rattle.command_words.proofs.RunTable.{run-rows}
use Rattle.command_words.proofs.RunArguments.{ToolArguments, arguments-of, command-parts}
use Rattle.command_words.proofs.ValuesBehind.{IsOfKind, value-behind, place-before}

-- the number that a word is, where it is one of a range
pub record NumberIn (least most : ℕ) (word : Word) : Type 0 where
  pub number : ℕ
  pub is : number_in least most word ≡ Some number

-- where a number was found it is one
number-found : (least most : ℕ) (word : Word) (found : Option ℕ) → number_in least most word ≡ found → is_some found ≡ true → NumberIn least most word
number-found least most word None is some = absurd (false≢true some)
number-found least most word (Some n) is some = record { number = n; is = is }

-- a word that is a number of a range is the text of one
pub number-of-word : (least most : ℕ) (word : Word) → is_number least most word ≡ true → NumberIn least most word
number-of-word least most word is = number-found least most word (number_in least most word) refl is

-- a number that a word says is within the range, and so is the default
number-within : (default least most : ℕ) (found : Option Word) → least ≤ default → default ≤ most → IsOfKind (is_number least most) found
    → (least ≤ number_or default found) × (number_or default found ≤ most)
number-within default least most None low high kind = (low, high)
number-within default least most (Some word) low high kind =
    let n = number-of-word least most word kind in
    let parts = number-in-parts least most n.number word n.is in
    rw (number-in-number least most n.number word n.is) (parts.1, parts.2)

-- the number that arguments of `run` say by an option is within its range
run-number-within : (name : Word) (default least most : ℕ) → is_file_name name ≡ false → option_named run_options name ≡ Some (record { name = name; value = is_number least most })
    → least ≤ default → default ≤ most → (arguments : List Word) → are_arguments run_options (is_file_name ∷ []) arguments ≡ true
    → (least ≤ number_or default (word_behind name arguments)) × (number_or default (word_behind name arguments) ≤ most)
run-number-within name default least most other row low high arguments are =
    let kind = value-behind run_options name (record { name = name; value = is_number least most }) arguments run-rows other row are in
    number-within default least most (word_behind name arguments) low high kind

-- the numbers that arguments of `run` say are within the limits
config-within : (arguments : List Word) → are_arguments run_options (is_file_name ∷ []) arguments ≡ true → IsWithinLimits (config_of (codes "run" ∷ arguments))
config-within arguments are =
    let frames = run-number-within frames_name default_frames 1 most_frames refl refl (omega arith) (omega arith) arguments are in
    let regions = run-number-within regions_name default_regions 1 most_regions refl refl (omega arith) (omega arith) arguments are in
    let slots = run-number-within slots_name default_slots 1 most_slots refl refl (omega arith) (omega arith) arguments are in
    let steps = run-number-within steps_name default_steps 0 most_steps refl refl (omega arith) (omega arith) arguments are in
    record {
      frames_least = frames.0;
      frames_most = frames.1;
      regions_least = regions.0;
      regions_most = regions.1;
      slots_least = slots.0;
      slots_most = slots.1;
      steps_most = steps.1;
      rule = refl;
    }

-- the schedule's name stands before the image's
schedule-before : (arguments : List Word) → are_arguments run_options (is_file_name ∷ []) arguments ≡ true
    → IfSome (place_behind schedule_name 1 arguments) (λ place. place < length (codes "run" ∷ arguments) - 1)
schedule-before arguments are =
    IfSome_then (place_behind schedule_name 1 arguments) (place-before run_options schedule_name 1 arguments run-rows refl are) (λ place before. omega arith)

-- what `run` and its arguments say is a command of so many words
run-of-words : (arguments : List Word) → are_arguments run_options (is_file_name ∷ []) arguments ≡ true → IsCommandOf (length (codes "run" ∷ arguments)) (command_of (codes "run" ∷ arguments))
run-of-words arguments are = (config-within arguments are, omega arith, schedule-before arguments are)

-- what a tool's name and a file's say is a command of so many words
tool-of-words : (words : List Word) → ToolArguments words → IsCommandOf (length words) (command_of words)
tool-of-words words tool = subst (λ (x : List Word). IsCommandOf (length x) (command_of x)) (sym tool.is) (tool.known.within (options_of (tool.tool ∷ tool.name ∷ [])))

-- A command that words are read as is one of so many words.
pub command-of-words : (words : List Word) (command : Command) → read_of words ≡ Ok command → IsCommandOf (length words) command
command-of-words words command read =
    let parts = command-parts words command read in
    subst (IsCommandOf (length words)) parts.1 (elim (arguments-of words parts.0) [
      | inl run ↦ subst (λ (x : List Word). IsCommandOf (length x) (command_of x)) (sym run.is) (run-of-words run.arguments run.are)
      | inr tool ↦ tool-of-words words tool
    ])

-- the same of what words are read as, where it is a command
pub read-of-words : (words : List Word) (read : Result Command WordFault) → read ≡ read_of words → IfOk read (λ command. IsCommandOf (length words) command)
read-of-words words (Ok command) is = command-of-words words command (sym is)
read-of-words words (Err fault) is = tt
