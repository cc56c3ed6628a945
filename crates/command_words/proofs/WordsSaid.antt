-- What a command says is what its words say.
use Rattle.std.proofs.Common.{◌≡◌, ◌≢◌, ◌∙◌, sym, ap, refl, subst, ℕ, ◌+◌, ◌-◌, true, false, List, [], ◌∷◌, ◌++◌, length, Option, Some, None, Ok, arith}
use Rattle.std.specs.Prelude.{All, bytes_eq, codes, decimal}
use Rattle.std.proofs.lemmas.Bool.{false_from_ne_true}
use Rattle.std.proofs.lemmas.List.Elements.{All-head, All-tail}
use Rattle.cap_format.specs.Numbers.{most_frames, most_regions}
use Rattle.machine_types.specs.Numbers.{most_slots, most_steps}
use Rattle.machine_types.proofs.DecimalTexts.{number-in-parts, number-in-number}
use Rattle.command_words.specs.declared.words.Options.{Options}
use Rattle.command_words.specs.declared.words.Command.{Command}
use Rattle.command_words.specs.declared.words.Command.TheVariants.{Run}
use Rattle.command_words.specs.Numbers.{default_frames, default_regions, default_slots, default_steps}
use Rattle.command_words.specs.Grammar.{Word, is_number, is_file_name, frames_name, regions_name, slots_name, steps_name, schedule_name, option_named, run_options, are_arguments}
use Rattle.command_words.specs.Commands.{word_behind, place_behind, number_or, options_of, command_of, read_of}
use Rattle.command_words.specs.Sayings.{IsSaid}
use Rattle.command_words.proofs.Tables.{same-text}
use Rattle.command_words.proofs.RunTable.{run-rows}
use Rattle.command_words.proofs.OptionsSaid.{Lacks, lacks-word, lacks-place}
use Rattle.command_words.proofs.RunArguments.{command-parts, run-arguments-of}
use Rattle.command_words.proofs.ValuesBehind.{IsOfKind, value-behind}
use Rattle.command_words.proofs.CommandLimits.{number-of-word}
use Rattle.command_words.proofs.NamesBefore.{words-lack, behind-first, place-first}

-- a number that stands behind a name is what its word is the text of
number-said : (default least most : ℕ) (value : Word) (found : Option Word) → IsOfKind (is_number least most) found → found ≡ Some value → value ≡ decimal (number_or default found)
number-said default least most value None kind is = cc
number-said default least most value (Some word) kind is =
    let n = number-of-word least most word kind in
    let same : word ≡ value = cc in
    sym same ∙ (number-in-parts least most n.number word n.is).0 ∙ ap decimal (rw (number-in-number least most n.number word n.is) refl)

-- the word that stands behind a name of an option is the one that is found behind it
value-found : (name value : Word) (arguments before after : List Word) → is_file_name name ≡ false → bytes_eq (codes "run") name ≡ false
    → are_arguments run_options (is_file_name ∷ []) arguments ≡ true → codes "run" ∷ arguments ≡ before ++ (name ∷ value ∷ after) → word_behind name arguments ≡ Some value
value-found name value arguments before after other apart are words =
    let lacks = words-lack name arguments before (value ∷ after) other apart are words in
    let found = ap (word_behind name) words ∙ behind-first name value before after lacks in
    rw apart at found

-- and its place is the one that is found
place-found : (name : Word) (arguments before more : List Word) → is_file_name name ≡ false → bytes_eq (codes "run") name ≡ false
    → are_arguments run_options (is_file_name ∷ []) arguments ≡ true → codes "run" ∷ arguments ≡ before ++ (name ∷ more)
    → place_behind name 0 (codes "run" ∷ arguments) ≡ Some (length before + 1)
place-found name arguments before more other apart are words =
    let lacks = words-lack name arguments before more other apart are words in
    let index : 0 + length before + 1 ≡ length before + 1 = omega arith in
    ap (place_behind name 0) words ∙ place-first name 0 before more lacks ∙ ap Some index

-- words none of which is a name lack it
lacks-all : (name : Word) (words : List Word) → All (λ word. word ≢ name) words → Lacks name words
lacks-all name [] all = tt
lacks-all name (word ∷ words) all =
    let other = All-head (λ x. x ≢ name) word words all in
    (false_from_ne_true (bytes_eq word name) (λ same. other (same-text word name same)), lacks-all name words (All-tail (λ x. x ≢ name) word words all))

-- the number that stands behind the name of an option is what the words say
said-number : (name : Word) (default least most : ℕ) → is_file_name name ≡ false → bytes_eq (codes "run") name ≡ false
    → option_named run_options name ≡ Some (record { name = name; value = is_number least most })
    → (arguments : List Word) → are_arguments run_options (is_file_name ∷ []) arguments ≡ true
    → (before after : List Word) (value : Word) → codes "run" ∷ arguments ≡ before ++ (name ∷ value ∷ after) → value ≡ decimal (number_or default (word_behind name arguments))
said-number name default least most other apart row arguments are before after value words =
    number-said default least most value (word_behind name arguments)
    (value-behind run_options name (record { name = name; value = is_number least most }) arguments run-rows other row are)
    (value-found name value arguments before after other apart are words)

-- where no word is the name of an option the default is said
said-default : (name : Word) (default : ℕ) (words : List Word) → All (λ word. word ≢ name) words → number_or default (word_behind name words) ≡ default
said-default name default words all = rw (lacks-word name words (lacks-all name words all)) refl

-- What `run` and its arguments say.
run-said : (arguments : List Word) → are_arguments run_options (is_file_name ∷ []) arguments ≡ true
    → IsSaid (codes "run" ∷ arguments) (options_of (codes "run" ∷ arguments)) (length (codes "run" ∷ arguments) - 1)
run-said arguments are = record {
  frames = said-number frames_name default_frames 1 most_frames refl refl refl arguments are;
  regions = said-number regions_name default_regions 1 most_regions refl refl refl arguments are;
  slots = said-number slots_name default_slots 1 most_slots refl refl refl arguments are;
  steps = said-number steps_name default_steps 0 most_steps refl refl refl arguments are;
  schedule = λ before after value words. place-found schedule_name arguments before (value ∷ after) refl refl are words;
  no_frames = said-default frames_name default_frames (codes "run" ∷ arguments);
  no_regions = said-default regions_name default_regions (codes "run" ∷ arguments);
  no_slots = said-default slots_name default_slots (codes "run" ∷ arguments);
  no_steps = said-default steps_name default_steps (codes "run" ∷ arguments);
  no_schedule = λ all. lacks-place schedule_name 0 (codes "run" ∷ arguments) (lacks-all schedule_name (codes "run" ∷ arguments) all);
  rule = refl;
  image_is = omega arith;
}

-- What a command says is what the sentences say of its words.
pub command-said : (words : List Word) (options : Options) (image : ℕ) → read_of words ≡ Ok (Run options image) → IsSaid words options image
command-said words options image read =
    let run = run-arguments-of words options image read in
    let whole : List Word = codes "run" ∷ run.arguments in
    let same : ◌≡◌ {A = Command} (Run (options_of whole) (length whole - 1)) (Run options image) = ap command_of (sym run.is) ∙ (command-parts words (Run options image) read).1 in
    let same-options : options_of whole ≡ options = cc in
    let same-image : length whole - 1 ≡ image = cc in
    let said = subst (λ (x : Options). IsSaid whole x (length whole - 1)) same-options (run-said run.arguments run.are) in
    subst (λ (x : List Word). IsSaid x options image) (sym run.is) (subst (λ (x : ℕ). IsSaid whole options x) same-image said)
