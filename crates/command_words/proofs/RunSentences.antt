-- A command is what the sentences say: `run`, options of different names with their values, and a file name, or a tool's name and a file name.
use Rattle.std.proofs.Common.{◌≡◌, ◌≢◌, ◌∙◌, sym, ap, refl, subst, ◌⊎◌, ℕ, Bool, true, false, cond, List, [], ◌∷◌, ◌++◌, Option, Some, None, Ok, inl, inr}
use Rattle.std.specs.Prelude.{All, bytes_eq, codes, ◌==◌}
use Rattle.std.proofs.lemmas.Bool.{false≢true, not-true, eqb-false, and_parts, both_ways}
use Rattle.std.proofs.lemmas.List.Elements.{All-nil, All-cons}
use Rattle.cap_format.specs.Numbers.{most_frames, most_regions}
use Rattle.machine_types.specs.Numbers.{most_slots, most_steps}
use Rattle.machine_types.proofs.DecimalTexts.{number-in-parts}
use Rattle.command_words.specs.declared.words.Options.{Options}
use Rattle.command_words.specs.declared.words.Command.TheVariants.{Run}
use Rattle.command_words.specs.declared.words.OptionName.TheVariants.{Frames, Regions, Slots, Steps, Copy, Schedule}
use Rattle.command_words.specs.Grammar.{Word, OptionRow, is_number, is_file_name, frames_name, regions_name, slots_name, steps_name, copy_name, schedule_name}
use Rattle.command_words.specs.Grammar.{run_options, option_named, options_but, are_arguments, is_command}
use Rattle.command_words.specs.Commands.{read_of}
use Rattle.command_words.specs.Reading.{row_of}
use Rattle.command_words.specs.Sayings.{IsNumber, IsFileName, IsOption, AreApart, option_words, IsRun, IsTool}
use Rattle.command_words.specs.Sayings.AreApart.{none, more}
use Rattle.command_words.proofs.Tables.{AreRows, rows-but, found-but, same-text, text-itself, taken}
use Rattle.command_words.proofs.RunTable.{run-rows}
use Rattle.command_words.proofs.OptionsSaid.{Lacks, lacks-gone}
use Rattle.command_words.proofs.RunArguments.{RunArguments, ToolArguments, first-option, arguments-of, run-arguments-of}
use Rattle.command_words.proofs.CommandLimits.{number-of-word}

-- a word that is a number of a range by the test is one
number-sentence : (least most : ℕ) (word : Word) → is_number least most word ≡ true → IsNumber least most word
number-sentence least most word is =
    let n = number-of-word least most word is in
    let parts = number-in-parts least most n.number word n.is in
    record { number = n.number; from = parts.1; to = parts.2; text = parts.0 }

-- a word that is a file name by the test is one
file-sentence : (word : Word) → is_file_name word ≡ true → IsFileName word
file-sentence [] file = absurd (false≢true file)
file-sentence (byte ∷ word) file = record { first = byte; others = word; is = refl; plain = eqb-false byte 45 (not-true (byte == 45) file) }

-- a row that is found is the first that is tried, or one of those behind it, and its option is one by the sentences either way
sentence-here : (here : Bool) (this row : OptionRow) (behind : Option OptionRow) (word value : Word) → (here ≡ true → this.value value ≡ true → IsOption (word, value))
    → (behind ≡ Some row → IsOption (word, value)) → row.value value ≡ true → cond here (Some this) behind ≡ Some row → IsOption (word, value)
sentence-here true this row behind word value first others fits is =
    let same : this ≡ row = cc in
    first refl (subst (λ (r : OptionRow). r.value value ≡ true) (sym same) fits)
sentence-here false this row behind word value first others fits is = others is

-- the options of a table with values that they may have are options by the sentences
abbrev AreSentences : List OptionRow → Type 0
AreSentences left = (word value : Word) (row : OptionRow) → option_named left word ≡ Some row → row.value value ≡ true → IsOption (word, value)

-- the options of `run` with values that they may have are options by the sentences
run-sentences : AreSentences run_options
run-sentences word value row found fits =
    sentence-here (bytes_eq frames_name word) (row_of Frames) row _ word value
    (λ same is. inl (sym (same-text frames_name word same), number-sentence 1 most_frames value is))
    (sentence-here (bytes_eq regions_name word) (row_of Regions) row _ word value
    (λ same is. inr (inl (sym (same-text regions_name word same), number-sentence 1 most_regions value is)))
    (sentence-here (bytes_eq slots_name word) (row_of Slots) row _ word value
    (λ same is. inr (inr (inl (sym (same-text slots_name word same), number-sentence 1 most_slots value is))))
    (sentence-here (bytes_eq steps_name word) (row_of Steps) row _ word value
    (λ same is. inr (inr (inr (inl (sym (same-text steps_name word same), number-sentence 0 most_steps value is)))))
    (sentence-here (bytes_eq copy_name word) (row_of Copy) row _ word value
    (λ same is. inr (inr (inr (inr (inl (sym (same-text copy_name word same), same-text value (codes "full") is))))))
    (sentence-here (bytes_eq schedule_name word) (row_of Schedule) row None word value
    (λ same is. inr (inr (inr (inr (inr (sym (same-text schedule_name word same), file-sentence value is))))))
    (λ none. cc)
    fits) fits) fits) fits) fits) fits found

-- an option that is found where it may have been taken out is found without that
found-there : (gone : Bool) (found : Option OptionRow) (row : OptionRow) → cond gone None found ≡ Some row → found ≡ Some row
found-there true found row is = cc
found-there false found row is = is

-- once an option is taken out of a table of options by the sentences the others are ones still
sentences-but : (left : List OptionRow) (gone : Word) → AreSentences left → AreSentences (options_but left gone)
sentences-but left gone are word value row found fits =
    are word value row (found-there (bytes_eq gone word) (option_named left word) row (sym (found-but left gone word) ∙ found)) fits

-- options whose words lack a name have other names
names-apart : (name last : Word) (options : List (Word × Word)) → Lacks name (option_words options ++ (last ∷ [])) → All (λ other. other.0 ≢ name) options
names-apart name last [] lacks = All-nil {X = Word × Word} (λ other. other.0 ≢ name)
names-apart name last (option ∷ options) lacks =
    All-cons {X = Word × Word} (λ other. other.0 ≢ name) option options
    (λ same. both_ways (bytes_eq option.0 name) lacks.0 (ap (λ x. bytes_eq x name) same ∙ text-itself name))
    (names-apart name last options lacks.1.1)

-- words are options and a file name
record AreOptions (words : List Word) : Type 0 where
  options : List (Word × Word)
  name : Word
  are : All IsOption options
  apart : AreApart options
  file : IsFileName name
  words_are : words ≡ option_words options ++ (name ∷ [])

-- arguments are options of different names and a file name
arguments-are : (left : List OptionRow) (words : List Word) → AreRows left → AreSentences left → are_arguments left (is_file_name ∷ []) words ≡ true → AreOptions words
arguments-are left [] known sentences are = absurd (false≢true are)
arguments-are left (word ∷ []) known sentences are = record {
  options = [];
  name = word;
  are = All-nil IsOption;
  apart = none;
  file = file-sentence word (and_parts (is_file_name word) true are).0;
  words_are = refl;
}
arguments-are left (word ∷ value ∷ words) known sentences are =
    let first = first-option left word value words known are in
    let known-behind = rows-but left word known in
    let behind = arguments-are (options_but left word) words known-behind (sentences-but left word sentences) first.behind in
    let lacks = lacks-gone (options_but left word) word words known-behind first.name (taken left word word (text-itself word)) first.behind in
    let apart = names-apart word behind.name behind.options (subst (Lacks word) behind.words_are lacks) in
    record {
      options = (word, value) ∷ behind.options;
      name = behind.name;
      are = All-cons IsOption (word, value) behind.options (sentences word value first.row first.found first.fits) behind.are;
      apart = more apart behind.apart;
      file = behind.file;
      words_are = ap (λ x. word ∷ value ∷ x) behind.words_are;
    }

-- `run` and its arguments are `run`, options and a file name
run-is : (words : List Word) → RunArguments words → IsRun words
run-is words run =
    let all = arguments-are run_options run.arguments run-rows run-sentences run.are in
    record {
      options = all.options;
      name = all.name;
      are = all.are;
      apart = all.apart;
      file = all.file;
      words_are = run.is ∙ ap (λ x. codes "run" ∷ x) all.words_are;
    }

-- a tool's name and a file's are what the sentences say
tool-is : (words : List Word) → ToolArguments words → IsTool words
tool-is words tool = record { tool = tool.tool; name = tool.name; which = tool.known.which; file = file-sentence tool.name tool.file; words_are = tool.is }

-- A command is `run`, options and a file name, or a tool's name and a file name.
pub command-is : (words : List Word) → is_command words ≡ true → IsRun words ⊎ IsTool words
command-is words is = elim (arguments-of words is) [ inl run ↦ inl (run-is words run) | inr tool ↦ inr (tool-is words tool) ]

-- What is read as `run` is `run`, options and a file name.
pub read-is-run : (words : List Word) (options : Options) (image : ℕ) → read_of words ≡ Ok (Run options image) → IsRun words
read-is-run words options image read = run-is words (run-arguments-of words options image read)
