-- What a command is and what it says, in plain sentences: the second meaning of the grammar and of its reading.
use Rattle.std.specs.Prelude.{ℕ, ◌≡◌, ◌≢◌, ◌≤◌, ◌<◌, ◌+◌, ◌⊎◌, true, Some, None, Ok, List, [], ◌∷◌, ◌++◌, All, length, codes, decimal, IfSome}
use Rattle.cap_format.specs.Numbers.{most_frames, most_regions}
use Rattle.machine_types.specs.Numbers.{most_slots, most_steps}
use Rattle.machine_types.specs.declared.config.Config.{Config}
use Rattle.machine_types.specs.declared.config.Rule.TheVariants.{Full}
use Rattle.command_words.specs.declared.words.Options.{Options}
use Rattle.command_words.specs.declared.words.Command.{Command}
use Rattle.command_words.specs.declared.words.Command.TheVariants.{Run, Asm, Disasm, Check}
use Rattle.command_words.specs.Numbers.{default_frames, default_regions, default_slots, default_steps}
use Rattle.command_words.specs.Grammar.{Word, is_command}
use Rattle.command_words.specs.Commands.{read_of}

-- The numbers of a configuration are within the limits, and its rule is the one that is built.
pub record IsWithinLimits (config : Config) : Type 0 where
  pub frames_least : 1 ≤ config.frames
  pub frames_most : config.frames ≤ most_frames
  pub regions_least : 1 ≤ config.regions
  pub regions_most : config.regions ≤ most_regions
  pub slots_least : 1 ≤ config.slots
  pub slots_most : config.slots ≤ most_slots
  pub steps_most : config.steps ≤ most_steps
  pub rule : config.rule ≡ Full

-- Of so many words a command names its file by the last, and the schedule's by one before it.
abbrev pub IsCommandOf : ℕ → Command → Type 0
IsCommandOf count (Run options image) = IsWithinLimits options.config × (image + 1 ≡ count) × IfSome options.schedule (λ index. index < image)
IsCommandOf count (Asm file) = file + 1 ≡ count
IsCommandOf count (Disasm file) = file + 1 ≡ count
IsCommandOf count (Check file) = file + 1 ≡ count

-- a number from the least to the most, in decimal digits
pub record IsNumber (least most : ℕ) (word : Word) : Type 0 where
  pub number : ℕ
  pub from : least ≤ number
  pub to : number ≤ most
  pub text : word ≡ decimal number

-- a file name: not empty, and without `-` at its begin
pub record IsFileName (word : Word) : Type 0 where
  pub first : ℕ
  pub others : List ℕ
  pub is : word ≡ first ∷ others
  pub plain : first ≢ 45

-- an option, as its name and its value
abbrev pub IsOption : Word × Word → Type 0
IsOption option =
    ((option.0 ≡ codes "--frames") × IsNumber 1 most_frames option.1)
    ⊎ ((option.0 ≡ codes "--regions") × IsNumber 1 most_regions option.1)
    ⊎ ((option.0 ≡ codes "--slots") × IsNumber 1 most_slots option.1)
    ⊎ ((option.0 ≡ codes "--steps") × IsNumber 0 most_steps option.1)
    ⊎ ((option.0 ≡ codes "--copy") × (option.1 ≡ codes "full"))
    ⊎ ((option.0 ≡ codes "--schedule") × IsFileName option.1)

-- no option has the name of another
pub data AreApart : List (Word × Word) → Type 0 where
  none : AreApart []
  more : {option : Word × Word} {options : List (Word × Word)} → All (λ other. other.0 ≢ option.0) options → AreApart options → AreApart (option ∷ options)

-- the words of options
abbrev pub option_words : List (Word × Word) → List Word
option_words [] = []
option_words (option ∷ options) = option.0 ∷ option.1 ∷ option_words options

-- `run`, options and an image's name
pub record IsRun (words : List Word) : Type 0 where
  pub options : List (Word × Word)
  pub name : Word
  pub are : All IsOption options
  pub apart : AreApart options
  pub file : IsFileName name
  pub words_are : words ≡ codes "run" ∷ (option_words options ++ (name ∷ []))

-- `asm`, `disasm` or `check`, and a file's name
pub record IsTool (words : List Word) : Type 0 where
  pub tool : Word
  pub name : Word
  pub which : (tool ≡ codes "asm") ⊎ ((tool ≡ codes "disasm") ⊎ (tool ≡ codes "check"))
  pub file : IsFileName name
  pub words_are : words ≡ tool ∷ name ∷ []

-- What the words of `run` say: the value of each option is the word behind its name, and where no word is the name it is the default. The image's
-- name is the last word.
pub record IsSaid (words : List Word) (options : Options) (image : ℕ) : Type 0 where
  pub frames : (before after : List Word) (value : Word) → words ≡ before ++ (codes "--frames" ∷ value ∷ after) → value ≡ decimal options.config.frames
  pub regions : (before after : List Word) (value : Word) → words ≡ before ++ (codes "--regions" ∷ value ∷ after) → value ≡ decimal options.config.regions
  pub slots : (before after : List Word) (value : Word) → words ≡ before ++ (codes "--slots" ∷ value ∷ after) → value ≡ decimal options.config.slots
  pub steps : (before after : List Word) (value : Word) → words ≡ before ++ (codes "--steps" ∷ value ∷ after) → value ≡ decimal options.config.steps
  pub schedule : (before after : List Word) (value : Word) → words ≡ before ++ (codes "--schedule" ∷ value ∷ after) → options.schedule ≡ Some (length before + 1)
  pub no_frames : All (λ word. word ≢ codes "--frames") words → options.config.frames ≡ default_frames
  pub no_regions : All (λ word. word ≢ codes "--regions") words → options.config.regions ≡ default_regions
  pub no_slots : All (λ word. word ≢ codes "--slots") words → options.config.slots ≡ default_slots
  pub no_steps : All (λ word. word ≢ codes "--steps") words → options.config.steps ≡ default_steps
  pub no_schedule : All (λ word. word ≢ codes "--schedule") words → options.schedule ≡ None
  pub rule : options.config.rule ≡ Full
  pub image_is : image + 1 ≡ length words

-- A list of words is a command exactly where it is `run`, options and a file name, or `asm`, `disasm` or `check` and a file name; and this is
-- what it says.
pub record SayingsAreExact : Type 0 where
  pub run : (words : List Word) → IsRun words → is_command words ≡ true
  pub tool : (words : List Word) → IsTool words → is_command words ≡ true
  pub command : (words : List Word) → is_command words ≡ true → IsRun words ⊎ IsTool words
  pub is_run : (words : List Word) (options : Options) (image : ℕ) → read_of words ≡ Ok (Run options image) → IsRun words
  pub read : (words : List Word) → IsRun words → (options : Options) × (image : ℕ) × (read_of words ≡ Ok (Run options image))
  pub said : (words : List Word) (options : Options) (image : ℕ) → read_of words ≡ Ok (Run options image) → IsSaid words options image
  pub asm : (name : Word) → IsFileName name → read_of (codes "asm" ∷ name ∷ []) ≡ Ok (Asm 1)
  pub disasm : (name : Word) → IsFileName name → read_of (codes "disasm" ∷ name ∷ []) ≡ Ok (Disasm 1)
  pub check : (name : Word) → IsFileName name → read_of (codes "check" ∷ name ∷ []) ≡ Ok (Check 1)
  pub within : (words : List Word) (command : Command) → read_of words ≡ Ok command → IsCommandOf (length words) command
