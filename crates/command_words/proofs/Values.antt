-- What the options say behind one with its value.
use Rattle.std.proofs.Common.{◌≡◌, refl, ℕ, true, Some}
use Rattle.cap_format.specs.Numbers.{most_frames, most_regions}
use Rattle.machine_types.specs.Numbers.{most_slots, most_steps}
use Rattle.machine_types.specs.DecimalNumbers.{number_in}
use Rattle.machine_types.proofs.DecimalTexts.{number-in-number}
use Rattle.command_words.specs.declared.words.Options.{Options}
use Rattle.command_words.specs.declared.words.OptionName.TheVariants.{Frames, Regions, Slots, Steps, Copy, Schedule}
use Rattle.command_words.specs.Grammar.{Word, is_rule, is_file_name}
use Rattle.command_words.specs.Reading.{put, valued}

-- the number of frames
pub frames-valued : (options : Options) (index n : ℕ) (word : Word) → number_in 1 most_frames word ≡ Some n
    → Some (record options { config = record options.config { frames = n } }) ≡ valued options index Frames word
unfolding put
frames-valued options index n word is = rw (is, number-in-number 1 most_frames n word is) refl

-- the number of regions
pub regions-valued : (options : Options) (index n : ℕ) (word : Word) → number_in 1 most_regions word ≡ Some n
    → Some (record options { config = record options.config { regions = n } }) ≡ valued options index Regions word
unfolding put
regions-valued options index n word is = rw (is, number-in-number 1 most_regions n word is) refl

-- the number of slots
pub slots-valued : (options : Options) (index n : ℕ) (word : Word) → number_in 1 most_slots word ≡ Some n
    → Some (record options { config = record options.config { slots = n } }) ≡ valued options index Slots word
unfolding put
slots-valued options index n word is = rw (is, number-in-number 1 most_slots n word is) refl

-- the number of steps
pub steps-valued : (options : Options) (index n : ℕ) (word : Word) → number_in 0 most_steps word ≡ Some n
    → Some (record options { config = record options.config { steps = n } }) ≡ valued options index Steps word
unfolding put
steps-valued options index n word is = rw (is, number-in-number 0 most_steps n word is) refl

-- the copy rule
pub copy-valued : (options : Options) (index : ℕ) (word : Word) → is_rule word ≡ true → Some options ≡ valued options index Copy word
unfolding put
copy-valued options index word is = rw is refl

-- the schedule
pub schedule-valued : (options : Options) (index : ℕ) (word : Word) → is_file_name word ≡ true → Some (record options { schedule = Some index }) ≡ valued options index Schedule word
unfolding put
schedule-valued options index word is = rw is refl
