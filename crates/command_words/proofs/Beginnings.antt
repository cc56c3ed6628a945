-- Words begin a command exactly where further words make them one.
use Rattle.std.proofs.Common.{◌≡◌, ◌∙◌, sym, refl, Bool, true, false, ◌||◌, List, [], ◌∷◌, ◌++◌, Option, Some, None}
use Rattle.std.specs.Prelude.{codes, is_some}
use Rattle.std.proofs.lemmas.Bool.{false≢true, and_parts, and_from, or_right}
use Rattle.command_words.specs.Grammar.{Word, Kind, OptionRow, CommandRow, is_file_name, option_named, options_but, are_operands, begin_operands, by_option}
use Rattle.command_words.specs.Grammar.{are_arguments, begin_arguments, command_named, has_arguments, begins_arguments, is_command, begins_command}
use Rattle.command_words.proofs.Tables.{AreRows, found-row, rows-but}
use Rattle.command_words.proofs.CommandTable.{run-row, command-row, is-by-row, begins-by-row, no-row-begins}

-- words that are operands begin operands, and so do the first of them
operands-begin : (kinds : List Kind) (words more : List Word) → are_operands kinds (words ++ more) ≡ true → begin_operands kinds words ≡ true
operands-begin kinds [] more are = refl
operands-begin [] (word ∷ words) more are = absurd (false≢true are)
operands-begin (kind ∷ kinds) (word ∷ words) more are =
    let parts = and_parts (kind word) (are_operands kinds (words ++ more)) are in
    and_from _ _ parts.0 (operands-begin kinds words more parts.1)

-- a first word begins the arguments, where with those behind it it is an option, or it is an operand
first-begins : (found : Option OptionRow) (kinds : List Kind) (word value : Word) (words : List Word) (behind : Bool)
    → by_option found value behind (are_operands kinds (word ∷ value ∷ words)) ≡ true → is_some found || begin_operands kinds (word ∷ []) ≡ true
first-begins None kinds word value words behind are = operands-begin kinds (word ∷ []) (value ∷ words) are
first-begins (Some row) kinds word value words behind are = refl

-- a word and its value begin what they are the first of
step-begins : (found : Option OptionRow) (value : Word) (are-behind begin-behind are-last begin-last : Bool)
    → (are-behind ≡ true → begin-behind ≡ true) → (are-last ≡ true → begin-last ≡ true) → by_option found value are-behind are-last ≡ true → by_option found value begin-behind begin-last ≡ true
step-begins None value are-behind begin-behind are-last begin-last behind last are = last are
step-begins (Some row) value are-behind begin-behind are-last begin-last behind last are =
    let parts = and_parts (row.value value) are-behind are in
    and_from _ _ parts.0 (behind parts.1)

-- the first words of arguments begin them
pub arguments-begin : (options : List OptionRow) (kinds : List Kind) (words more : List Word) → are_arguments options kinds (words ++ more) ≡ true → begin_arguments options kinds words ≡ true
arguments-begin options kinds [] more are = refl
arguments-begin options kinds (word ∷ []) [] are = or_right (is_some (option_named options word)) (begin_operands kinds (word ∷ [])) (operands-begin kinds (word ∷ []) [] are)
arguments-begin options kinds (word ∷ []) (value ∷ more) are = first-begins (option_named options word) kinds word value more _ are
arguments-begin options kinds (word ∷ value ∷ words) more are = step-begins (option_named options word) value _ _ _ _
    (λ behind. arguments-begin (options_but options word) kinds words more behind)
    (λ last. operands-begin kinds (word ∷ value ∷ words) more last)
    are

-- the same of a command's row
row-begins : (found : Option CommandRow) (words more : List Word) → has_arguments found (words ++ more) ≡ true → begins_arguments found words ≡ true
row-begins None words more has = absurd (false≢true has)
row-begins (Some command) words more has = arguments-begin command.options command.operands words more has

-- the first words of a command begin it
pub command-begins : (words more : List Word) → is_command (words ++ more) ≡ true → begins_command words ≡ true
unfolding is_command begins_command
command-begins [] more is = refl
command-begins (word ∷ words) more is = row-begins (command_named word) words more is

-- further words that make these arguments
abbrev AreCompleted : List OptionRow → List Word → Type 0
AreCompleted options words = (more : List Word) × (are_arguments options (is_file_name ∷ []) (words ++ more) ≡ true)

-- a name of an option is completed by a value and a file name, and a file name by nothing
completed-word : (options : List OptionRow) (word : Word) (found : Option OptionRow) → AreRows options → option_named options word ≡ found
    → is_some found || begin_operands (is_file_name ∷ []) (word ∷ []) ≡ true → AreCompleted options (word ∷ [])
completed-word options word None known is begins = ([], begins)
completed-word options word (Some row) known is begins =
    let row-known = (found-row options word row known is).0 in
    (row-known.some.0 ∷ codes "a" ∷ [], rw is (and_from _ _ row-known.some.1 refl))

-- a name with its value is completed by what completes the words behind
completed-step : (options : List OptionRow) (word value : Word) (words : List Word) (found : Option OptionRow) → option_named options word ≡ found
    → (begin_arguments (options_but options word) (is_file_name ∷ []) words ≡ true → AreCompleted (options_but options word) words)
    → by_option found value (begin_arguments (options_but options word) (is_file_name ∷ []) words) (begin_operands (is_file_name ∷ []) (word ∷ value ∷ words)) ≡ true
    → AreCompleted options (word ∷ value ∷ words)
completed-step options word value words None is behind begins = absurd (false≢true (and_parts (is_file_name word) false begins).1)
completed-step options word value words (Some row) is behind begins =
    let parts = and_parts (row.value value) (begin_arguments (options_but options word) (is_file_name ∷ []) words) begins in
    let more = behind parts.1 in
    (more.0, rw is (and_from _ _ parts.0 more.1))

-- words that begin arguments are completed by further words
completed : (options : List OptionRow) (words : List Word) → AreRows options → begin_arguments options (is_file_name ∷ []) words ≡ true → AreCompleted options words
completed options [] known begins = (codes "a" ∷ [], refl)
completed options (word ∷ []) known begins = completed-word options word (option_named options word) known refl begins
completed options (word ∷ value ∷ words) known begins =
    completed-step options word value words (option_named options word) refl (completed (options_but options word) words (rows-but options word known)) begins

-- words that begin the arguments of a row that is found are completed by further words
row-completed : (word : Word) (words : List Word) (found : Option CommandRow) → command_named word ≡ found → begins_command (word ∷ words) ≡ true
    → (more : List Word) × (is_command (word ∷ (words ++ more)) ≡ true)
row-completed word words None none begins = absurd (false≢true (sym (no-row-begins word words none) ∙ begins))
row-completed word words (Some row) found begins =
    let known = (command-row word row found).0 in
    let more = completed row.options words known.options (sym (begins-by-row word words row found) ∙ begins) in
    (more.0, is-by-row word (words ++ more.0) row found ∙ more.1)

-- words that begin a command are completed by further words
pub command-completed : (words : List Word) → begins_command words ≡ true → (more : List Word) × (is_command (words ++ more) ≡ true)
command-completed [] begins = (codes "run" ∷ codes "a" ∷ [], is-by-row (codes "run") (codes "a" ∷ []) run-row refl)
command-completed (word ∷ words) begins = row-completed word words (command_named word) refl begins
