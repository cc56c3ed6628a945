-- The table of commands: which row a word finds, and what is known of it.
use Rattle.std.proofs.Common.{◌≡◌, ◌≢◌, ◌∙◌, sym, ap, refl, subst, ◌⊎◌, ℕ, true, false, List, [], ◌∷◌, Option, Some, None, inl, inr}
use Rattle.std.specs.Prelude.{bytes_eq, codes, find}
use Rattle.std.proofs.lemmas.Bool.{cases_Bool, both_ways}
use Rattle.command_words.specs.declared.words.Options.{Options}
use Rattle.command_words.specs.declared.words.Command.{Command}
use Rattle.command_words.specs.declared.words.Command.TheVariants.{Run}
use Rattle.command_words.specs.Grammar.{Word, CommandRow, is_file_name, run_name, asm_name, disasm_name, check_name, run_options, tool, commands}
use Rattle.command_words.specs.Grammar.{are_arguments, begin_arguments, command_named, has_arguments, begins_arguments, is_command, begins_command}
use Rattle.command_words.specs.Commands.{options_of, command_by}
use Rattle.command_words.specs.Reading.{tool_of}
use Rattle.command_words.specs.Sayings.{IsCommandOf}
use Rattle.command_words.proofs.Tables.{AreRows, same-text, text-itself}
use Rattle.command_words.proofs.RunTable.{run-rows}

-- the word is the name of a tool
abbrev pub NamesTool : Word → Type 0
NamesTool word = (word ≡ codes "asm") ⊎ ((word ≡ codes "disasm") ⊎ (word ≡ codes "check"))

-- What is known of a tool's name: it finds the row of the tool, and the command that it says is the one that it is read as, is a command of
-- two words, and isn't `run`.
pub record IsToolName (word : Word) : Type 0 where
  pub which : NamesTool word
  pub row : command_named word ≡ Some (tool word)
  pub read : (options : Options) → tool_of word ≡ Some (command_by word options 1)
  pub within : (options : Options) → IsCommandOf 2 (command_by word options 1)
  pub other : (options said : Options) (file image : ℕ) → command_by word options file ≢ Run said image

-- it is known of each tool's name
pub tool-name : (word : Word) → NamesTool word → IsToolName word
tool-name word (inl is) = subst IsToolName (sym is)
    (record { which = inl refl; row = refl; read = λ options. refl; within = λ options. refl; other = λ options said file image same. cc })
tool-name word (inr (inl is)) = subst IsToolName (sym is)
    (record { which = inr (inl refl); row = refl; read = λ options. refl; within = λ options. refl; other = λ options said file image same. cc })
tool-name word (inr (inr is)) = subst IsToolName (sym is)
    (record { which = inr (inr refl); row = refl; read = λ options. refl; within = λ options. refl; other = λ options said file image same. cc })

-- what is known of a row: its name is a file name, its options are known, it takes one file, and it is that of `run` or of a tool
pub record IsCommandRow (row : CommandRow) : Type 0 where
  pub file : is_file_name row.name ≡ true
  pub options : AreRows row.options
  pub operands : row.operands ≡ is_file_name ∷ []
  pub which : (row.name ≡ codes "run") ⊎ IsToolName row.name

-- it is known of all rows of a table
abbrev AreCommandRows : List CommandRow → Type 0
AreCommandRows [] = Unit {0}
AreCommandRows (row ∷ rows) = IsCommandRow row × AreCommandRows rows

-- the row of `run`
abbrev pub run-row : CommandRow
run-row = record { name = run_name; options = run_options; operands = is_file_name ∷ [] }

-- the row of a tool
tool-row : (name : Word) → is_file_name name ≡ true → NamesTool name → IsCommandRow (tool name)
tool-row name file which = record { file = file; options = tt; operands = refl; which = inr (tool-name name which) }

-- the rows of the table are known
command-rows : AreCommandRows commands
command-rows = (
  record { file = refl; options = run-rows; operands = refl; which = inl refl },
  (tool-row asm_name refl (inl refl), (tool-row disasm_name refl (inr (inl refl)), (tool-row check_name refl (inr (inr refl)), tt))),
)

-- a row that is found in a table by a name has that name, and is known
found-command : (rows : List CommandRow) (word : Word) (row : CommandRow) → AreCommandRows rows → find (λ command. bytes_eq command.name word) rows ≡ Some row
    → IsCommandRow row × (row.name ≡ word)
found-command [] word row known found = cc
found-command (first ∷ rows) word row known found = elim (cases_Bool (bytes_eq first.name word)) [
  | inl same ↦
      let is-some : Some first ≡ Some row = rw same at found in
      let is : first ≡ row = cc in
      (subst IsCommandRow is known.0, subst (λ (r : CommandRow). r.name ≡ word) is (same-text first.name word same))
  | inr differs ↦
      let behind : find (λ command. bytes_eq command.name word) rows ≡ Some row = rw differs at found in
      found-command rows word row known.1 behind
]

-- a row that a word finds is known, and the word is its name
pub command-row : (word : Word) (row : CommandRow) → command_named word ≡ Some row → IsCommandRow row × (row.name ≡ word)
command-row word row found = found-command commands word row command-rows found

-- words are a command where those behind the name are arguments of its row
pub is-by-row : (word : Word) (words : List Word) (row : CommandRow) → command_named word ≡ Some row → is_command (word ∷ words) ≡ are_arguments row.options (is_file_name ∷ []) words
unfolding is_command
is-by-row word words row found = ap (λ x. has_arguments x words) found ∙ ap (λ x. are_arguments row.options x words) (command-row word row found).0.operands

-- and they begin one where those begin arguments
pub begins-by-row : (word : Word) (words : List Word) (row : CommandRow) → command_named word ≡ Some row
    → begins_command (word ∷ words) ≡ begin_arguments row.options (is_file_name ∷ []) words
unfolding begins_command
begins-by-row word words row found = ap (λ x. begins_arguments x words) found ∙ ap (λ x. begin_arguments row.options x words) (command-row word row found).0.operands

-- words whose first finds no row are no command
pub no-row-is : (word : Word) (words : List Word) → command_named word ≡ None → is_command (word ∷ words) ≡ false
unfolding is_command
no-row-is word words none = ap (λ x. has_arguments x words) none

-- and begin none
pub no-row-begins : (word : Word) (words : List Word) → command_named word ≡ None → begins_command (word ∷ words) ≡ false
unfolding begins_command
no-row-begins word words none = ap (λ x. begins_arguments x words) none

-- a word that is read as a tool's name is one
pub read-tool : (word : Word) (command : Command) → tool_of word ≡ Some command → IsToolName word
read-tool word command is = elim (cases_Bool (bytes_eq word asm_name)) [
  | inl asm ↦ tool-name word (inl (same-text word asm_name asm))
  | inr not-asm ↦ elim (cases_Bool (bytes_eq word disasm_name)) [
    | inl disasm ↦ tool-name word (inr (inl (same-text word disasm_name disasm)))
    | inr not-disasm ↦ elim (cases_Bool (bytes_eq word check_name)) [
      | inl check ↦ tool-name word (inr (inr (same-text word check_name check)))
      | inr not-check ↦ let none : None ≡ Some command = rw (not-asm, not-disasm, not-check) at is in cc
    ]
  ]
]

-- a word that is neither `run` nor read as a tool's name finds no row
pub no-row : (word : Word) → bytes_eq word (codes "run") ≡ false → tool_of word ≡ None → command_named word ≡ None
no-row word other none = unfound (command_named word) refl
  where
    unfound : (found : Option CommandRow) → command_named word ≡ found → found ≡ None
    unfound None is = refl
    unfound (Some row) is =
        let known = command-row word row is in
        elim known.0.which [
          | inl run ↦ absurd (both_ways (bytes_eq word (codes "run")) other (ap (λ x. bytes_eq x (codes "run")) (sym known.1 ∙ run) ∙ text-itself (codes "run")))
          | inr tool ↦
              let same : Some (command_by row.name (options_of []) 1) ≡ None = sym (tool.read (options_of [])) ∙ ap tool_of known.1 ∙ none in
              cc
        ]
