-- The listing of a source, or its first fault. This project's own.
use Rattle.std.specs.Prelude.{ℕ, ◌+◌, ◌&&◌, is_some, nat_lt, if◌then◌else◌, Option, Some, None, option_map, option_and_then, Result, Ok, Err, List, [], ◌∷◌, ◌++◌, length}
use Rattle.asm_text.specs.declared.listing.What.{What}
use Rattle.asm_text.specs.declared.listing.What.TheVariants.{Label, Bytes}
use Rattle.asm_text.specs.declared.listing.Item.{Item}
use Rattle.asm_text.specs.declared.source.SourceFault.{SourceFault}
use Rattle.asm_text.specs.declared.source.SourceReason.{SourceReason}
use Rattle.asm_text.specs.declared.source.SourceReason.TheVariants.{TooLong, BadText, BadStatement}
use Rattle.asm_text.specs.declared.statements.DataSize.{DataSize}
use Rattle.asm_text.specs.declared.statements.Statement.{Statement}
use Rattle.asm_text.specs.declared.statements.Statement.TheVariants as statement
use Rattle.asm_text.specs.declared.tokens.Lexeme.{Lexeme}
use Rattle.asm_text.specs.Numbers.{source_bytes}
use Rattle.asm_text.specs.Lines.{Line, lines_from, Lexed, lexed_line}
use Rattle.asm_text.specs.Statements.{bytes_of, statement_named, form_of, word_in, label_in, value_in, is_comma, is_colon, filled, no_operands, said}

-- an item of a line
abbrev pub item : ℕ → What → Item
item line what = record { line = line; what = what }

-- one before others, where there are others
abbrev pub before : Item → Option (List Item) → Option (List Item)
before first others = option_map (λ items. first ∷ items) others

-- the values of data, with commas between: an item for each
abbrev pub data_items : List ℕ → ℕ → DataSize → List Lexeme → Option (List Item)
data_items text line size [] = None
data_items text line size (lexeme ∷ []) = option_map (λ value. item line (Bytes (bytes_of size) value) ∷ []) (value_in text lexeme)
data_items text line size (lexeme ∷ comma ∷ lexemes) =
    if is_comma comma.token then option_and_then (λ value. before (item line (Bytes (bytes_of size) value)) (data_items text line size lexemes)) (value_in text lexeme) else None

-- the items of a statement with these operands
abbrev pub items_of : List ℕ → ℕ → Statement → List Lexeme → Option (List Item)
items_of text line (statement.Data size) lexemes = data_items text line size lexemes
items_of text line other lexemes = option_map (λ operands. item line (said other operands) ∷ []) (filled text (form_of other) lexemes no_operands)

-- a line has at most one statement
abbrev pub statement_items : List ℕ → ℕ → List Lexeme → Option (List Item)
statement_items text line [] = Some []
statement_items text line (lexeme ∷ lexemes) = option_and_then (λ statement. items_of text line statement lexemes) (option_and_then statement_named (word_in text lexeme))

-- and before it any number of labels, each with a colon
abbrev pub line_items : List ℕ → ℕ → List Lexeme → Option (List Item)
line_items text line [] = Some []
line_items text line (lexeme ∷ []) = statement_items text line (lexeme ∷ [])
line_items text line (lexeme ∷ colon ∷ lexemes) =
    if is_some (label_in text lexeme) && is_colon colon.token then before (item line (Label lexeme.span)) (line_items text line lexemes)
    else statement_items text line (lexeme ∷ colon ∷ lexemes)

-- The items of a line, or its fault: its bytes are no tokens, or the tokens are no labels and a statement.
abbrev pub with_items : Option (List Item) → Result (List Item) SourceReason
with_items None = Err BadStatement
with_items (Some items) = Ok items

abbrev pub of_lexed : List ℕ → ℕ → Lexed → Result (List Item) SourceReason
of_lexed text line found = if found.whole then with_items (line_items text line found.lexemes) else Err BadText

unfoldable pub line_of : List ℕ → ℕ → Line → Result (List Item) SourceReason
line_of text number line = of_lexed text number (lexed_line line)

-- a fault at a line
abbrev pub fault : ℕ → SourceReason → SourceFault
fault line reason = record { line = line; reason = reason }

-- The items of the lines from a number on, or the fault of the first line that has one.
abbrev pub joined : ℕ → Result (List Item) SourceReason → Result (List Item) SourceFault → Result (List Item) SourceFault
joined number (Err reason) rest = Err (fault number reason)
joined number (Ok items) (Err later) = Err later
joined number (Ok items) (Ok rest) = Ok (items ++ rest)

abbrev pub of_lines : List ℕ → ℕ → List Line → Result (List Item) SourceFault
of_lines text number [] = Ok []
of_lines text number (line ∷ lines) = joined number (line_of text number line) (of_lines text (number + 1) lines)

-- A source is a listing, or it is at fault: a longer one at line 0, before all.
unfoldable pub source_of : List ℕ → Result (List Item) SourceFault
source_of text = if nat_lt source_bytes (length text) then Err (fault 0 TooLong) else of_lines text 1 (lines_from 0 text)
