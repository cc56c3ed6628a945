-- What the statements of a line are: their names, the forms of their operands, and what they say. This project's own.
use Rattle.std.specs.Prelude.{ℕ, ◌+◌, ◌*◌, ◌-◌, ℤ, pos, int_le, Bool, true, false, not, ◌==◌, ◌&&◌, ◌||◌, nat_le, if◌then◌else◌, Option, Some, None, option_map, option_and_then, List, [], ◌∷◌, find, bytes_eq, codes}
use Rattle.riscv_decode.specs.declared.instr.Instr.{Instr}
use Rattle.riscv_decode.specs.declared.instr.Instr.TheVariants.{Reg, Imm, Load, Store, Branch, Upper, Jal, Jalr, One, Ecall, Ebreak, Fence}
use Rattle.asm_text.specs.declared.listing.Span.{Span}
use Rattle.asm_text.specs.declared.listing.Value.{Value}
use Rattle.asm_text.specs.declared.listing.Value.TheVariants as value
use Rattle.asm_text.specs.declared.listing.What.{What}
use Rattle.asm_text.specs.declared.listing.What.TheVariants as what
use Rattle.asm_text.specs.declared.tokens.Token.{Token}
use Rattle.asm_text.specs.declared.tokens.Token.TheVariants as token
use Rattle.asm_text.specs.declared.tokens.Lexeme.{Lexeme}
use Rattle.asm_text.specs.declared.statements.DataSize.{DataSize}
use Rattle.asm_text.specs.declared.statements.DataSize.TheVariants as size
use Rattle.asm_text.specs.declared.statements.Statement.{Statement}
use Rattle.asm_text.specs.declared.statements.Statement.TheVariants as statement
use Rattle.asm_text.specs.declared.statements.TheConstants.{STATEMENTS}
use Rattle.asm_text.specs.declared.operands.Slot.{Slot}
use Rattle.asm_text.specs.declared.operands.Slot.TheVariants as slot
use Rattle.asm_text.specs.declared.operands.Operands.{Operands}
use Rattle.asm_text.specs.Bytes.{is_digit, are}
use Rattle.asm_text.specs.Lines.{slice_of}
use Rattle.asm_text.specs.Mnemonics.{mnemonic}

-- the name of a directive for data, and the bytes of each of its numbers
abbrev pub data_name : DataSize → List ℕ
data_name size.Byte = codes ".byte"
data_name size.Half = codes ".half"
data_name size.Word = codes ".word"
data_name size.Quad = codes ".quad"

abbrev pub bytes_of : DataSize → ℕ
bytes_of size.Byte = 1
bytes_of size.Half = 2
bytes_of size.Word = 4
bytes_of size.Quad = 8

-- the name of a statement
abbrev pub name_of : Statement → List ℕ
name_of (statement.Instr instr) = mnemonic instr
name_of statement.Segment = codes ".segment"
name_of statement.Entry = codes ".entry"
name_of (statement.Data size) = data_name size
name_of statement.Ascii = codes ".ascii"
name_of statement.Space = codes ".space"
name_of statement.Align = codes ".align"
name_of statement.Bss = codes ".bss"
name_of statement.Cap = codes ".cap"

-- the statement of a name
abbrev pub statement_named : List ℕ → Option Statement
statement_named name = find (λ statement. bytes_eq (name_of statement) name) STATEMENTS

-- the operands of an instruction, in their order
abbrev pub instr_form : Instr → List Slot
instr_form (Reg op rd rs1 rs2) = slot.Rd ∷ slot.Comma ∷ slot.Rs1 ∷ slot.Comma ∷ slot.Rs2 ∷ []
instr_form (Imm op rd rs1 value) = slot.Rd ∷ slot.Comma ∷ slot.Rs1 ∷ slot.Comma ∷ slot.Value ∷ []
instr_form (Load op rd rs1 value) = slot.Rd ∷ slot.Comma ∷ slot.Value ∷ slot.Open ∷ slot.Rs1 ∷ slot.Close ∷ []
instr_form (Store op rs1 rs2 value) = slot.Rs2 ∷ slot.Comma ∷ slot.Value ∷ slot.Open ∷ slot.Rs1 ∷ slot.Close ∷ []
instr_form (Branch op rs1 rs2 value) = slot.Rs1 ∷ slot.Comma ∷ slot.Rs2 ∷ slot.Comma ∷ slot.Value ∷ []
instr_form (Upper op rd value) = slot.Rd ∷ slot.Comma ∷ slot.Value ∷ []
instr_form (Jal rd value) = slot.Rd ∷ slot.Comma ∷ slot.Value ∷ []
instr_form (Jalr rd rs1 value) = slot.Rd ∷ slot.Comma ∷ slot.Rs1 ∷ slot.Comma ∷ slot.Value ∷ []
instr_form (One op rd rs1) = slot.Rd ∷ slot.Comma ∷ slot.Rs1 ∷ []
instr_form Ecall = []
instr_form Ebreak = []
instr_form Fence = []

-- those of a statement; data has one value, or several of them with commas between
abbrev pub form_of : Statement → List Slot
form_of (statement.Instr instr) = instr_form instr
form_of statement.Segment = slot.Natural ∷ slot.Rights ∷ []
form_of statement.Entry = slot.Label ∷ []
form_of (statement.Data size) = slot.Value ∷ []
form_of statement.Ascii = slot.Text ∷ []
form_of statement.Space = slot.Natural ∷ []
form_of statement.Align = slot.Number ∷ []
form_of statement.Bss = slot.Natural ∷ []
form_of statement.Cap = slot.Label ∷ slot.Comma ∷ slot.Length ∷ slot.Comma ∷ slot.Offset ∷ slot.Comma ∷ slot.Perms ∷ []

-- a register's number, from 0 to 31, without a leading zero
abbrev pub register_number : List ℕ → Option ℕ
register_number [] = None
register_number (byte ∷ []) = if is_digit byte then Some (byte - 48) else None
register_number (byte ∷ next ∷ []) =
    if is_digit byte && (is_digit next && (not (byte == 48) && nat_le ((byte - 48) * 10 + (next - 48)) 31)) then Some ((byte - 48) * 10 + (next - 48)) else None
register_number (byte ∷ next ∷ third ∷ bytes) = None

-- a register: `x` or `c`, and its number
abbrev pub register_of : List ℕ → Option ℕ
register_of [] = None
register_of (byte ∷ bytes) = if (byte == 120) || (byte == 99) then register_number bytes else None

-- a label is a word without `.`
abbrev pub is_label_name : List ℕ → Bool
is_label_name name = are (λ byte. not (byte == 46)) name

-- the rights that flags say
abbrev pub rights_of : List ℕ → Option ℕ
rights_of name =
    if bytes_eq name (codes "r") then Some 4 else (if bytes_eq name (codes "rw") then Some 6
    else (if bytes_eq name (codes "rx") then Some 5 else (if bytes_eq name (codes "rwx") then Some 7 else None)))

-- the word that a token of these bytes is
abbrev pub word_from : Token → List ℕ → Option (List ℕ)
word_from token.Word bytes = Some bytes
word_from _ bytes = None

abbrev pub word_in : List ℕ → Lexeme → Option (List ℕ)
word_in text lexeme = word_from lexeme.token (slice_of text lexeme.span)

-- the number that a token is, and the one that isn't negative
abbrev pub number_from : Token → Option ℤ
number_from (token.Number n) = Some n
number_from _ = None

abbrev pub unless_negative : ℤ → Option ℤ
unless_negative n = if int_le (pos 0) n then Some n else None

abbrev pub natural_from : Token → Option ℤ
natural_from t = option_and_then unless_negative (number_from t)

-- the place of a string
abbrev pub text_from : Token → Span → Option Span
text_from token.Text span = Some span
text_from _ span = None

-- the place of a label, which is that word
abbrev pub label_at : Span → List ℕ → Option Span
label_at span name = if is_label_name name then Some span else None

abbrev pub label_in : List ℕ → Lexeme → Option Span
label_in text lexeme = option_and_then (label_at lexeme.span) (word_in text lexeme)

-- a value is a number or a label
abbrev pub value_from : Token → Option Span → Option Value
value_from (token.Number n) label = Some (value.Number n)
value_from _ label = option_map (λ span. value.Name span) label

abbrev pub value_in : List ℕ → Lexeme → Option Value
value_in text lexeme = value_from lexeme.token (label_in text lexeme)

-- the register that a token is
abbrev pub register_in : List ℕ → Lexeme → Option ℕ
register_in text lexeme = option_and_then register_of (word_in text lexeme)

-- a token is a mark
abbrev pub is_comma : Token → Bool
is_comma token.Comma = true
is_comma _ = false

abbrev pub is_colon : Token → Bool
is_colon token.Colon = true
is_colon _ = false

abbrev pub is_open : Token → Bool
is_open token.Open = true
is_open _ = false

abbrev pub is_close : Token → Bool
is_close token.Close = true
is_close _ = false

-- the operands where a mark is, or none
abbrev pub marked : Bool → Operands → Option Operands
marked is operands = if is then Some operands else None

-- the operands with the one that a token says
abbrev pub put : List ℕ → Slot → Lexeme → Operands → Option Operands
put text slot.Rd lexeme operands = option_map (λ n. record operands { rd = n }) (register_in text lexeme)
put text slot.Rs1 lexeme operands = option_map (λ n. record operands { rs1 = n }) (register_in text lexeme)
put text slot.Rs2 lexeme operands = option_map (λ n. record operands { rs2 = n }) (register_in text lexeme)
put text slot.Value lexeme operands = option_map (λ v. record operands { value = v }) (value_in text lexeme)
put text slot.Comma lexeme operands = marked (is_comma lexeme.token) operands
put text slot.Open lexeme operands = marked (is_open lexeme.token) operands
put text slot.Close lexeme operands = marked (is_close lexeme.token) operands
put text slot.Label lexeme operands = option_map (λ span. record operands { name = span }) (label_in text lexeme)
put text slot.Text lexeme operands = option_map (λ span. record operands { name = span }) (text_from lexeme.token lexeme.span)
put text slot.Number lexeme operands = option_map (λ n. record operands { number = n }) (number_from lexeme.token)
put text slot.Natural lexeme operands = option_map (λ n. record operands { number = n }) (natural_from lexeme.token)
put text slot.Rights lexeme operands = option_map (λ n. record operands { rights = n }) (option_and_then rights_of (word_in text lexeme))
put text slot.Length lexeme operands = option_map (λ n. record operands { length = n }) (number_from lexeme.token)
put text slot.Offset lexeme operands = option_map (λ n. record operands { offset = n }) (number_from lexeme.token)
put text slot.Perms lexeme operands = option_map (λ n. record operands { perms = n }) (number_from lexeme.token)

-- what the tokens say that stand in a form
abbrev pub filled : List ℕ → List Slot → List Lexeme → Operands → Option Operands
filled text [] [] operands = Some operands
filled text [] (lexeme ∷ lexemes) operands = None
filled text (slot ∷ slots) [] operands = None
filled text (slot ∷ slots) (lexeme ∷ lexemes) operands = option_and_then (filled text slots lexemes) (put text slot lexeme operands)

-- what is said where nothing is
abbrev pub nowhere : Span
nowhere = record { first = 0; past = 0 }

abbrev pub no_operands : Operands
no_operands = record { rd = 0; rs1 = 0; rs2 = 0; value = value.Number (pos 0); name = nowhere; number = pos 0; rights = 0; length = pos 0; offset = pos 0; perms = pos 0 }

-- an instruction with these registers, and with the immediate 0
abbrev pub with_registers : Instr → Operands → Instr
with_registers (Reg op rd rs1 rs2) operands = Reg op operands.rd operands.rs1 operands.rs2
with_registers (Imm op rd rs1 value) operands = Imm op operands.rd operands.rs1 (pos 0)
with_registers (Load op rd rs1 value) operands = Load op operands.rd operands.rs1 (pos 0)
with_registers (Store op rs1 rs2 value) operands = Store op operands.rs1 operands.rs2 (pos 0)
with_registers (Branch op rs1 rs2 value) operands = Branch op operands.rs1 operands.rs2 (pos 0)
with_registers (Upper op rd value) operands = Upper op operands.rd 0
with_registers (Jal rd value) operands = Jal operands.rd (pos 0)
with_registers (Jalr rd rs1 value) operands = Jalr operands.rd operands.rs1 (pos 0)
with_registers (One op rd rs1) operands = One op operands.rd operands.rs1
with_registers Ecall operands = Ecall
with_registers Ebreak operands = Ebreak
with_registers Fence operands = Fence

-- what a statement says by its operands
abbrev pub said : Statement → Operands → What
said (statement.Instr instr) operands = what.Instr (with_registers instr operands) operands.value
said statement.Segment operands = what.Segment operands.number operands.rights
said statement.Entry operands = what.Entry operands.name
said (statement.Data size) operands = what.Bytes (bytes_of size) operands.value
said statement.Ascii operands = what.Ascii operands.name
said statement.Space operands = what.Space operands.number
said statement.Align operands = what.Align operands.number
said statement.Bss operands = what.Bss operands.number
said statement.Cap operands = what.Cap operands.name operands.length operands.offset operands.perms
