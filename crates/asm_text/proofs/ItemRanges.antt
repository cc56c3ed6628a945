-- The numbers of a line's items are in their ranges.
use Rattle.std.proofs.Common.{refl, ℕ, List, [], ◌∷◌, Option, None, ◌&&◌}
use Rattle.std.specs.Prelude.{All, IfSome, option_map, option_and_then, is_some}
use Rattle.std.proofs.lemmas.Bool.{cond_both}
use Rattle.std.proofs.lemmas.Option.{IfSome_then}
use Rattle.std.proofs.lemmas.List.Elements.{All-nil, All-cons}
use Rattle.riscv_decode.specs.declared.instr.Instr.{Instr}
use Rattle.riscv_decode.specs.declared.instr.Instr.TheVariants.{Reg, Imm, Load, Store, Branch, Upper, Jal, Jalr, One, Ecall, Ebreak, Fence}
use Rattle.asm_text.specs.declared.listing.Value.{Value}
use Rattle.asm_text.specs.declared.listing.What.{What}
use Rattle.asm_text.specs.declared.listing.What.TheVariants as what
use Rattle.asm_text.specs.declared.listing.Item.{Item}
use Rattle.asm_text.specs.declared.tokens.Lexeme.{Lexeme}
use Rattle.asm_text.specs.declared.statements.DataSize.{DataSize}
use Rattle.asm_text.specs.declared.statements.DataSize.TheVariants as size
use Rattle.asm_text.specs.declared.statements.Statement.{Statement}
use Rattle.asm_text.specs.declared.statements.Statement.TheVariants as statement
use Rattle.asm_text.specs.declared.operands.Operands.{Operands}
use Rattle.asm_text.specs.Source.{item, before, data_items, items_of, statement_items, line_items}
use Rattle.asm_text.specs.Statements.{bytes_of, statement_named, form_of, instr_form, word_in, label_in, value_in, is_comma, is_colon, filled, no_operands, with_registers, said}
use Rattle.asm_text.specs.Ranges.{IsValue, HasRegisters, HasRanges}
use Rattle.asm_text.proofs.TokenRanges.{made-is, next-is, next-any, found-is, HaveNumbers}
use Rattle.asm_text.proofs.OperandRanges.{HaveRanges, value-found, form-ranged, natural-filled, segment-filled}

-- the registers of operands are those of the instruction
registers-ranged : (instr : Instr) (operands : Operands) → HaveRanges operands → HasRegisters (with_registers instr operands)
registers-ranged (Reg op rd rs1 rs2) operands has = (has.rd, has.rs1, has.rs2)
registers-ranged (Imm op rd rs1 imm) operands has = (has.rd, has.rs1)
registers-ranged (Load op rd rs1 imm) operands has = (has.rd, has.rs1)
registers-ranged (Store op rs1 rs2 imm) operands has = (has.rs1, has.rs2)
registers-ranged (Branch op rs1 rs2 imm) operands has = (has.rs1, has.rs2)
registers-ranged (Upper op rd imm) operands has = has.rd
registers-ranged (Jal rd imm) operands has = has.rd
registers-ranged (Jalr rd rs1 imm) operands has = (has.rd, has.rs1)
registers-ranged (One op rd rs1) operands has = (has.rd, has.rs1)
registers-ranged Ecall operands has = tt
registers-ranged Ebreak operands has = tt
registers-ranged Fence operands has = tt

-- a number of data has one of four sizes
data-ranged : (size : DataSize) (value : Value) → IsValue value → HasRanges (what.Bytes (bytes_of size) value)
data-ranged size.Byte value is = (refl, is)
data-ranged size.Half value is = (refl, is)
data-ranged size.Word value is = (refl, is)
data-ranged size.Quad value is = (refl, is)

-- what a statement says by the tokens of its form
said-ranged : (text : List ℕ) (s : Statement) (lexemes : List Lexeme) → HaveNumbers lexemes → IfSome (filled text (form_of s) lexemes no_operands) (λ operands. HasRanges (said s operands))
said-ranged text (statement.Instr instr) lexemes numbers =
    IfSome_then (filled text (instr_form instr) lexemes no_operands) (form-ranged text (instr_form instr) lexemes numbers) (λ operands has. (registers-ranged instr operands has, has.value))
said-ranged text statement.Segment lexemes numbers = segment-filled text lexemes numbers
said-ranged text (statement.Data size) lexemes numbers =
    IfSome_then (filled text (form_of (statement.Data size)) lexemes no_operands) (form-ranged text (form_of (statement.Data size)) lexemes numbers) (λ operands has. data-ranged size operands.value has.value)
said-ranged text statement.Space lexemes numbers = natural-filled text lexemes numbers
said-ranged text statement.Bss lexemes numbers = natural-filled text lexemes numbers
said-ranged text statement.Align lexemes numbers =
    IfSome_then (filled text (form_of statement.Align) lexemes no_operands) (form-ranged text (form_of statement.Align) lexemes numbers) (λ operands has. has.number)
said-ranged text statement.Cap lexemes numbers =
    IfSome_then (filled text (form_of statement.Cap) lexemes no_operands) (form-ranged text (form_of statement.Cap) lexemes numbers) (λ operands has. (has.length, has.offset, has.perms))
said-ranged text statement.Entry lexemes numbers = found-is (filled text (form_of statement.Entry) lexemes no_operands) (λ operands. HasRanges (said statement.Entry operands)) (λ operands is. tt)
said-ranged text statement.Ascii lexemes numbers = found-is (filled text (form_of statement.Ascii) lexemes no_operands) (λ operands. HasRanges (said statement.Ascii operands)) (λ operands is. tt)

-- the numbers of an item, and of some
abbrev IsRanged : Item → Type 0
IsRanged i = HasRanges i.what

abbrev pub AreRanged : List Item → Type 0
AreRanged items = All (λ item. HasRanges item.what) items

-- none are
pub ranged-none : AreRanged []
ranged-none = All-nil IsRanged

-- an item alone
ranged-alone : (line : ℕ) (says : What) → HasRanges says → AreRanged (item line says ∷ [])
ranged-alone line says is = All-cons IsRanged (item line says) [] is ranged-none

-- an item before others
ranged-before : (line : ℕ) (says : What) (others : Option (List Item)) → HasRanges says → IfSome others AreRanged → IfSome (before (item line says) others) AreRanged
ranged-before line says others is are = made-is (λ (items : List Item). item line says ∷ items) others AreRanged AreRanged are (λ items behind. All-cons IsRanged (item line says) items is behind)

-- the values of data
values-ranged : (text : List ℕ) (line : ℕ) (size : DataSize) (lexemes : List Lexeme) → HaveNumbers lexemes → IfSome (data_items text line size lexemes) AreRanged
values-ranged text line size [] numbers = tt
values-ranged text line size (lexeme ∷ []) numbers =
    made-is (λ value. item line (what.Bytes (bytes_of size) value) ∷ []) (value_in text lexeme) IsValue AreRanged (value-found lexeme.token (label_in text lexeme) numbers.0)
    (λ value is. ranged-alone line (what.Bytes (bytes_of size) value) (data-ranged size value is))
values-ranged text line size (lexeme ∷ comma ∷ lexemes) numbers =
    let first = λ (value : Value). before (item line (what.Bytes (bytes_of size) value)) (data_items text line size lexemes) in
    cond_both (is_comma comma.token) (option_and_then first (value_in text lexeme)) None (λ found. IfSome found AreRanged)
    (λ comes.
    next-is first (value_in text lexeme) IsValue AreRanged (value-found lexeme.token (label_in text lexeme) numbers.0)
    (λ value is. ranged-before line (what.Bytes (bytes_of size) value) (data_items text line size lexemes) (data-ranged size value is) (values-ranged text line size lexemes numbers.1.1)))
    (λ other. tt)

-- the item of another statement
other-ranged : (text : List ℕ) (line : ℕ) (s : Statement) (lexemes : List Lexeme) → HaveNumbers lexemes
    → IfSome (option_map (λ operands. item line (said s operands) ∷ []) (filled text (form_of s) lexemes no_operands)) AreRanged
other-ranged text line s lexemes numbers =
    made-is (λ operands. item line (said s operands) ∷ []) (filled text (form_of s) lexemes no_operands) (λ operands. HasRanges (said s operands)) AreRanged (said-ranged text s lexemes numbers)
    (λ operands is. ranged-alone line (said s operands) is)

-- the items of a statement
items-ranged : (text : List ℕ) (line : ℕ) (s : Statement) (lexemes : List Lexeme) → HaveNumbers lexemes → IfSome (items_of text line s lexemes) AreRanged
items-ranged text line (statement.Data size) lexemes numbers = values-ranged text line size lexemes numbers
items-ranged text line s lexemes numbers = other-ranged text line s lexemes numbers

-- with its name
statement-ranged : (text : List ℕ) (line : ℕ) (lexemes : List Lexeme) → HaveNumbers lexemes → IfSome (statement_items text line lexemes) AreRanged
statement-ranged text line [] numbers = ranged-none
statement-ranged text line (lexeme ∷ lexemes) numbers =
    next-any (λ s. items_of text line s lexemes) (option_and_then statement_named (word_in text lexeme)) AreRanged (λ s. items-ranged text line s lexemes numbers.1)

-- The items of a line.
pub line-ranged : (text : List ℕ) (line : ℕ) (lexemes : List Lexeme) → HaveNumbers lexemes → IfSome (line_items text line lexemes) AreRanged
line-ranged text line [] numbers = ranged-none
line-ranged text line (lexeme ∷ []) numbers = statement-ranged text line (lexeme ∷ []) numbers
line-ranged text line (lexeme ∷ colon ∷ lexemes) numbers =
    let says = what.Label lexeme.span in
    cond_both (is_some (label_in text lexeme) && is_colon colon.token) (before (item line says) (line_items text line lexemes)) (statement_items text line (lexeme ∷ colon ∷ lexemes))
    (λ found. IfSome found AreRanged) (λ label. ranged-before line says (line_items text line lexemes) tt (line-ranged text line lexemes numbers.1.1))
    (λ other. statement-ranged text line (lexeme ∷ colon ∷ lexemes) numbers)
