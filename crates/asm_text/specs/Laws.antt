-- Laws of the language, in plain sentences: each is the contract of a function of this crate.
use Rattle.std.specs.Prelude.{◌≡◌, ◌≢◌, ℕ, ◌+◌, ◌-◌, ◌^◌, ◌<◌, ◌≤◌, ◌⊎◌, pos, neg_ℤ, true, false, not, ◌==◌, Some, None, Result, Ok, Err, List, [], ◌∷◌, ◌++◌, All, flat_map, get_or, length, take, decimal}
use Rattle.riscv_decode.specs.declared.instr.Instr.{Instr}
use Rattle.asm_text.specs.declared.tokens.Token.TheVariants.{Number}
use Rattle.asm_text.specs.declared.statements.DataSize.{DataSize}
use Rattle.asm_text.specs.declared.statements.Statement.{Statement}
use Rattle.asm_text.specs.declared.statements.Statement.TheVariants as statement
use Rattle.asm_text.specs.declared.operands.Operands.{Operands}
use Rattle.asm_text.specs.declared.listing.Item.{Item}
use Rattle.asm_text.specs.declared.source.SourceReason.{SourceReason}
use Rattle.asm_text.specs.declared.source.SourceReason.TheVariants.{TooLong}
use Rattle.asm_text.specs.Bytes.{is_digit, are, are_some}
use Rattle.asm_text.specs.Tokens.{is_lexeme, token_of, lexeme_length}
use Rattle.asm_text.specs.Mnemonics.{mnemonic}
use Rattle.asm_text.specs.Statements.{data_name, name_of, statement_named, register_of, with_registers}
use Rattle.asm_text.specs.Lines.{Line, lines_from}
use Rattle.asm_text.specs.Source.{fault, line_of, source_of}
use Rattle.asm_text.specs.Spans.{HasSpans}

-- At the front of some bytes the longest token counts: its bytes have the form of one, and more of them don't; there is none where no first
-- bytes have it. The text of a number from -2^63 to 2^64 - 1 is that number, and that of another is no token, up to 64 digits, which are the
-- most that `decimal` writes. A zero before any digits changes nothing.
pub record TokensAreExact : Type 0 where
  pub within : (bytes : List ℕ) → lexeme_length bytes ≤ length bytes
  pub is : (bytes : List ℕ) → lexeme_length bytes ≢ 0 → is_lexeme (take (lexeme_length bytes) bytes) ≡ true
  pub longest : (bytes : List ℕ) (count : ℕ) → lexeme_length bytes < count → count ≤ length bytes → is_lexeme (take count bytes) ≡ false
  pub number : (n : ℕ) → n < 2 ^ 64 → token_of (decimal n) ≡ Some (Number (pos n))
  pub negative : (n : ℕ) → n ≤ 2 ^ 63 → token_of (45 ∷ decimal n) ≡ Some (Number (neg_ℤ (pos n)))
  pub zeros : (digits : List ℕ) → are_some is_digit digits ≡ true → token_of (48 ∷ digits) ≡ token_of digits
  pub great : (n : ℕ) → 2 ^ 64 ≤ n → n < 10 ^ 64 → token_of (decimal n) ≡ None
  pub less : (n : ℕ) → 2 ^ 63 < n → n < 10 ^ 64 → token_of (45 ∷ decimal n) ≡ None

-- the names of a register
abbrev pub register_names : ℕ → List ℕ → Type 0
register_names n name = (name ≡ 120 ∷ decimal n) ⊎ (name ≡ 99 ∷ decimal n)

-- The name of an instruction is found as an instruction of its row, and the name of a directive for data as that directive. A statement is
-- found by its own name alone, and registers don't change the name of an instruction. The name of a register is `x` or `c` and its number
-- from 0 to 31.
pub record NamesAreExact : Type 0 where
  pub instr : (instr : Instr) (operands : Operands) → (found : Instr) × (statement_named (mnemonic instr) ≡ Some (statement.Instr found)) × (with_registers found operands ≡ with_registers instr operands)
  pub kept : (instr : Instr) (operands : Operands) → mnemonic (with_registers instr operands) ≡ mnemonic instr
  pub named : (name : List ℕ) (statement : Statement) → statement_named name ≡ Some statement → name ≡ name_of statement
  pub directives : (size : DataSize) → statement_named (data_name size) ≡ Some (statement.Data size)
  pub register : (n : ℕ) (name : List ℕ) → n ≤ 31 → register_names n name → register_of name ≡ Some n
  pub is_register : (name : List ℕ) (n : ℕ) → register_of name ≡ Some n → (n ≤ 31) × register_names n name

-- the line of a number, from 1
abbrev pub line_at : List ℕ → ℕ → Line
line_at text n = get_or (lines_from 0 text) (n - 1) (record { place = 0; bytes = [] })

-- A line has this fault, and none before it has one.
pub record IsFirstFault (text : List ℕ) (n : ℕ) (reason : SourceReason) : Type 0 where
  pub from : 1 ≤ n
  pub to : n ≤ length (lines_from 0 text)
  pub here : line_of text n (line_at text n) ≡ Err reason
  pub before : (k : ℕ) → 1 ≤ k → k < n → (items : List Item) × (line_of text k (line_at text k) ≡ Ok items)

-- the items of a line, and of the lines from a number on, where no line has a fault
abbrev pub items_in : Result (List Item) SourceReason → List Item
items_in (Ok items) = items
items_in (Err reason) = []

abbrev pub all_items : List ℕ → ℕ → List Line → List Item
all_items text n [] = []
all_items text n (line ∷ lines) = items_in (line_of text n line) ++ all_items text (n + 1) lines

-- A source of over 1048576 bytes is too long, at line 0. Else the fault of a source is that of its first line with one; and where no line
-- has one the source says what its lines say, in order. No line has a line feed, and the lines of a text that ends in one are that text, each
-- with a line feed behind it.
pub record SourcesAreExact : Type 0 where
  pub long : (text : List ℕ) → 1048577 ≤ length text → source_of text ≡ Err (fault 0 TooLong)
  pub first : (text : List ℕ) (n : ℕ) (reason : SourceReason) → length text ≤ 1048576 → IsFirstFault text n reason → source_of text ≡ Err (fault n reason)
  pub fault_is : (text : List ℕ) (n : ℕ) (reason : SourceReason) → length text ≤ 1048576 → source_of text ≡ Err (fault n reason) → IsFirstFault text n reason
  pub read : (text : List ℕ) (items : List Item) → source_of text ≡ Ok items → items ≡ all_items text 1 (lines_from 0 text)
  pub right : (text : List ℕ) → length text ≤ 1048576 → ((n : ℕ) → 1 ≤ n → n ≤ length (lines_from 0 text) → (items : List Item) × (line_of text n (line_at text n) ≡ Ok items))
      → source_of text ≡ Ok (all_items text 1 (lines_from 0 text))
  pub lines : (text : List ℕ) → flat_map (λ line. line.bytes ++ (10 ∷ [])) (lines_from 0 (text ++ (10 ∷ []))) ≡ text ++ (10 ∷ [])
  pub unbroken : (text : List ℕ) → All (λ line. are (λ byte. not (byte == 10)) line.bytes ≡ true) (lines_from 0 text)

-- the names and strings of a source stand at their places
abbrev pub SourcesHaveSpans : Type 0
SourcesHaveSpans = (text : List ℕ) (items : List Item) → source_of text ≡ Ok items → HasSpans text items
