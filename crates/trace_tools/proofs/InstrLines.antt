-- A line of a word's statement says the word's item.
use Rattle.std.proofs.Common.{◌≡◌, ◌∙◌, sym, ap, refl, ℕ, ◌+◌, ◌<◌, ◌^◌, false, List, [], ◌∷◌, ◌++◌, drop, length, Some, option_map, pos, append_assoc, append-nil, is_some, arith}
use Rattle.std.specs.Prelude.{option_and_then, codes}
use Rattle.std.proofs.lemmas.Bool.{and_right}
use Rattle.riscv_decode.specs.declared.instr.Instr.{Instr}
use Rattle.riscv_decode.specs.declared.instr.Instr.TheVariants.{Reg}
use Rattle.riscv_decode.specs.Table.{IsInRange}
use Rattle.asm_text.specs.declared.tokens.Token.TheVariants.{Word, Number}
use Rattle.asm_text.specs.declared.tokens.Lexeme.{Lexeme}
use Rattle.asm_text.specs.declared.listing.What.TheVariants as what
use Rattle.asm_text.specs.declared.listing.Value.TheVariants as value
use Rattle.asm_text.specs.declared.operands.Operands.{Operands}
use Rattle.asm_text.specs.declared.statements.Statement.{Statement}
use Rattle.asm_text.specs.declared.statements.Statement.TheVariants as statement
use Rattle.asm_text.specs.declared.statements.DataSize.TheVariants as size
use Rattle.asm_text.specs.Mnemonics.{mnemonic}
use Rattle.asm_text.specs.Cursors.{is_at_colon}
use Rattle.asm_text.specs.Statements.{statement_named, instr_form, is_colon, label_in, filled, no_operands, with_registers, said}
use Rattle.asm_text.specs.Source.{item, items_of, statement_items, line_items}
use Rattle.asm_text.proofs.InstrNames.{instr-named}
use Rattle.text_line.specs.Texts.{hexadecimal}
use Rattle.trace_tools.proofs.Parts.{Piece, Blank, Part, text-of, lexeme-from, lexemes-from, AreParts}
use Rattle.trace_tools.proofs.WordParts.{word-part}
use Rattle.trace_tools.proofs.Hexadecimals.{hexadecimal-part}
use Rattle.trace_tools.proofs.PartsRead.{slice-part, drop-part, filled-same}
use Rattle.trace_tools.proofs.InstrParts.{pieces-of, instr-pieces, operands-of, instr-filled}

-- tokens without a colon behind the first are a statement
line-statement : (text : List ℕ) (number : ℕ) (lexeme : Lexeme) (lexemes : List Lexeme) → is_at_colon lexemes ≡ false
    → line_items text number (lexeme ∷ lexemes) ≡ statement_items text number (lexeme ∷ lexemes)
line-statement text number lexeme [] none = refl
line-statement text number lexeme (next ∷ lexemes) none = rw (and_right (is_some (label_in text lexeme)) (is_colon next.token) none) refl

-- a row that begins with the name of a statement
named-items : (text behind : List ℕ) (number place : ℕ) (name : List ℕ) (found : Statement) (pieces : List Piece)
    → drop place text ≡ name ++ behind → statement_named name ≡ Some found → ((from : ℕ) → is_at_colon (lexemes-from from pieces) ≡ false)
    → line_items text number (lexemes-from place (Part name Word ∷ pieces)) ≡ items_of text number found (lexemes-from (place + length name) pieces)
named-items text behind number place name found pieces there is none =
    line-statement text number (lexeme-from place name Word) (lexemes-from (place + length name) pieces) (none (place + length name))
    ∙ ap (λ bytes. option_and_then (λ s. items_of text number s (lexemes-from (place + length name) pieces)) (statement_named bytes)) (slice-part text place name behind there)
    ∙ ap (option_and_then (λ s. items_of text number s (lexemes-from (place + length name) pieces))) is

-- an instruction has the form of its operands whatever they are
form-kept : (instr : Instr) (operands : Operands) → instr_form (with_registers instr operands) ≡ instr_form instr
form-kept (Reg op rd rs1 rs2) operands = refl
form-kept _ operands = refl

-- no colon stands behind an instruction's name
no-colon : (instr : Instr) (place : ℕ) → is_at_colon (lexemes-from place (pieces-of instr)) ≡ false
no-colon (Reg op rd rs1 rs2) place = refl
no-colon _ place = refl

-- what an instruction says by its operands
instr-said : (text : List ℕ) (number : ℕ) (found instr : Instr) (lexemes : List Lexeme) (operands : Operands)
    → with_registers found operands ≡ with_registers instr operands → filled text (instr_form instr) lexemes no_operands ≡ Some operands
    → items_of text number (statement.Instr found) lexemes ≡ Some (item number (what.Instr (with_registers instr operands) operands.value) ∷ [])
instr-said text number found instr lexemes operands same is =
    let form : instr_form found ≡ instr_form instr = sym (form-kept found operands) ∙ ap instr_form same ∙ form-kept instr operands in
    ap (λ slots. option_map (λ (o : Operands). item number (said (statement.Instr found) o) ∷ []) (filled text slots lexemes no_operands)) form
    ∙ ap (option_map (λ (o : Operands). item number (said (statement.Instr found) o) ∷ [])) is
    ∙ ap (λ i. Some (item number (what.Instr i operands.value) ∷ [])) same

-- the line of an instruction
pub instr-items : (text behind : List ℕ) (number place : ℕ) (instr : Instr) → IsInRange instr → drop place text ≡ text-of (instr-pieces instr) ++ behind
    → line_items text number (lexemes-from place (instr-pieces instr))
    ≡ Some (item number (what.Instr (with_registers instr (operands-of instr)) (operands-of instr).value) ∷ [])
instr-items text behind number place instr range there =
    let name = mnemonic instr in
    let (found, is, same) = instr-named instr (operands-of instr) in
    let apart : drop place text ≡ name ++ (text-of (pieces-of instr) ++ behind) = there ∙ append_assoc name (text-of (pieces-of instr)) behind in
    let operands = filled-same text behind (place + length name) (pieces-of instr) (instr_form instr) no_operands (operands-of instr)
    (drop-part text place name (text-of (pieces-of instr) ++ behind) apart) (instr-filled instr range) in
    named-items text (text-of (pieces-of instr) ++ behind) number place name (statement.Instr found) (pieces-of instr) apart is (no-colon instr)
    ∙ instr-said text number found instr (lexemes-from (place + length name) (pieces-of instr)) (operands-of instr) same operands

-- a word that is no instruction, as a row of tokens
abbrev pub data-pieces : ℕ → List Piece
data-pieces word = Part (codes ".word") Word ∷ Blank ∷ Part (48 ∷ 120 ∷ hexadecimal 8 word) (Number (pos word)) ∷ []

-- they are its statement
pub data-text : (word : ℕ) → text-of (data-pieces word) ≡ codes ".word 0x" ++ hexadecimal 8 word
data-text word = ap (λ digits. codes ".word 0x" ++ digits) (append-nil (hexadecimal 8 word))

-- they are found
pub data-parts : (word : ℕ) → word < 2 ^ 32 → AreParts (data-pieces word)
data-parts word small = (word-part (codes ".word") (text-of (Blank ∷ Part (48 ∷ 120 ∷ hexadecimal 8 word) (Number (pos word)) ∷ [])) refl refl, (hexadecimal-part 8 word (omega arith) (omega arith) (omega arith), tt))

-- and say the number
pub data-items : (text behind : List ℕ) (number place word : ℕ) → drop place text ≡ text-of (data-pieces word) ++ behind
    → line_items text number (lexemes-from place (data-pieces word)) ≡ Some (item number (what.Bytes 4 (value.Number (pos word))) ∷ [])
data-items text behind number place word there =
    named-items text (text-of (Blank ∷ Part (48 ∷ 120 ∷ hexadecimal 8 word) (Number (pos word)) ∷ []) ++ behind) number place (codes ".word") (statement.Data size.Word)
    (Blank ∷ Part (48 ∷ 120 ∷ hexadecimal 8 word) (Number (pos word)) ∷ []) there refl (λ at. refl)
