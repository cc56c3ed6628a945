-- Operands that are read one after another.
use Rattle.std.proofs.Common.{◌≡◌, refl, ℕ, ◌<◌, List, [], ◌∷◌, length, None, arith}
use Rattle.asm_text.specs.declared.tokens.Lexeme.{Lexeme}
use Rattle.asm_text.specs.declared.operands.Slot.{Slot}
use Rattle.asm_text.specs.declared.operands.Operands.{Operands}
use Rattle.asm_text.specs.Statements.{filled}
use Rattle.asm_text.specs.Cursors.{first_of}

-- where there is no further token a form with further slots isn't filled
pub unfilled : (text : List ℕ) (slots : List Slot) (lexemes : List Lexeme) (o : Operands) → 0 < length slots → first_of lexemes ≡ None → filled text slots lexemes o ≡ None
unfilled text [] lexemes o some none = absurd (omega arith)
unfilled text (slot ∷ slots) [] o some none = refl
unfilled text (slot ∷ slots) (lexeme ∷ lexemes) o some none = cc
