use Rattle.std.proofs.Common.{◌≡◌, ◌∙◌, sym, ap, true, rules}
use Rattle.std.specs.Prelude.{is_some}
use Rattle.asm_text.specs.Tokens.{is_number}
use Rattle.asm_text.proofs.Lexemes.{some-bytes, whole-lexeme, word-token, text-token, mark-is-token, whole-number, number-is-token}
use Rattle.asm_text.proofs.tokens.token_of.Goals as goal
use Rattle.asm_text.proofs.tokens.token_of.Goals.{In-None}

pub returns-then-begins_word : goal.returns-then-begins_word
returns-then-begins_word c =
    let bytes = c.args.bytes.now in
    let some = some-bytes bytes (sym c.if-is_empty.ensures) in
    sym (word-token bytes some (sym c.if-begins_word.ensures) (whole-lexeme bytes some c.requires))

pub returns-then-first-eq34 : goal.returns-then-first-eq34
returns-then-first-eq34 c =
    let bytes = c.args.bytes.now in
    let some = some-bytes bytes (sym c.if-is_empty.ensures) in
    sym (text-token bytes some c.if-first-eq34.true (whole-lexeme bytes some c.requires))

-- what is no word, string or mark is a number
read-number : (c : In-None) → is_number c.args.bytes.now ≡ true
read-number c =
    let bytes = c.args.bytes.now in
    let some = some-bytes bytes (sym c.if-is_empty.ensures) in
    whole-number bytes some (sym c.if-begins_word.ensures) c.if-first-eq34.false (sym c.mark_of.ensures ∙ c.in-None.is) (whole-lexeme bytes some c.requires)

pub number_token-requires : goal.number_token-requires
number_token-requires c = let is = read-number c in search rules

pub returns-in-Some : goal.returns-in-Some
returns-in-Some c =
    let bytes = c.args.bytes.now in
    let some = some-bytes bytes (sym c.if-is_empty.ensures) in
    let mark = ap is_some (sym c.mark_of.ensures ∙ c.in-Some.is) in
    sym c.in-Some.is ∙ c.mark_of.ensures ∙ sym (mark-is-token bytes some mark (whole-lexeme bytes some c.requires))

pub returns-in-None : goal.returns-in-None
returns-in-None c =
    let bytes = c.args.bytes.now in
    let some = some-bytes bytes (sym c.if-is_empty.ensures) in
    c.number_token.ensures ∙ sym (number-is-token bytes some (sym c.if-begins_word.ensures) (read-number (goal.at.returns-in-None c).In-None))
