use Rattle.std.proofs.Common.{◌∙◌, sym, ap, length, arith}
use Rattle.std.specs.Prelude.{is_some}
use Rattle.std.proofs.lemmas.Bool.{eqb-true}
use Rattle.asm_text.proofs.Longest.{lexeme-longest}
use Rattle.asm_text.proofs.Lexemes.{some-bytes, no-token, none-length, word-length, string-length, mark-length, number-is-length}
use Rattle.asm_text.proofs.tokens.lexeme_length.Goals as goal

pub returns-then-is_empty-clause-is : goal.returns-then-is_empty-clause-is
returns-then-is_empty-clause-is c = none-length c.args.bytes.now (eqb-true (length c.args.bytes.now) 0 (sym c.if-is_empty.ensures))

pub returns-then-begins_word-clause-is : goal.returns-then-begins_word-clause-is
returns-then-begins_word-clause-is c = c.run.ensures ∙ word-length c.args.bytes.now (some-bytes c.args.bytes.now (sym c.if-is_empty.ensures)) (sym c.if-begins_word.ensures)

pub returns-then-begins_word-clause-within : goal.returns-then-begins_word-clause-within
returns-then-begins_word-clause-within c =
    omega (arith, c.run.ensures ∙ word-length c.args.bytes.now (some-bytes c.args.bytes.now (sym c.if-is_empty.ensures)) (sym c.if-begins_word.ensures), (lexeme-longest c.args.bytes.now).within)

pub returns-then-first-eq34-clause-is : goal.returns-then-first-eq34-clause-is
returns-then-first-eq34-clause-is c = c.string_length.ensures ∙ string-length c.args.bytes.now (some-bytes c.args.bytes.now (sym c.if-is_empty.ensures)) c.if-first-eq34.true

pub returns-then-first-eq34-clause-within : goal.returns-then-first-eq34-clause-within
returns-then-first-eq34-clause-within c =
    omega (arith, c.string_length.ensures ∙ string-length c.args.bytes.now (some-bytes c.args.bytes.now (sym c.if-is_empty.ensures)) c.if-first-eq34.true, (lexeme-longest c.args.bytes.now).within)

pub returns-then-is_some-clause-is : goal.returns-then-is_some-clause-is
returns-then-is_some-clause-is c = mark-length c.args.bytes.now (some-bytes c.args.bytes.now (sym c.if-is_empty.ensures)) (sym (c.if-is_some.ensures ∙ ap is_some c.mark_of.ensures))

pub returns-clause-is : goal.returns-clause-is
returns-clause-is c = c.number_length.ensures ∙ number-is-length c.args.bytes.now (some-bytes c.args.bytes.now (sym c.if-is_empty.ensures)) (sym c.if-begins_word.ensures) c.if-first-eq34.false (sym c.mark_of.ensures ∙ no-token c.mark_of.result (sym c.if-is_some.ensures))

pub returns-clause-within : goal.returns-clause-within
returns-clause-within c = omega (arith, returns-clause-is c, (lexeme-longest c.args.bytes.now).within)
