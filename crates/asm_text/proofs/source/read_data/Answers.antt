-- Each step of the loop is one of the definition's cases.
use Rattle.std.proofs.Common.{◌≡◌, ◌∙◌, sym, ap, true, false, rules}
use Rattle.asm_text.specs.Statements.{value_in, is_comma}
use Rattle.asm_text.specs.Cursors.{Reading, first_of, others_of}
use Rattle.asm_text.proofs.ItemsRead.{read-none, read-some, read-behind}
use Rattle.asm_text.proofs.DataRead.{data-item, no-data, no-value, last-value, no-comma, more-data}
use Rattle.asm_text.proofs.source.read_data.Goals as goal

pub returns-in_default-value_in-clause-read : goal.returns-in_default-value_in-clause-read
returns-in_default-value_in-clause-read c =
    let l = c.loop-lexeme in
    let text = c.text.ensures ∙ ap (λ (r : Reading). r.text) c.next.ensures.left ∙ l.invariant.on.text in
    let none = ap (λ t. value_in t c.in-Some.lexeme) (sym text) ∙ sym c.in_default-value_in.ensures in
    l.invariant.read _ _ (read-none _ _ _ (no-value c.args.cursor.now.text c.args.line c.args.size l.cursor.left.lexemes c.in-Some.lexeme (sym c.in-Some.ensures.is) none))

pub returns-in-None-clause-read : goal.returns-in-None-clause-read
returns-in-None-clause-read c =
    let l = c.loop-lexeme in
    let value = c.in-Some-value_in.value in
    let text = c.text.ensures ∙ ap (λ (r : Reading). r.text) c.next.ensures.left ∙ l.invariant.on.text in
    let some = ap (λ t. value_in t c.in-Some.lexeme) (sym text) ∙ sym c.in-Some-value_in.ensures in
    let last = ap (λ (r : Reading). first_of r.left.lexemes) (sym c.next.ensures.left) ∙ sym c.in-None.ensures.is in
    let is = last-value c.args.cursor.now.text c.args.line c.args.size l.cursor.left.lexemes c.in-Some.lexeme value (sym c.in-Some.ensures.is) last some in
    let put = rw c.bytes.ensures at c.in_ok-push.ensures.items in
    l.invariant.read _ _ (read-some _ _ _ _ is put)

pub loop-lexeme-preserved : goal.loop-lexeme-preserved
loop-lexeme-preserved c =
    let l = c.loop-lexeme in
    let start = c.args.cursor.now in
    let value = c.in-Some-value_in.value in
    let text = c.text.ensures ∙ ap (λ (r : Reading). r.text) c.next.ensures.left ∙ l.invariant.on.text in
    let some = ap (λ t. value_in t c.in-Some.lexeme) (sym text) ∙ sym c.in-Some-value_in.ensures in
    let next = ap (λ (r : Reading). first_of r.left.lexemes) (sym c.next.ensures.left) ∙ sym c.in-Some-next.ensures.is in
    let comma : is_comma c.in-Some-next.lexeme.token ≡ true = search rules in
    let starts = more-data start.text c.args.line c.args.size l.cursor.left.lexemes c.in-Some.lexeme c.in-Some-next.lexeme value (sym c.in-Some.ensures.is) next comma some in
    let put = rw c.bytes.ensures at c.in_ok-push.ensures.items in
    let left = ap (λ (r : Reading). r.left.lexemes) c.next-in-Some.ensures.left ∙ ap (λ (r : Reading). others_of r.left.lexemes) c.next.ensures.left in
    record {
      on = search rules;
      read = λ new is read. l.invariant.read new is (read-behind _ _ (data-item c.args.line c.args.size value) _ _ starts put new is (rw left at read));
    }

pub returns-in-Some-2-clause-read : goal.returns-in-Some-2-clause-read
returns-in-Some-2-clause-read c =
    let l = c.loop-lexeme in
    let next = ap (λ (r : Reading). first_of r.left.lexemes) (sym c.next.ensures.left) ∙ sym c.in-Some-2.ensures.is in
    let other : is_comma c.in-Some-2.field-0.token ≡ false = search rules in
    l.invariant.read _ _ (read-none _ _ _ (no-comma c.args.cursor.now.text c.args.line c.args.size l.cursor.left.lexemes c.in-Some-2.field-0 next other))

pub returns-clause-read : goal.returns-clause-read
returns-clause-read c =
    let l = c.loop-lexeme in
    l.invariant.read _ _ (read-none _ _ _ (no-data c.args.cursor.now.text c.args.line c.args.size l.cursor.left.lexemes (sym c.in_default.ensures.is)))
