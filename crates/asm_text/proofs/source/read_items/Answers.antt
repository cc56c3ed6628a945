-- Each step of the loop is one of the definition's cases.
use Rattle.std.proofs.Common.{◌≡◌, ◌∙◌, sym, ap, ℕ, List, [], ◌∷◌, append-nil, rules}
use Rattle.asm_text.specs.declared.tokens.Lexeme.{Lexeme}
use Rattle.asm_text.specs.Source.{statement_items}
use Rattle.asm_text.specs.Statements.{label_in}
use Rattle.asm_text.specs.Cursors.{Reading, behind, others_of, is_at_colon}
use Rattle.asm_text.specs.Source.{item}
use Rattle.asm_text.specs.declared.listing.What.TheVariants.{Label}
use Rattle.asm_text.proofs.ItemsRead.{read-some, read-behind, all-read}
use Rattle.asm_text.proofs.LabelsRead.{no-label, no-colon, more-items, no-items}
use Rattle.asm_text.proofs.source.read_items.Goals as goal

-- the statement that is read is that of the definition
statement-read : (text : List ℕ) (line : ℕ) (first : Lexeme) (old new : Reading) → old.text ≡ text → new ≡ behind old → statement_items text line (first ∷ others_of old.left.lexemes) ≡ statement_items new.text line (first ∷ new.left.lexemes)
statement-read text line first old new on behind = sym (ap (λ t. statement_items t line (first ∷ others_of old.left.lexemes)) on) ∙ sym (ap (λ (r : Reading). statement_items r.text line (first ∷ r.left.lexemes)) behind)

pub returns-in_default-label_in-clause-read : goal.returns-in_default-label_in-clause-read
returns-in_default-label_in-clause-read c =
    let l = c.loop-lexeme in
    let lexeme = c.in-Some.lexeme in
    let text = c.text.ensures ∙ ap (λ (r : Reading). r.text) c.next.ensures.left ∙ l.invariant.on.text in
    let none = ap (λ t. label_in t lexeme) (sym text) ∙ sym c.in_default-label_in.ensures in
    let same = no-label c.args.cursor.now.text c.args.line l.cursor.left.lexemes lexeme (sym c.in-Some.ensures.is) none in
    let statement = statement-read c.args.cursor.now.text c.args.line lexeme l.cursor c.next.new.self l.invariant.on.text c.next.ensures.left in
    all-read _ _ _ _ _ _ _ (same ∙ statement) l.invariant.read c.read_statement.ensures.read

pub returns-then-not-takes_colon-clause-read : goal.returns-then-not-takes_colon-clause-read
returns-then-not-takes_colon-clause-read c =
    let l = c.loop-lexeme in
    let lexeme = c.in-Some.lexeme in
    let other = ap (λ (r : Reading). is_at_colon r.left.lexemes) (sym c.next.ensures.left) ∙ sym c.if-not-takes_colon.ensures.is in
    let same = no-colon c.args.cursor.now.text c.args.line l.cursor.left.lexemes lexeme (sym c.in-Some.ensures.is) other in
    let statement = statement-read c.args.cursor.now.text c.args.line lexeme l.cursor c.takes_colon.new.self l.invariant.on.text (c.if-not-takes_colon.ensures.left ∙ c.next.ensures.left) in
    all-read _ _ _ _ _ _ _ (same ∙ statement) l.invariant.read c.read_statement-then-not-takes_colon.ensures.read

pub loop-lexeme-preserved : goal.loop-lexeme-preserved
loop-lexeme-preserved c =
    let l = c.loop-lexeme in
    let start = c.args.cursor.now in
    let name = c.in-Some-label_in.name in
    let text = c.text.ensures ∙ ap (λ (r : Reading). r.text) c.next.ensures.left ∙ l.invariant.on.text in
    let some = ap (λ t. label_in t c.in-Some.lexeme) (sym text) ∙ sym c.in-Some-label_in.ensures in
    let colon = ap (λ (r : Reading). is_at_colon r.left.lexemes) (sym c.next.ensures.left) ∙ sym c.if-not-takes_colon.ensures.is in
    let starts = more-items start.text c.args.line l.cursor.left.lexemes c.in-Some.lexeme name (sym c.in-Some.ensures.is) some colon in
    let left = ap (λ (r : Reading). r.left.lexemes) c.if-not-takes_colon.ensures.left ∙ ap (λ (r : Reading). others_of r.left.lexemes) c.next.ensures.left in
    record {
      on = search rules;
      read = λ new is read. l.invariant.read new is (read-behind _ _ (item c.args.line (Label name)) _ _ starts c.in_ok-push.ensures.items new is (rw left at read));
    }

pub returns-clause-read : goal.returns-clause-read
returns-clause-read c =
    let l = c.loop-lexeme in
    let is = no-items c.args.cursor.now.text c.args.line l.cursor.left.lexemes (sym c.in_default.ensures.is) in
    l.invariant.read _ _ (read-some _ [] _ _ is (sym (append-nil l.items.items)))
