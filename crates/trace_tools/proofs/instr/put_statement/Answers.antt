use Rattle.std.proofs.Common.{◌∙◌, sym, ap, ◌++◌}
use Rattle.trace_tools.proofs.StatementTexts.{statement-instr, statement-word}
use Rattle.trace_tools.proofs.instr.put_statement.Goals as goal

pub returns-in-Some-clause-text : goal.returns-in-Some-clause-text
returns-in-Some-clause-text c =
    c.put_instr.ensures.text ∙ ap (λ text. text ++ c.args.line.now) (sym (statement-instr c.args.word c.in-Some.instr (sym c.in-Some.ensures.is)))

pub returns-in-None-clause-text : goal.returns-in-None-clause-text
returns-in-None-clause-text c =
    let is = statement-word c.args.word (sym c.in-None.ensures.is) in
    rw is cc
