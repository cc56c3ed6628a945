use Rattle.std.proofs.lemmas.Result.{err_from_is_err_and}
use Rattle.ufork_program.proofs.SourceTexts.{refused-of, assembled-of}
use Rattle.ufork_program.proofs.request.assemble_text.Goals as goal

pub returns-in_err-source-clause-file : goal.returns-in_err-source-clause-file
returns-in_err-source-clause-file c =
    let p = err_from_is_err_and c.from_residual.result c.from_residual.ensures.1 in
    rw (p.1, p.2) (refused-of c.args.text.now c.in_err-source.field-0.0 c.in_err-source.ensures.read)

pub returns-clause-file : goal.returns-clause-file
returns-clause-file c = assembled-of (λ file. file.items) c.args.text.now _ c.assemble.result c.in_ok-source.ensures.read c.assemble.ensures.file
