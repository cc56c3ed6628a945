use Rattle.std.proofs.Common.{refl, ℕ, Vec, Global}
use Rattle.std.proofs.lemmas.Result.{err_from_is_err_and}
use Rattle.command_words.specs.declared.words.Command.TheVariants.{Asm}
use Rattle.ufork_program.proofs.ToolRequests.{source-stop, source-unasked, shown-comes}
use Rattle.ufork_program.proofs.request.read_assembled.Goals as goal

pub returns-in_err-read_source_file-clause-comes : goal.returns-in_err-read_source_file-clause-comes
returns-in_err-read_source_file-clause-comes g c = λ left.
    let p = err_from_is_err_and c.from_residual.result c.from_residual.ensures.1 in
    rw (p.1, p.2) (source-stop (λ (file : Vec ℕ Global). file.items) _ _ left c.args.index c.requires c.in_err-read_source_file.field-0.0 c.in_err-read_source_file.ensures.is)

pub returns-in_err-read_source_file-clause-unasked : goal.returns-in_err-read_source_file-clause-unasked
returns-in_err-read_source_file-clause-unasked g c = λ now.
    let p = err_from_is_err_and c.from_residual.result c.from_residual.ensures.1 in
    rw (p.1, p.2) (source-unasked (λ (file : Vec ℕ Global). file.items) _ _ c.args.index now c.in_err-read_source_file.field-0.0 c.in_err-read_source_file.ensures.is)

pub returns-clause-comes : goal.returns-clause-comes
returns-clause-comes g c = λ left.
    let found = c.in_ok-read_source_file.ensures.is in
    shown-comes _ _ left (Asm c.args.index) c.requires found.text _ found.told_is (_, found.is, refl)
