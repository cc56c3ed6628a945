use Rattle.std.proofs.Common.{refl}
use Rattle.std.proofs.lemmas.Result.{err_from_is_err_and}
use Rattle.command_words.specs.declared.words.Command.TheVariants.{Check}
use Rattle.ufork_program.proofs.ToolRequests.{image-stop, image-unasked, shown-comes}
use Rattle.ufork_program.proofs.request.read_summary.Goals as goal

pub returns-in_err-read_image_file-clause-comes : goal.returns-in_err-read_image_file-clause-comes
returns-in_err-read_image_file-clause-comes g c = λ left.
    let p = err_from_is_err_and c.from_residual.result c.from_residual.ensures.1 in
    rw (p.1, p.2) (image-stop _ _ left (Check c.args.index) c.requires tt c.in_err-read_image_file.field-0.0 c.in_err-read_image_file.ensures.is)

pub returns-in_err-read_image_file-clause-unasked : goal.returns-in_err-read_image_file-clause-unasked
returns-in_err-read_image_file-clause-unasked g c = λ now.
    let p = err_from_is_err_and c.from_residual.result c.from_residual.ensures.1 in
    rw (p.1, p.2) (image-unasked _ _ c.args.index now c.in_err-read_image_file.field-0.0 c.in_err-read_image_file.ensures.is)

pub returns-clause-comes : goal.returns-clause-comes
returns-clause-comes g c = λ left.
    let found = c.in_ok-read_image_file.ensures.is in
    shown-comes _ _ left (Check c.args.index) c.requires _ _ found.1 (found.0.0, refl)
