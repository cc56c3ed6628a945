use Rattle.std.proofs.Common.{refl}
use Rattle.std.proofs.lemmas.Result.{err_from_is_err_and}
use Rattle.ufork_program.proofs.RequestLemmas.{image_stop_comes, option_stop_comes, named_comes}
use Rattle.ufork_program.proofs.request.read_files.Goals as goal

pub returns-in_err-image-clause-comes : goal.returns-in_err-image-clause-comes
returns-in_err-image-clause-comes g c =
    let p = err_from_is_err_and c.from_residual.result c.from_residual.ensures.1 in
    rw (p.1, p.2) (image_stop_comes _ _ c.args.options.now c.args.index c.requires c.in_err-image.field-0.0 c.in_err-image.ensures.is)

pub returns-in_err-schedule-clause-comes : goal.returns-in_err-schedule-clause-comes
returns-in_err-schedule-clause-comes g c =
    let p = err_from_is_err_and c.from_residual-in_err-schedule.result c.from_residual-in_err-schedule.ensures.1 in
    let h = rw c.read_image_file.ensures.contents at c.in_err-schedule.ensures.is in
    rw (p.1, p.2) (option_stop_comes _ _ c.args.options.now c.args.index c.requires _ c.in_ok-image.ensures.is.1 c.in_ok-image.ensures.is.0.0 c.in_err-schedule.field-0.0 h)

pub returns-clause-comes : goal.returns-clause-comes
returns-clause-comes g c =
    let found = c.in_ok-image.ensures.is in
    let h = rw c.read_image_file.ensures.contents at c.in_ok-schedule.ensures.is in
    named_comes _ _ c.args.options.now c.args.index c.requires _ found.1 found.0.0 _ refl refl h
