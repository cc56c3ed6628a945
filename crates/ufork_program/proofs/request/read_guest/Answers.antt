use Rattle.std.proofs.Common.{refl}
use Rattle.std.proofs.lemmas.Result.{err_from_is_err_and}
use Rattle.ufork_program.proofs.SourceLemmas.{files_stop_comes, input_stop_comes, run_comes, too_many_come}
use Rattle.ufork_program.proofs.request.read_guest.Goals as goal

pub returns-in_err-named-clause-comes : goal.returns-in_err-named-clause-comes
returns-in_err-named-clause-comes g c =
    let p = err_from_is_err_and c.from_residual.result c.from_residual.ensures.1 in
    rw (p.1, p.2) (files_stop_comes _ _ _ c.in_err-named.field-0.0 c.in_err-named.ensures.comes)

pub returns-in_err-input-clause-comes : goal.returns-in_err-input-clause-comes
returns-in_err-input-clause-comes g c =
    let p = err_from_is_err_and c.from_residual-in_err-input.result c.from_residual-in_err-input.ensures.1 in
    rw (p.1, p.2) (input_stop_comes _ _ _ _ _ c.in_ok-named.ensures.comes c.in_err-input.field-0.0 c.in_err-input.ensures)

pub returns-then-image-config-clause-comes : goal.returns-then-image-config-clause-comes
returns-then-image-config-clause-comes g c =
    let named = c.in_ok-named.ensures in
    too_many_come _ _ _ _ _ named.comes _ c.in_ok-input.ensures _ _ (cc (named.usable.read.1)) refl c.if-image-config.true

pub returns-clause-comes : goal.returns-clause-comes
returns-clause-comes g c = run_comes _ _ _ _ _ c.in_ok-named.ensures.comes _ c.in_ok-input.ensures _ refl
