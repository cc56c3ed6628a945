use Rattle.std.proofs.Common.{◌∙◌, ap, Bool, false, List, get_or}
use Rattle.std.proofs.lemmas.List.{get_or-set_other}
use Rattle.machine.specs.Readiness.{is_ready}
use Rattle.kernel_loop.specs.Marks.{marks_others}
use Rattle.kernel_loop.proofs.readiness.remark.Goals as goal

pub returns-else-changes_others-clause-others : goal.returns-else-changes_others-clause-others
returns-else-changes_others-clause-others c m k parts low other =
    let old = c.args.world.now.processes.marks in
    ap (λ (marks : List Bool). get_or marks k false) (c.mark.ensures.marks m parts)
    ∙ get_or-set_other old c.args.slot k (is_ready m c.args.slot) false other
    ∙ ap (λ (b : Bool). marks_others m b old k) c.if-changes_others.ensures
