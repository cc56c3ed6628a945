use Rattle.std.proofs.Common.{arith, ap, sym, ◌∙◌}
use Rattle.machine_types.specs.Granules.{is_tagged}
use Rattle.tagged_memory.proofs.Zips.{granule-zipped}
use Rattle.tagged_memory.proofs.frame.Frame.is_tagged.Goals as goal

pub returns : goal.returns
returns c =
    ap (λ cap. cap.tag) (sym (granule-zipped c.self.inside.words c.self.inside.tags c.args.g (omega arith) (omega arith)))
    ∙ ap (λ granules. is_tagged granules c.args.g) c.self.view_is
