use Rattle.std.proofs.Common.{arith, ap, sym, ◌∙◌}
use Rattle.machine_types.specs.Granules.{granule}
use Rattle.tagged_memory.proofs.Zips.{granule-zipped}
use Rattle.tagged_memory.proofs.frame.Frame.load_cap.Goals as goal

pub returns : goal.returns
returns c =
    sym (granule-zipped c.self.inside.words c.self.inside.tags c.args.g (omega arith) (omega arith))
    ∙ ap (λ granules. granule granules c.args.g) c.self.view_is
