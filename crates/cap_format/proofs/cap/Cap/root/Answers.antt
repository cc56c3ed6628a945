use Rattle.std.proofs.Common.{◌+◌, ◌*◌, ◌∙◌, ap}
use Rattle.std.specs.Prelude.{pos}
use Rattle.cap_format.specs.Numbers.{first_region, region_bytes}
use Rattle.cap_format.specs.SetBounds.{bounded_base, bounded_top}
use Rattle.cap_format.proofs.Roots.{root-base, root-top}
use Rattle.cap_format.proofs.cap.Cap.root.Goals as goal

pub returns-clause-base : goal.returns-clause-base
returns-clause-base c = c.covering.ensures.base ∙ ap (λ r. pos (bounded_base (first_region + r * region_bytes) region_bytes)) c.from.ensures ∙ ap pos (root-base c.args.region)

pub returns-clause-top : goal.returns-clause-top
returns-clause-top c = c.covering.ensures.top ∙ ap (λ r. pos (bounded_top (first_region + r * region_bytes) region_bytes)) c.from.ensures ∙ ap pos (root-top c.args.region)
