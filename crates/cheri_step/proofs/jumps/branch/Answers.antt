use Rattle.std.proofs.Common.{ap, sym, ◌∙◌}
use Rattle.cheri_step.specs.Plans.{jumps_by, branches}
use Rattle.cheri_step.proofs.Works.{mag-fits}
use Rattle.cheri_step.proofs.jumps.branch.Goals as goal

pub returns-then-is_taken : goal.returns-then-is_taken
returns-then-is_taken c registers =
    ap (λ t. branches registers c.args.pcc.now t c.args.imm) c.if-is_taken.true
    ∙ ap (jumps_by registers c.args.pcc.now 0) (sym (mag-fits c.args.imm c.ranges.imm.sfits))
    ∙ c.jump_away.ensures registers

pub returns-else-is_taken : goal.returns-else-is_taken
returns-else-is_taken c registers = ap (λ t. branches registers c.args.pcc.now t c.args.imm) c.if-is_taken.false ∙ c.go_on.ensures registers
