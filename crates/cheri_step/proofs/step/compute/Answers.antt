use Rattle.std.proofs.Common.{ap, sym, ◌∙◌}
use Rattle.machine_types.specs.Registers.{register}
use Rattle.int_step.specs.Values.{taken}
use Rattle.cheri_step.specs.Results.{integer_of}
use Rattle.cheri_step.specs.Plans.{planned, branches}
use Rattle.cheri_step.proofs.Works.{taken-fits, fence-alone}
use Rattle.cheri_step.proofs.step.compute.Goals as goal

pub returns-in-Branch : goal.returns-in-Branch
returns-in-Branch c =
    let first = c.address.ensures ∙ ap integer_of c.get-in-Branch.ensures.value in
    let second = c.address-in-Branch.ensures ∙ ap integer_of c.get-in-Branch-2.ensures.value in
    let test = c.taken-is_taken.ensures ∙ ap (λ a. taken c.in-Branch.op a c.address-in-Branch.result) first ∙ ap (taken c.in-Branch.op (integer_of (register c.args.regs.now c.in-Branch.rs1))) second in
    ap (planned c.args.regs.now c.args.pcc.now) c.in-Branch.is
    ∙ ap (λ t. branches c.args.regs.now c.args.pcc.now t c.in-Branch.imm) (sym test)
    ∙ ap (branches c.args.regs.now c.args.pcc.now c.taken-is_taken.result) (sym (taken-fits c.args.instr c.in-Branch.op c.in-Branch.rs1 c.in-Branch.rs2 c.in-Branch.imm c.requires.range c.in-Branch.is))
    ∙ c.branch-pcc.ensures c.args.regs.now

pub returns-in-Load : goal.returns-in-Load
returns-in-Load c = fence-alone c.args.instr c.requires.no_access c.args.regs.now c.args.pcc.now c.in-Load.is ∙ c.go_on.ensures c.args.regs.now
