use Rattle.std.proofs.Common.{refl}
use Rattle.contents.specs.Conditions.{HasStore}
use Rattle.stores.proofs.Keeping.{stands-weaker}
use Rattle.full_space.specs.Full.{FullStands}
use Rattle.cheri_step.specs.Effect.{CanStep}
use Rattle.instr_tests.proofs.guests.Guest.new.Goals as goal

pub invariant_of-result : goal.invariant_of-result
invariant_of-result c = record {
  ready = stands-weaker FullStands c.in_ok-space.space (HasStore 0) (CanStep 0 c.in_ok-regs.regs c.args.pcc)
      (λ content store. record {
        store = store;
        code = c.if-not-is_pcc.ensures.code refl;
        file = c.in_ok-regs.ensures.file;
        counter = λ tagged. c.if-not-is_pcc.ensures.inside refl;
        registers_held = c.in_ok-regs.ensures.inside;
      }) c.in_ok-space.ensures;
}
