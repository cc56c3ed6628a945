use Rattle.std.proofs.Common.{arith}
use Rattle.ufork_program.proofs.RunLemmas.{still, way-start, way-more, way-stop, way-none, way-ended}
use Rattle.ufork_program.proofs.run.make_steps.Goals as goal

pub loop-kernel-init : goal.loop-kernel-init
loop-kernel-init g c = λ m h. way-start _ _ c.args.kernel.now m _ _ h

pub loop-kernel-smaller : goal.loop-kernel-smaller
loop-kernel-smaller g c = omega (arith, c.loop-kernel-test.true, c.steps.ensures, c.step_printed.ensures.counted)

pub loop-kernel-preserved : goal.loop-kernel-preserved
loop-kernel-preserved g c = λ m h.
    way-more _ _ c.loop-kernel.kernel c.step_printed.new.kernel m _ _ _ _ _ _ _ (omega (arith, c.loop-kernel-test.true, c.steps.ensures)) (omega (arith, c.step_printed.ensures.counted))
    (still _ c.loop-kernel.kernel _ _ _ c.outcome.ensures c.is_running.ensures c.if-is_running.true) (c.loop-kernel.invariant m h)
    c.step_printed.ensures.next c.in_ok-step_printed.ensures.prints

pub returns-in_err-step_printed : goal.returns-in_err-step_printed
returns-in_err-step_printed g c = λ m h.
    way-stop _ _ c.loop-kernel.kernel c.step_printed.new.kernel m _ _ _ _ _ _ _ _ c.from_residual.ensures.1 (omega (arith, c.loop-kernel-test.true, c.steps.ensures))
    (still _ c.loop-kernel.kernel _ _ _ c.outcome.ensures c.is_running.ensures c.if-is_running.true) (c.loop-kernel.invariant m h)
    c.step_printed.ensures.next c.in_err-step_printed.ensures.prints

pub returns-else-is_running : goal.returns-else-is_running
returns-else-is_running g c = λ m h.
    way-ended _ _ c.loop-kernel.kernel m _ _ _ _ _ (still _ c.loop-kernel.kernel _ _ _ c.outcome.ensures c.is_running.ensures c.if-is_running.false) (c.loop-kernel.invariant m h)

pub returns-after-loop-kernel : goal.returns-after-loop-kernel
returns-after-loop-kernel g c = λ m h.
    way-none _ _ c.loop-kernel.kernel m _ _ _ _ _ (omega (arith, c.loop-kernel-test.false, c.steps.ensures)) (c.loop-kernel.invariant m h)
