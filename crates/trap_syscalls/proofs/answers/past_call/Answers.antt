use Rattle.std.proofs.Common.{◌∙◌, ap, ℕ, ◌+◌, ◌%◌, ◌^◌}
use Rattle.cap_format.specs.Made.{with_address}
use Rattle.machine.specs.Effects.{next_pcc}
use Rattle.trap_syscalls.proofs.answers.past_call.Goals as goal

pub returns : goal.returns
unfolding next_pcc
returns c = c.with_address.ensures.is ∙ ap (λ (a : ℕ). with_address c.args.pcc ((a + 4) % 2 ^ 64)) c.address.ensures
