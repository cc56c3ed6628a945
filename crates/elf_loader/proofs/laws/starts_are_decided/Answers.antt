use Rattle.std.proofs.Common.{ap}
use Rattle.machine_types.specs.declared.touches.NoFrame.{NoFrame}
use Rattle.elf_loader.specs.declared.starts.StartState.{StartState}
use Rattle.elf_loader.proofs.laws.starts_are_decided.Goals as goal

pub returns : goal.returns
returns c = record {
  started = λ file image d e state is. (is.0, ap (λ (s : StartState). s.regs) is.1, ap (λ (s : StartState). s.pcc) is.1, is.2);
  refused = λ file image d e lack is. (is.0, ap (λ (n : NoFrame). n.before) is.1, is.2);
}
