use Rattle.std.proofs.Common.{sym, ◌∙◌, refl}
use Rattle.riscv_decode.specs.Decoded.{decoded}
use Rattle.riscv_decode.proofs.Instructions.{nothing_found, one_found}
use Rattle.riscv_decode.proofs.InRange.{in_range}
use Rattle.riscv_decode.proofs.decoding.decode.Goals as goal

pub returns-in_err-op-clause-row : goal.returns-in_err-op-clause-row
returns-in_err-op-clause-row c = rw c.from_residual.ensures (nothing_found c.args.word (sym c.find.ensures ∙ c.in_err-op.was))

pub returns-in_err-op-clause-is : goal.returns-in_err-op-clause-is
unfolding decoded
returns-in_err-op-clause-is c = rw c.from_residual.ensures (rw (sym c.find.ensures ∙ c.in_err-op.was) refl)

pub returns-clause-row : goal.returns-clause-row
returns-clause-row c = rw c.with_fields.ensures (one_found c.args.word c.in_ok-op.op (sym c.find.ensures ∙ c.in_ok-op.was))

pub returns-clause-is : goal.returns-clause-is
unfolding decoded
returns-clause-is c = rw c.with_fields.ensures (rw (sym c.find.ensures ∙ c.in_ok-op.was) refl)

pub returns-clause-range : goal.returns-clause-range
returns-clause-range c = rw c.with_fields.ensures (in_range c.args.word c.in_ok-op.op)
