use Rattle.std.proofs.Common.{refl}
use Rattle.std.specs.Fmt.{digits}
use Rattle.riscv_decode.specs.Decoded.{decoded}
use Rattle.trace_tools.specs.Statements.{statement}
use Rattle.trace_tools.proofs.laws.worked_statements_hold.Goals as goal

pub returns : goal.returns
unfolding statement decoded digits
returns c = record {
  number = refl;
  derived = refl;
  call = refl;
  last = refl;
  two_sources = refl;
  immediates = refl;
  loads = refl;
  stores = refl;
  branches = refl;
  uppers = refl;
  one_source = refl;
  jump = refl;
  jump_by_register = refl;
  ecall = refl;
  ebreak = refl;
  fence = refl;
  zeros = refl;
  immediates_below = refl;
  loads_above = refl;
  stores_below = refl;
  branches_above = refl;
  jump_below = refl;
  jump_by_register_above = refl;
  immediates_above = refl;
  uppers_below = refl;
}
