use Rattle.cheri_step.proofs.Derivations.{derives-reg, derives-imm, derives-upper, derives-one, derives-next, derives-back, derives-target, derives-loaded}
use Rattle.cheri_step.proofs.StillSealed.{sealed-reg, sealed-imm, sealed-upper, sealed-one, back-sealed, next-on, loaded-untagged}
use Rattle.cheri_step.proofs.laws.derivations_narrow.Goals as goal

pub returns : goal.returns
returns c = record {
  registers = derives-reg;
  immediates = derives-imm;
  upper = derives-upper;
  one = derives-one;
  next = derives-next;
  back = derives-back;
  target = derives-target;
  loads = derives-loaded;
  sealed_registers = sealed-reg;
  sealed_immediates = sealed-imm;
  sealed_upper = sealed-upper;
  sealed_one = sealed-one;
  sealed_back = back-sealed;
  four_on = next-on;
  untagged = loaded-untagged;
}
