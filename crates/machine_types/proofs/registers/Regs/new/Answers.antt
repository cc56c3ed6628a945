use Rattle.std.proofs.Common.{ℕ, sym, subst, replicate}
use Rattle.machine_types.specs.Registers.{AreInside, IsRegisterFile}
use Rattle.machine_types.proofs.RegisterLemmas.{AreInside-null, file-null}
use Rattle.machine_types.proofs.registers.Regs.new.Goals as goal

pub returns-clause-inside : goal.returns-clause-inside
returns-clause-inside c = subst (λ cap. (region : ℕ) → AreInside (replicate 32 cap) region) (sym c.null.ensures) (λ region. AreInside-null 32 region)

pub invariant_of-result : goal.invariant_of-result
invariant_of-result c = subst (λ cap. IsRegisterFile (replicate 32 cap)) (sym c.null.ensures) file-null

pub returns-clause-whole : goal.returns-clause-whole
returns-clause-whole c = subst (λ cap. IsRegisterFile (replicate 32 cap)) (sym c.null.ensures) file-null
