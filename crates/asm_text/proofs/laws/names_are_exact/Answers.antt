-- The names of instructions and of registers.
use Rattle.asm_text.proofs.InstrNames.{instr-named, named-as, name-kept, data-named}
use Rattle.asm_text.proofs.RegisterNames.{register-read, register-is}
use Rattle.asm_text.proofs.laws.names_are_exact.Goals as goal

pub returns : goal.returns
returns c = record {
  instr = instr-named;
  kept = name-kept;
  named = named-as;
  directives = data-named;
  register = register-read;
  is_register = register-is;
}
