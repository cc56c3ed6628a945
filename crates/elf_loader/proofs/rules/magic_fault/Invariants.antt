use Rattle.std.proofs.Common.{◌≡◌, drop}
use Rattle.cap_format.specs.Rules.{first_fault}
use Rattle.cap_format.specs.Image.{byte_rules, identification}
use Rattle.elf_loader.proofs.rules.magic_fault.Given as goal

-- the bytes from the place on have the fault that all have
abbrev pub invariant-loop-place : goal.invariant-loop-place
invariant-loop-place l = first_fault (byte_rules l.bytes l.place (drop l.place identification)) ≡ first_fault (byte_rules l.bytes 0 identification)
