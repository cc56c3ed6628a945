use Rattle.std.proofs.Common.{◌≡◌, ◌+◌, ◌*◌, ◌-◌, ◌≤◌, ◌++◌, map, All}
use Rattle.cap_format.specs.Numbers.{relocation_bytes}
use Rattle.cap_format.specs.Image.{relocations_at}
use Rattle.elf_loader.specs.Tested.{IsNarrow}
use Rattle.elf_loader.specs.Loaded.{reloc_of}
use Rattle.elf_loader.proofs.image.Relocs.read.Given as goal

-- the relocations so far and those that are left, which fit
abbrev pub invariant-loop-number : goal.invariant-loop-number
invariant-loop-number l = record {
  within : l.number ≤ l.count;
  narrow : All IsNarrow (relocations_at l.bytes (l.from + relocation_bytes * l.number) (l.count - l.number));
  same : l.list.items ++ map reloc_of (relocations_at l.bytes (l.from + relocation_bytes * l.number) (l.count - l.number)) ≡ map reloc_of (relocations_at l.bytes l.from l.count);
}
