use Rattle.std.proofs.Common.{◌≡◌, drop, find}
use Rattle.cap_format.specs.Image.{is_table}
use Rattle.elf_loader.proofs.rules.table_in.Given as goal

-- the first table is among the headers that are left
abbrev pub invariant-loop-header : goal.invariant-loop-header
invariant-loop-header l = find is_table (drop l.header-index l.headers) ≡ find is_table l.headers
