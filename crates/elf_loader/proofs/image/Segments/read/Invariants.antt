use Rattle.std.proofs.Common.{◌≡◌, ◌++◌, drop, filter, map}
use Rattle.cap_format.specs.Image.{is_segment}
use Rattle.elf_loader.specs.Loaded.{segment_of}
use Rattle.elf_loader.proofs.image.Segments.read.Given as goal

-- the segments so far and those among the headers that are left
abbrev pub invariant-loop-header : goal.invariant-loop-header
invariant-loop-header l = l.list.items ++ map segment_of (filter is_segment (drop l.header-index l.headers)) ≡ map segment_of (filter is_segment l.headers)
