use Rattle.std.proofs.Common.{◌≡◌, ◌+◌, ◌*◌, ◌≤◌, drop, filter}
use Rattle.cap_format.specs.Image.{is_segment, pages_of}
use Rattle.elf_loader.proofs.image.page_count.Given as goal

-- the pages so far and those of the headers that are left
abbrev pub invariant-loop-header : goal.invariant-loop-header
invariant-loop-header l = record {
  few : l.count ≤ 256 * l.header-index;
  same : l.count + pages_of (filter is_segment (drop l.header-index l.headers)) ≡ pages_of (filter is_segment l.headers);
}
