use Rattle.std.proofs.Common.{◌≡◌, drop}
use Rattle.std.specs.List.{list_any}
use Rattle.cap_format.specs.Image.{covers}
use Rattle.elf_loader.proofs.rules.is_covered.Given as goal

-- it is on a page of one of the segments that are left, or of none
abbrev pub invariant-loop-header : goal.invariant-loop-header
invariant-loop-header l = list_any (covers l.place) (drop l.header-index l.headers) ≡ list_any (covers l.place) l.headers
