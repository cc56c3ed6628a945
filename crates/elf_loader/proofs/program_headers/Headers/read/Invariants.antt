use Rattle.std.proofs.Common.{◌≡◌, ◌+◌, ◌*◌, ◌-◌, ◌++◌, ◌≤◌, take, length}
use Rattle.cap_format.specs.Numbers.{file_header_bytes, program_header_bytes, most_headers}
use Rattle.cap_format.specs.Image.{headers_at}
use Rattle.elf_loader.proofs.program_headers.Headers.read.Given as goal

-- the first are read, and the others are to come
abbrev pub invariant-loop-number : goal.invariant-loop-number
invariant-loop-number l = record {
  within : l.number ≤ l.count;
  room : length l.list ≡ most_headers;
  same : take l.number l.list ++ headers_at l.bytes (file_header_bytes + program_header_bytes * l.number) (l.count - l.number) ≡ headers_at l.bytes file_header_bytes l.count;
}
