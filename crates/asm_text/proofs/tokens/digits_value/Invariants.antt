use Rattle.std.proofs.Common.{◌≤◌, ◌^◌, take}
use Rattle.asm_text.specs.Tokens.{digits_behind}
use Rattle.asm_text.specs.Scanning.{IsCapped}
use Rattle.asm_text.proofs.tokens.digits_value.Given as goal

abbrev pub invariant-loop-byte : goal.invariant-loop-byte
invariant-loop-byte l = record {
  capped : IsCapped (digits_behind l.base 0 (take l.byte-index l.bytes)) l.value;
  based : 2 ^ 64 ≤ l.value → 1 ≤ l.base;
}
