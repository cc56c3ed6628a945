use Rattle.std.proofs.Common.{◌≡◌, drop}
use Rattle.asm_text.specs.Bytes.{is_text, are}
use Rattle.asm_text.proofs.cursor.are_text.Given as goal

abbrev pub invariant-loop-byte : goal.invariant-loop-byte
invariant-loop-byte l = are is_text (drop l.byte-index l.bytes) ≡ are is_text l.bytes
