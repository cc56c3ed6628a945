-- The operations of each opcode, as the code has them.
use Rattle.std.specs.Prelude.{ℕ, List, [], if◌then◌else◌, ◌==◌}
use Rattle.riscv_decode.specs.declared.ops.Op.{Op}
use Rattle.riscv_decode.specs.declared.ops.TheConstants.{LOADS, FENCES, IMMEDIATES, UPPER_TO_CAPABILITY, WORD_IMMEDIATES, STORES, REGISTERS, UPPER, WORD_REGISTERS, CAPABILITIES, BRANCHES, JUMPS_TO_REGISTER, JUMPS, CALLS}

-- the operations of an opcode, or none
abbrev pub ops_of : ℕ → List Op
ops_of opcode =
    if opcode == 0x03 then LOADS else (
    if opcode == 0x0f then FENCES else (
    if opcode == 0x13 then IMMEDIATES else (
    if opcode == 0x17 then UPPER_TO_CAPABILITY else (
    if opcode == 0x1b then WORD_IMMEDIATES else (
    if opcode == 0x23 then STORES else (
    if opcode == 0x33 then REGISTERS else (
    if opcode == 0x37 then UPPER else (
    if opcode == 0x3b then WORD_REGISTERS else (
    if opcode == 0x5b then CAPABILITIES else (
    if opcode == 0x63 then BRANCHES else (
    if opcode == 0x67 then JUMPS_TO_REGISTER else (
    if opcode == 0x6f then JUMPS else (
    if opcode == 0x73 then CALLS else (
    []))))))))))))))
