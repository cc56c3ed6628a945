-- The tests of instructions, each with the cause by which the process is killed where it fails, in their order.
-- What is tested is after the CHERI ISA v9; the causes and their order are this project's own.
use Rattle.std.specs.Prelude.{ℕ, ◌+◌, ◌%◌, ◌==◌, ◌&&◌, ◌||◌, Bool, if◌then◌else◌, ℤ, pos, Result, Ok, Err, List, [], ◌∷◌}
use Rattle.std.specs.Ordering.{int_eq}
use Rattle.cap_format.specs.Numbers.{granule_bytes, permit_execute, permit_load, permit_store, permit_store_capability}
use Rattle.cap_format.specs.declared.cap.Cap.{Cap}
use Rattle.cap_format.specs.Pattern.{kind_of}
use Rattle.cap_format.specs.Rights.{allows, holds}
use Rattle.machine_types.specs.declared.cause.Cause.{Cause}
use Rattle.machine_types.specs.declared.cause.Cause.TheVariants.{Tag, Sealed, Permission, Bounds, Misaligned, CodeBounds}
use Rattle.riscv_decode.specs.declared.instr.LoadOp.{LoadOp}
use Rattle.riscv_decode.specs.declared.instr.LoadOp.TheVariants as load
use Rattle.riscv_decode.specs.declared.instr.StoreOp.{StoreOp}
use Rattle.riscv_decode.specs.declared.instr.StoreOp.TheVariants as store
use Rattle.cheri_step.specs.declared.memory.MemoryOp.{MemoryOp}
use Rattle.cheri_step.specs.declared.memory.MemoryOp.TheVariants.{Load, Store}

-- a test, and the cause where it fails
pub record Test : Type 0 where
  pub passes : Bool
  pub cause : Cause

abbrev pub want : Bool → Cause → Test
want passes cause = record { passes = passes; cause = cause }

-- All tests pass, or the cause is that of the first that fails.
abbrev pub passed : List Test → Result (Unit {0}) Cause
passed [] = Ok tt
passed (test ∷ tests) = if test.passes then passed tests else Err test.cause

-- the bytes of a load, and of a store
abbrev pub load_size : LoadOp → ℕ
load_size load.Lb = 1
load_size load.Lh = 2
load_size load.Lw = 4
load_size load.Ld = 8
load_size load.Lbu = 1
load_size load.Lhu = 2
load_size load.Lwu = 4
load_size load.Clc = granule_bytes

abbrev pub store_size : StoreOp → ℕ
store_size store.Sb = 1
store_size store.Sh = 2
store_size store.Sw = 4
store_size store.Sd = 8
store_size store.Csc = granule_bytes

abbrev pub size_of : MemoryOp → ℕ
size_of (Load op) = load_size op
size_of (Store op value) = store_size op

-- The permissions that a load or a store wants of its authority. To store a tagged capability it has to permit that besides.
abbrev pub permissions_for : MemoryOp → ℕ
permissions_for (Load op) = permit_load
permissions_for (Store store.Csc value) = if value.tag then permit_store + permit_store_capability else permit_store
permissions_for (Store op value) = permit_store

-- it isn't sealed
abbrev pub is_plain : Cap → Bool
is_plain cap = kind_of cap.bits == 0

-- The tests of a load or a store at an address, before those of its page: one order for all of them.
abbrev pub tests_of_access : Cap → ℕ → MemoryOp → List Test
tests_of_access authority address op =
    want authority.tag Tag ∷
    want (is_plain authority) Sealed ∷
    want (allows authority.bits (permissions_for op)) Permission ∷
    want (holds authority.bits address (size_of op)) Bounds ∷
    want (address % size_of op == 0) Misaligned ∷ []

-- the tests of the target of a jump within the bounds of a capability
abbrev pub tests_of_target : Cap → ℕ → List Test
tests_of_target cap target =
    want (target % 4 == 0) Misaligned ∷
    want (holds cap.bits target 4) CodeBounds ∷ []

-- it is a sealed entry
abbrev pub is_entry : Cap → Bool
is_entry cap = kind_of cap.bits == 1

-- The tests of a jump by a register. A sealed entry is jumped to as it is, with the immediate 0.
abbrev pub tests_of_jump : Cap → ℤ → ℕ → List Test
tests_of_jump cap imm target =
    want cap.tag Tag ∷
    want (is_plain cap || (is_entry cap && int_eq imm (pos 0))) Sealed ∷
    want (allows cap.bits permit_execute) Permission ∷
    tests_of_target cap target
