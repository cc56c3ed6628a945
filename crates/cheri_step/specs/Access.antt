-- The accesses of instructions: the fetch, and that of a load or a store.
use Rattle.std.specs.Prelude.{ℕ, ◌-◌, if◌then◌else◌, Result, Ok, Err}
use Rattle.cap_format.specs.declared.cap.Cap.{Cap}
use Rattle.cap_format.specs.Pattern.{address_of}
use Rattle.cap_format.specs.Made.{null, from_int}
use Rattle.cap_format.specs.Region.{region_start}
use Rattle.cap_format.specs.Rights.{holds}
use Rattle.machine_types.specs.declared.cause.Cause.{Cause}
use Rattle.machine_types.specs.declared.cause.Cause.TheVariants as cause
use Rattle.machine_types.specs.declared.touches.Note.{Note}
use Rattle.riscv_decode.specs.declared.instr.LoadOp.{LoadOp}
use Rattle.riscv_decode.specs.declared.instr.LoadOp.TheVariants as load
use Rattle.riscv_decode.specs.declared.instr.StoreOp.{StoreOp}
use Rattle.riscv_decode.specs.declared.instr.StoreOp.TheVariants as store
use Rattle.contents.specs.declared.refusal.Refusal.{Refusal}
use Rattle.contents.specs.declared.refusal.Refusal.TheVariants.{NoPage, NoRight, NoFrame}
use Rattle.contents.specs.Content.{Content, CallOutcome}
use Rattle.contents.specs.Accesses.{read_of, read_cap_of, fetch_of, write_of, write_cap_of}
use Rattle.cheri_step.specs.declared.memory.MemoryOp.{MemoryOp}
use Rattle.cheri_step.specs.declared.memory.MemoryOp.TheVariants.{Load, Store}
use Rattle.cheri_step.specs.Tests.{load_size, store_size, tests_of_access, passed}
use Rattle.cheri_step.specs.Results.{integer_of}

-- the place of an address in its region
abbrev pub place_in : ℕ → ℕ → ℕ
place_in region address = address - region_start region

-- the answer to a load of a number, and to a store, which loads nothing: null
abbrev pub as_integer : Result (ℕ × Note) Refusal → Result (Cap × Note) Refusal
as_integer (Ok a) = Ok (from_int a.0, a.1)
as_integer (Err refusal) = Err refusal

abbrev pub as_stored : Result Note Refusal → Result (Cap × Note) Refusal
as_stored (Ok note) = Ok (null, note)
as_stored (Err refusal) = Err refusal

abbrev pub integer_loaded : CallOutcome (Result (ℕ × Note) Refusal) → CallOutcome (Result (Cap × Note) Refusal)
integer_loaded o = record { answer = as_integer o.answer; after = o.after }

abbrev pub stored : CallOutcome (Result Note Refusal) → CallOutcome (Result (Cap × Note) Refusal)
stored o = record { answer = as_stored o.answer; after = o.after }

-- A load, or a store, at a place of the region: what was loaded, and the touch.
abbrev pub load_at : Content → ℕ → ℕ → LoadOp → CallOutcome (Result (Cap × Note) Refusal)
load_at c region at load.Clc = read_cap_of c region at
load_at c region at op = integer_loaded (read_of c region at (load_size op))

abbrev pub store_at : Content → ℕ → ℕ → StoreOp → Cap → CallOutcome (Result (Cap × Note) Refusal)
store_at c region at store.Csc value = stored (write_cap_of c region at value)
store_at c region at op value = stored (write_of c region at (store_size op) (integer_of value))

abbrev pub accessed_at : Content → ℕ → ℕ → MemoryOp → CallOutcome (Result (Cap × Note) Refusal)
accessed_at c region at (Load op) = load_at c region at op
accessed_at c region at (Store op value) = store_at c region at op value

-- The access performed: each load and each store goes through this.
unfoldable pub accessed : Content → ℕ → ℕ → MemoryOp → CallOutcome (Result (Cap × Note) Refusal)
accessed c region address op = accessed_at c region (place_in region address) op

-- the cause of a load or a store that is refused
abbrev pub access_cause : Refusal → Cause
access_cause NoPage = cause.NoPage
access_cause NoRight = cause.NoRight
access_cause NoFrame = cause.NoFrame

-- the cause of a fetch that is refused
abbrev pub fetch_cause : Refusal → Cause
fetch_cause NoPage = cause.CodePage
fetch_cause NoRight = cause.CodePage
fetch_cause NoFrame = cause.NoFrame

-- an answer with the cause of its refusal
abbrev pub caused : {A : Type 0} → (Refusal → Cause) → Result A Refusal → Result A Cause
caused cause (Ok a) = Ok a
caused cause (Err refusal) = Err (cause refusal)

-- an access that is made where the tests before it pass
abbrev pub tested : Content → Result (Unit {0}) Cause → CallOutcome (Result (Cap × Note) Refusal) → CallOutcome (Result (Cap × Note) Cause)
tested c (Ok passes) o = record { answer = caused access_cause o.answer; after = o.after }
tested c (Err cause) o = record { answer = Err cause; after = c }

-- A load or a store by an authority: the tests, and then the access.
abbrev pub access_of : Content → ℕ → Cap → ℕ → MemoryOp → CallOutcome (Result (Cap × Note) Cause)
access_of c region authority address op = tested c (passed (tests_of_access authority address op)) (accessed c region address op)

-- the fetch of the word at PCC: its four bytes lie in the bounds of PCC, and then the access
abbrev pub code_of : Content → ℕ → Cap → CallOutcome (Result (ℕ × Note) Cause)
code_of c region pcc =
    let o = fetch_of c region (place_in region (address_of pcc.bits)) in
    if holds pcc.bits (address_of pcc.bits) 4
    then record { answer = caused fetch_cause o.answer; after = o.after }
    else record { answer = Err cause.CodeBounds; after = c }
