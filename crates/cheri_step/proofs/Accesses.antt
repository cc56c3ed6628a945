-- What the code of an access knows of its definition.
use Rattle.std.proofs.Common.{◌≡◌, ◌≢◌, ℕ, refl, Ok, Err, inl, inr}
use Rattle.std.specs.Prelude.{Result}
use Rattle.cap_format.specs.declared.cap.Cap.{Cap}
use Rattle.machine_types.specs.declared.cause.Cause.{Cause}
use Rattle.machine_types.specs.declared.touches.Note.{Note}
use Rattle.machine_types.specs.Granules.{IsSize}
use Rattle.riscv_decode.specs.declared.instr.LoadOp.{LoadOp}
use Rattle.riscv_decode.specs.declared.instr.LoadOp.TheVariants as load
use Rattle.riscv_decode.specs.declared.instr.StoreOp.{StoreOp}
use Rattle.riscv_decode.specs.declared.instr.StoreOp.TheVariants as store
use Rattle.contents.specs.declared.refusal.Refusal.{Refusal}
use Rattle.contents.specs.Content.{Content}
use Rattle.contents.specs.Accesses.{read_of, write_of}
use Rattle.contents.specs.Touching.{notes_of_load, notes_of_store}
use Rattle.cheri_step.specs.Results.{integer_of}
use Rattle.cheri_step.specs.Tests.{load_size, store_size}
use Rattle.cheri_step.specs.Access.{as_integer, as_stored, integer_loaded, stored, load_at, store_at, caused}
use Rattle.cheri_step.specs.Held.{notes_of_access}

-- a load other than clc is one of a number
pub number-loaded : (c : Content) (region at : ℕ) (op : LoadOp) → op ≢ load.Clc → load_at c region at op ≡ integer_loaded (read_of c region at (load_size op))
number-loaded c region at load.Lb other = refl
number-loaded c region at load.Lh other = refl
number-loaded c region at load.Lw other = refl
number-loaded c region at load.Ld other = refl
number-loaded c region at load.Lbu other = refl
number-loaded c region at load.Lhu other = refl
number-loaded c region at load.Lwu other = refl
number-loaded c region at load.Clc other = absurd (other refl)

-- a store other than csc is one of a number
pub number-stored : (c : Content) (region at : ℕ) (op : StoreOp) (value : Cap) → op ≢ store.Csc → store_at c region at op value ≡ stored (write_of c region at (store_size op) (integer_of value))
number-stored c region at store.Sb value other = refl
number-stored c region at store.Sh value other = refl
number-stored c region at store.Sw value other = refl
number-stored c region at store.Sd value other = refl
number-stored c region at store.Csc value other = absurd (other refl)

-- its size is that of a number
pub loaded-size : (op : LoadOp) → op ≢ load.Clc → IsSize (load_size op)
loaded-size load.Lb other = inl refl
loaded-size load.Lh other = inr (inl refl)
loaded-size load.Lw other = inr (inr (inl refl))
loaded-size load.Ld other = inr (inr (inr refl))
loaded-size load.Lbu other = inl refl
loaded-size load.Lhu other = inr (inl refl)
loaded-size load.Lwu other = inr (inr (inl refl))
loaded-size load.Clc other = absurd (other refl)

pub stored-size : (op : StoreOp) → op ≢ store.Csc → IsSize (store_size op)
stored-size store.Sb other = inl refl
stored-size store.Sh other = inr (inl refl)
stored-size store.Sw other = inr (inr (inl refl))
stored-size store.Sd other = inr (inr (inr refl))
stored-size store.Csc other = absurd (other refl)

-- the notes stay, whatever else becomes of an answer
pub integer-notes : (answer : Result (ℕ × Note) Refusal) → notes_of_load (as_integer answer) ≡ notes_of_load answer
integer-notes (Ok a) = refl
integer-notes (Err refusal) = refl

pub stored-notes : (answer : Result Note Refusal) → notes_of_load (as_stored answer) ≡ notes_of_store answer
stored-notes (Ok note) = refl
stored-notes (Err refusal) = refl

pub caused-notes : {A : Type 0} (cause : Refusal → Cause) (answer : Result (A × Note) Refusal) → notes_of_access (caused cause answer) ≡ notes_of_load answer
caused-notes cause (Ok a) = refl
caused-notes cause (Err refusal) = refl
