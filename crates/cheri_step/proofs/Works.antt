-- What the code of an instruction knows of its definition.
use Rattle.std.proofs.Common.{◌≡◌, ℕ, refl, sym, ap, subst, Some, List, not, IsTrue, ◌^◌, ◌<◌, ◌⊎◌, inl, inr, arith}
use Rattle.std.specs.Prelude.{ℤ, pos, negsuc, ◌-ℤ◌, Result}
use Rattle.std.specs.Int.Signed.{mag}
use Rattle.std.specs.Int.{w32, cast_signed as to_z, cast_unsigned as of_z}
use Rattle.std.proofs.lemmas.Int.{ints, to_z-of_z}
use Rattle.std.proofs.lemmas.Bool.{false≢true}
use Rattle.cap_format.specs.declared.cap.Cap.{Cap}
use Rattle.machine_types.specs.declared.cause.Cause.{Cause}
use Rattle.machine_types.specs.declared.touches.Note.{Note}
use Rattle.machine_types.specs.Registers.{register, with_register}
use Rattle.riscv_decode.specs.declared.instr.LoadOp.{LoadOp}
use Rattle.riscv_decode.specs.declared.instr.BranchOp.{BranchOp}
use Rattle.riscv_decode.specs.declared.instr.StoreOp.{StoreOp}
use Rattle.riscv_decode.specs.declared.instr.Instr.{Instr}
use Rattle.riscv_decode.specs.declared.instr.Instr.TheVariants as instr
use Rattle.riscv_decode.specs.Table.{IsFrom, IsSigned12, IsInRange}
use Rattle.riscv_decode.specs.Decoded.{decoded}
use Rattle.contents.specs.Content.{Content}
use Rattle.cheri_step.specs.declared.memory.MemoryOp.TheVariants.{Load, Store}
use Rattle.cheri_step.specs.declared.step.Worked.{Worked}
use Rattle.cheri_step.specs.Access.{access_of}
use Rattle.cheri_step.specs.Held.{is_access}
use Rattle.cheri_step.specs.Plans.{displaced, loaded, goes_on, planned}
use Rattle.cheri_step.specs.Effect.{state, performed, work_of, HasWork}

-- a load, from what its parts came to
pub load-work : (r r' : List Cap) (pcc pcc' : Cap) (region word : ℕ) (c : Content) (op : LoadOp) (n s : ℕ) (imm : ℤ) (authority : Cap) (address : ℕ) (accessed : Result (Cap × Note) Cause) (w : Worked) (stands : Content → Type 0)
    → decoded word ≡ Some (instr.Load op n s imm) → authority ≡ register r s → address ≡ displaced authority imm
    → accessed ≡ (access_of c region authority address (Load op)).answer → stands (access_of c region authority address (Load op)).after
    → performed (state r pcc c) (λ value. with_register r n (loaded op authority value)) (access_of c region authority address (Load op)).after accessed
    ≡ record { end = w.end; after = state r' pcc' (access_of c region authority address (Load op)).after; touched = w.touched }
    → HasWork (work_of (state r pcc c) region word) w r' pcc' stands
load-work r r' pcc pcc' region word c op n s imm authority address accessed w stands row from at is left made =
    rw (row, sym from, sym at, sym is, made) (record { worked = refl; registers_are = refl; pcc_is = refl; content = left })

-- a store, from what its parts came to
pub store-work : (r : List Cap) (pcc pcc' : Cap) (region word : ℕ) (c : Content) (op : StoreOp) (s t : ℕ) (imm : ℤ) (authority : Cap) (address : ℕ) (value : Cap) (accessed : Result (Cap × Note) Cause) (w : Worked) (stands : Content → Type 0)
    → decoded word ≡ Some (instr.Store op s t imm) → authority ≡ register r s → address ≡ displaced authority imm → value ≡ register r t
    → accessed ≡ (access_of c region authority address (Store op value)).answer → stands (access_of c region authority address (Store op value)).after
    → performed (state r pcc c) (λ _. r) (access_of c region authority address (Store op value)).after accessed
    ≡ record { end = w.end; after = state r pcc' (access_of c region authority address (Store op value)).after; touched = w.touched }
    → HasWork (work_of (state r pcc c) region word) w r pcc' stands
store-work r pcc pcc' region word c op s t imm authority address value accessed w stands row from at stored is left made =
    rw (row, sym from, sym at, sym stored, sym is, made) (record { worked = refl; registers_are = refl; pcc_is = refl; content = left })

-- an immediate of 12 bits has 32
pub small-fits : (imm : ℤ) → IsSigned12 imm → to_z w32 (of_z w32 imm) ≡ imm
small-fits (pos n) range = to_z-of_z w32 (pos n) (let below = range.1 in omega (arith, ints, below))
small-fits (negsuc n) range = to_z-of_z w32 (negsuc n) (let from = range.0 in omega (arith, ints, from))

-- and so has the distance of a branch
pub branch-fits : (imm : ℤ) → IsFrom (pos 0 -ℤ pos 4096) (pos 4096) imm → to_z w32 (of_z w32 imm) ≡ imm
branch-fits (pos n) range = to_z-of_z w32 (pos n) (let below = range.1 in omega (arith, ints, below))
branch-fits (negsuc n) range = to_z-of_z w32 (negsuc n) (let from = range.0 in omega (arith, ints, from))

-- an instruction in range that is this load has such an immediate
pub load-fits : (i : Instr) (op : LoadOp) (n s : ℕ) (imm : ℤ) → IsInRange i → i ≡ instr.Load op n s imm → to_z w32 (of_z w32 imm) ≡ imm
load-fits i op n s imm range is = small-fits imm (subst IsInRange is range).2

-- likewise a store
pub store-fits : (i : Instr) (op : StoreOp) (s t : ℕ) (imm : ℤ) → IsInRange i → i ≡ instr.Store op s t imm → to_z w32 (of_z w32 imm) ≡ imm
store-fits i op s t imm range is = small-fits imm (subst IsInRange is range).2

-- and a branch
pub taken-fits : (i : Instr) (op : BranchOp) (s t : ℕ) (imm : ℤ) → IsInRange i → i ≡ instr.Branch op s t imm → to_z w32 (of_z w32 imm) ≡ imm
taken-fits i op s t imm range is = branch-fits imm (subst IsInRange is range).2

-- an immediate of 32 bits has 32
pub mag-fits : (imm : ℤ) → mag imm < 2 ^ 31 → to_z w32 (of_z w32 imm) ≡ imm
mag-fits (pos n) below = to_z-of_z w32 (pos n) (omega arith)
mag-fits (negsuc n) below = to_z-of_z w32 (negsuc n) (omega arith)

-- of loads, stores and the fence the one that makes no access is the fence
pub fence-alone : (i : Instr) → IsTrue (not (is_access i)) → (r : List Cap) (pcc : Cap) → ((op : LoadOp) × (d : ℕ) × (s : ℕ) × (imm : ℤ) × (i ≡ instr.Load op d s imm)) ⊎ (((op : StoreOp) × (s : ℕ) × (t : ℕ) × (imm : ℤ) × (i ≡ instr.Store op s t imm)) ⊎ (i ≡ instr.Fence)) → planned r pcc i ≡ goes_on r pcc
fence-alone i none r pcc (inl (op, d, s, imm, is)) = absurd (false≢true (subst (λ j. IsTrue (not (is_access j))) is none))
fence-alone i none r pcc (inr (inl (op, s, t, imm, is))) = absurd (false≢true (subst (λ j. IsTrue (not (is_access j))) is none))
fence-alone i none r pcc (inr (inr is)) = ap (planned r pcc) is
