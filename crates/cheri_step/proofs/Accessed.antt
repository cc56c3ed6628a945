-- What a load or a store does, from the laws of contents.
use Rattle.std.proofs.Common.{◌≡◌, ◌≢◌, ◌↔◌, ℕ, refl, ap, Ok, Err, Result}
use Rattle.cap_format.specs.declared.cap.Cap.{Cap}
use Rattle.machine_types.specs.declared.touches.Access.{Access}
use Rattle.machine_types.specs.declared.touches.Access.TheVariants.{Read, Write}
use Rattle.machine_types.specs.declared.touches.Note.{Note}
use Rattle.riscv_decode.specs.declared.instr.LoadOp.TheVariants as load
use Rattle.riscv_decode.specs.declared.instr.StoreOp.TheVariants as store
use Rattle.contents.specs.declared.refusal.Refusal.{Refusal}
use Rattle.contents.specs.declared.refusal.Refusal.TheVariants.{NoFrame}
use Rattle.contents.specs.Content.{Content, CallOutcome}
use Rattle.contents.specs.Accesses.{read_of, read_cap_of, write_of, write_cap_of}
use Rattle.contents.specs.Laws.{AreAlike, GiveAlike}
use Rattle.contents.specs.Refusing.{LacksFrame}
use Rattle.contents.specs.Agreeing.{HaveSameStores, value_of, done_of}
use Rattle.contents.proofs.Refusals.{read-refused, read_cap-refused, write-refused, write_cap-refused}
use Rattle.contents.proofs.RefusalCauses.{read-in-order, read_cap-in-order, write-in-order, write_cap-in-order}
use Rattle.contents.proofs.SameStores.{read-same, read_cap-same, write-same, write_cap-same}
use Rattle.contents.proofs.OwnStore.{read-alike, read_cap-alike, write-alike, write_cap-alike}
use Rattle.contents.proofs.CallShapes.{HoldsOfStores, read-holds, read_cap-holds, write-holds, write_cap-holds}
use Rattle.cheri_step.specs.declared.memory.MemoryOp.{MemoryOp}
use Rattle.cheri_step.specs.declared.memory.MemoryOp.TheVariants.{Load, Store}
use Rattle.cheri_step.specs.Results.{integer_of}
use Rattle.cheri_step.specs.Tests.{load_size, store_size}
use Rattle.cheri_step.specs.Access.{place_in, as_integer, as_stored, integer_loaded, stored, accessed_at, accessed}
use Rattle.cheri_step.specs.Laws.{kind_of_access}

-- an access of a content
abbrev pub Accesses : Type 0
Accesses = Content → CallOutcome (Result (Cap × Note) Refusal)

-- What holds of the loads and the stores of contents holds of the access of each instruction.
pub by-access : (P : Access → Accesses → Type 0) (region at : ℕ)
    → P Read (λ c. read_cap_of c region at) → ((size : ℕ) → P Read (λ c. integer_loaded (read_of c region at size)))
    → ((cap : Cap) → P Write (λ c. stored (write_cap_of c region at cap))) → ((size v : ℕ) → P Write (λ c. stored (write_of c region at size v)))
    → (op : MemoryOp) → P (kind_of_access op) (λ c. accessed_at c region at op)
by-access P region at read_cap read write_cap write (Load load.Lb) = read (load_size load.Lb)
by-access P region at read_cap read write_cap write (Load load.Lh) = read (load_size load.Lh)
by-access P region at read_cap read write_cap write (Load load.Lw) = read (load_size load.Lw)
by-access P region at read_cap read write_cap write (Load load.Ld) = read (load_size load.Ld)
by-access P region at read_cap read write_cap write (Load load.Lbu) = read (load_size load.Lbu)
by-access P region at read_cap read write_cap write (Load load.Lhu) = read (load_size load.Lhu)
by-access P region at read_cap read write_cap write (Load load.Lwu) = read (load_size load.Lwu)
by-access P region at read_cap read write_cap write (Load load.Clc) = read_cap
by-access P region at read_cap read write_cap write (Store store.Sb value) = write (store_size store.Sb) (integer_of value)
by-access P region at read_cap read write_cap write (Store store.Sh value) = write (store_size store.Sh) (integer_of value)
by-access P region at read_cap read write_cap write (Store store.Sw value) = write (store_size store.Sw) (integer_of value)
by-access P region at read_cap read write_cap write (Store store.Sd value) = write (store_size store.Sd) (integer_of value)
by-access P region at read_cap read write_cap write (Store store.Csc value) = write_cap value

-- A relation that holds of touches and of changes of the region's store holds of an access.
pub accessed-holds : (R : Content → Content → Type 0) (region : ℕ) → HoldsOfStores region R → (c : Content) (address : ℕ) (op : MemoryOp) → R c (accessed c region address op).after
unfolding accessed
accessed-holds R region h c address op =
    by-access (λ (access : Access) (f : Accesses). (d : Content) → R d (f d).after) region at
    (λ d. read_cap-holds R region h.touches d at) (λ size d. read-holds R region h.touches d at size)
    (λ cap d. write_cap-holds R region h d at cap) (λ size v d. write-holds R region h d at size v) op c
  where
    at : ℕ
    at = place_in region address

-- An access depends on no other region's store.
pub accessed-alike : (c d : Content) (region address : ℕ) (op : MemoryOp) → AreAlike region c d → GiveAlike region (accessed c region address op) (accessed d region address op)
unfolding accessed
accessed-alike c d region address op h =
    by-access (λ (access : Access) (f : Accesses). GiveAlike region (f c) (f d)) region at
    (read_cap-alike c d region at h)
    (λ size. let k = read-alike c d region at size h in record { answer = ap as_integer k.answer; after = k.after })
    (λ cap. let k = write_cap-alike c d region at cap h in record { answer = ap as_stored k.answer; after = k.after })
    (λ size v. let k = write-alike c d region at size v h in record { answer = ap as_stored k.answer; after = k.after }) op
  where
    at : ℕ
    at = place_in region address

-- A load of a number has the refusals of what it answers.
integer-refused : (x : Result (ℕ × Note) Refusal) (refused : Refusal) → (as_integer x ≡ Err refused) ↔ (x ≡ Err refused)
integer-refused (Ok a) refused = (λ e. absurd (cc), λ e. absurd (cc))
integer-refused (Err other) refused = (λ e. cc, λ e. cc)

-- So has a store.
stored-refused : (x : Result Note Refusal) (refused : Refusal) → (as_stored x ≡ Err refused) ↔ (x ≡ Err refused)
stored-refused (Ok note) refused = (λ e. absurd (cc), λ e. absurd (cc))
stored-refused (Err other) refused = (λ e. cc, λ e. cc)

-- An access that is refused changes nothing.
pub accessed-refused : (c : Content) (region address : ℕ) (op : MemoryOp) (refused : Refusal) → (accessed c region address op).answer ≡ Err refused → (accessed c region address op).after ≡ c
unfolding accessed
accessed-refused c region address op =
    by-access (λ (access : Access) (f : Accesses). (refused : Refusal) → (f c).answer ≡ Err refused → (f c).after ≡ c) region at
    (read_cap-refused c region at)
    (λ size refused e. read-refused c region at size refused ((integer-refused (read_of c region at size).answer refused).0 e))
    (λ cap refused e. write_cap-refused c region at cap refused ((stored-refused (write_cap_of c region at cap).answer refused).0 e))
    (λ size v refused e. write-refused c region at size v refused ((stored-refused (write_of c region at size v).answer refused).0 e)) op
  where
    at : ℕ
    at = place_in region address

-- It is refused for want of a frame exactly where it lacks one.
pub accessed-lacks : (c : Content) (region address : ℕ) (op : MemoryOp) → ((accessed c region address op).answer ≡ Err NoFrame) ↔ LacksFrame c (kind_of_access op) region (place_in region address)
unfolding accessed
accessed-lacks c region address op =
    by-access (λ (access : Access) (f : Accesses). ((f c).answer ≡ Err NoFrame) ↔ LacksFrame c access region at) region at
    (read_cap-in-order c region at).frame
    (λ size. let order = (read-in-order c region at size).frame in let same = integer-refused (read_of c region at size).answer NoFrame in (λ e. order.0 (same.0 e), λ l. same.1 (order.1 l)))
    (λ cap. let order = (write_cap-in-order c region at cap).frame in let same = stored-refused (write_cap_of c region at cap).answer NoFrame in (λ e. order.0 (same.0 e), λ l. same.1 (order.1 l)))
    (λ size v. let order = (write-in-order c region at size v).frame in let same = stored-refused (write_of c region at size v).answer NoFrame in (λ e. order.0 (same.0 e), λ l. same.1 (order.1 l))) op
  where
    at : ℕ
    at = place_in region address

-- Where neither of two accesses lacks a frame, both give the same value and the same stores.
pub record AccessesAgree (o p : CallOutcome (Result (Cap × Note) Refusal)) : Type 0 where
  pub value : value_of p.answer ≡ value_of o.answer
  pub stores : HaveSameStores o.after p.after

-- the same number is the same capability
integer-value : (x y : Result (ℕ × Note) Refusal) → value_of y ≡ value_of x → value_of (as_integer y) ≡ value_of (as_integer x)
integer-value (Ok a) (Ok b) e = let same : b.0 ≡ a.0 = cc in rw same refl
integer-value (Ok a) (Err refusal) e = absurd (cc)
integer-value (Err refusal) (Ok b) e = absurd (cc)
integer-value (Err refusal) (Err other) e = let same : other ≡ refusal = cc in rw same refl

-- two stores that are both done, or neither, load the same
stored-value : (x y : Result Note Refusal) → done_of y ≡ done_of x → value_of (as_stored y) ≡ value_of (as_stored x)
stored-value (Ok note) (Ok other) e = refl
stored-value (Ok note) (Err refusal) e = absurd (cc)
stored-value (Err refusal) (Ok note) e = absurd (cc)
stored-value (Err refusal) (Err other) e = let same : other ≡ refusal = cc in rw same refl

-- The copy rules agree on an access.
pub accessed-agree : (c d : Content) (region address : ℕ) (op : MemoryOp) → HaveSameStores c d → (accessed c region address op).answer ≢ Err NoFrame → (accessed d region address op).answer ≢ Err NoFrame
    → AccessesAgree (accessed c region address op) (accessed d region address op)
unfolding accessed
accessed-agree c d region address op h =
    by-access (λ (access : Access) (f : Accesses). (f c).answer ≢ Err NoFrame → (f d).answer ≢ Err NoFrame → AccessesAgree (f c) (f d)) region at
    (λ some more. let k = read_cap-same c d region at h some more in record { value = k.0; stores = k.1 })
    (λ size some more.
    let x : Result (ℕ × Note) Refusal = (read_of c region at size).answer in
    let y : Result (ℕ × Note) Refusal = (read_of d region at size).answer in
    let k = read-same c d region at size h (λ e. some ((integer-refused x NoFrame).1 e)) (λ e. more ((integer-refused y NoFrame).1 e)) in
    record { value = integer-value x y k.0; stores = k.1 })
    (λ cap some more.
    let x : Result Note Refusal = (write_cap_of c region at cap).answer in
    let y : Result Note Refusal = (write_cap_of d region at cap).answer in
    let k = write_cap-same c d region at cap h (λ e. some ((stored-refused x NoFrame).1 e)) (λ e. more ((stored-refused y NoFrame).1 e)) in
    record { value = stored-value x y k.0; stores = k.1 })
    (λ size v some more.
    let x : Result Note Refusal = (write_of c region at size v).answer in
    let y : Result Note Refusal = (write_of d region at size v).answer in
    let k = write-same c d region at size v h (λ e. some ((stored-refused x NoFrame).1 e)) (λ e. more ((stored-refused y NoFrame).1 e)) in
    record { value = stored-value x y k.0; stores = k.1 }) op
  where
    at : ℕ
    at = place_in region address
