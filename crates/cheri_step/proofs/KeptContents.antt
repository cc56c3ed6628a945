-- An access keeps a content whole, and what it loads is what its region may have.
use Rattle.std.proofs.Common.{◌≡◌, ◌∙◌, ℕ, Bool, true, false, cond, inl, inr, ◌*◌, ◌%◌, ◌^◌, ◌<◌, ◌≤◌, Option, Some, None, Result, Ok, Err, IsTrue, option_map, refl, ap, subst, arith}
use Rattle.std.proofs.lemmas.Bool.{eqb-true}
use Rattle.std.proofs.lemmas.Nat.{mod_below, pow_pos, pow_below}
use Rattle.cap_format.specs.declared.cap.Cap.{Cap}
use Rattle.cap_format.specs.Pattern.{address_of}
use Rattle.cap_format.specs.Made.{null, from_int}
use Rattle.cap_format.specs.Rights.{holds}
use Rattle.machine_types.specs.declared.cause.Cause.{Cause}
use Rattle.machine_types.specs.declared.cause.Cause.TheVariants.{CodeBounds}
use Rattle.machine_types.specs.declared.touches.Note.{Note}
use Rattle.machine_types.specs.Granules.{granule, IsSize}
use Rattle.machine_types.specs.Held.{IsHeld}
use Rattle.machine_types.specs.Stores.{Page}
use Rattle.riscv_decode.specs.declared.instr.LoadOp.TheVariants as load
use Rattle.riscv_decode.specs.declared.instr.StoreOp.TheVariants as store
use Rattle.contents.specs.declared.refusal.Refusal.{Refusal}
use Rattle.contents.specs.Content.{Content, CallOutcome, page_at}
use Rattle.contents.specs.Accesses.{page_of_place, granule_of_place, read_of, read_cap_of, fetch_of, write_of, write_cap_of}
use Rattle.contents.specs.Looks.{peek_of}
use Rattle.contents.specs.Reading.{bytes_of, seen}
use Rattle.contents.specs.Conditions.{HasStore}
use Rattle.contents.specs.Whole.{IsWhole}
use Rattle.contents.specs.Laws.{HasSameRegions}
use Rattle.contents.proofs.CallShapes.{read-holds, read_cap-holds, write-holds, write_cap-holds, fetch-holds}
use Rattle.contents.proofs.WholeTouches.{StaysWhole, whole-touches}
use Rattle.contents.proofs.WholeCalls.{write-whole, write_cap-whole}
use Rattle.contents.proofs.KeptRegions.{region-stores}
use Rattle.contents.proofs.SeenReads.{read-seen, read_cap-seen}
use Rattle.cheri_step.specs.declared.memory.MemoryOp.{MemoryOp}
use Rattle.cheri_step.specs.declared.memory.MemoryOp.TheVariants.{Load, Store}
use Rattle.cheri_step.specs.Results.{integer_of}
use Rattle.cheri_step.specs.Tests.{load_size, size_of, tests_of_access, passed}
use Rattle.cheri_step.specs.Access.{place_in, as_integer, as_stored, integer_loaded, stored, accessed, caused, access_cause, fetch_cause, tested, access_of, code_of}
use Rattle.cheri_step.proofs.KeptRegisters.{held-integer, held-at}
use Rattle.cheri_step.proofs.PassedTests.{all-pass}

-- a whole content in which the region has a store
pub record IsReady (region : ℕ) (c : Content) : Type 0 where
  pub whole : IsWhole c
  pub store : HasStore region c

-- the content after an access is such, and what was loaded is what the region may have
pub record IsKeptBy {E : Type 0} (region : ℕ) (o : CallOutcome (Result (Cap × Note) E)) : Type 0 where
  pub ready : IsReady region o.after
  pub held : (a : Cap × Note) → o.answer ≡ Ok a → IsHeld region a.0

-- What is seen.

-- what `peek` shows of a whole content is what the region may have
pub peek-held : (c : Content) (region page g : ℕ) (cap : Cap) → IsWhole c → peek_of c region page g ≡ Some cap → IsHeld region cap
unfolding peek_of
peek-held c region page g cap is = by (page_at c region page) refl
  where
    by : (o : Option Page) → page_at c region page ≡ o → option_map (λ p. granule p.granules g) o ≡ Some cap → IsHeld region cap
    by None e h = absurd (cc)
    by (Some p) e h = let same : granule p.granules g ≡ cap = cc in subst (IsHeld region) same (held-at region p.granules g (is.held region page p e))

-- so few bytes of what is seen are below 2^128
few-bytes : (o : Option Cap) (byte size n : ℕ) → size ≤ 8 → option_map (bytes_of byte size) o ≡ Some n → n < 2 ^ 128
few-bytes None byte size n few h = absurd (cc)
few-bytes (Some cap) byte size n few h =
    let same : bytes_of byte size cap ≡ n = cc in
    let small : bytes_of byte size cap < 2 ^ (8 * size) = mod_below _ (2 ^ (8 * size)) (pow_pos (8 * size)) in
    let limit : 2 ^ (8 * size) < 2 ^ 128 = pow_below (8 * size) 128 (omega arith) in
    omega arith

-- Answers.

-- an integer that was loaded
integer-held : (region : ℕ) (r : Result (ℕ × Note) Refusal) → ((n : ℕ × Note) → r ≡ Ok n → n.0 < 2 ^ 128) → (a : Cap × Note) → as_integer r ≡ Ok a → IsHeld region a.0
integer-held region (Ok n) small a h = let same : from_int n.0 ≡ a.0 = cc in subst (IsHeld region) same (held-integer region n.0 (small n refl))
integer-held region (Err refusal) small a h = absurd (cc)

-- a store, which loads null
stored-held : (region : ℕ) (r : Result Note Refusal) (a : Cap × Note) → as_stored r ≡ Ok a → IsHeld region a.0
stored-held region (Ok note) a h = let same : null ≡ a.0 = cc in subst (IsHeld region) same (held-integer region 0 (omega arith))
stored-held region (Err refusal) a h = absurd (cc)

-- an answer whose refusal got a cause
caused-held : (region : ℕ) (cause : Refusal → Cause) (r : Result (Cap × Note) Refusal) → ((a : Cap × Note) → r ≡ Ok a → IsHeld region a.0) → (a : Cap × Note) → caused cause r ≡ Ok a → IsHeld region a.0
caused-held region cause (Ok b) held a h = let same : b ≡ a = cc in held a (ap Ok same)
caused-held region cause (Err refusal) held a h = absurd (cc)

-- Accesses.

module _ (c : Content) (region at : ℕ) (ready : IsReady region c) where
  -- a load of a number
  read-kept : (size : ℕ) → size ≤ 8 → IsKeptBy region (integer_loaded (read_of c region at size))
  read-kept size few = record {
    ready = record {
      whole = read-holds StaysWhole region (whole-touches region) c at size ready.whole;
      store = read-holds HasSameRegions region (region-stores region).touches c at size region ∙ ready.store;
    };
    held = integer-held region (read_of c region at size).answer (λ n h. few-bytes (seen c region at) _ size n.0 few (read-seen c region at size n h));
  }

  -- a load of a capability
  read_cap-kept : IsKeptBy region (read_cap_of c region at)
  read_cap-kept = record {
    ready = record {
      whole = read_cap-holds StaysWhole region (whole-touches region) c at ready.whole;
      store = read_cap-holds HasSameRegions region (region-stores region).touches c at region ∙ ready.store;
    };
    held = λ a h. peek-held c region (page_of_place at) (granule_of_place at) a.0 ready.whole (read_cap-seen c region at a h);
  }

  -- a store of a number
  write-kept : (size v : ℕ) → IsSize size → at % size ≡ 0 → IsKeptBy region (stored (write_of c region at size v))
  write-kept size v is aligned = record {
    ready = record {
      whole = write-whole c region at size v ready.whole is aligned;
      store = write-holds HasSameRegions region (region-stores region) c at size v region ∙ ready.store;
    };
    held = stored-held region (write_of c region at size v).answer;
  }

  -- a store of a capability
  write_cap-kept : (cap : Cap) → IsHeld region cap → IsKeptBy region (stored (write_cap_of c region at cap))
  write_cap-kept cap held = record {
    ready = record {
      whole = write_cap-whole c region at cap ready.whole held.pattern held.inside;
      store = write_cap-holds HasSameRegions region (region-stores region) c at cap region ∙ ready.store;
    };
    held = stored-held region (write_cap_of c region at cap).answer;
  }

  -- a fetch
  fetch-ready : IsReady region (fetch_of c region at).after
  fetch-ready = record {
    whole = fetch-holds StaysWhole region (whole-touches region) c at ready.whole;
    store = fetch-holds HasSameRegions region (region-stores region).touches c at region ∙ ready.store;
  }

-- a region begins at a multiple of each size
place-aligned : (region address size : ℕ) → IsSize size → address % size ≡ 0 → place_in region address % size ≡ 0
place-aligned region address size (inl e) aligned = rw e (omega arith)
place-aligned region address size (inr (inl e)) aligned = let even : address % 2 ≡ 0 = rw e at aligned in rw e (omega arith)
place-aligned region address size (inr (inr (inl e))) aligned = let fourth : address % 4 ≡ 0 = rw e at aligned in rw e (omega arith)
place-aligned region address size (inr (inr (inr e))) aligned = let eighth : address % 8 ≡ 0 = rw e at aligned in rw e (omega arith)

-- what is stored is what the region may have
abbrev pub StoresHeld : ℕ → MemoryOp → Type 0
StoresHeld region (Load op) = Unit {0}
StoresHeld region (Store op value) = IsHeld region value

-- the access at an aligned address
pub accessed-kept : (c : Content) (region address : ℕ) (op : MemoryOp) → IsReady region c → StoresHeld region op → address % size_of op ≡ 0 → IsKeptBy region (accessed c region address op)
unfolding accessed
accessed-kept c region address (Load load.Clc) ready held aligned = read_cap-kept c region (place_in region address) ready
accessed-kept c region address (Load op) ready held aligned = read-kept c region (place_in region address) ready (load_size op) (omega arith)
accessed-kept c region address (Store store.Csc value) ready held aligned = write_cap-kept c region (place_in region address) ready value held
accessed-kept c region address (Store store.Sb value) ready held aligned = let is : IsSize 1 = inl refl in write-kept c region (place_in region address) ready 1 (integer_of value) is (place-aligned region address 1 is aligned)
accessed-kept c region address (Store store.Sh value) ready held aligned = let is : IsSize 2 = inr (inl refl) in write-kept c region (place_in region address) ready 2 (integer_of value) is (place-aligned region address 2 is aligned)
accessed-kept c region address (Store store.Sw value) ready held aligned = let is : IsSize 4 = inr (inr (inl refl)) in write-kept c region (place_in region address) ready 4 (integer_of value) is (place-aligned region address 4 is aligned)
accessed-kept c region address (Store store.Sd value) ready held aligned = let is : IsSize 8 = inr (inr (inr refl)) in write-kept c region (place_in region address) ready 8 (integer_of value) is (place-aligned region address 8 is aligned)

-- an address that passes the tests is a multiple of the size
access-aligned : (authority : Cap) (address : ℕ) (op : MemoryOp) → passed (tests_of_access authority address op) ≡ Ok tt → address % size_of op ≡ 0
access-aligned authority address op h =
    let tests = all-pass (tests_of_access authority address op) h in
    eqb-true (address % size_of op) 0 tests.1.1.1.1.0

-- an access by an authority, whatever its tests come to
pub access-kept : (c : Content) (region : ℕ) (authority : Cap) (address : ℕ) (op : MemoryOp) → IsReady region c → StoresHeld region op → IsKeptBy region (access_of c region authority address op)
access-kept c region authority address op ready held = by (passed (tests_of_access authority address op)) refl
  where
    by : (r : Result (Unit {0}) Cause) → passed (tests_of_access authority address op) ≡ r → IsKeptBy region (tested c r (accessed c region address op))
    by (Ok passes) e =
        let kept = accessed-kept c region address op ready held (access-aligned authority address op e) in
        record { ready = kept.ready; held = caused-held region access_cause (accessed c region address op).answer kept.held }
    by (Err cause) e = record { ready = ready; held = λ a h. absurd (cc) }

-- The fetch.

-- the content after a fetch is such, and the bytes of a word that was fetched lie in the bounds of PCC
pub record IsFetched (region : ℕ) (pcc : Cap) (o : CallOutcome (Result (ℕ × Note) Cause)) : Type 0 where
  pub ready : IsReady region o.after
  pub bytes : (f : ℕ × Note) → o.answer ≡ Ok f → IsTrue (holds pcc.bits (address_of pcc.bits) 4)

pub code-fetched : (c : Content) (region : ℕ) (pcc : Cap) → IsReady region c → IsFetched region pcc (code_of c region pcc)
code-fetched c region pcc ready = by (holds pcc.bits (address_of pcc.bits) 4) refl
  where
    o : CallOutcome (Result (ℕ × Note) Refusal)
    o = fetch_of c region (place_in region (address_of pcc.bits))

    by : (bound : Bool) → holds pcc.bits (address_of pcc.bits) 4 ≡ bound → IsFetched region pcc (cond bound (record { answer = caused fetch_cause o.answer; after = o.after }) (record { answer = Err CodeBounds; after = c }))
    by true e = record { ready = fetch-ready c region (place_in region (address_of pcc.bits)) ready; bytes = λ f h. e }
    by false e = record { ready = ready; bytes = λ f h. absurd (cc) }
