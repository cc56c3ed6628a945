-- Calls by their numbers, their tests, and what is put into registers.
use Rattle.std.proofs.Common.{◌≡◌, ◌≢◌, ap, refl, ℕ, ◌<◌, nat_eq, ◌||◌, not, List, [], length, map, cond, true, false, Bool, slice_set, arith}
use Rattle.std.specs.Prelude.{pos}
use Rattle.std.proofs.lemmas.Bool.{eqb-true, eq-eqb}
use Rattle.std.proofs.lemmas.Bool.Decides.{nat_tests}
use Rattle.std.proofs.lemmas.List.{get_or-set_same, get_or-set_other}
use Rattle.std.proofs.Math.ListN.{get_or-map}
use Rattle.cap_format.specs.declared.cap.Cap.{Cap}
use Rattle.cap_format.specs.Made.{null}
use Rattle.cap_format.specs.Moves.{moved}
use Rattle.machine_types.specs.declared.errno.Errno.{Errno}
use Rattle.machine_types.specs.declared.errno.Errno.TheVariants.{Ebadf, Echild, Eagain, Enomem, Efault, Enfile, Emfile, Epipe, Enosys}
use Rattle.machine_types.specs.declared.touches.Access.{Access}
use Rattle.machine_types.specs.Registers.{register}
use Rattle.contents.specs.Content.{Content}
use Rattle.contents.specs.Transfers.{covers_of}
use Rattle.machine.specs.declared.process.Process.{Process}
use Rattle.machine.specs.declared.report.WorkEnd.TheVariants.{Answered}
use Rattle.machine.specs.Numbers.{fork_call, wait_call, write_call}
use Rattle.machine.specs.Machines.{View}
use Rattle.machine.specs.Effects.{Effect, Deed, Goes, Adds, Removes, Ends, Gives, answers, refuses}
use Rattle.machine.specs.Calls.{count_of_call, place_of, is_fault, tested, Fork, Wait, WriteCall, call_of, row, called}
use Rattle.machine.specs.CallLaws.{Calls}

-- Numbers.

-- the number of fork is the only one of that call
pub number-of-fork : (n : ℕ) → call_of n ≡ Fork → n ≡ fork_call
number-of-fork n e = grind (arith, nat_tests)

-- so is that of wait
pub number-of-wait : (n : ℕ) → call_of n ≡ Wait → n ≡ wait_call
number-of-wait n e = grind (arith, nat_tests)

-- and that of write
pub number-of-write : (n : ℕ) → call_of n ≡ WriteCall → n ≡ write_call
number-of-write n e = grind (arith, nat_tests)

-- A call of this number is the row of its call.
pub row-of-call : (v : View) (c : Content) (n : ℕ) → Calls v n → called v c ≡ row (call_of n) v c
row-of-call v c n calls = ap (λ (k : ℕ). row (call_of k) v c) calls

-- Deeds and answers.

-- a deed that neither adds nor removes a process
abbrev pub IsOwnDeed : Deed → Type 0
IsOwnDeed Goes = Unit {0}
IsOwnDeed (Adds slot child table) = ⊥
IsOwnDeed (Removes id) = ⊥
IsOwnDeed (Ends status) = Unit {0}

-- A refusal answers no number.
pub refuses-no-number : (v : View) (c : Content) (error : Errno) (number n : ℕ) → (refuses v c error).end ≡ Answered number (pos n) → ⊥
refuses-no-number v c Ebadf number n e = cc
refuses-no-number v c Echild number n e = cc
refuses-no-number v c Eagain number n e = cc
refuses-no-number v c Enomem number n e = cc
refuses-no-number v c Efault number n e = cc
refuses-no-number v c Enfile number n e = cc
refuses-no-number v c Emfile number n e = cc
refuses-no-number v c Epipe number n e = cc
refuses-no-number v c Enosys number n e = cc

-- a number that fails the test for 0
pub nonzero : (n : ℕ) → nat_eq n 0 ≡ false → n ≢ 0
nonzero n is same = let b : nat_eq n 0 ≡ true = eq-eqb n 0 same in cc

-- What holds of each outcome of the tests holds of a tested transfer. The transfer is made only where it passed them.
pub tested-holds : (P : Effect → Type 0) (v : View) (c : Content) (access : Access) (may : Bool) (e : Effect) → P (refuses v c Ebadf) → (count_of_call v ≡ 0 → P (answers v c [] (Gives 0))) → P (refuses v c Efault)
    → (is_fault v.process c access (count_of_call v) ≡ false → count_of_call v ≢ 0 → P e) → P (tested v c access may e)
tested-holds P v c access may e ebadf none efault transfer = by may (nat_eq (count_of_call v) 0) (is_fault v.process c access (count_of_call v)) refl refl
  where
    by : (m zero-is fault : Bool) → nat_eq (count_of_call v) 0 ≡ zero-is → is_fault v.process c access (count_of_call v) ≡ fault
        → P (cond (not m) (refuses v c Ebadf) (cond zero-is (answers v c [] (Gives 0)) (cond fault (refuses v c Efault) e)))
    by false zero-is fault is f = ebadf
    by true true fault is f = none (eqb-true (count_of_call v) 0 is)
    by true false true is f = efault
    by true false false is f = transfer f (nonzero (count_of_call v) is)

-- the last of two tests fails
last-fails : (a b : Bool) → (a || not b) ≡ false → b ≡ true
last-fails true b e = absurd (cc)
last-fails false true e = refl
last-fails false false e = absurd (cc)

-- Without a fault the bytes are covered.
pub fit-covers : (p : Process) (c : Content) (access : Access) (count : ℕ) → is_fault p c access count ≡ false → covers_of c p.region (place_of p) count access ≡ true
unfolding is_fault
fit-covers p c access count e = last-fails _ (covers_of c p.region (place_of p) count access) e

-- Registers.

-- what was put into a register is there
pub put-there : (registers : List Cap) (n : ℕ) (cap : Cap) → n < length registers → register (slice_set registers n cap) n ≡ cap
put-there registers n cap h = get_or-set_same registers n cap null h

-- and the others are as they were
pub put-elsewhere : (registers : List Cap) (n k : ℕ) (cap : Cap) → k ≢ n → register (slice_set registers n cap) k ≡ register registers k
put-elsewhere registers n k cap h = get_or-set_other registers n k cap null h

-- each of moved registers is the moved one
pub moved-register : (registers : List Cap) (from to n : ℕ) → register (map (λ cap. moved cap from to) registers) n ≡ moved (register registers n) from to
moved-register registers from to n = get_or-map (λ (cap : Cap). moved cap from to) registers n null
