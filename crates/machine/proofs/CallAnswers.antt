-- What calls answer and do, row by row.
use Rattle.std.proofs.Common.{◌≡◌, ◌≢◌, ◌∙◌, sym, ap, subst, refl, ℕ, ◌%◌, ◌<◌, [], length}
use Rattle.std.specs.Prelude.{pos}
use Rattle.contents.specs.Content.{Content}
use Rattle.machine.specs.declared.process.Process.{Process}
use Rattle.machine.specs.declared.report.WorkEnd.TheVariants.{Answered, Waiting}
use Rattle.machine.specs.Numbers.{exit_call, read_call, write_call, number_register, first_argument}
use Rattle.machine.specs.Processes.{integer}
use Rattle.machine.specs.Pipes.{Table}
use Rattle.machine.specs.Machines.{View}
use Rattle.machine.specs.Effects.{Effect, Deed, Goes, Adds, Removes, Ends, ends}
use Rattle.machine.specs.Calls.{count_of_call, done_of, row_read, row_write, row_fork, row_wait, Call, Exit, Fork, Wait, Getpid, Getppid, ReadCall, WriteCall, Yield, Other, call_of, row, called}
use Rattle.machine.specs.CallLaws.{Calls}
use Rattle.machine.specs.CallAnswers.{IsForked, IsWaitedFor, IsTaken, IsPrinted}
use Rattle.machine.proofs.NumberedCalls.{number-of-fork, number-of-wait, number-of-write, row-of-call, IsOwnDeed}
use Rattle.machine.proofs.ForkAnswers.{Forks, IsForkDeed, fork-deed, fork-silent}
use Rattle.machine.proofs.WaitAnswers.{Waits, IsWaitDeed, wait-deed, wait-silent}
use Rattle.machine.proofs.ReadAnswers.{ReadLaws, Takes, read-takes, read-own}
use Rattle.machine.proofs.WriteAnswers.{WriteLaws, PrintsIfAny, write-prints, write-own}

-- Deeds.

-- what a deed says of the call that did it
abbrev IsDeedOf : Call → View → Content → Effect → Deed → Type 0
IsDeedOf call v c e Goes = Unit {0}
IsDeedOf call v c e (Adds slot child table) = (call ≡ Fork) × Forks v c e slot child table
IsDeedOf call v c e (Removes id) = (call ≡ Wait) × Waits v c e id
IsDeedOf call v c e (Ends status) = Unit {0}

-- an own deed says nothing
own-deed : (call : Call) (v : View) (c : Content) (e : Effect) (d : Deed) → IsOwnDeed d → IsDeedOf call v c e d
own-deed call v c e Goes own = tt
own-deed call v c e (Adds slot child table) own = absurd own
own-deed call v c e (Removes id) own = absurd own
own-deed call v c e (Ends status) own = tt

-- that of a fork
forks-deed : (v : View) (c : Content) (e : Effect) (d : Deed) → IsForkDeed v c e d → IsDeedOf Fork v c e d
forks-deed v c e Goes is = tt
forks-deed v c e (Adds slot child table) is = (refl, is)
forks-deed v c e (Removes id) is = absurd is
forks-deed v c e (Ends status) is = absurd is

-- that of a wait
waits-deed : (v : View) (c : Content) (e : Effect) (d : Deed) → IsWaitDeed v c e d → IsDeedOf Wait v c e d
waits-deed v c e Goes is = tt
waits-deed v c e (Adds slot child table) is = absurd is
waits-deed v c e (Removes id) is = (refl, is)
waits-deed v c e (Ends status) is = absurd is

-- each row
row-deed : (call : Call) (v : View) (c : Content) → length v.process.regs ≡ 32 → IsDeedOf call v c (row call v c) (row call v c).deed
unfolding ends
row-deed Exit v c long = tt
row-deed Fork v c long = forks-deed v c (row_fork v c) (row_fork v c).deed (fork-deed v c long)
row-deed Wait v c long = waits-deed v c (row_wait v c) (row_wait v c).deed (wait-deed v c long)
row-deed Getpid v c long = tt
row-deed Getppid v c long = tt
row-deed ReadCall v c long = own-deed ReadCall v c (row_read v c) (row_read v c).deed (read-own v c).0
row-deed WriteCall v c long = own-deed WriteCall v c (row_write v c) (row_write v c).deed (write-own v c)
row-deed Yield v c long = tt
row-deed Other v c long = tt

-- what the deed of a call says of it
called-deed : (v : View) (c : Content) (d : Deed) → length v.process.regs ≡ 32 → (called v c).deed ≡ d → IsDeedOf (call_of (integer v.process number_register)) v c (called v c) d
called-deed v c d long e = subst (IsDeedOf (call_of (integer v.process number_register)) v c (called v c)) e (row-deed (call_of (integer v.process number_register)) v c long)

-- The laws.

-- exit ends with the low byte of its argument
pub exit-answered : (v : View) (c : Content) → Calls v exit_call → (called v c).deed ≡ Ends (integer v.process first_argument % 256)
unfolding ends
exit-answered v c calls = ap (λ (e : Effect). e.deed) (row-of-call v c exit_call calls)

-- a process is added by a fork
pub fork-answered : (v : View) (c : Content) (slot : ℕ) (child : Process) (table : Table) → length v.process.regs ≡ 32 → (called v c).deed ≡ Adds slot child table → IsForked v c slot child table
fork-answered v c slot child table long e =
    let is = called-deed v c (Adds slot child table) long e in
    let f = is.1 in
    record {
      call = number-of-fork (integer v.process number_register) is.0;
      slot_is = f.slot_is;
      region = f.region;
      id = f.id;
      parent = f.parent;
      state = f.state;
      answer = f.answer;
      registers = f.registers;
      pcc = f.pcc;
      descriptors = f.descriptors;
      told = f.told;
      stores = f.stores;
    }

-- one is removed by a wait
pub wait-answered : (v : View) (c : Content) (id : ℕ) → length v.process.regs ≡ 32 → (called v c).deed ≡ Removes id → IsWaitedFor v c id
wait-answered v c id long e =
    let is = called-deed v c (Removes id) long e in
    let w = is.1 in
    record { call = number-of-wait (integer v.process number_register) is.0; status = w.status; child = w.child; told = w.told; told_status = w.told_status }

-- a read that answered
pub read-answered : ReadLaws → (v : View) (c : Content) (n : ℕ) → (called v c).end ≡ Answered read_call (pos n) → Calls v read_call → IsTaken v c n
read-answered laws v c n e calls =
    let is : called v c ≡ row_read v c = row-of-call v c read_call calls in
    let same : (row_read v c).end ≡ Answered read_call (pos n) = sym (ap (λ (x : Effect). x.end) is) ∙ e in
    let t : Takes v c (called v c) n = subst (λ (x : Effect). Takes v c x n) (sym is) (read-takes laws v c read_call n same) in
    record { most = t.most; fits = t.fits; there = t.there; left = t.left; none = t.none; stored = t.stored }

-- Only a write prints.
silent : (call : Call) (v : View) (c : Content) → (row call v c).printed ≢ [] → call ≡ WriteCall
unfolding ends
silent Exit v c some = absurd (some refl)
silent Fork v c some = absurd (some (fork-silent v c))
silent Wait v c some = absurd (some (wait-silent v c))
silent Getpid v c some = absurd (some refl)
silent Getppid v c some = absurd (some refl)
silent ReadCall v c some = absurd (some (read-own v c).1)
silent WriteCall v c some = refl
silent Yield v c some = absurd (some refl)
silent Other v c some = absurd (some refl)

-- a write that printed
pub write-answered : WriteLaws → (v : View) (c : Content) → done_of v.process.state < count_of_call v → (called v c).printed ≢ [] → Calls v write_call × IsPrinted v c (length (called v c).printed)
write-answered laws v c less some =
    let calls : Calls v write_call = number-of-write (integer v.process number_register) (silent (call_of (integer v.process number_register)) v c some) in
    let p = subst (λ (e : Effect). PrintsIfAny v c (done_of v.process.state) e) (sym (row-of-call v c write_call calls)) (write-prints laws v c less) some in (
      calls,
      record {
        some = p.some;
        fits = p.fits;
        most = p.most;
        piece = p.piece;
        last = λ e. p.last e ∙ ap (λ (k : ℕ). Answered k (pos (count_of_call v))) calls;
        between = λ n. p.between n ∙ ap (λ (k : ℕ). Waiting k) calls;
        state = p.state;
      },
    )
