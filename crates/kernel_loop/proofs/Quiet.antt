-- Works after which all other processes are as ready as they were.
use Rattle.std.proofs.Common.{◌≡◌, ◌≢◌, ◌∙◌, sym, ap, refl, ℕ, zero, suc, ◌+◌, ◌-◌, min, not, length, nat_eq, Bool, true, false, Result, Ok, Err, Option, Some, None, List, [], ◌∷◌, slice_set, cond}
use Rattle.std.specs.List.{list_any}
use Rattle.std.proofs.lemmas.Bool.{eq-eqb}
use Rattle.std.proofs.lemmas.List.{get_or-set_other}
use Rattle.machine_types.specs.declared.errno.Errno.TheVariants.{Ebadf, Echild, Eagain, Enomem, Efault, Enosys}
use Rattle.machine_types.specs.declared.touches.Access.{Access}
use Rattle.machine_types.specs.declared.touches.Access.TheVariants.{Read, Write}
use Rattle.machine_types.specs.declared.touches.Note.{Note}
use Rattle.machine_types.specs.declared.touches.NoFrame.{NoFrame}
use Rattle.contents.specs.Content.{Content}
use Rattle.contents.specs.Numbers.{most_transfer}
use Rattle.contents.specs.Transfers.{prepare_of}
use Rattle.cheri_step.specs.Effect as instruction
use Rattle.cheri_step.specs.declared.step.StepEnd.{StepEnd}
use Rattle.cheri_step.specs.declared.step.StepEnd.TheVariants.{Next, Call, Fault}
use Rattle.machine.specs.declared.process.Process.{Process}
use Rattle.machine.specs.declared.process.State.{State}
use Rattle.machine.specs.declared.process.State.TheVariants.{Ready, InRead, InWrite, InWait, Zombie}
use Rattle.machine.specs.Numbers.{number_register, first_argument}
use Rattle.machine.specs.Processes.{process_at, is_live, integer, is_child, ended_as, ended_child, Ended, with_lower, first_ended, Children, children_of}
use Rattle.machine.specs.Pipes.{table_at, target, pipes_of}
use Rattle.machine.specs.Machines.{Machine, View}
use Rattle.machine.specs.Readiness.{is_ready, ready_in, ready_as}
use Rattle.machine.specs.Effects.{Deed, Goes, Effect, Answer, Gives, Refuses, answers, refuses, waits, ends}
use Rattle.machine.specs.Applying.{or_old, applied, done_by, with_own}
use Rattle.machine.specs.Calls as calls
use Rattle.machine.specs.Calls.{called}
use Rattle.machine_steps.specs.Works.{instruction_of, instructed, effect_as, effect_of}
use Rattle.machine.proofs.NumberedCalls.{number-of-wait}
use Rattle.trap_syscalls.proofs.GoingWorlds.{any-written}
use Rattle.kernel_loop.specs.Marks.{changes_others}

-- it goes on with the id and the parent that it had, and lives
pub record IsQuiet (p : Process) (e : Effect) : Type 0 where
  pub deed : e.deed ≡ Goes
  pub id : e.process.id ≡ p.id
  pub parent : e.process.parent ≡ p.parent
  pub live : is_live e.process.state ≡ true

-- what ended so that it can't have changed others was quiet
abbrev MayBeQuiet : Process → Effect → Type 0
MayBeQuiet p e = changes_others e.end ≡ false → IsQuiet p e

-- an answer is
answered : (v : View) (c : Content) (notes : List Note) (a : Answer) → MayBeQuiet v.process (answers v c notes a)
answered v c notes a calm = record { deed = refl; id = refl; parent = refl; live = refl }

-- the calls
module _ (v : View) (c : Content) where
  exits : MayBeQuiet v.process (calls.row_exit v c)
  unfolding ends
  exits calm = absurd (cc)

  forks : MayBeQuiet v.process (calls.row_fork v c)
  unfolding calls.row_fork
  forks = by v.free_slot
    where
      made : (slot to : ℕ) (d : Content) (r : Result (Unit {0}) NoFrame) → MayBeQuiet v.process (calls.forked v slot to d r)
      made slot to d (Ok done) calm = absurd (cc)
      made slot to d (Err lack) calm = record { deed = refl; id = refl; parent = refl; live = refl }

      into : (slot : ℕ) (o : Option ℕ) → MayBeQuiet v.process (calls.fork_into v c slot o)
      into slot None = answered v c [] (Refuses Enomem)
      into slot (Some to) = made slot to _ _

      by : (o : Option ℕ) → MayBeQuiet v.process (calls.fork_at v c o)
      by None = answered v c [] (Refuses Eagain)
      by (Some slot) = into slot v.free_region

  -- a wait that removes a child says so
  waiting : nat_eq (integer v.process number_register) 3 ≡ true → MayBeQuiet v.process (calls.row_wait v c)
  unfolding calls.row_wait
  waiting number = by v.children.some
    where
      for : (o : Option Ended) → MayBeQuiet v.process (calls.wait_for v c o)
      for None calm = record { deed = refl; id = refl; parent = refl; live = refl }
      for (Some child) calm = absurd (let a = number in cc)

      by : (b : Bool) → MayBeQuiet v.process (cond b (calls.wait_for v c v.children.ended) (refuses v c Echild))
      by true = for v.children.ended
      by false = answered v c [] (Refuses Echild)

  -- a transfer is tried after the tests
  tests : (access : Access) (may : Bool) (transfer : Effect) → MayBeQuiet v.process transfer → MayBeQuiet v.process (calls.tested v c access may transfer)
  tests access may transfer quiet = by may (nat_eq (calls.count_of_call v) 0) (calls.is_fault v.process c access (calls.count_of_call v))
    where
      by : (may none fault : Bool) → MayBeQuiet v.process (cond (not may) (refuses v c Ebadf) (cond none (answers v c [] (Gives 0)) (cond fault (refuses v c Efault) transfer)))
      by false none fault = answered v c [] (Refuses Ebadf)
      by true true fault = answered v c [] (Gives 0)
      by true false true = answered v c [] (Refuses Efault)
      by true false false = quiet

  console_reads : MayBeQuiet v.process (calls.console_read v c)
  unfolding calls.console_read ends
  console_reads = by (nat_eq (length v.input) 0) (prepare_of c v.process.region (calls.place_of v.process) size Write).answer
    where
      size : ℕ
      size = calls.read_size v

      after : Content
      after = (prepare_of c v.process.region (calls.place_of v.process) size Write).after

      by : (none : Bool) (o : Result (List Note) NoFrame) → MayBeQuiet v.process (cond none (answers v c [] (Gives 0)) (calls.taken v size after o))
      by true o = answered v c [] (Gives 0)
      by false (Ok notes) = λ calm. record { deed = refl; id = refl; parent = refl; live = refl }
      by false (Err lack) = λ calm. absurd (cc)

  reads : MayBeQuiet v.process (calls.row_read v c)
  unfolding calls.row_read
  reads = tests Write (calls.is_for_reading (target v.table (integer v.process first_argument))) (calls.console_read v c) console_reads

  console_writes : (done : ℕ) → MayBeQuiet v.process (calls.console_write v c done)
  unfolding calls.console_write ends
  console_writes done = by (prepare_of c v.process.region (calls.place_of v.process + done) size Read).answer
    where
      size : ℕ
      size = min (calls.count_of_call v - done) most_transfer

      after : Content
      after = (prepare_of c v.process.region (calls.place_of v.process + done) size Read).after

      sent : (all : Bool) (notes : List Note) (piece : List ℕ) → MayBeQuiet v.process (record (cond all (answers v after notes (Gives (done + size))) (waits v after notes (InWrite (done + size)))) { printed = piece })
      sent true notes piece calm = record { deed = refl; id = refl; parent = refl; live = refl }
      sent false notes piece calm = record { deed = refl; id = refl; parent = refl; live = refl }

      by : (o : Result (List Note) NoFrame) → MayBeQuiet v.process (calls.printed v done size after o)
      by (Ok notes) = sent (nat_eq (done + size) (calls.count_of_call v)) notes _
      by (Err lack) = λ calm. absurd (cc)

  writes : MayBeQuiet v.process (calls.row_write v c)
  unfolding calls.row_write
  writes = tests Read (calls.is_for_writing (target v.table (integer v.process first_argument))) (calls.console_write v c (calls.done_of v.process.state)) (console_writes (calls.done_of v.process.state))

  row-quiet : (call : calls.Call) → calls.call_of (integer v.process number_register) ≡ call → MayBeQuiet v.process (calls.row call v c)
  row-quiet calls.Exit is = exits
  row-quiet calls.Fork is = forks
  row-quiet calls.Wait is = waiting (eq-eqb (integer v.process number_register) 3 (number-of-wait (integer v.process number_register) is))
  row-quiet calls.Getpid is = answered v c [] (Gives v.process.id)
  row-quiet calls.Getppid is = answered v c [] (Gives v.process.parent)
  row-quiet calls.ReadCall is = reads
  row-quiet calls.WriteCall is = writes
  row-quiet calls.Yield is = answered v c [] (Gives 0)
  row-quiet calls.Other is = answered v c [] (Refuses Enosys)

  call-quiet : MayBeQuiet v.process (called v c)
  call-quiet = row-quiet (calls.call_of (integer v.process number_register)) refl

-- so is the work of a process
instructed-quiet : (v : View) (i : instruction.Effect) (end : StepEnd) → v.process.state ≡ Ready → MayBeQuiet v.process (instructed v i end)
unfolding ends
instructed-quiet v i Next ready calm = record { deed = refl; id = refl; parent = refl; live = ap is_live ready }
instructed-quiet v i Call ready calm = let q = call-quiet v i.after.content calm in record { deed = q.deed; id = q.id; parent = q.parent; live = q.live }
instructed-quiet v i (Fault cause) ready calm = absurd (cc)

work-quiet : (v : View) (c : Content) (state : State) → v.process.state ≡ state → MayBeQuiet v.process (effect_as v c state)
work-quiet v c Ready is = instructed-quiet v (instruction_of v.process c) (instruction_of v.process c).end is
work-quiet v c InRead is = call-quiet v c
work-quiet v c (InWrite done) is = call-quiet v c
work-quiet v c InWait is = call-quiet v c
work-quiet v c (Zombie status) is = call-quiet v c

pub effect-quiet : (v : View) (c : Content) → changes_others (effect_of v c).end ≡ false → IsQuiet v.process (effect_of v c)
unfolding effect_of
effect-quiet v c calm = work-quiet v c v.process.state refl calm

-- Others have the children that they had where one process goes on with its parent, and lives as it did.
no-zombie : (id : ℕ) (state : State) → is_live state ≡ true → ended_as id state ≡ None
no-zombie id Ready live = refl
no-zombie id InRead live = refl
no-zombie id (InWrite done) live = refl
no-zombie id InWait live = refl
no-zombie id (Zombie status) live = absurd (cc)

none-ended : (x : ℕ) (p : Process) → is_live p.state ≡ true → ended_child x (Some p) ≡ None
none-ended x p live = by (nat_eq p.parent x)
  where
    by : (b : Bool) → cond b (ended_as p.id p.state) None ≡ None
    by true = no-zombie p.id p.state live
    by false = refl

first-written : (x : ℕ) (os : List (Option Process)) (k : ℕ) (o : Option Process) → ended_child x o ≡ ended_child x (process_at os k) → first_ended x (slice_set os k o) ≡ first_ended x os
unfolding first_ended
first-written x [] k o same = refl
first-written x (a ∷ os) zero o same = ap (λ (e : Option Ended). with_lower e (first_ended x os)) same
first-written x (a ∷ os) (suc k) o same = ap (with_lower (ended_child x a)) (first-written x os k o same)

children-stay : (x : ℕ) (os : List (Option Process)) (k : ℕ) (p q : Process) → process_at os k ≡ Some p → is_live p.state ≡ true → is_live q.state ≡ true → q.parent ≡ p.parent
    → children_of x (slice_set os k (Some q)) ≡ children_of x os
children-stay x os k p q there p-lives q-lives parent =
    ap (λ (b : Bool). as-children b (first_ended x (slice_set os k (Some q)))) some ∙ ap (as-children (list_any (is_child x) os)) first
  where
    as-children : Bool → Option Ended → Children
    as-children b e = record { some = b; ended = e }

    some : list_any (is_child x) (slice_set os k (Some q)) ≡ list_any (is_child x) os
    some = any-written (is_child x) os k (Some q) (ap (λ (n : ℕ). nat_eq n x) parent ∙ ap (is_child x) (sym there))

    first : first_ended x (slice_set os k (Some q)) ≡ first_ended x os
    first = first-written x os k (Some q) (none-ended x q q-lives ∙ sym (none-ended x p p-lives) ∙ ap (ended_child x) (sym there))

-- so they are as ready as they were
ready-stays : (m : Machine) (slot k : ℕ) (p q : Process) (c : Content) (input : List ℕ) → k ≢ slot → process_at m.processes slot ≡ Some p → is_live p.state ≡ true → is_live q.state ≡ true → q.parent ≡ p.parent
    → is_ready (record m { processes = slice_set m.processes slot (Some q); content = c; input = input }) k ≡ is_ready m k
unfolding is_ready
ready-stays m slot k p q c input other there p-lives q-lives parent =
    ap (ready_in n k) (get_or-set_other m.processes slot k (Some q) None other) ∙ by (process_at m.processes k)
  where
    n : Machine
    n = record m { processes = slice_set m.processes slot (Some q); content = c; input = input }

    by : (o : Option Process) → ready_in n k o ≡ ready_in m k o
    by None = refl
    by (Some r) = ap (λ (x : Children). ready_as r (table_at m.tables k) (pipes_of m.tables m.pipes) x r.state) (children-stay r.id m.processes slot p q there p-lives q-lives parent)

pub applied-ready : (m : Machine) (slot k : ℕ) (p : Process) (e : Effect) → k ≢ slot → process_at m.processes slot ≡ Some p → is_live p.state ≡ true → IsQuiet p e → is_ready (applied m slot p e) k ≡ is_ready m k
unfolding applied
applied-ready m slot k p e other there live quiet =
    ap (λ (d : Deed). is_ready (done_by (with_own m slot e) slot p d) k) quiet.deed ∙ ready-stays m slot k p e.process e.content (or_old m.input e.input) other there live quiet.live quiet.parent
