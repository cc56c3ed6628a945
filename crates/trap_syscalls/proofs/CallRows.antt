-- The table of calls: the effect of a call is the row of its number.
use Rattle.std.proofs.Common.{◌≡◌, ◌≢◌, ◌∙◌, sym, ap, refl, subst, ℕ, ◌%◌, ◌⊎◌, inl, inr, nat_eq, cond, Bool, true, false, Option, Some, None, []}
use Rattle.std.proofs.lemmas.Bool.Decides.{eqb_tells}
use Rattle.contents.specs.Content.{Content}
use Rattle.contents.specs.Regions.{end_of}
use Rattle.machine.specs.declared.process.Process.{Process}
use Rattle.machine_types.specs.declared.errno.Errno.TheVariants.{Echild}
use Rattle.machine.specs.Processes.{Ended}
use Rattle.machine.specs.Machines.{Machine, View, view_of}
use Rattle.machine.specs.Effects.{Effect, ends, refuses, answers, Gives}
use Rattle.machine.specs.Calls.{called, row, row_exit, row_wait, wait_for, Other}
use Rattle.machine.specs.Calls as calls
use Rattle.trap_syscalls.specs.declared.call.Call.{Call}
use Rattle.trap_syscalls.specs.declared.world.CallDone.{CallDone}
use Rattle.trap_syscalls.specs.declared.world.World.{World}
use Rattle.trap_syscalls.specs.Asked.{call_of}
use Rattle.trap_syscalls.specs.Worlds.{HasCalled}

-- a call of a number is the row of that number
row-is : (m : Machine) (call : Call) (p : Process) (c : Content) (n : ℕ) → call ≡ call_of call.slot p → call.number ≡ n → called (view_of m call.slot p) c ≡ row (calls.call_of n) (view_of m call.slot p) c
row-is m call p c n asked number = ap (λ (k : ℕ). row (calls.call_of k) (view_of m call.slot p) c) (sym (ap (λ (x : Call). x.number) asked) ∙ number)

-- so what came about is the call
pub called-by : (m : Machine) (call : Call) (p : Process) (c : Content) (n : ℕ) (result : CallDone) (w : World) → call ≡ call_of call.slot p → call.number ≡ n
    → HasCalled m call.slot p (row (calls.call_of n) (view_of m call.slot p) c) result w → HasCalled m call.slot p (called (view_of m call.slot p) c) result w
called-by m call p c n result w asked number done = subst (λ (e : Effect). HasCalled m call.slot p e result w) (sym (row-is m call p c n asked number)) done

-- and the content is its
pub content-by : (stands : Content → Type 0) (m : Machine) (call : Call) (p : Process) (c : Content) (n : ℕ) → call ≡ call_of call.slot p → call.number ≡ n
    → stands (row (calls.call_of n) (view_of m call.slot p) c).content → stands (called (view_of m call.slot p) c).content
content-by stands m call p c n asked number done = subst (λ (e : Effect). stands e.content) (sym (row-is m call p c n asked number)) done

-- exit, whose status is the low byte of x10
pub exit-row : (m : Machine) (call : Call) (p : Process) (c : Content) (result : CallDone) (w : World) → call ≡ call_of call.slot p
    → HasCalled m call.slot p (ends (view_of m call.slot p) c [] (call.first % 256) false) result w → HasCalled m call.slot p (row_exit (view_of m call.slot p) c) result w
exit-row m call p c result w asked done = subst (λ (n : ℕ). HasCalled m call.slot p (ends (view_of m call.slot p) c [] (n % 256) false) result w) (ap (λ (x : Call). x.first) asked) done

pub exit-content : (stands : Content → Type 0) (m : Machine) (call : Call) (p : Process) (c : Content) → call ≡ call_of call.slot p → stands (end_of c call.region) → stands (row_exit (view_of m call.slot p) c).content
unfolding ends
exit-content stands m call p c asked done = subst (λ (r : ℕ). stands (end_of c r)) (ap (λ (x : Call). x.region) asked) done

-- a call whose number is none of the table's
pub other-call : (n : ℕ) → n ≢ 1 → n ≢ 2 → n ≢ 3 → n ≢ 4 → n ≢ 5 → n ≢ 7 → n ≢ 8 → n ≢ 12 → ◌≡◌ {A = calls.Call} (calls.call_of n) Other
other-call n a b c d e f g h = rw (differs n 1 a, differs n 2 b, differs n 3 c, differs n 4 d, differs n 5 e, differs n 7 f, differs n 8 g, differs n 12 h) refl
  where
    differs : (n k : ℕ) → n ≢ k → nat_eq n k ≡ false
    differs n k other = by (nat_eq n k) (eqb_tells n k)
      where
        by : (b : Bool) → ((nat_eq n k ≡ true) × (n ≡ k)) ⊎ ((nat_eq n k ≡ false) × (n ≢ k)) → nat_eq n k ≡ false
        by b (inl same) = absurd (other same.1)
        by b (inr differ) = differ.0

-- a wait leaves the stores as they are
wait-content : (v : View) (c : Content) → (row_wait v c).content ≡ c
unfolding row_wait
wait-content v c = by v.children.some v.children.ended
  where
    by : (some : Bool) (o : Option Ended) → (cond some (wait_for v c o) (refuses v c Echild)).content ≡ c
    by true None = refl
    by true (Some child) = refl
    by false o = refl

pub waited-content : (stands : Content → Type 0) (v : View) (c : Content) → stands c → stands (row_wait v c).content
waited-content stands v c done = subst stands (sym (wait-content v c)) done

-- an answer that is a number of the process
pub answer-row : (m : Machine) (call : Call) (p : Process) (c : Content) (result : CallDone) (w : World) (n k : ℕ) → n ≡ k
    → HasCalled m call.slot p (answers (view_of m call.slot p) c [] (Gives n)) result w → HasCalled m call.slot p (answers (view_of m call.slot p) c [] (Gives k)) result w
answer-row m call p c result w n k same done = subst (λ (x : ℕ). HasCalled m call.slot p (answers (view_of m call.slot p) c [] (Gives x)) result w) same done
