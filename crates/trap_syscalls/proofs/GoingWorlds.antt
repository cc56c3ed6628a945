-- The world after a call that changes its own process alone.
use Rattle.std.proofs.Common.{◌≡◌, ◌∙◌, sym, ap, refl, ℤ, ℕ, zero, suc, ◌||◌, Bool, true, Option, Some, List, [], ◌∷◌, slice_set, to_z, of_z, w64}
use Rattle.std.specs.List.{list_any}
use Rattle.machine_types.specs.declared.touches.Note.{Note}
use Rattle.machine_types.specs.declared.errno.Errno.{Errno}
use Rattle.machine_types.specs.declared.errno.Errno.TheVariants.{Ebadf, Echild, Eagain, Enomem, Efault, Enfile, Emfile, Epipe, Enosys}
use Rattle.contents.specs.Content.{Content}
use Rattle.machine.specs.declared.process.Process.{Process}
use Rattle.machine.specs.declared.report.WorkEnd.{WorkEnd}
use Rattle.machine.specs.declared.report.WorkEnd.TheVariants.{Answered}
use Rattle.machine.specs.Processes.{process_at, is_live, lives, lives_in}
use Rattle.machine.specs.Machines.{Machine}
use Rattle.machine.specs.Effects.{works, answer_number, Refuses}
use Rattle.machine.specs.Applying.{applied}
use Rattle.process_table.specs.Tables.{Table, with_slot}
use Rattle.trap_syscalls.specs.declared.world.World.{World}
use Rattle.trap_syscalls.specs.declared.call.Call.{Call}
use Rattle.trap_syscalls.specs.Worlds.{IsWorldOf, IsPlanOf}
use Rattle.trap_syscalls.specs.Calling.{IsCalling}

-- a test finds as much in a list of which one element is written by one that it can't tell from it
pub any-written : (f : Option Process → Bool) (os : List (Option Process)) (k : ℕ) (o : Option Process) → f o ≡ f (process_at os k) → list_any f (slice_set os k o) ≡ list_any f os
any-written f [] k o same = refl
any-written f (a ∷ os) zero o same = ap (λ (b : Bool). b || list_any f os) same
any-written f (a ∷ os) (suc k) o same = ap (λ (b : Bool). f a || b) (any-written f os k o same)

-- so the same regions are taken
pub plan-written : (regions : ℕ) (os : List (Option Process)) (plan : List Bool) (k : ℕ) (o : Option Process) → ((region : ℕ) → lives_in region o ≡ lives_in region (process_at os k)) → IsPlanOf regions os plan → IsPlanOf regions (slice_set os k o) plan
plan-written regions os plan k o same is = record {
  count = is.count;
  taken = λ region low. is.taken region low ∙ sym (any-written (lives_in region) os k o (same region));
}

-- a process that stays live in its region lives where it did
pub lives-same : (p q : Process) → is_live p.state ≡ true → is_live q.state ≡ true → q.region ≡ p.region → (region : ℕ) → lives_in region (Some q) ≡ lives_in region (Some p)
lives-same p q p-lives q-lives same region = rw (p-lives, q-lives, same) refl

-- the process of a call is live in the machine, too
pub caller-lives : (m : Machine) (w : World) (call : Call) (p : Process) → IsWorldOf m w → IsCalling w call → process_at m.processes call.slot ≡ Some p → is_live p.state ≡ true
caller-lives m w call p is calling there = ap lives (sym there ∙ ap (λ (os : List (Option Process)). process_at os call.slot) is.processes) ∙ calling.live

-- where it stands in the world
pub caller-there : (m : Machine) (w : World) (slot : ℕ) (p : Process) → IsWorldOf m w → process_at m.processes slot ≡ Some p → process_at w.processes.processes slot ≡ Some p
caller-there m w slot p is there = ap (λ (os : List (Option Process)). process_at os slot) (sym is.processes) ∙ there

-- the world where the process of a slot is another one, live in the same region
pub going : (m : Machine) (w : World) (slot : ℕ) (p q : Process) (c : Content) (notes : List Note) (end : WorkEnd) (t : Table) → IsWorldOf m w → process_at m.processes slot ≡ Some p → ((region : ℕ) → lives_in region (Some q) ≡ lives_in region (Some p))
    → t ≡ with_slot w.processes slot (Some q) → IsWorldOf (applied m slot p (works q c notes end)) (record w { processes = t })
unfolding applied
going m w slot p q c notes end t is there same written = record {
  processes = ap (λ (os : List (Option Process)). slice_set os slot (Some q)) is.processes ∙ sym (ap (λ (x : Table). x.processes) written);
  tables = is.tables;
  pipes = is.pipes;
  input = is.input;
  forks = is.forks;
  plan = plan-written m.config.regions m.processes w.plan slot (Some q) (λ region. same region ∙ ap (lives_in region) (sym there)) is.plan;
  taken = is.taken;
  buffer = is.buffer;
}

-- two answers are one where their calls and their numbers are
pub same-answer : (n k : ℕ) (a b : ℤ) → n ≡ k → a ≡ b → ◌≡◌ {A = WorkEnd} (Answered n a) (Answered k b)
same-answer n k a b number answer = ap (λ (x : ℕ). Answered x a) number ∙ ap (Answered k) answer

-- the negative of an error's number is a number of 64 bits with a sign
pub refusal-kept : (e : Errno) → to_z w64 (of_z w64 (answer_number (Refuses e))) ≡ answer_number (Refuses e)
refusal-kept Ebadf = refl
refusal-kept Echild = refl
refusal-kept Eagain = refl
refusal-kept Enomem = refl
refusal-kept Efault = refl
refusal-kept Enfile = refl
refusal-kept Emfile = refl
refusal-kept Epipe = refl
refusal-kept Enosys = refl
