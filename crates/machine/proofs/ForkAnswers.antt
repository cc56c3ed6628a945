-- What a fork answers and does.
use Rattle.std.proofs.Common.{◌≡◌, ◌≢◌, ◌∙◌, refl, ℕ, ◌+◌, Option, Some, None, Result, Ok, Err, [], length, map, arith}
use Rattle.std.proofs.lemmas.List.{length-map}
use Rattle.cap_format.specs.declared.cap.Cap.{Cap}
use Rattle.cap_format.specs.Made.{from_int}
use Rattle.cap_format.specs.Moves.{moved}
use Rattle.machine_types.specs.declared.touches.NoFrame.{NoFrame}
use Rattle.machine_types.specs.Registers.{register}
use Rattle.contents.specs.Content.{Content}
use Rattle.contents.specs.Regions.{fork_of}
use Rattle.machine.specs.declared.process.Process.{Process}
use Rattle.machine.specs.declared.process.State.TheVariants.{Ready}
use Rattle.machine.specs.Numbers.{first_argument}
use Rattle.machine.specs.Pipes.{Table}
use Rattle.machine.specs.Machines.{View}
use Rattle.machine.specs.Effects.{Effect, Deed, Goes, Adds, Removes, Ends, next_pcc}
use Rattle.machine.specs.Calls.{forked, fork_at, row_fork}
use Rattle.machine.proofs.NumberedCalls.{put-there, put-elsewhere, moved-register}

-- A child that was forked, and what its parent is told.
pub record Forks (v : View) (c : Content) (e : Effect) (slot : ℕ) (child : Process) (table : Table) : Type 0 where
  pub slot_is : v.free_slot ≡ Some slot
  pub region : v.free_region ≡ Some child.region
  pub id : child.id ≡ v.forks + 2
  pub parent : child.parent ≡ v.process.id
  pub state : child.state ≡ Ready
  pub answer : register child.regs first_argument ≡ from_int 0
  pub registers : (n : ℕ) → n ≢ first_argument → register child.regs n ≡ moved (register v.process.regs n) v.process.region child.region
  pub pcc : child.pcc ≡ moved (next_pcc v.process.pcc) v.process.region child.region
  pub descriptors : table ≡ v.table
  pub told : register e.process.regs first_argument ≡ from_int child.id
  pub stores : e.content ≡ (fork_of c v.process.region child.region).after

-- the deed of a fork: it adds such a child, or does nothing
abbrev pub IsForkDeed : View → Content → Effect → Deed → Type 0
IsForkDeed v c e Goes = Unit {0}
IsForkDeed v c e (Adds slot child table) = Forks v c e slot child table
IsForkDeed v c e (Removes id) = ⊥
IsForkDeed v c e (Ends status) = ⊥

-- the slot, the region and the answer of the stores
pub fork-deed : (v : View) (c : Content) → length v.process.regs ≡ 32 → IsForkDeed v c (row_fork v c) (row_fork v c).deed
unfolding row_fork
fork-deed v c long = by v.free_slot v.free_region refl refl
  where
    by-answer : (s to : ℕ) (a : Result (Unit {0}) NoFrame) → v.free_slot ≡ Some s → v.free_region ≡ Some to
        → IsForkDeed v c (forked v s to (fork_of c v.process.region to).after a) (forked v s to (fork_of c v.process.region to).after a).deed
    by-answer s to (Ok done) at region = record {
      slot_is = at;
      region = region;
      id = refl;
      parent = refl;
      state = refl;
      answer = put-there (map (λ (cap : Cap). moved cap v.process.region to) v.process.regs) 10 (from_int 0) (rw length-map (omega arith));
      registers = λ n other. put-elsewhere (map (λ (cap : Cap). moved cap v.process.region to) v.process.regs) 10 n (from_int 0) other ∙ moved-register v.process.regs v.process.region to n;
      pcc = refl;
      descriptors = refl;
      told = put-there v.process.regs 10 (from_int (v.forks + 2)) (omega arith);
      stores = refl;
    }
    by-answer s to (Err lack) at region = tt

    by : (s r : Option ℕ) → v.free_slot ≡ s → v.free_region ≡ r → IsForkDeed v c (fork_at (record v { free_region = r }) c s) (fork_at (record v { free_region = r }) c s).deed
    by None r at region = tt
    by (Some s) None at region = tt
    by (Some s) (Some to) at region = by-answer s to (fork_of c v.process.region to).answer at region

-- A fork prints nothing.
pub fork-silent : (v : View) (c : Content) → (row_fork v c).printed ≡ []
unfolding row_fork
fork-silent v c = by v.free_slot v.free_region
  where
    by-answer : (s to : ℕ) (a : Result (Unit {0}) NoFrame) → (forked v s to (fork_of c v.process.region to).after a).printed ≡ []
    by-answer s to (Ok done) = refl
    by-answer s to (Err lack) = refl

    by : (s r : Option ℕ) → (fork_at (record v { free_region = r }) c s).printed ≡ []
    by None r = refl
    by (Some s) None = refl
    by (Some s) (Some to) = by-answer s to (fork_of c v.process.region to).answer
