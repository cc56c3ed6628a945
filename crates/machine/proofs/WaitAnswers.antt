-- What a wait answers and does.
use Rattle.std.proofs.Common.{◌≡◌, ◌∙◌, refl, ℕ, Option, Some, None, [], length, true, false, Bool, cond, slice_set, arith}
use Rattle.std.proofs.lemmas.List.{length-set}
use Rattle.cap_format.specs.Made.{from_int}
use Rattle.machine_types.specs.declared.errno.Errno.TheVariants.{Echild}
use Rattle.machine_types.specs.Registers.{register}
use Rattle.contents.specs.Content.{Content}
use Rattle.machine.specs.Numbers.{first_argument, second_argument}
use Rattle.machine.specs.Processes.{Ended}
use Rattle.machine.specs.Machines.{View}
use Rattle.machine.specs.Effects.{Effect, Deed, Goes, Adds, Removes, Ends, refuses}
use Rattle.machine.specs.Calls.{wait_for, row_wait}
use Rattle.machine.proofs.NumberedCalls.{put-there, put-elsewhere}

-- A Zombie that was waited for, and what is told of it.
pub record Waits (v : View) (c : Content) (e : Effect) (id : ℕ) : Type 0 where
  pub status : ℕ
  pub child : v.children.ended ≡ Some (record { id = id; status = status })
  pub told : register e.process.regs first_argument ≡ from_int id
  pub told_status : register e.process.regs second_argument ≡ from_int status

-- the deed of a wait: it removes such a Zombie, or does nothing
abbrev pub IsWaitDeed : View → Content → Effect → Deed → Type 0
IsWaitDeed v c e Goes = Unit {0}
IsWaitDeed v c e (Adds slot child table) = ⊥
IsWaitDeed v c e (Removes id) = Waits v c e id
IsWaitDeed v c e (Ends status) = ⊥

-- whether there is a child, and whether one ended
pub wait-deed : (v : View) (c : Content) → length v.process.regs ≡ 32 → IsWaitDeed v c (row_wait v c) (row_wait v c).deed
unfolding row_wait
wait-deed v c long = by v.children.some v.children.ended refl
  where
    by : (b : Bool) (o : Option Ended) → v.children.ended ≡ o → IsWaitDeed v c (cond b (wait_for v c o) (refuses v c Echild)) (cond b (wait_for v c o) (refuses v c Echild)).deed
    by false o is = tt
    by true None is = tt
    by true (Some child) is = record {
      status = child.status;
      child = is;
      told = put-elsewhere (slice_set v.process.regs 10 (from_int child.id)) 11 10 (from_int child.status) (λ e. absurd (omega arith)) ∙ put-there v.process.regs 10 (from_int child.id) (omega arith);
      told_status = put-there (slice_set v.process.regs 10 (from_int child.id)) 11 (from_int child.status) (rw length-set (omega arith));
    }

-- A wait prints nothing.
pub wait-silent : (v : View) (c : Content) → (row_wait v c).printed ≡ []
unfolding row_wait
wait-silent v c = by v.children.some v.children.ended
  where
    by : (b : Bool) (o : Option Ended) → (cond b (wait_for v c o) (refuses v c Echild)).printed ≡ []
    by false o = refl
    by true None = refl
    by true (Some child) = refl
