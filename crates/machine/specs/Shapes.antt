-- The four shapes that an effect may have. Each row of a call has one of them, and so has the effect of an instruction; soundness and isolation
-- follow from the shape, once for all.
use Rattle.std.specs.Prelude.{ℕ, ◌≡◌, ◌≢◌, ◌+◌, ◌<◌, ◌^◌, true, is_some, Some, None, length}
use Rattle.machine_types.specs.MemoryLaws.{AreBytes}
use Rattle.contents.specs.Content.{Content}
use Rattle.contents.specs.Laws.{HasSameSetting, OthersStay}
use Rattle.contents.specs.Agreeing.{HaveSameStores}
use Rattle.machine.specs.declared.process.Process.{Process}
use Rattle.machine.specs.declared.process.State.TheVariants.{Ready}
use Rattle.machine.specs.Processes.{process_at, is_live}
use Rattle.machine.specs.Pipes.{Table, table_at}
use Rattle.machine.specs.Machines.{Machine, view_of}
use Rattle.machine.specs.Effects.{Deed, Goes, Adds, Removes, Ends, Effect}
use Rattle.machine.specs.Calls.{called}
use Rattle.machine.specs.Applying.{or_old, applied}
use Rattle.machine.specs.Shape.{IsTable, IsProcess}
use Rattle.machine.specs.Sound.{IsWithin, IsAtCall, IsUnderway}
use Rattle.machine.specs.Steady.{ContentIsSound, IsSteady}

-- the same id, parent and region, and it lives
pub record IsSameProcess (p q : Process) : Type 0 where
  pub id : q.id ≡ p.id
  pub parent : q.parent ≡ p.parent
  pub region : q.region ≡ p.region
  pub live : is_live q.state ≡ true

-- the process goes on as the second one
pub record IsKept (p q : Process) (table : Table) (c : Content) : Type 0 where
  pub same : IsSameProcess p q
  pub within : IsWithin c q
  pub process : IsProcess q
  pub underway : IsUnderway q table c q.state
  pub store : is_some (c.stores p.region) ≡ true

-- the process goes on, and nothing else changes
pub record IsGoing (m : Machine) (p q : Process) (table : Table) (c : Content) : Type 0 where
  pub kept : IsKept p q table c
  pub others : OthersStay p.region m.content c

-- The process goes on and has a child, in a slot without a process and a region without a live one.
pub record IsAdding (m : Machine) (p q : Process) (table : Table) (c : Content) (slot : ℕ) (child : Process) (given : Table) : Type 0 where
  pub kept : IsKept p q table c
  pub none : process_at m.processes slot ≡ None
  pub slot_is : slot < length m.processes
  pub id : child.id ≡ m.forks + 2
  pub parent : child.parent ≡ p.id
  pub region : child.region < m.config.regions
  pub apart : (k : ℕ) (q : Process) → process_at m.processes k ≡ Some q → is_live q.state ≡ true → q.region ≢ child.region
  pub within : IsWithin c child
  pub process : IsProcess child
  pub ready : child.state ≡ Ready
  pub store : is_some (c.stores child.region) ≡ true
  pub others : OthersStay child.region m.content c
  pub given_is : IsTable given

-- The process goes on, and a process that isn't live is removed.
pub record IsRemoving (m : Machine) (p q : Process) (table : Table) (c : Content) (id : ℕ) : Type 0 where
  pub kept : IsKept p q table c
  pub others : OthersStay p.region m.content c
  pub none : (k : ℕ) (q : Process) → process_at m.processes k ≡ Some q → is_live q.state ≡ true → q.id ≢ id

-- The process ends, and its store is gone.
pub record IsEnding (m : Machine) (p q : Process) (c : Content) (status : ℕ) : Type 0 where
  pub small : status < 2 ^ 32
  pub same : q ≡ p
  pub others : OthersStay p.region m.content c
  pub gone : c.stores p.region ≡ None

abbrev pub IsDeed : Machine → Process → Process → Table → Content → Deed → Type 0
IsDeed m p q table c Goes = IsGoing m p q table c
IsDeed m p q table c (Adds slot child given) = IsAdding m p q table c slot child given
IsDeed m p q table c (Removes id) = IsRemoving m p q table c id
IsDeed m p q table c (Ends status) = IsEnding m p q c status

-- an effect of the work of the process at a slot
pub record IsEffect (m : Machine) (slot : ℕ) (p : Process) (e : Effect) : Type 0 where
  pub content : ContentIsSound m.config.regions e.content
  pub setting : HasSameSetting m.content e.content
  pub input : AreBytes (or_old m.input e.input)
  pub deed : IsDeed m p e.process (table_at m.tables slot) e.content e.deed

-- A live process at its slot, in a steady machine whose ids stay in range.
pub record CanWork (m : Machine) (slot : ℕ) (p : Process) : Type 0 where
  pub there : process_at m.processes slot ≡ Some p
  pub live : is_live p.state ≡ true
  pub steady : IsSteady m
  pub forks : m.forks + 2 < 2 ^ 63

-- It stands at a call, over the content that the fetch left.
pub record CanCall (m : Machine) (slot : ℕ) (p : Process) (c : Content) : Type 0 where
  pub works : CanWork m slot p
  pub at_call : IsAtCall p
  pub content : ContentIsSound m.config.regions c
  pub stores : HaveSameStores m.content c
  pub setting : HasSameSetting m.content c

-- Each call has an effect of one of the shapes.
abbrev pub CallsAreEffects : Type 0
CallsAreEffects = (m : Machine) (slot : ℕ) (p : Process) (c : Content) → CanCall m slot p c → IsEffect m slot p (called (view_of m slot p) c)

-- An effect of one of the shapes leaves a machine steady.
abbrev pub EffectsStaySteady : Type 0
EffectsStaySteady = (m : Machine) (slot : ℕ) (p : Process) (e : Effect) → CanWork m slot p → IsEffect m slot p e → IsSteady (applied m slot p e)
