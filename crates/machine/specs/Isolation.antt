-- What the work of one process leaves of all others, what it depends on, and how the copy rules agree.
use Rattle.std.specs.Prelude.{ℕ, ◌≡◌, ◌≢◌, ◌<◌, ◌==◌, ◌&&◌, Bool, true, false, Some, length}
use Rattle.machine_types.specs.declared.config.Rule.TheVariants.{Full}
use Rattle.contents.specs.Content.{Content, free_frames}
use Rattle.contents.specs.Regions.{numbers_in}
use Rattle.contents.specs.Laws.{AreAlike}
use Rattle.contents.specs.Agreeing.{HaveSameStores}
use Rattle.machine.specs.declared.process.Process.{Process}
use Rattle.machine.specs.declared.report.WorkEnd.TheVariants.{Ended}
use Rattle.machine.specs.Numbers.{fork_call, number_register}
use Rattle.machine.specs.Processes.{process_at, is_live, integer}
use Rattle.machine.specs.Pipes.{table_at}
use Rattle.machine.specs.Machines.{Machine, View}
use Rattle.machine.specs.Effects.{Deed, Goes, Adds, Removes, Ends, Effect}
use Rattle.machine.specs.Calls.{called}
use Rattle.machine.specs.Applying.{applied}
use Rattle.machine.specs.Shapes.{CanWork, IsEffect}

-- the deed ends the process that does it
abbrev pub is_end : Deed → Bool
is_end Goes = false
is_end (Adds slot child table) = false
is_end (Removes id) = false
is_end (Ends status) = true

-- a process that lost its parent, or not
abbrev pub parted : Bool → Process → Process
parted true q = record q { parent = 0 }
parted false q = q

-- The process at a slot, its descriptors and its store are as before, but that it may have lost its parent.
pub record IsUntouched (m n : Machine) (k : ℕ) (q : Process) (parts : Bool) : Type 0 where
  pub process : process_at n.processes k ≡ Some (parted parts q)
  pub table : table_at n.tables k ≡ table_at m.tables k
  pub store : n.content.stores q.region ≡ m.content.stores q.region

-- An effect of one of the shapes leaves every other live process as it was, but that a child of the process that ends has no parent then.
abbrev pub EffectsLeaveOthers : Type 0
EffectsLeaveOthers = (m : Machine) (slot : ℕ) (p : Process) (e : Effect) → CanWork m slot p → IsEffect m slot p e
    → (k : ℕ) (q : Process) → k ≢ slot → process_at m.processes k ≡ Some q → is_live q.state ≡ true
    → IsUntouched m (applied m slot p e) k q (is_end e.deed && (q.parent == p.id))

-- Two effects are one, but for what their contents have of other regions.
pub record AreAlikeEffects (region : ℕ) (e f : Effect) : Type 0 where
  pub rest : f ≡ record e { content = f.content }
  pub content : AreAlike region e.content f.content

-- A call depends on its view, the own store, the account, the rule and the number of frames alone: so do what it makes of its process, what it
-- leaves of these, and all that it does to others but a child's store.
abbrev pub ViewsDecideCalls : Type 0
ViewsDecideCalls = (v : View) (c d : Content) → AreAlike v.process.region c d → AreAlikeEffects v.process.region (called v c) (called v d)

-- Two effects differ in touches, and in the rule and the account of their contents, alone.
pub record EffectsAgree (e f : Effect) : Type 0 where
  pub rest : f ≡ record e { content = f.content; touches = f.touches }
  pub content : HaveSameStores e.content f.content

-- Contents with the same stores, of any rules and accounts, give the same effect of a call, where neither lacks a frame.
abbrev pub RulesAgreeOnCalls : Type 0
RulesAgreeOnCalls = (v : View) (c d : Content) → HaveSameStores c d → (called v c).lacks ≡ false → (called v d).lacks ≡ false → EffectsAgree (called v c) (called v d)

-- Under `full` a call lacks a frame only where it is a fork and fewer frames are free than the caller has pages, and no call ends its process
-- for want of a frame.
pub record FullLacksAtForks : Type 0 where
  pub number : (v : View) (c : Content) → c.rule ≡ Full → (called v c).lacks ≡ true → integer v.process number_register ≡ fork_call
  pub frames : (v : View) (c : Content) → c.rule ≡ Full → (called v c).lacks ≡ true → free_frames c < length (numbers_in (c.stores v.process.region))
  pub lives : (v : View) (c : Content) → c.rule ≡ Full → (called v c).end ≢ Ended 268
