-- What a sound machine says of its world where the process of a slot is at a call.
use Rattle.std.proofs.Common.{◌≡◌, ◌≢◌, ◌∙◌, sym, ap, refl, subst, ℕ, ◌^◌, ◌<◌, ◌⊎◌, inl, inr, nat_eq, ◌&&◌, Bool, true, false, Option, Some, None, List, length, IsTrue, arith}
use Rattle.std.specs.Prelude.{is_some}
use Rattle.std.proofs.lemmas.Bool.{eq-eqb, false≢true}
use Rattle.std.proofs.lemmas.Bool.Decides.{eqb_tells}
use Rattle.std.proofs.Math.Bool.{Bool-set}
use Rattle.std.proofs.Math.Logic.{∥∥₁_map, ∥∥₁_elim}
use Rattle.cap_format.specs.Numbers.{most_regions}
use Rattle.cap_format.specs.Pattern.{address_of}
use Rattle.cap_format.specs.Rights.{holds}
use Rattle.cap_format.specs.Code.{CodeGoesOn}
use Rattle.machine_types.specs.Stores.{Store}
use Rattle.region_plan.specs.Plan.{is_taken}
use Rattle.contents.specs.Content.{Content}
use Rattle.contents.specs.Conditions.{HasStore, HasNoStore}
use Rattle.stores.specs.Known.{StandsFor}
use Rattle.machine.specs.declared.process.Process.{Process}
use Rattle.machine.specs.declared.process.State.{State}
use Rattle.machine.specs.declared.process.State.TheVariants.{Ready, InRead, InWrite, InWait, Zombie}
use Rattle.machine.specs.declared.process.Target.{Target}
use Rattle.machine.specs.declared.process.Target.TheVariants.{ConsoleIn, ConsoleOut, PipeRead, PipeWrite}
use Rattle.machine.specs.Numbers.{first_argument, second_argument, third_argument}
use Rattle.machine.specs.Processes.{process_at, is_live, lives, lives_in, integer, Ended, first_ended}
use Rattle.machine.specs.Pipes.{Table, table_at, target}
use Rattle.machine.specs.Machines.{Machine}
use Rattle.machine.specs.Calls.{done_of}
use Rattle.machine.specs.Scanning.{ChildrenAreFound}
use Rattle.machine.specs.Shape.{ArePipes, LivesWith, IsMachine}
use Rattle.machine.specs.Sound.{IsWithin, IsSending, IsUnderway, Sound}
use Rattle.machine.proofs.CallRegisters.{next-good}
use Rattle.machine.proofs.ScansFound.{any-from-place}
use Rattle.trap_syscalls.specs.declared.call.Call.{Call}
use Rattle.trap_syscalls.specs.declared.world.World.{World}
use Rattle.trap_syscalls.specs.Asked.{call_of, MayMove}
use Rattle.trap_syscalls.specs.Worlds.{IsWorldOf, IsLiveAt, IsAtCall, SomeWorld}
use Rattle.trap_syscalls.specs.Calling.{IsCalling, IsAsked, MayReap, MayFork}
use Rattle.trap_syscalls.proofs.WaitedWorlds.{IsThere, live-some}
use Rattle.trap_syscalls.proofs.Props.{IsCalling-prop, MayReap-prop, MayFork-prop}

-- a live process lives in its region
lives-in-own : (p : Process) → is_live p.state ≡ true → lives_in p.region (Some p) ≡ true
lives-in-own p live = rw live (eq-eqb p.region p.region refl)

-- a slot whose process has another region where it is live doesn't live in this one
lives-not : (region : ℕ) (o : Option Process) → ((q : Process) → o ≡ Some q → is_live q.state ≡ true → q.region ≢ region) → lives_in region o ≡ false
lives-not region None other = refl
lives-not region (Some q) other = by (is_live q.state) refl (eqb_tells q.region region)
  where
    by : (b : Bool) → is_live q.state ≡ b → ((nat_eq q.region region ≡ true) × (q.region ≡ region)) ⊎ ((nat_eq q.region region ≡ false) × (q.region ≢ region)) → (b && nat_eq q.region region) ≡ false
    by true live (inl same) = absurd (other q refl live same.1)
    by true live (inr differ) = differ.0
    by false live tells = refl

-- a write that is underway has fewer bytes done than it asks for
sending-fewer : (count done : ℕ) (o : Option Target) → IsSending count done o → done < count
sending-fewer count done None sending = absurd sending
sending-fewer count done (Some ConsoleIn) sending = absurd sending
sending-fewer count done (Some ConsoleOut) sending = sending
sending-fewer count done (Some (PipeRead k)) sending = absurd sending
sending-fewer count done (Some (PipeWrite k)) sending = sending.0

-- so has a process in any state whose call is of some bytes
underway-fewer : (p : Process) (table : Table) (c : Content) (state : State) → IsUnderway p table c state → integer p third_argument ≢ 0 → done_of state < integer p third_argument
underway-fewer p table c Ready underway some = omega (arith, some)
underway-fewer p table c InRead underway some = omega (arith, some)
underway-fewer p table c (InWrite done) underway some = sending-fewer (integer p third_argument) done (target table (integer p first_argument)) underway.descriptor
underway-fewer p table c InWait underway some = omega (arith, some)
underway-fewer p table c (Zombie status) underway some = omega (arith, some)

-- A process that is at a call in a sound machine, and the machine's world.
module _ (m : Machine) (w : World) (slot : ℕ) (p : Process) (is : IsMachine m) (sound : Sound m) (caller : IsLiveAt slot m) (of : IsWorldOf m w) (there : process_at w.processes.processes slot ≡ Some p) where
  -- a process of the world is one of the machine
  in-machine : (k : ℕ) (o : Option Process) → process_at w.processes.processes k ≡ o → process_at m.processes k ≡ o
  in-machine k o at = ap (λ (os : List (Option Process)). process_at os k) of.processes ∙ at

  -- so is the one that calls
  here : process_at m.processes slot ≡ Some p
  here = in-machine slot (Some p) there

  -- it is the process that is at the call
  same-process : caller.process ≡ p
  same-process = let a = caller.there in let b = here in cc

  -- so it is live
  process-live : is_live p.state ≡ true
  process-live = subst (λ (q : Process). is_live q.state ≡ true) same-process caller.live

  -- its region is one of the machine's
  region-configured : p.region < m.config.regions
  region-configured = sound.range.processes slot p here

  -- so it is one of the regions that there may be
  region-low : p.region < most_regions
  region-low = let a = region-configured in let b = is.configured.config.regions in omega arith

  -- and what it has lies inside
  within : IsWithin m.content p
  within = sound.inside.processes slot p here process-live

  -- no process of another slot lives there
  alone : (k : ℕ) → k ≢ slot → lives_in p.region (process_at w.processes.processes k) ≡ false
  alone k other = lives-not p.region (process_at w.processes.processes k)
      (λ q at live same. other (sound.ids.regions k slot q p (in-machine k (Some q) at) here live process-live same))

  -- ids are one more than the forks at most
  id-below : w.forks < 2 ^ 62 → (k : ℕ) (q : Process) → process_at m.processes k ≡ Some q → q.id < 2 ^ 63
  id-below few k q at = let a = sound.ids.last k q at in let b = of.forks in omega arith

  -- its call is one of a live process, whose bytes and numbers are in range
  plain-calling : w.forks < 2 ^ 62 → IsCalling w (call_of slot p)
  plain-calling few = record {
    live = ap lives there ∙ process-live;
    tables = sym (ap length of.tables) ∙ is.configured.tables ∙ sym is.configured.processes ∙ ap length of.processes;
    region = region-low;
    planned = of.plan.taken p.region region-configured ∙ any-from-place (lives_in p.region) m.processes slot refl (ap (lives_in p.region) here ∙ lives-in-own p process-live);
    regions = let a = of.plan.count in let b = is.configured.config.regions in omega arith;
    alone = alone;
    id = id-below few slot p here;
    parent = let a = sound.ids.older slot p here in let b = id-below few slot p here in omega arith;
    pointer = within.registers second_argument (omega arith);
    fewer = underway-fewer p (table_at m.tables slot) m.content p.state (sound.calls slot p here);
    taken = of.taken;
    buffer = of.buffer;
  }

  -- the Zombie child that is found has an id that no other process has
  plain-reap : ChildrenAreFound → w.forks < 2 ^ 62 → MayReap w (call_of slot p)
  plain-reap law few = record {
    id = λ child is. let z = law.ended m.processes p.id child (in-list child is) in subst (λ (n : ℕ). n < 2 ^ 63) z.id (id-below few z.slot z.process z.there);
    ended = λ child is k q at same.
        let z = law.ended m.processes p.id child (in-list child is) in
        let there-too = in-machine k (Some q) at in
        let slots : z.slot ≡ k = sound.ids.ids z.slot k z.process q z.there there-too (z.id ∙ sym same) in
        let one : Some z.process ≡ Some q = sym z.there ∙ ap (process_at m.processes) slots ∙ there-too in
        let equal : z.process ≡ q = cc in
        subst (λ (r : Process). is_live r.state ≡ false) equal (ap is_live z.state);
  }
    where
      in-list : (child : Ended) → first_ended p.id w.processes.processes ≡ Some child → first_ended p.id m.processes ≡ Some child
      in-list child found = ap (first_ended p.id) of.processes ∙ found

  -- what it has can be moved
  plain-moves : CodeGoesOn → IsTrue (holds p.pcc.bits (address_of p.pcc.bits) 4) → MayMove p
  plain-moves law held = record {
    region = region-low;
    file = (is.processes slot p here).registers;
    registers = within.registers;
    counter = λ tagged. (next-good law p.pcc p.region region-low (record { pattern = (is.processes slot p here).pcc; code = within.code; inside = within.counter within.code.tagged }) held).inside;
  }

  -- it can be moved to a free slot
  plain-fork : CodeGoesOn → IsTrue (holds p.pcc.bits (address_of p.pcc.bits) 4) → w.forks < 2 ^ 62 → MayFork w (call_of slot p)
  plain-fork law held few = record {
    forks = few;
    moves = λ q at. let one : Some p ≡ Some q = sym there ∙ at in let same : p ≡ q = cc in subst MayMove same (plain-moves law held);
    free = λ k none below.
        let configured : k < m.config.slots = let a = is.configured.processes in let b = ap length of.processes in omega arith in
        ap (λ (tables : List Table). table_at tables k) (sym of.tables) ∙ is.tables.none k configured (ap lives (in-machine k None none));
    pipes = subst (λ (tables : List Table). ArePipes tables w.files.pipes) of.tables (subst (ArePipes m.tables) of.pipes is.pipes);
  }

  -- its region has a store
  plain-store : HasStore p.region m.content
  plain-store = is.stores.some slot p here process-live

-- a region that isn't taken has no store
free-store : (m : Machine) (w : World) (to : ℕ) → IsMachine m → IsWorldOf m w → to < length w.plan → is_taken w.plan to ≡ false → HasNoStore to m.content
free-store m w to is of below free = by (m.content.stores to) refl
  where
    -- where a process lives, the region is taken
    never : LivesWith (process_at m.processes) to → ⊥
    never at =
        let configured : to < m.config.regions = let a = of.plan.count in omega arith in
        let lives : lives_in to (Some at.process) ≡ true = rw at.live (eq-eqb at.process.region to at.region_is) in
        false≢true (sym free ∙ of.plan.taken to configured ∙ any-from-place (lives_in to) m.processes at.slot refl (ap (lives_in to) at.there ∙ lives))

    by : (o : Option Store) → m.content.stores to ≡ o → o ≡ None
    by None e = refl
    by (Some store) e = absurd (never (is.stores.live to (ap is_some e)))

-- a world of a machine with a property is one of a machine with a weaker one
pub weaker : {S : Type 0} (stands_for : S → Content → Type 0) (w : World) (s : S) (P Q : Machine → Type 0) → ((m : Machine) → P m → Q m) → ∥ SomeWorld stands_for w s P ∥₁ → ∥ SomeWorld stands_for w s Q ∥₁
weaker stands_for w s P Q gives some = ∥∥₁_map some (λ (k : SomeWorld stands_for w s P). record {
  machine = k.machine;
  is = k.is;
  sound = k.sound;
  has = gives k.machine k.has;
  world = k.world;
  content = k.content;
  stores = k.stores;
  stands = k.stands;
})

-- a process that is at a call is live
pub live-caller : {S : Type 0} (stands_for : S → Content → Type 0) (w : World) (s : S) (slot : ℕ) → ∥ SomeWorld stands_for w s (IsAtCall slot) ∥₁ → ∥ SomeWorld stands_for w s (IsLiveAt slot) ∥₁
live-caller stands_for w s slot some = weaker stands_for w s (IsAtCall slot) (IsLiveAt slot) (λ m at. at.at) some

-- Some sound machine has the world, and the process of the slot is live in it.
module _ {S : Type 0} (stands_for : S → Content → Type 0) (w : World) (s : S) (slot : ℕ) (some : ∥ SomeWorld stands_for w s (IsLiveAt slot) ∥₁) where
  -- so it is in the world
  pub caller-live : lives (process_at w.processes.processes slot) ≡ true
  caller-live = ∥∥₁_elim some (hlevel Bool-set) (λ (k : SomeWorld stands_for w s (IsLiveAt slot)).
      ap lives (sym (ap (λ (os : List (Option Process)). process_at os slot) k.world.processes) ∙ k.has.there) ∙ k.has.live)

  -- a region that isn't taken has no store
  pub caller-free : (to : ℕ) → to < length w.plan → is_taken w.plan to ≡ false → ∥ StandsFor stands_for s (HasNoStore to) ∥₁
  caller-free to below free = ∥∥₁_map some (λ (k : SomeWorld stands_for w s (IsLiveAt slot)).
      record { content = k.content; stands = k.stands; holds = k.stores to ∙ free-store k.machine w to k.is k.world below free })

  -- A call that is what the process of the slot asks for.
  module _ (call : Call) (asks : (p : Process) → process_at w.processes.processes slot ≡ Some p → call ≡ call_of slot p) where
    -- the process is there
    caller-process : IsThere (process_at w.processes.processes slot)
    caller-process = live-some (process_at w.processes.processes slot) caller-live

    -- what is known of the process's call is known of this one
    of-call : (P : Call → Type 0) → P (call_of slot caller-process.process) → P call
    of-call P known = subst P (sym (asks caller-process.process caller-process.is)) known

    -- the call is one of a live process, whose bytes and numbers are in range
    pub caller-calling : w.forks < 2 ^ 62 → IsCalling w call
    caller-calling few = of-call (IsCalling w) (∥∥₁_elim some (IsCalling-prop w (call_of slot caller-process.process)) (λ (k : SomeWorld stands_for w s (IsLiveAt slot)).
        plain-calling k.machine w slot caller-process.process k.is k.sound k.has k.world caller-process.is few))

    -- it is what the process of its own slot asks for
    pub caller-asked : IsAsked w call
    caller-asked = of-call (IsAsked w) (λ p there.
        let one : Some caller-process.process ≡ Some p = sym caller-process.is ∙ there in
        let same : caller-process.process ≡ p = cc in
        ap (call_of slot) same)

    -- the child that is waited for is a Zombie alone
    pub caller-reap : ChildrenAreFound → w.forks < 2 ^ 62 → MayReap w call
    caller-reap law few = of-call (MayReap w) (∥∥₁_elim some (MayReap-prop w (call_of slot caller-process.process)) (λ (k : SomeWorld stands_for w s (IsLiveAt slot)).
        plain-reap k.machine w slot caller-process.process k.is k.sound k.has k.world caller-process.is law few))

    -- a process that is at its call can be moved to a free slot
    pub caller-fork : ∥ SomeWorld stands_for w s (IsAtCall slot) ∥₁ → CodeGoesOn → w.forks < 2 ^ 62 → MayFork w call
    caller-fork at law few = of-call (MayFork w) (∥∥₁_elim at (MayFork-prop w (call_of slot caller-process.process)) (λ (k : SomeWorld stands_for w s (IsAtCall slot)).
        let same = same-process k.machine w slot caller-process.process k.is k.sound k.has.at k.world caller-process.is in
        let held : IsTrue (holds caller-process.process.pcc.bits (address_of caller-process.process.pcc.bits) 4) =
        subst (λ (q : Process). IsTrue (holds q.pcc.bits (address_of q.pcc.bits) 4)) same k.has.held in
        plain-fork k.machine w slot caller-process.process k.is k.sound k.has.at k.world caller-process.is law held few))

    -- its region has a store
    pub caller-store : ∥ StandsFor stands_for s (HasStore call.region) ∥₁
    caller-store = of-call (λ (asked : Call). ∥ StandsFor stands_for s (HasStore asked.region) ∥₁) (∥∥₁_map some (λ (k : SomeWorld stands_for w s (IsLiveAt slot)).
        record { content = k.content; stands = k.stands; holds = ap is_some (k.stores caller-process.process.region) ∙ plain-store k.machine w slot caller-process.process k.is k.sound k.has k.world caller-process.is }))
