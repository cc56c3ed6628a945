-- What each row of a call makes has one of the shapes.
use Rattle.std.proofs.Common.{◌≡◌, ◌≢◌, ◌∙◌, sym, ap, refl, ℕ, ◌+◌, ◌-◌, ◌%◌, ◌^◌, ◌<◌, ◌≤◌, ◌⊎◌, inl, inr, not, ◌||◌, nat_eq, is_some, Option, Some, None, Result, Ok, Err, List, [], ◌∷◌, map, length, cond, min, take, drop, true, false, Bool, slice_set, subst, arith}
use Rattle.std.specs.Option.{option_map}
use Rattle.std.proofs.lemmas.Bool.Decides.{eqb_tells}
use Rattle.std.proofs.lemmas.Bool.{false≢true}
use Rattle.std.proofs.lemmas.List.{length-set, length-map, length-take-le}
use Rattle.std.proofs.lemmas.List.Elements.{All-drop}
use Rattle.cap_format.specs.Numbers.{most_regions}
use Rattle.cap_format.specs.declared.cap.Cap.{Cap}
use Rattle.cap_format.specs.Made.{from_int}
use Rattle.cap_format.specs.Moves.{moved}
use Rattle.cap_format.specs.Code.{CodeMoves, CodeGoesOn}
use Rattle.machine_types.specs.MemoryLaws.{AreBytes, PagesAreMoved}
use Rattle.machine_types.specs.declared.errno.Errno.{Errno}
use Rattle.machine_types.specs.declared.errno.Errno.TheVariants.{Ebadf, Echild, Eagain, Enomem, Efault, Enfile, Emfile, Epipe, Enosys}
use Rattle.machine_types.specs.declared.touches.Access.{Access}
use Rattle.machine_types.specs.declared.touches.Access.TheVariants.{Read, Write}
use Rattle.machine_types.specs.declared.touches.NoFrame.{NoFrame}
use Rattle.machine_types.specs.declared.touches.Note.{Note}
use Rattle.machine_types.specs.Stores.{Store, moved_store}
use Rattle.contents.specs.Numbers.{most_transfer}
use Rattle.contents.specs.Content.{Content}
use Rattle.contents.specs.Regions.{end_of, fork_of}
use Rattle.contents.specs.Transfers.{prepare_of, read_bytes_of, write_bytes_of}
use Rattle.contents.specs.Conditions.{Covers, IsPrepared}
use Rattle.contents.specs.Laws.{SettingsStay, HasSameSetting, OtherStoresStay, OthersStay, RegionsAreKept, ForkCopiesTheStore, CoversEachByte, PreparedLeavesNoTouch}
use Rattle.contents.specs.Agreeing.{HaveSameStores, StoreDecidesLooks}
use Rattle.machine.specs.declared.process.Process.{Process}
use Rattle.machine.specs.declared.process.State.{State}
use Rattle.machine.specs.declared.process.State.TheVariants.{Ready, InRead, InWrite, InWait, Zombie}
use Rattle.machine.specs.declared.process.Target.{Target}
use Rattle.machine.specs.declared.process.Target.TheVariants.{ConsoleIn, ConsoleOut, PipeRead, PipeWrite}
use Rattle.machine.specs.Numbers.{wait_call, write_call}
use Rattle.machine.specs.Processes.{process_at, is_live, integer, lowest_free_slot, lowest_free_region, Ended, children_of}
use Rattle.machine.specs.Pipes.{Table, target}
use Rattle.machine.specs.Machines.{Machine, View, view_of}
use Rattle.machine.specs.Effects.{Effect, Answer, Gives, Refuses, answer_bits, answered_process, answers, refuses, waits, ends, next_pcc}
use Rattle.machine.specs.Calls.{child_of, forked, fork_into, fork_at, row_fork, reaped, wait_for, row_wait, place_of, is_fault, tested, read_size, taken, console_read, is_for_reading, row_read, done_of, sent, printed, console_write, is_for_writing, row_write, Call, Exit, Fork, Wait, Getpid, Getppid, ReadCall, WriteCall, Yield, Other, call_of, row}
use Rattle.machine.specs.Shape.{IsProcess}
use Rattle.machine.specs.Sound.{IsWithin, IsUnderway, IsSending}
use Rattle.machine.specs.Steady.{ContentIsSound}
use Rattle.machine.specs.Contents.{CallsKeepSound}
use Rattle.machine.specs.Scanning.{PlacesAreLowest, ChildrenAreFound, IsUnlived, IsZombieOf}
use Rattle.machine.specs.Shapes.{IsKept, IsEffect, CanCall, CallsAreEffects}
use Rattle.machine.proofs.SlotLists.{slot-within, changed-other, changed-here}
use Rattle.machine.proofs.AlikeCalls.{fault-same}
use Rattle.machine.proofs.RefusedForks.{lack-changes-nothing}
use Rattle.machine.proofs.NumberedCalls.{number-of-wait, number-of-write}
use Rattle.machine.proofs.CallRegisters.{IsGoodPcc, next-good, put-inside, put-file, moved-file, moved-inside, moved-good}

-- the laws that rows rest on
pub record RowLaws : Type 0 where
  pub keeps : CallsKeepSound
  pub setting : SettingsStay
  pub others : OtherStoresStay
  pub looks : StoreDecidesLooks
  pub regions : RegionsAreKept
  pub forks : ForkCopiesTheStore
  pub covers : CoversEachByte
  pub prepared : PreparedLeavesNoTouch
  pub goes_on : CodeGoesOn
  pub code_moves : CodeMoves
  pub moves : PagesAreMoved
  pub places : PlacesAreLowest
  pub children : ChildrenAreFound

-- The same on what touches leave.
can-after : (m : Machine) (slot : ℕ) (p : Process) (c d : Content) → ContentIsSound m.config.regions d → HaveSameStores c d → HasSameSetting c d → CanCall m slot p c → CanCall m slot p d
can-after m slot p c d content stores setting can = record {
  works = can.works;
  at_call = can.at_call;
  content = content;
  stores = λ r. stores r ∙ can.stores r;
  setting = record { rule = setting.rule ∙ can.setting.rule; frames = setting.frames ∙ can.setting.frames };
}

refused-small : (e : Errno) → answer_bits (Refuses e) < 2 ^ 128
refused-small Ebadf = omega arith
refused-small Echild = omega arith
refused-small Eagain = omega arith
refused-small Enomem = omega arith
refused-small Efault = omega arith
refused-small Enfile = omega arith
refused-small Emfile = omega arith
refused-small Epipe = omega arith
refused-small Enosys = omega arith

some-map : {A B : Type 0} (f : A → B) (o : Option A) → is_some (option_map f o) ≡ is_some o
some-map f None = refl
some-map f (Some x) = refl

positive : (n : ℕ) → n ≢ 0 → 0 < n
positive n some = omega arith

-- the bytes that were sent are fewer than the count, at an attempt
done-is-less : (p : Process) (table : Table) (c : Content) → IsUnderway p table c p.state → integer p 12 ≢ 0 → done_of p.state < integer p 12
done-is-less p table c u some = by p.state u
  where
    by-target : (done : ℕ) (t : Option Target) → IsSending (integer p 12) done t → done < integer p 12
    by-target done None s = absurd s
    by-target done (Some ConsoleIn) s = absurd s
    by-target done (Some ConsoleOut) s = s
    by-target done (Some (PipeRead k)) s = absurd s
    by-target done (Some (PipeWrite k)) s = s.0

    by : (state : State) → IsUnderway p table c state → done_of state < integer p 12
    by Ready u = positive (integer p 12) some
    by InRead u = positive (integer p 12) some
    by (InWrite done) u = by-target done (target table (integer p 10)) u.descriptor
    by InWait u = positive (integer p 12) some
    by (Zombie status) u = positive (integer p 12) some

-- a descriptor for reading or writing, as the rows test it
writes-console : (t : Option Target) → is_for_writing t ≡ true → t ≡ Some ConsoleOut
writes-console None e = absurd (false≢true e)
writes-console (Some ConsoleIn) e = absurd (false≢true e)
writes-console (Some ConsoleOut) e = refl
writes-console (Some (PipeRead k)) e = absurd (false≢true e)
writes-console (Some (PipeWrite k)) e = absurd (false≢true e)

-- the bytes of a part of the input are bytes
bytes-left : (n : ℕ) (bytes : List ℕ) → AreBytes bytes → AreBytes (drop n bytes)
bytes-left n bytes are = All-drop (λ byte. byte < 256) n bytes are

-- what is printed is nothing to the shape, nor is whether a frame was lacking
with-piece : (m : Machine) (slot : ℕ) (p : Process) (e : Effect) (piece : List ℕ) → IsEffect m slot p e → IsEffect m slot p (record e { printed = piece })
with-piece m slot p e piece i = record { content = i.content; setting = i.setting; input = i.input; deed = i.deed }

with-lack : (m : Machine) (slot : ℕ) (p : Process) (e : Effect) → IsEffect m slot p e → IsEffect m slot p (record e { lacks = true })
with-lack m slot p e i = record { content = i.content; setting = i.setting; input = i.input; deed = i.deed }

module _ (laws : RowLaws) (m : Machine) (slot : ℕ) (p : Process) where
  abbrev v : View
  v = view_of m slot p

  module _ (c : Content) (can : CanCall m slot p c) where
    most : m.config.regions ≤ most_regions
    most = can.works.steady.configured.config.regions

    region-low : p.region < m.config.regions
    region-low = (can.works.steady.processes.fine slot p can.works.there).region

    low : p.region < most_regions
    low = let r = region-low in let n = most in omega arith

    within : IsWithin c p
    within = let w = (can.works.steady.processes.fine slot p can.works.there).inside can.works.live in record { code = w.code; counter = w.counter; registers = w.registers }

    process : IsProcess p
    process = (can.works.steady.processes.fine slot p can.works.there).process

    pcc-good : IsGoodPcc p.pcc p.region
    pcc-good = record { pattern = process.pcc; code = within.code; inside = within.counter within.code.tagged }

    pcc-on : IsGoodPcc (next_pcc p.pcc) p.region
    pcc-on = next-good laws.goes_on p.pcc p.region low pcc-good can.at_call

    store-there : is_some (c.stores p.region) ≡ true
    store-there = ap is_some (can.stores p.region) ∙ can.works.steady.processes.stores.some slot p can.works.there can.works.live

    stores-stay : OthersStay p.region m.content c
    stores-stay r other = can.stores r

    -- an answer in register 10
    answered-kept : (d : Content) (a : Answer) → answer_bits a < 2 ^ 128 → is_some (d.stores p.region) ≡ true → IsKept p (answered_process p a) v.table d
    answered-kept d a small there = record {
      same = record { id = refl; parent = refl; region = refl; live = refl };
      within = record { code = pcc-on.code; counter = λ t. pcc-on.inside; registers = put-inside p.regs 10 p.region (from_int (answer_bits a)) (rw process.registers.length_is (omega arith)) (λ t. absurd (false≢true t)) within.registers };
      process = record {
        registers = put-file p.regs 10 (from_int (answer_bits a)) (λ z. absurd (omega arith)) small process.registers;
        pcc = pcc-on.pattern;
        zombie = λ status z. absurd (cc);
        status = λ status z. absurd (cc);
      };
      underway = tt;
      store = there;
    }

    -- an answer, whatever touches were made
    answers-is : (touches : List Note) (a : Answer) → answer_bits a < 2 ^ 128 → IsEffect m slot p (answers v c touches a)
    answers-is touches a small = record {
      content = can.content;
      setting = can.setting;
      input = can.works.steady.input;
      deed = record { kept = answered-kept c a small store-there; others = stores-stay };
    }

    refuses-is : (e : Errno) → IsEffect m slot p (refuses v c e)
    refuses-is e = answers-is [] (Refuses e) (refused-small e)

    -- the call is underway afterwards
    waits-with : (touches : List Note) (state : State) → is_live state ≡ true → IsUnderway (record p { state = state }) v.table c state → IsEffect m slot p (waits v c touches state)
    waits-with touches state live underway = record {
      content = can.content;
      setting = can.setting;
      input = can.works.steady.input;
      deed = record {
        kept = record {
          same = record { id = refl; parent = refl; region = refl; live = live };
          within = record { code = within.code; counter = within.counter; registers = within.registers };
          process = record { registers = process.registers; pcc = process.pcc; zombie = λ status z. dead status z; status = λ status z. dead status z };
          underway = underway;
          store = store-there;
        };
        others = stores-stay;
      };
    }
      where
        dead : {A : Type 0} (status : ℕ) → state ≡ Zombie status → A
        dead status z = let no : is_live state ≡ false = rw z refl in absurd (cc)

    -- the end of the process
    ends-is : (touches : List Note) (status : ℕ) (lacks : Bool) → status < 2 ^ 32 → IsEffect m slot p (ends v c touches status lacks)
    unfolding ends end_of
    ends-is touches status lacks small = record {
      content = (laws.keeps m.config.regions most).end c p.region can.content;
      setting = record { rule = can.setting.rule; frames = can.setting.frames };
      input = can.works.steady.input;
      deed = record {
        small = small;
        same = refl;
        others = λ r other. changed-other c.stores p.region r None other ∙ can.stores r;
        gone = changed-here c.stores p.region None;
      };
    }

    -- A fork.

    is-none : (o : Option Store) → (is_some o ≡ true → ⊥) → o ≡ None
    is-none None lacks = refl
    is-none (Some store) lacks = absurd (lacks refl)

    child-within : (d : Content) (to : ℕ) → to < most_regions → IsWithin d (child_of v to)
    child-within d to high =
        let pcc = moved-good laws.code_moves laws.moves (next_pcc p.pcc) p.region to low high pcc-on in
        record {
          code = pcc.code;
          counter = λ t. pcc.inside;
          registers = put-inside (map (λ cap. moved cap p.region to) p.regs) 10 to (from_int 0) (simp length-map (rw process.registers.length_is (omega arith))) (λ t. absurd (false≢true t))
              (moved-inside laws.moves p.regs p.region to low high process.registers within.registers);
        }

    child-process : (to : ℕ) → to < most_regions → IsProcess (child_of v to)
    child-process to high = record {
      registers = put-file (map (λ cap. moved cap p.region to) p.regs) 10 (from_int 0) (λ z. absurd (omega arith)) (omega arith) (moved-file laws.moves p.regs p.region to low high process.registers within.registers);
      pcc = (moved-good laws.code_moves laws.moves (next_pcc p.pcc) p.region to low high pcc-on).pattern;
      zombie = λ status z. absurd (cc);
      status = λ status z. absurd (cc);
    }

    forked-is : (s to : ℕ) → (s < length m.processes) × (process_at m.processes s ≡ None) → (to < m.config.regions) × IsUnlived m.processes to → (answer : Result (Unit {0}) NoFrame)
        → (fork_of c p.region to).answer ≡ answer → IsEffect m slot p (forked v s to (fork_of c p.region to).after answer)
    forked-is s to free region (Ok done) e = record {
      content = (laws.keeps m.config.regions most).fork c p.region to region-low region.0 can.content none;
      setting = record { rule = (laws.setting.fork c p.region to).rule ∙ can.setting.rule; frames = (laws.setting.fork c p.region to).frames ∙ can.setting.frames };
      input = can.works.steady.input;
      deed = record {
        kept = answered-kept after (Gives (m.forks + 2)) (let f = can.works.forks in omega arith) (ap is_some (laws.others.fork c p.region to p.region (region.1 slot p can.works.there can.works.live)) ∙ store-there);
        none = free.1;
        slot_is = free.0;
        id = refl;
        parent = refl;
        region = region.0;
        apart = region.1;
        within = child-within after to high;
        process = child-process to high;
        ready = refl;
        store = ap is_some (laws.forks.child c p.region to e) ∙ some-map (moved_store p.region to) (c.stores p.region) ∙ store-there;
        others = λ r other. laws.others.fork c p.region to r other ∙ can.stores r;
        given_is = can.works.steady.processes.described.each slot (slot-below);
      };
    }
      where
        after : Content
        after = (fork_of c p.region to).after

        high : to < most_regions
        high = let n = most in let less = region.0 in omega arith

        none : c.stores to ≡ None
        none = is-none (c.stores to) (λ h. let l = can.works.steady.processes.stores.live to (ap is_some (sym (can.stores to)) ∙ h) in region.1 l.slot l.process l.there l.live l.region_is)

        slot-below : slot < m.config.slots
        slot-below = subst (λ (n : ℕ). slot < n) can.works.steady.configured.processes (slot-within m.processes slot p can.works.there)
    forked-is s to free region (Err lack) e =
        subst (λ (d : Content). IsEffect m slot p (record (refuses v d Enomem) { lacks = true })) (sym (lack-changes-nothing c p.region to lack e)) (with-lack m slot p (refuses v c Enomem) (refuses-is Enomem))

    fork-is : IsEffect m slot p (row_fork v c)
    unfolding row_fork
    fork-is = by (lowest_free_slot m.processes) refl
      where
        by-region : (s : ℕ) → (s < length m.processes) × (process_at m.processes s ≡ None) → (o : Option ℕ) → lowest_free_region m.config.regions m.processes ≡ o → IsEffect m slot p (fork_into v c s o)
        by-region s free None e = refuses-is Enomem
        by-region s free (Some to) e = let r = laws.places.region m.config.regions m.processes to e in forked-is s to free (r.0, r.1) (fork_of c p.region to).answer refl

        by : (o : Option ℕ) → lowest_free_slot m.processes ≡ o → IsEffect m slot p (fork_at v c o)
        by None e = refuses-is Eagain
        by (Some s) e = let f = laws.places.slot m.processes s e in by-region s (f.0, f.1) (lowest_free_region m.config.regions m.processes) refl

    -- A wait.

    reaped-is : (z : Ended) → IsZombieOf m.processes p.id z → IsEffect m slot p (reaped v c z)
    reaped-is z d = record {
      content = can.content;
      setting = can.setting;
      input = can.works.steady.input;
      deed = record {
        kept = record {
          same = record { id = refl; parent = refl; region = refl; live = refl };
          within = record {
            code = pcc-on.code;
            counter = λ t. pcc-on.inside;
            registers = put-inside first 11 p.region (from_int z.status) (simp length-set (rw process.registers.length_is (omega arith))) (λ t. absurd (false≢true t))
                (put-inside p.regs 10 p.region (from_int z.id) (rw process.registers.length_is (omega arith)) (λ t. absurd (false≢true t)) within.registers);
          };
          process = record {
            registers = put-file first 11 (from_int z.status) (λ e. absurd (omega arith)) (let less = ((can.works.steady.processes.fine d.slot d.process d.there).process).status z.status d.state in omega arith)
                (put-file p.regs 10 (from_int z.id) (λ e. absurd (omega arith)) small process.registers);
            pcc = pcc-on.pattern;
            zombie = λ status e. absurd (cc);
            status = λ status e. absurd (cc);
          };
          underway = tt;
          store = store-there;
        };
        others = stores-stay;
        none = λ k q there live same. by k q there live (d.id ∙ sym same);
      };
    }
      where
        first : List Cap
        first = slice_set p.regs 10 (from_int z.id)

        small : z.id < 2 ^ 128
        small = let last = can.works.steady.processes.ids.last d.slot d.process d.there in let same = d.id in let f = can.works.forks in omega arith

        by : (k : ℕ) (q : Process) → process_at m.processes k ≡ Some q → is_live q.state ≡ true → d.process.id ≡ q.id → ⊥
        by k q there live same =
            let at : d.slot ≡ k = can.works.steady.processes.ids.ids d.slot k d.process q d.there there same in
            let one : process_at m.processes d.slot ≡ Some q = rw at there in
            let two = d.there in
            let is : d.process ≡ q = cc in
            let dead : is_live q.state ≡ false = rw (← is) (rw d.state refl) in
            cc

    wait-is : integer p 17 ≡ wait_call → IsEffect m slot p (row_wait v c)
    unfolding row_wait
    wait-is call = by-some (children_of p.id m.processes).some
      where
        by-ended : (o : Option Ended) → (children_of p.id m.processes).ended ≡ o → IsEffect m slot p (wait_for v c o)
        by-ended None e = waits-with [] InWait refl (record { call = call; at_call = can.at_call })
        by-ended (Some z) e = reaped-is z (laws.children.ended m.processes p.id z e)

        by-some : (b : Bool) → IsEffect m slot p (cond b (wait_for v c (children_of p.id m.processes).ended) (refuses v c Echild))
        by-some true = by-ended (children_of p.id m.processes).ended refl
        by-some false = refuses-is Echild

  -- A transfer.

  can-prepared : (c : Content) (at n : ℕ) (access : Access) → CanCall m slot p c → CanCall m slot p (prepare_of c p.region at n access).after
  can-prepared c at n access can = can-after m slot p c (prepare_of c p.region at n access).after
      ((laws.keeps m.config.regions (most c can)).prepare c p.region at n access (region-low c can) can.content)
      (λ r. ap (λ (f : ℕ → Option Store). f r) (laws.others.prepare c p.region at n access))
      (laws.setting.prepare c p.region at n access)
      can

  fault-still : (c : Content) (at n : ℕ) (access kind : Access) (count : ℕ) → is_fault p c kind count ≡ false → is_fault p (prepare_of c p.region at n access).after kind count ≡ false
  fault-still c at n access kind count fit = fault-same laws.looks p c (prepare_of c p.region at n access).after kind count (ap (λ (f : ℕ → Option Store). f p.region) (laws.others.prepare c p.region at n access)) ∙ fit

  fault-state : (state : State) (c : Content) (access : Access) (count : ℕ) → is_fault (record p { state = state }) c access count ≡ is_fault p c access count
  unfolding is_fault
  fault-state state c access count = refl

  sent-is : (d : Content) → CanCall m slot p d → integer p 17 ≡ write_call → target v.table (integer p 10) ≡ Some ConsoleOut → is_fault p d Read (integer p 12) ≡ false → (notes : List Note) (piece : List ℕ) (done : ℕ)
      → done ≤ integer p 12 → integer p 12 < 2 ^ 64 → IsEffect m slot p (sent v d notes piece done)
  sent-is d can call descriptor fit notes piece done fewer small = by (eqb_tells done (integer p 12))
    where
      by : ((nat_eq done (integer p 12) ≡ true) × (done ≡ integer p 12)) ⊎ ((nat_eq done (integer p 12) ≡ false) × (done ≢ integer p 12))
          → IsEffect m slot p (record (cond (nat_eq done (integer p 12)) (answers v d notes (Gives done)) (waits v d notes (InWrite done))) { printed = piece })
      by (inl (t, e)) = rw t (with-piece m slot p (answers v d notes (Gives done)) piece (answers-is d can notes (Gives done) (omega arith)))
      by (inr (t, e)) = rw t (with-piece m slot p (waits v d notes (InWrite done)) piece (waits-with d can notes (InWrite done) refl
          (record { call = call; descriptor = subst (IsSending (integer p 12) done) (sym descriptor) (omega arith); fit = fault-state (InWrite done) d Read (integer p 12) ∙ fit; at_call = can.at_call })))

  console-write-is : (c : Content) → CanCall m slot p c → integer p 17 ≡ write_call → target v.table (integer p 10) ≡ Some ConsoleOut → is_fault p c Read (integer p 12) ≡ false → (done : ℕ) → done < integer p 12
      → integer p 12 < 2 ^ 64 → IsEffect m slot p (console_write v c done)
  unfolding console_write
  console-write-is c can call descriptor fit done less small = by (prepare_of c p.region at size Read).answer
    where
      at : ℕ
      at = place_of p + done

      size : ℕ
      size = min (integer p 12 - done) most_transfer

      after : Content
      after = (prepare_of c p.region at size Read).after

      by : (answer : Result (List Note) NoFrame) → IsEffect m slot p (printed v done size after answer)
      by (Ok notes) = sent-is after (can-prepared c at size Read can) call descriptor (fault-still c at size Read Read (integer p 12) fit) notes (read_bytes_of after p.region at size) (done + size) (omega arith) small
      by (Err lack) = ends-is after (can-prepared c at size Read can) (lack.before ∷ []) 268 true (omega arith)

  -- a call that is tested first
  tested-is : (c : Content) → CanCall m slot p c → (access : Access) (may : Bool) (transfer : Effect)
      → (may ≡ true → integer p 12 ≢ 0 → is_fault p c access (integer p 12) ≡ false → IsEffect m slot p transfer) → IsEffect m slot p (tested v c access may transfer)
  tested-is c can access may transfer done = by-may may refl
    where
      by-fault : (b : Bool) → is_fault p c access (integer p 12) ≡ b → may ≡ true → integer p 12 ≢ 0 → IsEffect m slot p (cond b (refuses v c Efault) transfer)
      by-fault true f e some = refuses-is c can Efault
      by-fault false f e some = done e some f

      by-count : may ≡ true → ((nat_eq (integer p 12) 0 ≡ true) × (integer p 12 ≡ 0)) ⊎ ((nat_eq (integer p 12) 0 ≡ false) × (integer p 12 ≢ 0))
          → IsEffect m slot p (cond (nat_eq (integer p 12) 0) (answers v c [] (Gives 0)) (cond (is_fault p c access (integer p 12)) (refuses v c Efault) transfer))
      by-count e (inl (t, z)) = rw t (answers-is c can [] (Gives 0) (omega arith))
      by-count e (inr (t, z)) = rw t (by-fault (is_fault p c access (integer p 12)) refl e z)

      by-may : (b : Bool) → may ≡ b
          → IsEffect m slot p (cond (not b) (refuses v c Ebadf) (cond (nat_eq (integer p 12) 0) (answers v c [] (Gives 0)) (cond (is_fault p c access (integer p 12)) (refuses v c Efault) transfer)))
      by-may true e = by-count e (eqb_tells (integer p 12) 0)
      by-may false e = refuses-is c can Ebadf

  write-is : (c : Content) → CanCall m slot p c → integer p 17 ≡ write_call → integer p 12 < 2 ^ 64 → IsUnderway p v.table m.content p.state → IsEffect m slot p (row_write v c)
  unfolding row_write
  write-is c can call small underway =
      tested-is c can Read (is_for_writing (target v.table (integer p 10))) (console_write v c (done_of p.state))
      (λ may some fit. console-write-is c can call (writes-console (target v.table (integer p 10)) may) fit (done_of p.state) (done-is-less p v.table m.content underway some) small)

  -- the bytes of a transfer are among those that were tested
  covers-part : (c : Content) (access : Access) (count n : ℕ) → is_fault p c access count ≡ false → n ≤ count → Covers p.region (place_of p) n access c
  unfolding is_fault
  covers-part c access count n fit less k w = (laws.covers c p.region (place_of p) count access).0 (last-holds _ _ fit) k (omega arith)
    where
      last-holds : (a b : Bool) → (a || not b) ≡ false → b ≡ true
      last-holds true b e = absurd (cc)
      last-holds false true e = refl
      last-holds false false e = absurd (cc)

  stored-is : (d : Content) → CanCall m slot p d → (notes : List Note) (size : ℕ) → size ≤ length m.input → size < 2 ^ 64 → IsPrepared p.region (place_of p) size Write d
      → IsEffect m slot p (record (answers v (write_bytes_of d p.region (place_of p) (take size m.input)) notes (Gives size)) { input = Some (drop size m.input) })
  stored-is d can notes size there small prepared =
      let after = write_bytes_of d p.region (place_of p) (take size m.input) in
      record {
        content = (laws.keeps m.config.regions (most d can)).write_bytes d p.region (place_of p) (take size m.input) (region-low d can) can.content (rw (length-take-le size m.input there) prepared);
        setting = record { rule = (laws.setting.write_bytes d p.region (place_of p) (take size m.input)).rule ∙ can.setting.rule; frames = (laws.setting.write_bytes d p.region (place_of p) (take size m.input)).frames ∙ can.setting.frames };
        input = bytes-left size m.input can.works.steady.input;
        deed = record {
          kept = answered-kept d can after (Gives size) (omega arith) (laws.regions.write_bytes d p.region (place_of p) (take size m.input) p.region ∙ store-there d can);
          others = λ r other. laws.others.write_bytes d p.region (place_of p) (take size m.input) r other ∙ can.stores r;
        };
      }

  console-read-is : (c : Content) → CanCall m slot p c → is_fault p c Write (integer p 12) ≡ false → integer p 12 < 2 ^ 64 → IsEffect m slot p (console_read v c)
  unfolding console_read
  console-read-is c can fit small = by-left (nat_eq (length m.input) 0)
    where
      size : ℕ
      size = read_size v

      after : Content
      after = (prepare_of c p.region (place_of p) size Write).after

      by-answer : (answer : Result (List Note) NoFrame) → (prepare_of c p.region (place_of p) size Write).answer ≡ answer → IsEffect m slot p (taken v size after answer)
      by-answer (Ok notes) e = stored-is after (can-prepared c (place_of p) size Write can) notes size (omega arith) (omega arith)
          (laws.prepared c p.region (place_of p) size Write notes (omega arith) (covers-part c Write (integer p 12) size fit (omega arith)) e)
      by-answer (Err lack) e = ends-is after (can-prepared c (place_of p) size Write can) (lack.before ∷ []) 268 true (omega arith)

      by-left : (b : Bool) → IsEffect m slot p (cond b (answers v c [] (Gives 0)) (taken v size after (prepare_of c p.region (place_of p) size Write).answer))
      by-left true = answers-is c can [] (Gives 0) (omega arith)
      by-left false = by-answer (prepare_of c p.region (place_of p) size Write).answer refl

  read-is : (c : Content) → CanCall m slot p c → integer p 12 < 2 ^ 64 → IsEffect m slot p (row_read v c)
  unfolding row_read
  read-is c can small =
      tested-is c can Write (is_for_reading (target v.table (integer p 10))) (console_read v c) (λ may some fit. console-read-is c can fit small)

  -- Each row.
  row-is : (c : Content) (call : Call) → CanCall m slot p c → call_of (integer p 17) ≡ call → integer p 12 < 2 ^ 64 → IsUnderway p v.table m.content p.state → IsEffect m slot p (row call v c)
  row-is c Exit can e small underway = ends-is c can [] (integer p 10 % 256) false (omega arith)
  row-is c Fork can e small underway = fork-is c can
  row-is c Wait can e small underway = wait-is c can (number-of-wait (integer p 17) e)
  row-is c Getpid can e small underway = answers-is c can [] (Gives p.id) (let last = can.works.steady.processes.ids.last slot p can.works.there in let f = can.works.forks in omega arith)
  row-is c Getppid can e small underway =
      answers-is c can [] (Gives p.parent) (let last = can.works.steady.processes.ids.last slot p can.works.there in let old = can.works.steady.processes.ids.older slot p can.works.there in let f = can.works.forks in omega arith)
  row-is c ReadCall can e small underway = read-is c can small
  row-is c WriteCall can e small underway = write-is c can (number-of-write (integer p 17) e) small underway
  row-is c Yield can e small underway = answers-is c can [] (Gives 0) (omega arith)
  row-is c Other can e small underway = refuses-is c can Enosys

-- an integer of a register is an address, of 64 bits
integer-small : (p : Process) (n : ℕ) → integer p n < 2 ^ 64
integer-small p n = omega arith

pub calls-are-effects : RowLaws → CallsAreEffects
calls-are-effects laws m slot p c can =
    row-is laws m slot p c (call_of (integer p 17)) can refl (integer-small p 12) (can.works.steady.processes.calls slot p can.works.there)
