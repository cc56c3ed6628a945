-- The slot that works.
use Rattle.std.proofs.Props.{props}
use Rattle.std.proofs.Common.{◌≡◌, ◌∙◌, sym, ap, refl, subst, ℕ, ◌<◌, ◌≤◌, ◌⊎◌, inl, inr, Bool, true, false, is_some, Option, Some, None, List, length, take, arith}
use Rattle.std.specs.List.{find, list_any}
use Rattle.std.proofs.Math.Path.{fun_ext}
use Rattle.std.proofs.Math.Bool.{Bool-set}
use Rattle.std.proofs.Math.Bridge.{le_prop}
use Rattle.std.proofs.Math.Logic.{∥∥₁_elim}
use Rattle.std.proofs.lemmas.Bool.{cases_order}
use Rattle.std.proofs.lemmas.List.{get_or_past, length-take}
use Rattle.contents.specs.Content.{Content}
use Rattle.machine_types.specs.declared.config.Outcome.TheVariants.{Running}
use Rattle.machine.specs.declared.process.Process.{Process}
use Rattle.machine.specs.declared.report.Quantum.{Quantum}
use Rattle.machine.specs.Processes.{lives}
use Rattle.machine.specs.Machines.{Clock, Machine}
use Rattle.machine.specs.Applying.{head_of, tail_of, quantum_of, dispatched}
use Rattle.machine.specs.Scanning.{OutcomesAreExact}
use Rattle.machine.specs.Readiness.{is_ready, next_ready, slots_after, outcome_as, outcome_of}
use Rattle.process_table.specs.Tables.{Table, marked, next_marked}
use Rattle.kernel_loop.specs.declared.stepping.Core.{Core}
use Rattle.kernel_loop.specs.Marks.{AreMarked}
use Rattle.kernel_loop.specs.Stands.{machine_of, CoreStands, IsKept, SomeMachine, CanStep, picked_from, slot_from, HasPicked}
use Rattle.kernel_loop.proofs.Props.{IsKept-prop}
use Rattle.kernel_loop.proofs.ReadyParts.{nobody-ready, ready-parts}

-- each slot is marked where its process is ready, and none past the last one is either
marked-agrees : (m : Machine) (t : Table) → m.processes ≡ t.processes → length t.marks ≡ length t.processes → AreMarked m t.marks → (k : ℕ) → marked t k ≡ is_ready m k
marked-agrees m t same long marks k = by (cases_order k (length t.processes))
  where
    past : length t.processes ≤ k → marked t k ≡ is_ready m k
    past beyond = get_or_past t.marks k false (omega (arith, long)) ∙ nobody-ready m t.processes k same (get_or_past t.processes k None beyond)

    by : (k ≡ length t.processes) ⊎ ((k < length t.processes) ⊎ (length t.processes < k)) → marked t k ≡ is_ready m k
    by (inl e) = past (omega arith)
    by (inr (inl low)) = marks k (let count = ap length same in omega arith)
    by (inr (inr high)) = past (omega arith)

-- so the next marked slot is the next ready one
pub next-agrees : (m : Machine) (t : Table) → m.processes ≡ t.processes → length t.marks ≡ length t.processes → AreMarked m t.marks → next_marked t m.clock.last ≡ next_ready m
unfolding next_ready
next-agrees m t same long marks =
    ap (λ (os : List (Option Process)). find (marked t) (slots_after (length os) m.clock.last)) (sym same)
    ∙ ap (λ (f : ℕ → Bool). find f (slots_after (length m.processes) m.clock.last)) (fun_ext (marked-agrees m t same long marks))

-- a machine that runs has a next one
runs-next : (m : Machine) → outcome_of m ≡ Running → next_ready m ≡ None → ⊥
unfolding outcome_of
runs-next m runs none = by (list_any lives m.processes) (ap (λ (o : Option ℕ). outcome_as (list_any lives m.processes) (is_some o)) (sym none) ∙ runs)
  where
    by : (live : Bool) → outcome_as live false ≡ Running → ⊥
    by false same = absurd (cc)
    by true same = absurd (cc)

-- what is told of a dispatch
slot-next : (current next : Option ℕ) (slot : ℕ) (q : Option Quantum) → current ≡ None → next ≡ Some slot → slot_from current next (slot, q)
slot-next None None slot q idle is = absurd (cc)
slot-next None (Some k) slot q idle is = let a = is in cc
slot-next (Some k) next slot q idle is = absurd (cc)

-- and which machine it leaves
next-picked : (m : Machine) (current next : Option ℕ) (slot : ℕ) → current ≡ None → next ≡ Some slot → picked_from m current next ≡ dispatched m slot
next-picked m None None slot idle is = absurd (cc)
next-picked m None (Some k) slot idle is = ap (dispatched m) (let a = is in cc)
next-picked m (Some k) next slot idle is = absurd (cc)

module _ {S : Type 0} (stands_for : S → Content → Type 0) (k : Core S) where
  -- the next slot by the marks is that of each machine
  pub next-of : (m : Machine) → CoreStands stands_for k m → IsKept k → next_marked k.world.processes k.clock.last ≡ next_ready m
  next-of m stands kept = subst (λ (n : Machine). next_marked k.world.processes k.clock.last ≡ next_ready n) (sym stands.is) (next-agrees (machine_of k m.content) k.world.processes refl kept.long (kept.marks m.content))

  -- a slot that was dispatched
  pub picks-next : (slot : ℕ) (q : Quantum) (clock : Clock) (m : Machine) → IsKept k → k.clock.current ≡ None → next_marked k.world.processes k.clock.last ≡ Some slot
      → clock ≡ record k.clock { current = Some slot; quantum = head_of k.clock.rest; last = slot; rest = tail_of k.clock.rest } → q ≡ quantum_of (head_of k.clock.rest)
      → CoreStands stands_for k m → HasPicked m (slot, Some q) (CoreStands stands_for (record k { clock = clock }))
  picks-next slot q clock m kept idle next clock-is q-is stands = record {
    slot = slot-next m.clock.current (next_ready m) slot (Some q) now (sym (next-of m stands kept) ∙ next);
    quantum = λ none. ap Some (q-is ∙ ap (λ (n : Machine). quantum_of (head_of n.clock.rest)) (sym stands.is));
    stands_for = subst (CoreStands stands_for (record k { clock = clock })) (sym (next-picked m m.clock.current (next_ready m) slot now (sym (next-of m stands kept) ∙ next))) (record {
      space = stands.space;
      is = ap (λ (n : Machine). dispatched n slot) stands.is ∙ ap (λ (x : Clock). machine_of (record k { clock = x }) m.content) (sym clock-is);
    });
  }
    where
      now : m.clock.current ≡ None
      now = ap (λ (n : Machine). n.clock.current) stands.is ∙ idle

  -- how the machine stands is told by the marks
  pub outcome-by : (m : Machine) → CoreStands stands_for k m → IsKept k → outcome_of m ≡ outcome_as (list_any lives k.world.processes.processes) (is_some (next_marked k.world.processes k.clock.last))
  unfolding outcome_of
  outcome-by m stands kept =
      ap (λ (os : List (Option Process)). outcome_as (list_any lives os) (is_some (next_ready m))) (ap (λ (n : Machine). n.processes) stands.is)
      ∙ ap (λ (o : Option ℕ). outcome_as (list_any lives k.world.processes.processes) (is_some o)) (sym (next-of m stands kept))

  -- Some sound machine stands.
  module _ {P : Machine → Type 0} (can : ∥ SomeMachine stands_for k P ∥₁) where
    pub core-kept : IsKept k
    core-kept = ∥∥₁_elim can (IsKept-prop k) (λ (s : SomeMachine stands_for k P). s.kept)

    pub last-low : (last : ℕ) → last ≡ k.clock.last → last < length k.world.processes.processes
    last-low last is = ∥∥₁_elim can (hlevel le_prop) (λ (s : SomeMachine stands_for k P).
        let low = s.sound.clock.last in
        let clock = ap (λ (n : Machine). n.clock.last) s.stands.is in
        let count = ap (λ (n : Machine). length n.processes) s.stands.is in
        omega (arith, is, low, clock, count))

    -- where a slot is current, the machine runs
    pub runs-current : OutcomesAreExact → (slot : ℕ) → k.clock.current ≡ Some slot → (m : Machine) → CoreStands stands_for k m → outcome_of m ≡ Running
    runs-current law slot is m stands = (law.running m low).1 (slot, ready)
      where
        low : m.clock.last < length m.processes
        low =
            let below = last-low k.clock.last refl in
            let clock = ap (λ (n : Machine). n.clock.last) stands.is in
            let count = ap (λ (n : Machine). length n.processes) stands.is in
            omega (arith, below, clock, count)

        ready : is_ready m slot ≡ true
        ready = ∥∥₁_elim can (hlevel Bool-set) (λ (s : SomeMachine stands_for k P).
            ready-parts m s.machine slot
            (ap (λ (n : Machine). n.processes) stands.is ∙ sym (ap (λ (n : Machine). n.processes) s.stands.is))
            (ap (λ (n : Machine). n.tables) stands.is ∙ sym (ap (λ (n : Machine). n.tables) s.stands.is))
            (ap (λ (n : Machine). n.pipes) stands.is ∙ sym (ap (λ (n : Machine). n.pipes) s.stands.is))
            ∙ (s.sound.clock.current slot (ap (λ (n : Machine). n.clock.current) s.stands.is ∙ is)).ready)

    pub runs-some : OutcomesAreExact → (current : Option ℕ) → current ≡ k.clock.current → is_some current ≡ true → (m : Machine) → CoreStands stands_for k m → Running ≡ outcome_of m
    runs-some law None is some m stands = absurd (cc)
    runs-some law (Some slot) is some m stands = sym (runs-current law slot (sym is) m stands)

    -- the piece that was printed is the front of the buffer
    pub printed-long : (buffer : List ℕ) → buffer ≡ k.world.buffer.items → k.printed ≡ length (take k.printed buffer)
    printed-long buffer is =
        let all = length-take k.printed buffer in
        let long = ap (λ (bs : List ℕ). length bs) is ∙ core-kept.buffer in
        let short = core-kept.printed in
        omega (arith, all, long, short)

  -- A machine that may step has a next slot.
  pub never-none : ∥ SomeMachine stands_for k CanStep ∥₁ → (last : ℕ) → last ≡ k.clock.last → next_marked k.world.processes last ≡ None → ⊥
  never-none can last is none = ∥∥₁_elim can (hlevel props) (λ (s : SomeMachine stands_for k CanStep).
      runs-next s.machine s.has.running (sym (next-of s.machine s.stands s.kept) ∙ ap (next_marked k.world.processes) (sym is) ∙ none))
