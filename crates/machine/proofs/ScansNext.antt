-- The slot that is next, and when a machine is done, stuck or running.
use Rattle.std.proofs.Common.{◌≡◌, ◌∙◌, refl, ap, ℕ, ◌+◌, ◌-◌, ◌%◌, ◌≤◌, ◌<◌, ◌⊎◌, inl, inr, Option, Some, None, List, [], ◌∷◌, length, cond, true, false, Bool, subst, arith}
use Rattle.std.specs.Prelude.{◌↔◌, is_some}
use Rattle.std.specs.Option.{option_or}
use Rattle.std.specs.List.{list_any, find, range_with_len}
use Rattle.std.proofs.Math.Nat.{mod-eq_of_lt, add-mod_right}
use Rattle.std.proofs.lemmas.Bool.{cases_lt, false_from_ne_true}
use Rattle.std.proofs.lemmas.List.{get_or_past}
use Rattle.std.proofs.lemmas.List.Folds.{find-append}
use Rattle.machine_types.specs.declared.config.Outcome.TheVariants.{Running, Done, Stuck}
use Rattle.machine.specs.declared.process.Process.{Process}
use Rattle.machine.specs.declared.process.State.{State}
use Rattle.machine.specs.declared.process.State.TheVariants.{Ready, InRead, InWrite, InWait, Zombie}
use Rattle.machine.specs.Processes.{process_at, is_live, lives, Children, children_of}
use Rattle.machine.specs.Pipes.{Table, table_at, Pipe, pipes_of}
use Rattle.machine.specs.Machines.{Machine}
use Rattle.machine.specs.Readiness.{ready_as, ready_in, is_ready, slots_after, next_ready, outcome_as, outcome_of}
use Rattle.machine.specs.Scanning.{LivesAt, turns, NoneLives, NoneIsReady}
use Rattle.machine.proofs.ScansFound.{NonePass, IsLowest, range-found, range-none, any-place, any-from-place}

-- What is ready lives.

-- a Zombie is never ready
ready-live : (p : Process) (table : Table) (pipes : List Pipe) (children : Children) (state : State) → ready_as p table pipes children state ≡ true → is_live state ≡ true
ready-live p table pipes children Ready e = refl
ready-live p table pipes children InRead e = refl
ready-live p table pipes children (InWrite done) e = refl
ready-live p table pipes children InWait e = refl
ready-live p table pipes children (Zombie status) e = cc

-- a ready slot has a live process
pub ready-lives : (m : Machine) (slot : ℕ) → is_ready m slot ≡ true → LivesAt m.processes slot
unfolding is_ready
ready-lives m slot = by (process_at m.processes slot) refl
  where
    by : (o : Option Process) → process_at m.processes slot ≡ o → ready_in m slot o ≡ true → LivesAt m.processes slot
    by None there e = absurd (cc)
    by (Some p) there e = record { process = p; there = there; live = ready-live p (table_at m.tables slot) (pipes_of m.tables m.pipes) (children_of p.id m.processes) p.state e }

-- What lives is at a slot.
lives-within : (processes : List (Option Process)) (slot : ℕ) → LivesAt processes slot → slot < length processes
lives-within processes slot live = by (cases_lt slot (length processes))
  where
    by : (slot < length processes) ⊎ (length processes ≤ slot) → slot < length processes
    by (inl less) = less
    by (inr past) = let none : process_at processes slot ≡ None = get_or_past processes slot None past in let some = live.there in absurd (cc)

-- so is what is ready
ready-within : (m : Machine) (slot : ℕ) → is_ready m slot ≡ true → slot < length m.processes
ready-within m slot ready = lives-within m.processes slot (ready-lives m slot ready)

-- The first ready slot.

-- It is above the last one, and the lowest ready slot there;
record IsAbove (ready : ℕ → Bool) (slots last slot : ℕ) : Type 0 where
  pub lowest : IsLowest ready (last + 1) slots slot

-- or none above is ready, and it is the lowest of the others.
record IsAround (ready : ℕ → Bool) (slots last slot : ℕ) : Type 0 where
  pub above : NonePass ready (last + 1) slots
  pub lowest : IsLowest ready 0 (last + 1) slot

-- what the scan finds
abbrev IsScanned : (ℕ → Bool) → ℕ → ℕ → Option ℕ → Type 0
IsScanned ready slots last None = NonePass ready (last + 1) slots × NonePass ready 0 (last + 1)
IsScanned ready slots last (Some slot) = IsAbove ready slots last slot ⊎ IsAround ready slots last slot

-- The scan of the slots above finds one, or else that of the slots around.
scanned : (ready : ℕ → Bool) (slots last : ℕ) → last < slots → IsScanned ready slots last (find ready (slots_after slots last))
scanned ready slots last within = rw (find-append ready (range_with_len (last + 1) (slots - (last + 1))) (range_with_len 0 (last + 1))) (by (find ready (range_with_len (last + 1) (slots - (last + 1)))) (find ready (range_with_len 0 (last + 1))) refl refl)
  where
    whole : last + 1 + (slots - (last + 1)) ≡ slots
    whole = omega arith

    start : 0 + (last + 1) ≡ last + 1
    start = omega arith

    by : (a b : Option ℕ) → find ready (range_with_len (last + 1) (slots - (last + 1))) ≡ a → find ready (range_with_len 0 (last + 1)) ≡ b → IsScanned ready slots last (option_or a b)
    by (Some slot) b e f = inl (record { lowest = subst (λ (to : ℕ). IsLowest ready (last + 1) to slot) whole (range-found ready (slots - (last + 1)) (last + 1) slot e) })
    by None (Some slot) e f = inr (record {
      above = subst (λ (to : ℕ). NonePass ready (last + 1) to) whole (range-none ready (slots - (last + 1)) (last + 1) e);
      lowest = subst (λ (to : ℕ). IsLowest ready 0 to slot) start (range-found ready (last + 1) 0 slot f);
    })
    by None None e f = (subst (λ (to : ℕ). NonePass ready (last + 1) to) whole (range-none ready (slots - (last + 1)) (last + 1) e), subst (λ (to : ℕ). NonePass ready 0 to) start (range-none ready (last + 1) 0 f))

-- of a machine
next-scanned : (m : Machine) → m.clock.last < length m.processes → IsScanned (is_ready m) (length m.processes) m.clock.last (next_ready m)
unfolding next_ready
next-scanned m within = scanned (is_ready m) (length m.processes) m.clock.last within

-- What is found is ready, whatever the last slot was.
found-passes : (passes : ℕ → Bool) (xs : List ℕ) (k : ℕ) → find passes xs ≡ Some k → passes k ≡ true
found-passes passes [] k e = absurd (cc)
found-passes passes (x ∷ xs) k e = by (passes x) refl e (found-passes passes xs k)
  where
    by : (b : Bool) → passes x ≡ b → cond b (Some x) (find passes xs) ≡ Some k → (find passes xs ≡ Some k → passes k ≡ true) → passes k ≡ true
    by true f e rest = let is : x ≡ k = cc in rw (← is) f
    by false f e rest = rest e

-- the next slot is ready
pub next-ready : (m : Machine) (slot : ℕ) → next_ready m ≡ Some slot → is_ready m slot ≡ true
unfolding next_ready
next-ready m slot e = found-passes (is_ready m) (slots_after (length m.processes) m.clock.last) slot e

-- and one of the slots
pub next-slot : (m : Machine) (slot : ℕ) → m.clock.last < length m.processes → next_ready m ≡ Some slot → slot < length m.processes
next-slot m slot within e = ready-within m slot (next-ready m slot e)

-- How far slots are.

-- above the last one, so many slots on
turns-above : (slots last k : ℕ) → last < k → k < slots → turns slots last k ≡ k - (last + 1)
turns-above slots last k above below =
    let split : k + slots - (last + 1) ≡ k - (last + 1) + slots = omega arith in
    ap (λ (n : ℕ). n % slots) split ∙ add-mod_right (k - (last + 1)) slots ∙ mod-eq_of_lt (omega arith)

-- up to the last one, after those above
turns-around : (slots last k : ℕ) → k ≤ last → last < slots → turns slots last k ≡ k + slots - (last + 1)
turns-around slots last k below within = mod-eq_of_lt (omega arith)

-- No ready slot comes before the one that is found, where it is above,
first-above : (ready : ℕ → Bool) (slots last slot k : ℕ) → last < slots → k < slots → IsAbove ready slots last slot → ready k ≡ true → turns slots last slot ≤ turns slots last k
first-above ready slots last slot k within below is passes = by (cases_lt last k) (cases_lt k slot)
  where
    from : last + 1 ≤ slot
    from = is.lowest.from_is

    to : slot < slots
    to = is.lowest.below

    by : (last < k) ⊎ (k ≤ last) → (k < slot) ⊎ (slot ≤ k) → turns slots last slot ≤ turns slots last k
    by (inl above) (inl less) = let none = is.lowest.lower k (omega arith) less in absurd (cc)
    by (inl above) (inr more) = let a = from in let b = to in rw (turns-above slots last slot (omega arith) to, turns-above slots last k above below) (omega arith)
    by (inr around) other = let a = from in let b = to in rw (turns-above slots last slot (omega arith) to, turns-around slots last k around within) (omega arith)

-- and where it is around.
first-around : (ready : ℕ → Bool) (slots last slot k : ℕ) → last < slots → k < slots → IsAround ready slots last slot → ready k ≡ true → turns slots last slot ≤ turns slots last k
first-around ready slots last slot k within below is passes = by (cases_lt last k) (cases_lt k slot)
  where
    to : slot < last + 1
    to = is.lowest.below

    by : (last < k) ⊎ (k ≤ last) → (k < slot) ⊎ (slot ≤ k) → turns slots last slot ≤ turns slots last k
    by (inl above) other = let none = is.above k (omega arith) below in absurd (cc)
    by (inr around) (inl less) = let none = is.lowest.lower k (omega arith) less in absurd (cc)
    by (inr around) (inr more) = let b = to in rw (turns-around slots last slot (omega arith) within, turns-around slots last k around within) (omega arith)

-- the next slot is the first
pub next-first : (m : Machine) (slot k : ℕ) → m.clock.last < length m.processes → next_ready m ≡ Some slot → is_ready m k ≡ true
    → turns (length m.processes) m.clock.last slot ≤ turns (length m.processes) m.clock.last k
next-first m slot k within e ready = by (subst (IsScanned (is_ready m) (length m.processes) m.clock.last) e (next-scanned m within))
  where
    by : IsAbove (is_ready m) (length m.processes) m.clock.last slot ⊎ IsAround (is_ready m) (length m.processes) m.clock.last slot
        → turns (length m.processes) m.clock.last slot ≤ turns (length m.processes) m.clock.last k
    by (inl above) = first-above (is_ready m) (length m.processes) m.clock.last slot k within (ready-within m k ready) above ready
    by (inr around) = first-around (is_ready m) (length m.processes) m.clock.last slot k within (ready-within m k ready) around ready

-- None is found exactly where no slot is ready.
none-ready : (m : Machine) → m.clock.last < length m.processes → next_ready m ≡ None → NoneIsReady m
none-ready m within e k = false_from_ne_true (is_ready m k) (λ ready. by (ready-within m k ready) ready (cases_lt m.clock.last k))
  where
    none : NonePass (is_ready m) (m.clock.last + 1) (length m.processes) × NonePass (is_ready m) 0 (m.clock.last + 1)
    none = subst (IsScanned (is_ready m) (length m.processes) m.clock.last) e (next-scanned m within)

    by : k < length m.processes → is_ready m k ≡ true → (m.clock.last < k) ⊎ (k ≤ m.clock.last) → ⊥
    by below ready (inl above) = let not = none.0 k (omega arith) below in cc
    by below ready (inr around) = let not = none.1 k (omega arith) (omega arith) in cc

-- where none is ready, none is found
none-found : (m : Machine) → NoneIsReady m → next_ready m ≡ None
none-found m none = by (next_ready m) refl
  where
    by : (o : Option ℕ) → next_ready m ≡ o → o ≡ None
    by None e = refl
    by (Some slot) e = let ready = next-ready m slot e in let not = none slot in absurd (cc)

-- both ways
pub next-none : (m : Machine) → m.clock.last < length m.processes → (next_ready m ≡ None) ↔ ((k : ℕ) → is_ready m k ≡ false)
next-none m within = (none-ready m within, none-found m)

-- Outcomes.

-- a process that lives, as the scan for one says
live-at : (processes : List (Option Process)) (k : ℕ) → lives (process_at processes k) ≡ true → LivesAt processes k
live-at processes k = by (process_at processes k) refl
  where
    by : (o : Option Process) → process_at processes k ≡ o → lives o ≡ true → LivesAt processes k
    by None there e = absurd (cc)
    by (Some p) there e = record { process = p; there = there; live = e }

-- the scan finds what lives
lives-found : (processes : List (Option Process)) (k : ℕ) → LivesAt processes k → list_any lives processes ≡ true
lives-found processes k live = any-from-place lives processes k refl (let there = live.there in rw there live.live)

-- and finds nothing else
some-lives : (processes : List (Option Process)) → list_any lives processes ≡ true → (k : ℕ) × LivesAt processes k
some-lives processes e = let at = any-place lives processes e in (at.place, live-at processes at.place at.passes_there)

-- the machine has this outcome, by whether a process lives and which slot is next
outcome-is : (m : Machine) (some : Bool) (next : Option ℕ) → list_any lives m.processes ≡ some → next_ready m ≡ next → outcome_of m ≡ outcome_as some (is_some next)
unfolding outcome_of
outcome-is m some next e f = rw (e, f) refl

-- done where none lives
pub done-is : (m : Machine) → (outcome_of m ≡ Done) ↔ NoneLives m
done-is m = by (list_any lives m.processes) (next_ready m) refl refl
  where
    by : (some : Bool) (next : Option ℕ) → list_any lives m.processes ≡ some → next_ready m ≡ next → (outcome_of m ≡ Done) ↔ NoneLives m
    by false next e f = (λ done k live. let found = lives-found m.processes k live in cc, λ none. outcome-is m false next e f)
    by true None e f = let is = outcome-is m true None e f in (λ done. absurd (cc), λ none. let w = some-lives m.processes e in absurd (none w.0 w.1))
    by true (Some slot) e f = let is = outcome-is m true (Some slot) e f in (λ done. absurd (cc), λ none. let w = some-lives m.processes e in absurd (none w.0 w.1))

-- stuck where one lives and none is ready
pub stuck-is : (m : Machine) → m.clock.last < length m.processes → (outcome_of m ≡ Stuck) ↔ (((k : ℕ) × LivesAt m.processes k) × NoneIsReady m)
stuck-is m within = by (list_any lives m.processes) (next_ready m) refl refl
  where
    by : (some : Bool) (next : Option ℕ) → list_any lives m.processes ≡ some → next_ready m ≡ next → (outcome_of m ≡ Stuck) ↔ (((k : ℕ) × LivesAt m.processes k) × NoneIsReady m)
    by false next e f = let is = outcome-is m false next e f in (λ stuck. absurd (cc), λ w. let found = lives-found m.processes w.0.0 w.0.1 in absurd (cc))
    by true None e f = let is = outcome-is m true None e f in (λ stuck. (some-lives m.processes e, none-ready m within f), λ w. is)
    by true (Some slot) e f = let is = outcome-is m true (Some slot) e f in (λ stuck. absurd (cc), λ w. let ready = next-ready m slot f in let not = w.1 slot in absurd (cc))

-- running where one is ready
pub running-is : (m : Machine) → m.clock.last < length m.processes → (outcome_of m ≡ Running) ↔ ((k : ℕ) × (is_ready m k ≡ true))
running-is m within = by (list_any lives m.processes) (next_ready m) refl refl
  where
    by : (some : Bool) (next : Option ℕ) → list_any lives m.processes ≡ some → next_ready m ≡ next → (outcome_of m ≡ Running) ↔ ((k : ℕ) × (is_ready m k ≡ true))
    by false next e f = let is = outcome-is m false next e f in (λ runs. absurd (cc), λ w. let found = lives-found m.processes w.0 (ready-lives m w.0 w.1) in absurd (cc))
    by true None e f = let is = outcome-is m true None e f in (λ runs. absurd (cc), λ w. let not = none-ready m within f w.0 in let ready = w.1 in absurd (cc))
    by true (Some slot) e f = let is = outcome-is m true (Some slot) e f in (λ runs. (slot, next-ready m slot f), λ w. is)
