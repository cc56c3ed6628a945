-- How the clock goes on.
use Rattle.std.proofs.Common.{◌≡◌, ◌≢◌, ◌∙◌, sym, ap, refl, ℕ, ◌+◌, ◌-◌, ◌||◌, not, nat_eq, Bool, true, false, Some, None, List, [], ◌∷◌, ◌⊎◌, inl, inr, subst, arith}
use Rattle.std.proofs.lemmas.Bool.Decides.{nat_tests, eqb_tells}
use Rattle.machine.specs.declared.report.WorkEnd.{WorkEnd}
use Rattle.machine.specs.declared.report.WorkEnd.TheVariants.{Plain, Answered, Waiting, Forked, Ended}
use Rattle.machine.specs.Numbers.{yield_call}
use Rattle.machine.specs.Machines.{Machine}
use Rattle.machine.specs.Readiness.{is_ready}
use Rattle.machine.specs.Applying.{head_of, tail_of, less_one, is_spent, is_yield, stops, settled_as, settled}
use Rattle.machine.specs.Turning.{IsNoYield, StaysCurrent, IsIdle, ClocksTurn}

-- what holds however the slot goes on
settled-any : (P : Machine → Type 0) (m : Machine) (slot : ℕ) (end : WorkEnd) → ((b : Bool) → P (settled_as m b)) → P (settled m slot end)
unfolding settled
settled-any P m slot end all = all (stops m slot end)

-- where it stops, and where it doesn't
settled-stops : (m : Machine) (slot : ℕ) (end : WorkEnd) → stops m slot end ≡ true → IsIdle (settled m slot end)
unfolding settled
settled-stops m slot end e = subst (λ (b : Bool). IsIdle (settled_as m b)) (sym e) (record { current = refl; left = refl })

settled-stays : (m : Machine) (slot : ℕ) (end : WorkEnd) → stops m slot end ≡ false → StaysCurrent m (settled m slot end) (less_one m.clock.quantum)
unfolding settled
settled-stays m slot end e = subst (λ (b : Bool). StaysCurrent m (settled_as m b) (less_one m.clock.quantum)) (sym e) (record { current = refl; left = refl })

or-right : (a b : Bool) → b ≡ true → (a || b) ≡ true
or-right true b e = refl
or-right false b e = e

no-yield : (end : WorkEnd) → IsNoYield end → is_yield end ≡ false
no-yield Plain w = refl
no-yield (Answered n answer) w = by (eqb_tells n yield_call)
  where
    by : ((nat_eq n yield_call ≡ true) × (n ≡ yield_call)) ⊎ ((nat_eq n yield_call ≡ false) × (n ≢ yield_call)) → nat_eq n yield_call ≡ false
    by (inl (t, e)) = absurd (w answer (ap (λ (k : ℕ). Answered k answer) e))
    by (inr (t, e)) = t
no-yield (Waiting n) w = refl
no-yield (Forked answer child slot region) w = refl
no-yield (Ended status) w = refl

goes-on : (m : Machine) (slot : ℕ) (end : WorkEnd) → is_spent m.clock.quantum ≡ false → is_ready m slot ≡ true → IsNoYield end → stops m slot end ≡ false
goes-on m slot end spent ready w = rw (spent, ready, no-yield end w) refl

-- a dispatch by the schedule that is left
head-taken : (rest more : List ℕ) (q : ℕ) → rest ≡ q ∷ more → (head_of rest ≡ Some q) × (tail_of rest ≡ more)
head-taken rest more q e = (ap head_of e, ap tail_of e)

none-taken : (rest : List ℕ) → rest ≡ [] → (head_of rest ≡ None) × (tail_of rest ≡ [])
none-taken rest e = (ap head_of e, ap tail_of e)

pub clocks-turn : ClocksTurn
clocks-turn = record {
  steps = λ m slot end. settled-any (λ n. n.clock.steps ≡ m.clock.steps + 1) m slot end (either (λ n. n.clock.steps ≡ m.clock.steps + 1) m refl refl);
  last = λ m slot end. settled-any (λ n. n.clock.last ≡ m.clock.last) m slot end (either (λ n. n.clock.last ≡ m.clock.last) m refl refl);
  rest = λ m slot end. settled-any (λ n. n.clock.rest ≡ m.clock.rest) m slot end (either (λ n. n.clock.rest ≡ m.clock.rest) m refl refl);
  spent = λ m slot end e. settled-stops m slot end (rw (ap is_spent e) refl);
  unready = λ m slot end e. settled-stops m slot end (or-right (is_spent m.clock.quantum) _ (rw e refl));
  yields = λ m slot answer. settled-stops m slot (Answered yield_call answer) (or-right (is_spent m.clock.quantum) _ (or-right (not (is_ready m slot)) true refl));
  goes_on = λ m slot q end ready e w.
      let more : is_spent (Some (q + 2)) ≡ false = grind (arith, nat_tests) in
      let stays = settled-stays m slot end (goes-on m slot end (ap is_spent e ∙ more) ready w) in
      let less : q + 2 - 1 ≡ q + 1 = omega arith in
      record { current = stays.current; left = stays.left ∙ ap less_one e ∙ ap Some less };
  free = λ m slot end ready e w.
      let stays = settled-stays m slot end (goes-on m slot end (ap is_spent e) ready w) in
      record { current = stays.current; left = stays.left ∙ ap less_one e };
  dispatched_last = λ m slot. refl;
  dispatched_current = λ m slot. refl;
  takes = λ m slot q rest e. head-taken m.clock.rest rest q e;
  none_left = λ m slot e. none-taken m.clock.rest e;
}
  where
    either : (P : Machine → Type 0) (m : Machine) → P (settled_as m true) → P (settled_as m false) → (b : Bool) → P (settled_as m b)
    either P m x y true = x
    either P m x y false = y
