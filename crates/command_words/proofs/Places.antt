-- The place of a fault.
use Rattle.std.proofs.Common.{◌≡◌, refl, ℕ, zero, suc, ◌+◌, ◌<◌, true, List, [], length, take, inl, inr, arith, below_more}
use Rattle.std.proofs.lemmas.Bool.{cases_Bool, cases_order, both_ways}
use Rattle.command_words.specs.Grammar.{Word, begins_command}
use Rattle.command_words.specs.Commands.{fault_from, fault_place, IsFaultAt}

-- where the words up to a place and all before begin a command, the place that is looked for from there on is that of the fault
fault-from : (words : List Word) (place left : ℕ) → place + left ≡ length words → ((k : ℕ) → k < place + 1 → begins_command (take k words) ≡ true) → IsFaultAt words (fault_from words place left)
fault-from words place zero whole before = record {
  some = omega arith;
  within = omega arith;
  before = before;
  at = λ within. absurd (omega arith);
}
fault-from words place (suc left) whole before = elim (cases_Bool (begins_command (take (place + 1) words))) [
  | inl begins ↦ rw begins (fault-from words (place + 1) left (omega arith) (below_more (λ k. begins_command (take k words) ≡ true) (place + 1) before begins))
  | inr none ↦ rw none (record { some = omega arith; within = omega arith; before = before; at = λ within. none })
]

-- words that are none begin a command
pub none-begins : begins_command [] ≡ true
unfolding begins_command
none-begins = refl

-- the place of the fault of words
pub fault-of : (words : List Word) → IsFaultAt words (fault_place words)
fault-of words = fault-from words 0 (length words) (omega arith) (λ k small. let first : k ≡ 0 = omega arith in rw first none-begins)

-- of two places of faults none is below the other
not-below : (words : List Word) (p q : ℕ) → IsFaultAt words p → IsFaultAt words q → p < q → ⊥
not-below words p q first second below = both_ways _ (first.at (omega (arith, second.within))) (second.before p below)

-- words have one place of a fault
pub one-fault : (words : List Word) (p q : ℕ) → IsFaultAt words p → IsFaultAt words q → p ≡ q
one-fault words p q first second = elim (cases_order p q) [
  | inl same ↦ same
  | inr apart ↦ elim apart [
    | inl below ↦ absurd (not-below words p q first second below)
    | inr above ↦ absurd (not-below words q p second first above)
  ]
]
