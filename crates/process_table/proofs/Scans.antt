-- Scans of slots by a loop.
use Rattle.std.proofs.Common.{◌≡◌, ◌≢◌, ◌∙◌, sym, ap, refl, ℕ, suc, ◌+◌, ◌-◌, ◌≤◌, ◌<◌, ◌⊎◌, inl, inr, Bool, true, false, Option, Some, None, List, ◌∷◌, length, drop, map, slice_index_or, arith}
use Rattle.std.specs.List.{find, range_with_len}
use Rattle.std.proofs.lemmas.Bool.{cases_order}
use Rattle.std.proofs.Math.Seq.{drop-cons}
use Rattle.std.proofs.lemmas.List.Folds.{find-append}
use Rattle.std.proofs.lemmas.List.{drop_all}
use Rattle.machine.specs.declared.process.Process.{Process}
use Rattle.machine.specs.Processes.{process_at, lowest_free_slot, Ended, ended_child, with_lower, first_ended, without_id}
use Rattle.machine.specs.Readiness.{slots_after}
use Rattle.machine.specs.Scanning.{PlacesAreLowest}
use Rattle.process_table.specs.Tables.{Table, told, reaped}

-- a scan of numbers goes past one that doesn't pass, and ends at one that does
pub range-past : (passes : ℕ → Bool) (from to : ℕ) → from < to → passes from ≡ false → find passes (range_with_len from (to - from)) ≡ find passes (range_with_len (from + 1) (to - (from + 1)))
range-past passes from to less fails = ap (λ (n : ℕ). find passes (range_with_len from n)) split ∙ rw fails refl
  where
    split : to - from ≡ suc (to - (from + 1))
    split = omega arith

pub range-here : (passes : ℕ → Bool) (from to : ℕ) → from < to → passes from ≡ true → find passes (range_with_len from (to - from)) ≡ Some from
range-here passes from to less holds = ap (λ (n : ℕ). find passes (range_with_len from n)) split ∙ rw holds refl
  where
    split : to - from ≡ suc (to - (from + 1))
    split = omega arith

pub range-end : (passes : ℕ → Bool) (to : ℕ) → find passes (range_with_len to (to - to)) ≡ None
range-end passes to = ap (λ (n : ℕ). find passes (range_with_len to n)) none
  where
    none : to - to ≡ 0
    none = omega arith

-- each slot below has a process
abbrev pub AllTaken : List (Option Process) → ℕ → Type 0
AllTaken processes k = (j : ℕ) → j < k → process_at processes j ≢ None

-- a slot without a process below which each has one is the lowest free one
pub lowest-is : PlacesAreLowest → (processes : List (Option Process)) (k : ℕ) → k < length processes → process_at processes k ≡ None → AllTaken processes k → lowest_free_slot processes ≡ Some k
lowest-is places processes k low none taken = by (lowest_free_slot processes) refl
  where
    by : (o : Option ℕ) → lowest_free_slot processes ≡ o → o ≡ Some k
    by None e = absurd ((places.no_slot processes).0 e k low none)
    by (Some j) e = by-order (places.slot processes j e) (cases_order j k)
      where
        by-order : (j < length processes) × (process_at processes j ≡ None) × ((i : ℕ) → i < j → process_at processes i ≢ None) → (j ≡ k) ⊎ ((j < k) ⊎ (k < j)) → ◌≡◌ {A = Option ℕ} (Some j) (Some k)
        by-order found (inl same) = ap Some same
        by-order found (inr (inl less)) = absurd (taken j less found.1)
        by-order found (inr (inr less)) = absurd (found.2 k less none)

-- where each slot has a process there is none
pub none-free : PlacesAreLowest → (processes : List (Option Process)) → AllTaken processes (length processes) → lowest_free_slot processes ≡ None
none-free places processes taken = (places.no_slot processes).1 taken

-- the first of some slots is looked at, and the others behind it
ended-cons : (parent : ℕ) (o : Option Process) (rest : List (Option Process)) → first_ended parent (o ∷ rest) ≡ with_lower (ended_child parent o) (first_ended parent rest)
unfolding first_ended
ended-cons parent o rest = refl

-- one slot more is looked at for a Zombie child
pub ended-more : (parent : ℕ) (processes : List (Option Process)) (k : ℕ) → k < length processes
    → first_ended parent (drop k processes) ≡ with_lower (ended_child parent (process_at processes k)) (first_ended parent (drop (k + 1) processes))
ended-more parent processes k less =
    let next : k + 1 ≡ suc k = omega arith in
    rw next (ap (first_ended parent) (drop-cons processes k None less) ∙ ended-cons parent (process_at processes k) (drop (suc k) processes))

-- behind the last slot there is none
pub ended-none : (parent : ℕ) (processes : List (Option Process)) (k : ℕ) → length processes ≤ k → first_ended parent (drop k processes) ≡ None
unfolding first_ended
ended-none parent processes k past = rw (drop_all k processes past) refl

-- The next slot: a marked one behind the last slot, or else one from 0 on.
pub next-here : (passes : ℕ → Bool) (n last k : ℕ) → ◌≡◌ {A = Option ℕ} (Some k) (find passes (range_with_len (last + 1) (n - (last + 1)))) → ◌≡◌ {A = Option ℕ} (Some k) (find passes (slots_after n last))
next-here passes n last k e = rw (find-append passes (range_with_len (last + 1) (n - (last + 1))) (range_with_len 0 (last + 1)), ← e) refl

pub next-later : (passes : ℕ → Bool) (n last : ℕ) (o : Option ℕ) → ◌≡◌ {A = Option ℕ} None (find passes (range_with_len (last + 1) (n - (last + 1)))) → o ≡ find passes (range_with_len 0 (last + 1)) → o ≡ find passes (slots_after n last)
next-later passes n last o none e = e ∙ sym (find-append passes (range_with_len (last + 1) (n - (last + 1))) (range_with_len 0 (last + 1)) ∙ rw (← none) refl)

-- the Zombie that is told is the one that is removed
pub reaped-is : (t : Table) (o : Option Ended) (child : ℕ × ℕ) → ◌≡◌ {A = Option (ℕ × ℕ)} (Some child) (told o) → record t { processes = map (without_id child.0) t.processes } ≡ reaped t o
reaped-is t None child e = absurd (cc)
reaped-is t (Some z) child e = let same : child ≡ (z.id, z.status) = cc in ap (λ (c : ℕ × ℕ). record t { processes = map (without_id c.0) t.processes }) same

-- the marks and the number of slots of a scan are those of the table
pub scan-same : (marks same : List Bool) (from n count : ℕ) → marks ≡ same → n ≡ count
    → find (λ slot. slice_index_or marks slot false) (range_with_len from (n - from)) ≡ find (λ slot. slice_index_or same slot false) (range_with_len from (count - from))
scan-same marks same from n count e f = rw (e, f) refl

pub scan-first : (marks same : List Bool) (n : ℕ) → marks ≡ same → find (λ slot. slice_index_or marks slot false) (range_with_len 0 (n - 0)) ≡ find (λ slot. slice_index_or same slot false) (range_with_len 0 n)
scan-first marks same n e = let all : n - 0 ≡ n = omega arith in rw (e, all) refl
