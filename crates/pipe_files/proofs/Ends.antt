-- The ends that descriptors name, where one descriptor is written.
use Rattle.std.proofs.Common.{◌≡◌, refl, ℕ, zero, suc, ◌+◌, ◌*◌, ◌<◌, ◌≤◌, Bool, true, false, cond, Option, List, [], ◌∷◌, length, slice_set, arith}
use Rattle.machine.specs.declared.process.Target.{Target}
use Rattle.machine.specs.Pipes.{Table, table_at, target, ends_in, ends_of}
use Rattle.pipe_files.specs.Counts.{one}

-- where a descriptor of a table is written
written-in : (names : Option Target → Bool) (table : Table) (fd : ℕ) (t : Option Target) → fd < length table
    → ends_in names (slice_set table fd t) + one (names (target table fd)) ≡ ends_in names table + one (names t)
written-in names [] fd t within = absurd (omega arith)
written-in names (a ∷ table) zero t within = by (names a) (names t)
  where
    by : (b d : Bool) → cond d (1 + ends_in names table) (ends_in names table) + one b ≡ cond b (1 + ends_in names table) (ends_in names table) + one d
    by true true = refl
    by true false = omega arith
    by false true = omega arith
    by false false = refl
written-in names (a ∷ table) (suc fd) t within = by (names a) (written-in names table fd t (omega arith))
  where
    by : (b : Bool) → ends_in names (slice_set table fd t) + one (names (target table fd)) ≡ ends_in names table + one (names t)
        → cond b (1 + ends_in names (slice_set table fd t)) (ends_in names (slice_set table fd t)) + one (names (target table fd)) ≡ cond b (1 + ends_in names table) (ends_in names table) + one (names t)
    by true e = omega arith
    by false e = e

-- where the table of a slot is
written-of : (names : Option Target → Bool) (tables : List Table) (slot : ℕ) (table : Table) → slot < length tables
    → ends_of names (slice_set tables slot table) + ends_in names (table_at tables slot) ≡ ends_of names tables + ends_in names table
written-of names [] slot table within = absurd (omega arith)
written-of names (t ∷ tables) zero table within = omega arith
written-of names (t ∷ tables) (suc slot) table within = let rest = written-of names tables slot table (omega arith) in omega arith

-- where a descriptor of a slot is
pub written : (names : Option Target → Bool) (tables : List Table) (slot fd : ℕ) (t : Option Target) → slot < length tables → fd < length (table_at tables slot)
    → ends_of names (slice_set tables slot (slice_set (table_at tables slot) fd t)) + one (names (target (table_at tables slot) fd)) ≡ ends_of names tables + one (names t)
written names tables slot fd t low within =
    let all = written-of names tables slot (slice_set (table_at tables slot) fd t) low in
    let one-table = written-in names (table_at tables slot) fd t within in
    omega arith

-- No more descriptors name an end than there are.
few-in : (names : Option Target → Bool) (table : Table) → ends_in names table ≤ length table
few-in names [] = omega arith
few-in names (a ∷ table) = by (names a) (few-in names table)
  where
    by : (b : Bool) → ends_in names table ≤ length table → cond b (1 + ends_in names table) (ends_in names table) ≤ suc (length table)
    by true less = omega arith
    by false less = omega arith

pub few-of : (names : Option Target → Bool) (tables : List Table) (most : ℕ) → ((slot : ℕ) → slot < length tables → length (table_at tables slot) ≤ most) → ends_of names tables ≤ most * length tables
few-of names [] most short = omega arith
few-of names (t ∷ tables) most short =
    let rest = few-of names tables most (λ slot low. short (suc slot) (omega arith)) in
    let here = few-in names t in
    let first = short 0 (omega arith) in
    omega arith

-- an end that a descriptor names is counted
has-in : (names : Option Target → Bool) (table : Table) (fd : ℕ) → fd < length table → one (names (target table fd)) ≤ ends_in names table
has-in names [] fd within = absurd (omega arith)
has-in names (a ∷ table) zero within = by (names a)
  where
    by : (b : Bool) → one b ≤ cond b (1 + ends_in names table) (ends_in names table)
    by true = omega arith
    by false = omega arith
has-in names (a ∷ table) (suc fd) within = by (names a) (has-in names table fd (omega arith))
  where
    by : (b : Bool) → one (names (target table fd)) ≤ ends_in names table → one (names (target table fd)) ≤ cond b (1 + ends_in names table) (ends_in names table)
    by true less = omega arith
    by false less = less

pub has-of : (names : Option Target → Bool) (tables : List Table) (slot fd : ℕ) → slot < length tables → fd < length (table_at tables slot)
    → one (names (target (table_at tables slot) fd)) ≤ ends_of names tables
has-of names [] slot fd low within = absurd (omega arith)
has-of names (t ∷ tables) zero fd low within = let here = has-in names t fd within in omega arith
has-of names (t ∷ tables) (suc slot) fd low within = let rest = has-of names tables slot fd (omega arith) within in omega arith
