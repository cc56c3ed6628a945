-- Pipes as they are seen, and pipes where those that are free are empty.
use Rattle.std.proofs.Common.{◌≡◌, ◌≢◌, refl, ap, ℕ, zero, suc, ◌+◌, ◌<◌, ◌⊎◌, inl, inr, ◌&&◌, nat_eq, List, [], ◌∷◌, length, cond, true, false, Bool, arith}
use Rattle.std.proofs.lemmas.Bool.Decides.{eqb_tells}
use Rattle.std.specs.Prelude.{slice_index_or}
use Rattle.machine.specs.Pipes.{Table, readers_of, writers_of, Pipe, pipes_from, pipes_of, pipe_at, is_unused, swept_from, swept}

-- Seen pipes.

-- each pipe of a list is seen with its bytes
bytes-from : (tables : List Table) (pipes : List (List ℕ)) (n k : ℕ) → (pipe_at (pipes_from tables n pipes) k).bytes ≡ slice_index_or pipes k []
bytes-from tables [] n k = refl
bytes-from tables (bytes ∷ pipes) n zero = refl
bytes-from tables (bytes ∷ pipes) n (suc k) = bytes-from tables pipes (n + 1) k

-- a pipe is seen with the ends of its number
record IsSeen (tables : List Table) (pipe : Pipe) (k : ℕ) : Type 0 where
  pub readers : pipe.readers ≡ readers_of tables k
  pub writers : pipe.writers ≡ writers_of tables k

-- Each pipe of a list from a number on is seen so.
seen-from : (tables : List Table) (pipes : List (List ℕ)) (n k : ℕ) → k < length pipes → IsSeen tables (pipe_at (pipes_from tables n pipes) k) (n + k)
seen-from tables [] n k within = absurd (omega arith)
seen-from tables (bytes ∷ pipes) n zero within = let same : n + 0 ≡ n = omega arith in rw same (record { readers = refl; writers = refl })
seen-from tables (bytes ∷ pipes) n (suc k) within = let same : n + suc k ≡ n + 1 + k = omega arith in rw same (seen-from tables pipes (n + 1) k (omega arith))

-- its bytes, its readers and its writers
pub pipe-bytes : (tables : List Table) (pipes : List (List ℕ)) (k : ℕ) → (pipe_at (pipes_of tables pipes) k).bytes ≡ slice_index_or pipes k []
pipe-bytes tables pipes k = bytes-from tables pipes 0 k

pub pipe-readers : (tables : List Table) (pipes : List (List ℕ)) (k : ℕ) → k < length pipes → (pipe_at (pipes_of tables pipes) k).readers ≡ readers_of tables k
pipe-readers tables pipes k within = let same : 0 + k ≡ k = omega arith in rw same at (seen-from tables pipes 0 k within).readers

pub pipe-writers : (tables : List Table) (pipes : List (List ℕ)) (k : ℕ) → k < length pipes → (pipe_at (pipes_of tables pipes) k).writers ≡ writers_of tables k
pipe-writers tables pipes k within = let same : 0 + k ≡ k = omega arith in rw same at (seen-from tables pipes 0 k within).writers

-- Swept pipes.

-- as many pipes are left
count-from : (tables : List Table) (n : ℕ) (pipes : List (List ℕ)) → length (swept_from tables n pipes) ≡ length pipes
count-from tables n [] = refl
count-from tables n (bytes ∷ pipes) = ap suc (count-from tables (n + 1) pipes)

-- A pipe of a list from a number on is empty where it is unused, and else as it was.
swept-at : (tables : List Table) (n : ℕ) (pipes : List (List ℕ)) (k : ℕ) (b : Bool) → is_unused tables (n + k) ≡ b → slice_index_or (swept_from tables n pipes) k [] ≡ cond b [] (slice_index_or pipes k [])
swept-at tables n [] k true e = refl
swept-at tables n [] k false e = refl
swept-at tables n (bytes ∷ pipes) zero b e = let same : n + 0 ≡ n = omega arith in let unused : is_unused tables n ≡ b = rw same at e in rw unused refl
swept-at tables n (bytes ∷ pipes) (suc k) b e =
    let same : n + suc k ≡ n + 1 + k = omega arith in
    swept-at tables (n + 1) pipes k b (rw same at e)

-- as many as before, those in use as they were, and the free ones empty
pub swept-count : (tables : List Table) (pipes : List (List ℕ)) → length (swept tables pipes) ≡ length pipes
unfolding swept
swept-count tables pipes = count-from tables 0 pipes

pub swept-used : (tables : List Table) (pipes : List (List ℕ)) (k : ℕ) → is_unused tables k ≡ false → slice_index_or (swept tables pipes) k [] ≡ slice_index_or pipes k []
unfolding swept
swept-used tables pipes k e = let same : k ≡ 0 + k = omega arith in swept-at tables 0 pipes k false (rw same at e)

pub swept-free : (tables : List Table) (pipes : List (List ℕ)) (k : ℕ) → is_unused tables k ≡ true → slice_index_or (swept tables pipes) k [] ≡ []
unfolding swept
swept-free tables pipes k e = let same : k ≡ 0 + k = omega arith in swept-at tables 0 pipes k true (rw same at e)

-- A pipe is unused where no descriptor names either end, and in use where one does.
named-used : (readers writers : ℕ) → (readers ≢ 0) ⊎ (writers ≢ 0) → (nat_eq readers 0 && nat_eq writers 0) ≡ false
named-used readers writers h = by (eqb_tells readers 0) (eqb_tells writers 0) h
  where
    by : ((nat_eq readers 0 ≡ true) × (readers ≡ 0)) ⊎ ((nat_eq readers 0 ≡ false) × (readers ≢ 0)) → ((nat_eq writers 0 ≡ true) × (writers ≡ 0)) ⊎ ((nat_eq writers 0 ≡ false) × (writers ≢ 0))
        → (readers ≢ 0) ⊎ (writers ≢ 0) → (nat_eq readers 0 && nat_eq writers 0) ≡ false
    by (inl (t, e)) (inl (u, f)) (inl some) = absurd (some e)
    by (inl (t, e)) (inl (u, f)) (inr some) = absurd (some f)
    by (inl (t, e)) (inr (u, f)) some = rw (t, u) refl
    by (inr (t, e)) w some = rw t refl

pub swept-named : (tables : List Table) (pipes : List (List ℕ)) (k : ℕ) → (readers_of tables k ≢ 0) ⊎ (writers_of tables k ≢ 0) → slice_index_or (swept tables pipes) k [] ≡ slice_index_or pipes k []
swept-named tables pipes k named = swept-used tables pipes k (named-used (readers_of tables k) (writers_of tables k) named)

pub swept-unnamed : (tables : List Table) (pipes : List (List ℕ)) (k : ℕ) → readers_of tables k ≡ 0 → writers_of tables k ≡ 0 → slice_index_or (swept tables pipes) k [] ≡ []
swept-unnamed tables pipes k readers writers = swept-free tables pipes k (rw (readers, writers) refl)
