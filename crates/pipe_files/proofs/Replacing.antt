-- What is kept, and how it is seen, where the table of a slot was written and the pipes were swept.
use Rattle.std.proofs.Common.{◌≡◌, ◌∙◌, sym, ap, refl, ℕ, suc, ◌+◌, ◌<◌, ◌&&◌, Bool, true, false, nat_eq, cond, List, [], ◌∷◌, length, map, slice_set, arith}
use Rattle.std.proofs.lemmas.List.{map-set, length-map, get_or-map}
use Rattle.std.proofs.lemmas.Simd.{map-map}
use Rattle.circular_buffer.specs.Buffer.{Buffer, buffer}
use Rattle.slab.specs.Slab.{Slab}
use Rattle.machine.specs.declared.process.Target.{Target}
use Rattle.machine.specs.Pipes.{Table, readers_of, writers_of, is_unused, swept_from, swept}
use Rattle.pipe_files.specs.declared.pipes.Pipe.{Pipe}
use Rattle.pipe_files.specs.Files.{Files, with_table}
use Rattle.pipe_files.specs.Counts.{no_pipe, pipe_at, readers_at, writers_at, parts, swept_pipe, bytes_of, AreCounted}
use Rattle.pipe_files.specs.Made.{HasEnds}
use Rattle.pipe_files.specs.Tables.{Entries, table_of, tables_of, AreKept}

-- a swept pipe has all else as it was
swept-readers : (p : Pipe) → (swept_pipe p).readers ≡ p.readers
swept-readers p = by ((nat_eq p.readers 0) && (nat_eq p.writers 0))
  where
    by : (b : Bool) → (cond b (record p { bytes = buffer [] p.bytes.capacity }) p).readers ≡ p.readers
    by true = refl
    by false = refl

swept-writers : (p : Pipe) → (swept_pipe p).writers ≡ p.writers
swept-writers p = by ((nat_eq p.readers 0) && (nat_eq p.writers 0))
  where
    by : (b : Bool) → (cond b (record p { bytes = buffer [] p.bytes.capacity }) p).writers ≡ p.writers
    by true = refl
    by false = refl

swept-ends : (d : Slab Target) (k : ℕ) (p : Pipe) → HasEnds d k p → HasEnds d k (swept_pipe p)
swept-ends d k p ends = by ((nat_eq p.readers 0) && (nat_eq p.writers 0))
  where
    by : (b : Bool) → HasEnds d k (cond b (record p { bytes = buffer [] p.bytes.capacity }) p)
    by true = record { reading = ends.reading; writing = ends.writing; capacity = ends.capacity }
    by false = ends

swept-items : (p : Pipe) → (swept_pipe p).bytes.items ≡ cond ((nat_eq p.readers 0) && (nat_eq p.writers 0)) [] p.bytes.items
swept-items p = by ((nat_eq p.readers 0) && (nat_eq p.writers 0))
  where
    by : (b : Bool) → (cond b (record p { bytes = buffer [] p.bytes.capacity }) p).bytes.items ≡ cond b [] p.bytes.items
    by true = refl
    by false = refl

-- so all is kept where the pipes are swept
pub kept-swept : (d : Slab Target) (tables : List Entries) (pipes last : List Pipe) → last ≡ map swept_pipe pipes → AreKept d tables pipes → AreKept d tables last
kept-swept d tables pipes last is kept = rw is (record {
  slots = kept.slots;
  entries = kept.entries;
  below = kept.below;
  count = long ∙ kept.count;
  ends = λ k less. rw (at k (rw kept.count less)) (swept-ends d k (pipe_at pipes k) (kept.ends k less));
  counted = record {
    readers = λ k less. let low : k < length pipes = rw (← long) less in ap (λ (p : Pipe). p.readers) (at k low) ∙ swept-readers (pipe_at pipes k) ∙ kept.counted.readers k low;
    writers = λ k less. let low : k < length pipes = rw (← long) less in ap (λ (p : Pipe). p.writers) (at k low) ∙ swept-writers (pipe_at pipes k) ∙ kept.counted.writers k low;
  };
})
  where
    long : length (map swept_pipe pipes) ≡ length pipes
    long = length-map pipes swept_pipe

    at : (k : ℕ) → k < length pipes → pipe_at (map swept_pipe pipes) k ≡ swept_pipe (pipe_at pipes k)
    at k low = get_or-map swept_pipe pipes k no_pipe no_pipe low

-- The bytes of pipes that are swept by what is counted are those that are swept by a scan.
swept-from : (tables : List Table) (k : ℕ) (pipes : List Pipe) → ((j : ℕ) → j < length pipes → readers_at pipes j ≡ readers_of tables (k + j)) → ((j : ℕ) → j < length pipes → writers_at pipes j ≡ writers_of tables (k + j))
    → bytes_of (map swept_pipe pipes) ≡ swept_from tables k (bytes_of pipes)
swept-from tables k [] readers writers = refl
swept-from tables k (p ∷ pipes) readers writers =
    let here : k + 0 ≡ k = omega arith in
    let r : p.readers ≡ readers_of tables k = readers 0 (omega arith) ∙ ap (readers_of tables) here in
    let w : p.writers ≡ writers_of tables k = writers 0 (omega arith) ∙ ap (writers_of tables) here in
    let first : (swept_pipe p).bytes.items ≡ cond (is_unused tables k) [] p.bytes.items = swept-items p ∙ rw (r, w) refl in
    let rest : bytes_of (map swept_pipe pipes) ≡ swept_from tables (k + 1) (bytes_of pipes) = swept-from tables (k + 1) pipes
    (λ j less. let next : k + suc j ≡ k + 1 + j = omega arith in readers (suc j) (omega arith) ∙ ap (readers_of tables) next)
    (λ j less. let next : k + suc j ≡ k + 1 + j = omega arith in writers (suc j) (omega arith) ∙ ap (writers_of tables) next) in
    ap (λ (x : List (List ℕ)). (swept_pipe p).bytes.items ∷ x) rest ∙ ap (λ (x : List ℕ). x ∷ swept_from tables (k + 1) (bytes_of pipes)) first

swept-bytes : (tables : List Table) (pipes : List Pipe) → AreCounted tables pipes → bytes_of (map swept_pipe pipes) ≡ swept tables (bytes_of pipes)
unfolding swept
swept-bytes tables pipes counted = swept-from tables 0 pipes (λ j less. let none : 0 + j ≡ j = omega arith in rw none (counted.readers j less)) (λ j less. let none : 0 + j ≡ j = omega arith in rw none (counted.writers j less))

-- the bytes are among the parts
same-bytes : (before after : List Pipe) → map parts after ≡ map parts before → bytes_of after ≡ bytes_of before
same-bytes before after same =
    let items : Buffer ℕ × (ℕ × ℕ) → List ℕ = λ x. x.0.items in
    sym (map-map items parts after) ∙ ap (map items) same ∙ map-map items parts before

-- what is seen afterwards
pub seen-after : (d : Slab Target) (tables written : List Entries) (pipes after last : List Pipe) (slot : ℕ) (entries : Entries) (table : Table)
    → written ≡ slice_set tables slot entries → table_of d entries ≡ table → AreKept d written after → map parts after ≡ map parts pipes → last ≡ map swept_pipe after
    → ◌≡◌ {A = Files} (record { tables = tables_of d written; pipes = bytes_of last }) (with_table (record { tables = tables_of d tables; pipes = bytes_of pipes }) slot table)
seen-after d tables written pipes after last slot entries table is names kept same all =
    let seen : tables_of d written ≡ slice_set (tables_of d tables) slot table = ap (tables_of d) is ∙ map-set (table_of d) tables slot entries ∙ ap (slice_set (tables_of d tables) slot) names in
    let bytes : bytes_of last ≡ swept (tables_of d written) (bytes_of pipes) =
    ap bytes_of all ∙ swept-bytes (tables_of d written) after kept.counted ∙ ap (swept (tables_of d written)) (same-bytes pipes after same) in
    ap (λ (x : List (List ℕ)). record { tables = tables_of d written; pipes = x }) bytes
    ∙ ap (λ (x : List Table). record { tables = x; pipes = swept x (bytes_of pipes) }) seen
