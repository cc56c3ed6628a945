-- Entries of tables where one is written, and what is kept then.
use Rattle.std.proofs.Common.{◌≡◌, ◌≢◌, ◌∙◌, sym, ap, refl, ℕ, ◌+◌, ◌<◌, ◌≤◌, ◌^◌, ◌⊎◌, inl, inr, Bool, true, false, nat_eq, Option, Some, None, List, [], length, map, get_or, slice_set, arith}
use Rattle.std.proofs.lemmas.Bool.{cases_order}
use Rattle.std.proofs.lemmas.Bool.Decides.{eqb_tells}
use Rattle.std.proofs.lemmas.List.{map-set, get_or-map, length-map, length-set, get_or-set_same, get_or-set_other, get_or_past}
use Rattle.slab.specs.Slab.{Slab, get}
use Rattle.machine.specs.declared.process.Target.{Target}
use Rattle.machine.specs.declared.process.Target.TheVariants.{ConsoleIn, ConsoleOut, PipeRead, PipeWrite}
use Rattle.machine.specs.Numbers.{descriptor_count, pipe_count}
use Rattle.machine.specs.Pipes.{Table, table_at, target, reads, writes, ends_of, readers_of, writers_of}
use Rattle.pipe_files.specs.declared.pipes.Pipe.{Pipe}
use Rattle.pipe_files.specs.declared.tables.Descriptor.{Descriptor}
use Rattle.pipe_files.specs.Counts.{one, no_pipe, pipe_at, readers_at, writers_at, parts, IsNamed}
use Rattle.pipe_files.specs.Made.{AreBelow, HasEnds}
use Rattle.pipe_files.specs.Tables.{Entries, named_by, table_of, tables_of, entries_at, entry_at, with_entry, AreKept}
use Rattle.pipe_files.proofs.Ends.{written, few-of, has-of}

-- what an entry names, where entries are seen as targets
module _ (d : Slab Target) (tables : List Entries) (slot fd : ℕ) (low : slot < length tables) (within : fd < length (entries_at tables slot)) where
  pub table-is : table_at (tables_of d tables) slot ≡ table_of d (entries_at tables slot)
  table-is = get_or-map (table_of d) tables slot [] [] low

  target-is : target (table_at (tables_of d tables) slot) fd ≡ named_by d (entry_at (entries_at tables slot) fd)
  target-is = rw table-is (get_or-map (named_by d) (entries_at tables slot) fd None None within)

  low-is : slot < length (tables_of d tables)
  low-is = let long : length (tables_of d tables) ≡ length tables = length-map tables (table_of d) in omega arith

  within-is : fd < length (table_at (tables_of d tables) slot)
  within-is = rw table-is (let long : length (table_of d (entries_at tables slot)) ≡ length (entries_at tables slot) = length-map (entries_at tables slot) (named_by d) in omega arith)

  -- an entry that is written is seen as what it names
  pub entry-seen : (e : Option Descriptor) → tables_of d (with_entry tables slot fd e) ≡ slice_set (tables_of d tables) slot (slice_set (table_at (tables_of d tables) slot) fd (named_by d e))
  entry-seen e =
      map-set (table_of d) tables slot (slice_set (entries_at tables slot) fd e)
      ∙ ap (slice_set (tables_of d tables) slot) (map-set (named_by d) (entries_at tables slot) fd e ∙ ap (λ (t : Table). slice_set t fd (named_by d e)) (sym table-is))

  -- so the ends are counted
  pub ends-entry : (names : Option Target → Bool) (e : Option Descriptor)
      → ends_of names (tables_of d (with_entry tables slot fd e)) + one (names (named_by d (entry_at (entries_at tables slot) fd))) ≡ ends_of names (tables_of d tables) + one (names (named_by d e))
  ends-entry names e = rw (entry-seen e, ← target-is) (written names (tables_of d tables) slot fd (named_by d e) low-is within-is)

  pub ends-has : (names : Option Target → Bool) → one (names (named_by d (entry_at (entries_at tables slot) fd))) ≤ ends_of names (tables_of d tables)
  ends-has names = rw (← target-is) (has-of names (tables_of d tables) slot fd low-is within-is)

-- no more ends are named than there are descriptors
pub ends-few : (d : Slab Target) (tables : List Entries) → length tables ≤ 64 → ((slot : ℕ) → slot < length tables → length (entries_at tables slot) ≡ descriptor_count)
    → (names : Option Target → Bool) → ends_of names (tables_of d tables) < 2 ^ 16
ends-few d tables few whole names =
    let long : length (tables_of d tables) ≡ length tables = length-map tables (table_of d) in
    let all = few-of names (tables_of d tables) 16 short in
    omega arith
  where
    short : (slot : ℕ) → slot < length (tables_of d tables) → length (table_at (tables_of d tables) slot) ≤ 16
    short slot low =
        let long : length (tables_of d tables) ≡ length tables = length-map tables (table_of d) in
        let low-too : slot < length tables = omega arith in
        let here : length (table_at (tables_of d tables) slot) ≡ length (entries_at tables slot) = ap length (get_or-map (table_of d) tables slot [] [] low-too) ∙ length-map (entries_at tables slot) (named_by d) in
        let sixteen : length (entries_at tables slot) ≡ 16 = whole slot low-too in
        omega arith

-- a description names one of the pipes
pub named-is : (n : ℕ) (d : Slab Target) → AreBelow n d → (e : Option Descriptor) → IsNamed n (named_by d e)
named-is n d below None = tt
named-is n d below (Some e) = by (get d e.description) refl
  where
    by : (o : Option Target) → get d e.description ≡ o → IsNamed n o
    by None h = tt
    by (Some ConsoleIn) h = tt
    by (Some ConsoleOut) h = tt
    by (Some (PipeRead k)) h = below.readers e.description k h
    by (Some (PipeWrite k)) h = below.writers e.description k h

-- none names a pipe past the last one
past-reads : (n : ℕ) (o : Option Target) → IsNamed n o → (k : ℕ) → n ≤ k → one (reads k o) ≡ 0
past-reads n None named k past = refl
past-reads n (Some ConsoleIn) named k past = refl
past-reads n (Some ConsoleOut) named k past = refl
past-reads n (Some (PipeRead j)) named k past = by (nat_eq j k) (eqb_tells j k)
  where
    by : (b : Bool) → ((b ≡ true) × (j ≡ k)) ⊎ ((b ≡ false) × (j ≢ k)) → one b ≡ 0
    by b (inl h) = absurd (let same : j ≡ k = h.1 in let less : j < n = named in omega arith)
    by b (inr h) = ap one h.0
past-reads n (Some (PipeWrite j)) named k past = refl

past-writes : (n : ℕ) (o : Option Target) → IsNamed n o → (k : ℕ) → n ≤ k → one (writes k o) ≡ 0
past-writes n None named k past = refl
past-writes n (Some ConsoleIn) named k past = refl
past-writes n (Some ConsoleOut) named k past = refl
past-writes n (Some (PipeRead j)) named k past = refl
past-writes n (Some (PipeWrite j)) named k past = by (nat_eq j k) (eqb_tells j k)
  where
    by : (b : Bool) → ((b ≡ true) × (j ≡ k)) ⊎ ((b ≡ false) × (j ≢ k)) → one b ≡ 0
    by b (inl h) = absurd (let same : j ≡ k = h.1 in let less : j < n = named in omega arith)
    by b (inr h) = ap one h.0

-- the number of a pipe past the last one is 0
pub past-pipe : (f : Pipe → ℕ) (pipes : List Pipe) (k : ℕ) → length pipes ≤ k → f no_pipe ≡ 0 → f (pipe_at pipes k) ≡ 0
past-pipe f pipes k past none = ap f (get_or_past pipes k no_pipe past) ∙ none

-- what is kept of pipes whose parts are the same
same-ends : (d : Slab Target) (k : ℕ) (p q : Pipe) → parts q ≡ parts p → HasEnds d k p → HasEnds d k q
same-ends d k p q same ends = record {
  reading = ap (λ (key : ℕ). get d key) (ap (λ (x : _). x.1.0) same) ∙ ends.reading;
  writing = ap (λ (key : ℕ). get d key) (ap (λ (x : _). x.1.1) same) ∙ ends.writing;
  capacity = ap (λ (x : _). x.0.capacity) same ∙ ends.capacity;
}

-- where the parts of pipes stay, so does the number of pipes, and each has its ends
same-count : (ps qs : List Pipe) → map parts qs ≡ map parts ps → length qs ≡ length ps
same-count ps qs same = sym (length-map qs parts) ∙ ap length same ∙ length-map ps parts

same-at : (ps qs : List Pipe) (k : ℕ) → k < length ps → map parts qs ≡ map parts ps → parts (pipe_at qs k) ≡ parts (pipe_at ps k)
same-at ps qs k low same =
    let count = same-count ps qs same in
    sym (get_or-map parts qs k no_pipe (parts no_pipe) (omega arith)) ∙ ap (λ (x : _). get_or x k (parts no_pipe)) same ∙ get_or-map parts ps k no_pipe (parts no_pipe) low

-- The counts after an entry was written: what is named now was counted first, and then what was named before was counted off.
counts-entry : (old-ends new-ends before between after was is : ℕ) → new-ends + was ≡ old-ends + is → before ≡ old-ends → between ≡ is + before → between ≡ was + after → after ≡ new-ends
counts-entry old-ends new-ends before between after was is ends counted more less = omega arith

-- what is kept before and after
module _ (d : Slab Target) (tables : List Entries) (pipes : List Pipe) (slot fd : ℕ) (e : Option Descriptor) (low : slot < length tables) (place : fd < descriptor_count) (kept : AreKept d tables pipes) where
  abbrev pub was : Option Target
  was = named_by d (entry_at (entries_at tables slot) fd)

  pub inside : fd < length (entries_at tables slot)
  inside = let whole = kept.entries slot low in omega arith

  -- no pipe has many ends
  pub few-readers : (k : ℕ) → readers_at pipes k < 2 ^ 16
  few-readers k = by (cases_order k (length pipes))
    where
      by : (k ≡ length pipes) ⊎ ((k < length pipes) ⊎ (length pipes < k)) → readers_at pipes k < 2 ^ 16
      by (inl same) = let none = past-pipe (λ p. p.readers) pipes k (omega arith) refl in omega arith
      by (inr (inl less)) = let counted = kept.counted.readers k less in let few = ends-few d tables kept.slots kept.entries (reads k) in omega arith
      by (inr (inr more)) = let none = past-pipe (λ p. p.readers) pipes k (omega arith) refl in omega arith

  pub few-writers : (k : ℕ) → writers_at pipes k < 2 ^ 16
  few-writers k = by (cases_order k (length pipes))
    where
      by : (k ≡ length pipes) ⊎ ((k < length pipes) ⊎ (length pipes < k)) → writers_at pipes k < 2 ^ 16
      by (inl same) = let none = past-pipe (λ p. p.writers) pipes k (omega arith) refl in omega arith
      by (inr (inl less)) = let counted = kept.counted.writers k less in let few = ends-few d tables kept.slots kept.entries (writes k) in omega arith
      by (inr (inr more)) = let none = past-pipe (λ p. p.writers) pipes k (omega arith) refl in omega arith

  pub was-named : IsNamed (length pipes) was
  was-named = rw kept.count (named-is pipe_count d kept.below (entry_at (entries_at tables slot) fd))

  pub is-named : IsNamed (length pipes) (named_by d e)
  is-named = rw kept.count (named-is pipe_count d kept.below e)

  -- what is named before is counted
  pub some-readers : (k : ℕ) → one (reads k was) ≤ readers_at pipes k
  some-readers k = by (cases_order k (length pipes))
    where
      by : (k ≡ length pipes) ⊎ ((k < length pipes) ⊎ (length pipes < k)) → one (reads k was) ≤ readers_at pipes k
      by (inl same) = let none = past-reads (length pipes) was was-named k (omega arith) in omega arith
      by (inr (inl less)) = let counted = kept.counted.readers k less in let has = ends-has d tables slot fd low inside (reads k) in omega arith
      by (inr (inr more)) = let none = past-reads (length pipes) was was-named k (omega arith) in omega arith

  pub some-writers : (k : ℕ) → one (writes k was) ≤ writers_at pipes k
  some-writers k = by (cases_order k (length pipes))
    where
      by : (k ≡ length pipes) ⊎ ((k < length pipes) ⊎ (length pipes < k)) → one (writes k was) ≤ writers_at pipes k
      by (inl same) = let none = past-writes (length pipes) was was-named k (omega arith) in omega arith
      by (inr (inl less)) = let counted = kept.counted.writers k less in let has = ends-has d tables slot fd low inside (writes k) in omega arith
      by (inr (inr more)) = let none = past-writes (length pipes) was was-named k (omega arith) in omega arith

  -- and still after another one was counted
  pub some-readers-more : (between : List Pipe) → ((k : ℕ) → readers_at between k ≡ one (reads k (named_by d e)) + readers_at pipes k) → (k : ℕ) → one (reads k was) ≤ readers_at between k
  some-readers-more between more k = let counted = more k in let some = some-readers k in omega arith

  pub some-writers-more : (between : List Pipe) → ((k : ℕ) → writers_at between k ≡ one (writes k (named_by d e)) + writers_at pipes k) → (k : ℕ) → one (writes k was) ≤ writers_at between k
  some-writers-more between more k = let counted = more k in let some = some-writers k in omega arith

  -- the slots have as many entries as before
  entries-kept : (k : ℕ) → k < length tables → length (entries_at (with_entry tables slot fd e) k) ≡ descriptor_count
  entries-kept k less = by (cases_order k slot)
    where
      by : (k ≡ slot) ⊎ ((k < slot) ⊎ (slot < k)) → length (entries_at (with_entry tables slot fd e) k) ≡ descriptor_count
      by (inl same) = rw (same, get_or-set_same tables slot (slice_set (entries_at tables slot) fd e) [] low) (length-set (entries_at tables slot) fd e ∙ kept.entries slot low)
      by (inr (inl other)) = rw (get_or-set_other tables slot k (slice_set (entries_at tables slot) fd e) [] (λ same. absurd (omega arith))) (kept.entries k less)
      by (inr (inr other)) = rw (get_or-set_other tables slot k (slice_set (entries_at tables slot) fd e) [] (λ same. absurd (omega arith))) (kept.entries k less)

  -- all is kept after the entry was written, and the pipes were counted on and off
  pub kept-entry : (between after : List Pipe)
      → ((k : ℕ) → readers_at between k ≡ one (reads k (named_by d e)) + readers_at pipes k) → ((k : ℕ) → writers_at between k ≡ one (writes k (named_by d e)) + writers_at pipes k)
      → ((k : ℕ) → readers_at between k ≡ one (reads k was) + readers_at after k) → ((k : ℕ) → writers_at between k ≡ one (writes k was) + writers_at after k)
      → map parts after ≡ map parts pipes → AreKept d (with_entry tables slot fd e) after
  kept-entry between after more-readers more-writers less-readers less-writers same = record {
    slots = rw long kept.slots;
    entries = λ k less. entries-kept k (rw (← long) less);
    below = kept.below;
    count = same-count pipes after same ∙ kept.count;
    ends = λ k less. same-ends d k (pipe_at pipes k) (pipe_at after k) (same-at pipes after k (rw kept.count less) same) (kept.ends k less);
    counted = record {
      readers = λ k less. counts-entry (readers_of (tables_of d tables) k) (readers_of (tables_of d (with_entry tables slot fd e)) k) (readers_at pipes k) (readers_at between k) (readers_at after k) (one (reads k was)) (one (reads k (named_by d e)))
          (ends-entry d tables slot fd low inside (reads k) e) (kept.counted.readers k (rw (← count) less)) (more-readers k) (less-readers k);
      writers = λ k less. counts-entry (writers_of (tables_of d tables) k) (writers_of (tables_of d (with_entry tables slot fd e)) k) (writers_at pipes k) (writers_at between k) (writers_at after k) (one (writes k was)) (one (writes k (named_by d e)))
          (ends-entry d tables slot fd low inside (writes k) e) (kept.counted.writers k (rw (← count) less)) (more-writers k) (less-writers k);
    };
  }
    where
      long : length (with_entry tables slot fd e) ≡ length tables
      long = length-set tables slot (slice_set (entries_at tables slot) fd e)

      count : length after ≡ length pipes
      count = same-count pipes after same
