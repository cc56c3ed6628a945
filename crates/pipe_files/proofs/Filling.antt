-- A table that is written entry by entry.
use Rattle.std.proofs.Common.{◌≡◌, ◌∙◌, sym, ap, ℕ, suc, ◌+◌, ◌-◌, ◌<◌, Option, None, List, [], ◌∷◌, ◌++◌, length, take, drop, slice_set, arith}
use Rattle.std.proofs.lemmas.List.{set-set, set-append_right, get_or-set_same, length-take, take_more, append_assoc}
use Rattle.std.proofs.Math.Seq.{drop-cons}
use Rattle.pipe_files.specs.declared.tables.Descriptor.{Descriptor}
use Rattle.pipe_files.specs.Tables.{Entries, entries_at, entry_at, with_entry}

-- the first entries are new, and the others old
abbrev pub filled : ℕ → Entries → Entries → Entries
filled k new old = take k new ++ drop k old

-- one more is new
filled-set : (k : ℕ) (new old : Entries) → k < length new → k < length old → slice_set (filled k new old) k (entry_at new k) ≡ filled (k + 1) new old
filled-set k new old low in-old =
    let front : length (take k new) ≡ k = omega (arith, length-take k new) in
    let next : k + 1 ≡ suc k = omega arith in
    let none : k - k ≡ 0 = omega arith in
    set-append_right (take k new) (drop k old) k k (entry_at new k) front (omega arith)
    ∙ rw (none, drop-cons old k None in-old, take_more new k None low, next) (sym (append_assoc (take k new) (entry_at new k ∷ []) (drop (suc k) old)))

pub filled-more : (tables before after : List Entries) (slot k : ℕ) (new : Entries) (e : Option Descriptor) → slot < length tables → k < length new → k < length (entries_at tables slot) → e ≡ entry_at new k
    → before ≡ slice_set tables slot (filled k new (entries_at tables slot)) → after ≡ with_entry before slot k e → after ≡ slice_set tables slot (filled (k + 1) new (entries_at tables slot))
filled-more tables before after slot k new e low in-new in-old is first then =
    let old = entries_at tables slot in
    let table : entries_at before slot ≡ filled k new old = ap (λ (x : List Entries). entries_at x slot) first ∙ get_or-set_same tables slot (filled k new old) [] low in
    then ∙ rw (table, first, is) (set-set tables slot (filled k new old) _ ∙ ap (slice_set tables slot) (filled-set k new old in-new in-old))
