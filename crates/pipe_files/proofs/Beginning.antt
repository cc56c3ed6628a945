-- What is kept at the beginning.
use Rattle.std.proofs.Common.{◌≡◌, ◌≢◌, ◌∙◌, sym, ap, refl, ℕ, zero, suc, ◌<◌, ◌≤◌, ◌⊎◌, inl, inr, nat_eq, Bool, true, false, Some, None, List, [], ◌∷◌, length, replicate, arith}
use Rattle.std.proofs.lemmas.Bool.Decides.{eqb_tells}
use Rattle.std.proofs.lemmas.List.{get_or-replicate, length-replicate}
use Rattle.slab.specs.Slab.{Slab, get, Updates}
use Rattle.machine.specs.declared.process.Target.{Target}
use Rattle.machine.specs.declared.process.Target.TheVariants.{ConsoleIn, ConsoleOut, PipeRead, PipeWrite}
use Rattle.machine.specs.Numbers.{pipe_count}
use Rattle.machine.specs.Pipes.{Table, reads, writes, ends_of, no_descriptors}
use Rattle.pipe_files.specs.declared.pipes.Pipe.{Pipe}
use Rattle.pipe_files.specs.Counts.{pipe_at, bytes_of}
use Rattle.pipe_files.specs.Made.{AreBelow, AreMade, IsFresh}
use Rattle.pipe_files.specs.Tables.{unused, tables_of, AreKept}

-- the tables without a descriptor in use are seen so
pub none-seen : (d : Slab Target) (slots : ℕ) → tables_of d (replicate slots unused) ≡ replicate slots no_descriptors
none-seen d zero = refl
none-seen d (suc slots) = ap (λ (x : List Table). no_descriptors ∷ x) (none-seen d slots)

-- and no end is named
none-read : (slots k : ℕ) → ends_of (reads k) (replicate slots no_descriptors) ≡ 0
none-read zero k = refl
none-read (suc slots) k = let rest = none-read slots k in omega arith

none-written : (slots k : ℕ) → ends_of (writes k) (replicate slots no_descriptors) ≡ 0
none-written zero k = refl
none-written (suc slots) k = let rest = none-written slots k in omega arith

-- fresh pipes are empty
pub fresh-bytes : (pipes : List Pipe) (n : ℕ) → length pipes ≡ n → ((k : ℕ) → k < n → IsFresh (pipe_at pipes k)) → bytes_of pipes ≡ replicate n []
fresh-bytes [] zero count fresh = refl
fresh-bytes [] (suc n) count fresh = absurd (omega arith)
fresh-bytes (p ∷ pipes) zero count fresh = absurd (omega arith)
fresh-bytes (p ∷ pipes) (suc n) count fresh =
    let first : p.bytes.items ≡ [] = (fresh 0 (omega arith)).bytes in
    let rest : bytes_of pipes ≡ replicate n [] = fresh-bytes pipes n (omega arith) (λ k less. fresh (suc k) (omega arith)) in
    ap (λ (x : List (List ℕ)). p.bytes.items ∷ x) rest ∙ ap (λ (x : List ℕ). x ∷ replicate n []) first

-- The console's descriptions were put in first, and they name no pipe.
module _ (a b c : Slab Target) (input output : ℕ) (empty : (key : ℕ) → get a key ≡ None) (first : Updates a b input (Some ConsoleIn)) (vacant : get b output ≡ None) (second : Updates b c output (Some ConsoleOut)) where
  at-key : (key : ℕ) → (get c key ≡ Some ConsoleOut) ⊎ ((get c key ≡ Some ConsoleIn) ⊎ (get c key ≡ None))
  at-key key = by (nat_eq key output) (eqb_tells key output)
    where
      by-input : (e : Bool) → ((e ≡ true) × (key ≡ input)) ⊎ ((e ≡ false) × (key ≢ input)) → (get b key ≡ Some ConsoleIn) ⊎ (get b key ≡ None)
      by-input e (inl h) = inl (ap (get b) h.1 ∙ first.changed)
      by-input e (inr h) = inr (first.others key h.1 ∙ empty key)

      after : key ≢ output → (get b key ≡ Some ConsoleIn) ⊎ (get b key ≡ None) → (get c key ≡ Some ConsoleOut) ⊎ ((get c key ≡ Some ConsoleIn) ⊎ (get c key ≡ None))
      after other (inl h) = inr (inl (second.others key other ∙ h))
      after other (inr h) = inr (inr (second.others key other ∙ h))

      by : (e : Bool) → ((e ≡ true) × (key ≡ output)) ⊎ ((e ≡ false) × (key ≢ output)) → (get c key ≡ Some ConsoleOut) ⊎ ((get c key ≡ Some ConsoleIn) ⊎ (get c key ≡ None))
      by e (inl h) = inl (ap (get c) h.1 ∙ second.changed)
      by e (inr h) = after h.1 (by-input (nat_eq key input) (eqb_tells key input))

  no-ends : AreBelow 0 c
  no-ends = record { readers = λ key k h. by-read key k h (at-key key); writers = λ key k h. by-write key k h (at-key key) }
    where
      by-read : (key k : ℕ) → get c key ≡ Some (PipeRead k) → (get c key ≡ Some ConsoleOut) ⊎ ((get c key ≡ Some ConsoleIn) ⊎ (get c key ≡ None)) → k < 0
      by-read key k h (inl e) = absurd (cc)
      by-read key k h (inr (inl e)) = absurd (cc)
      by-read key k h (inr (inr e)) = absurd (cc)

      by-write : (key k : ℕ) → get c key ≡ Some (PipeWrite k) → (get c key ≡ Some ConsoleOut) ⊎ ((get c key ≡ Some ConsoleIn) ⊎ (get c key ≡ None)) → k < 0
      by-write key k h (inl e) = absurd (cc)
      by-write key k h (inr (inl e)) = absurd (cc)
      by-write key k h (inr (inr e)) = absurd (cc)

  -- the console's input is there still
  input-stays : get c input ≡ Some ConsoleIn
  input-stays = second.others input other ∙ first.changed
    where
      other : input ≢ output
      other same = absurd (let there = first.changed in let none : get b input ≡ None = ap (get b) same ∙ vacant in cc)

  pub first-input : (d : Slab Target) (pipes : List Pipe) → AreMade c d pipe_count pipes → get d input ≡ Some ConsoleIn
  first-input d pipes made = made.added.kept input ConsoleIn input-stays

  pub first-output : (d : Slab Target) (pipes : List Pipe) → AreMade c d pipe_count pipes → get d output ≡ Some ConsoleOut
  first-output d pipes made = made.added.kept output ConsoleOut second.changed

  -- all is kept at the beginning
  pub first-kept : (d : Slab Target) (slots : ℕ) (pipes : List Pipe) → slots ≤ 64 → AreMade c d pipe_count pipes → AreKept d (replicate slots unused) pipes
  first-kept d slots pipes few made = record {
    slots = rw long few;
    entries = λ k less. ap length (get_or-replicate slots k unused [] (rw (← long) less));
    below = made.below no-ends;
    count = made.count_is;
    ends = made.ends;
    counted = record {
      readers = λ k less. (made.fresh k (rw (← made.count_is) less)).readers ∙ sym (ap (ends_of (reads k)) (none-seen d slots) ∙ none-read slots k);
      writers = λ k less. (made.fresh k (rw (← made.count_is) less)).writers ∙ sym (ap (ends_of (writes k)) (none-seen d slots) ∙ none-written slots k);
    };
  }
    where
      long : length (replicate slots unused) ≡ slots
      long = length-replicate slots unused
