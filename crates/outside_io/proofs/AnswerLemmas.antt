-- From what a command gives to how the program ends.
use Rattle.std.proofs.Common.{◌≡◌, ◌≢◌, ℕ, List, [], ◌∷◌, ◌++◌, Result, Ok, Err, inl, inr, MatchResult, refl, sym, ◌∙◌, IsErrAnd, arith}
use Rattle.std.proofs.lemmas.Result.{err_from_is_err_and}
use Rattle.outside_io.specs.Faults.{Rose, Still}
use Rattle.outside_io.specs.States.{Outside, SinksStill, SinkRose, CountsBelowLast}
use Rattle.outside_io.specs.Parts.{Part, out_part, err_part, Console, console_of, RoseAt, Prints, Written, Cut, Quiet}
use Rattle.outside_io.specs.Answers.{Answer, Answers, Ends, write_fault}

-- a failure of a command that writes, handed on
pub Answers-failed : {F : Type 0} (a : Answer) (old new : Console) (r : Result ℕ F) (Q : F → Type 0) → IsErrAnd r Q → Prints a.parts old new r → Answers a old new r
Answers-failed a old new r Q q h = let p = err_from_is_err_and r q in rw p.1 (let k : Prints a.parts old new (Err p.0) = rw p.1 at h in record { prints = k; status = tt })

-- the status of a program whose command gave this
pub Ends-from : {E : Type 0} (a : Answer) (old new : Console) (r : Result ℕ E) (status : ℕ) → Answers a old new r → MatchResult r (λ given. status ≡ given) (λ _. status ≡ write_fault) → Ends a old new status
Ends-from a old new (Ok given) status h e = rw e (record { later = h.prints.later; ended = inl (record { status_is = h.status; written = h.prints.whole; quiet = h.prints.quiet }) })
Ends-from a old new (Err d) status h e = rw e (record { later = h.prints.later; ended = inr (record { status_is = refl; cut = h.prints.cut }) })

-- a count that did not rise did not rise
pub Still-not_Rose : (before now : ℕ) → Still before now → Rose before now → ⊥
Still-not_Rose before now s r = omega (arith, s, r)

-- the sink of a part that was cut failed
pub SinkRose-at : (part : Part) (old new : Outside) → RoseAt part (console_of old) (console_of new) → SinkRose old new
SinkRose-at (out_part bytes) old new h = inl h
SinkRose-at (err_part bytes) old new h = inr h

pub SinksStill-not_SinkRose : (old new : Outside) → SinksStill old new → SinkRose old new → ⊥
SinksStill-not_SinkRose old new s (inl r) = Still-not_Rose old.out.faults new.out.faults s.out r
SinksStill-not_SinkRose old new s (inr r) = Still-not_Rose old.err.faults new.err.faults s.err r

-- no count rose that is as it was, and stood below its last value
pub Quiet-not_SinkRose : (old new : Outside) → Quiet (console_of old) (console_of new) → CountsBelowLast old → SinkRose old new → ⊥
Quiet-not_SinkRose old new q below (inl r) = let k = q.out in omega (arith, below.out, r)
Quiet-not_SinkRose old new q below (inr r) = let k = q.err in omega (arith, below.err, r)

-- no part of an empty list is cut
nil_not_split : (before : List Part) (part : Part) (after : List Part) → [] ≡ before ++ part ∷ after → ⊥
nil_not_split [] part after e = cc
nil_not_split (p ∷ before) part after e = cc

pub Cut-nil : {old new : Console} → Cut [] old new → ⊥
Cut-nil h = nil_not_split h.before h.part h.after h.list

module _ (a : Answer) (old new : Outside) (status : ℕ) where
  -- where no sink failed, all of the answer is written
  pub Ends-still : Ends a (console_of old) (console_of new) status → SinksStill old new → (status ≡ a.status) × Written a.parts (console_of old) (console_of new)
  Ends-still h s = elim h.ended [
    | inl w ↦ (w.status_is, w.written)
    | inr w ↦ absurd (SinksStill-not_SinkRose old new s (SinkRose-at w.cut.part old new w.cut.rose))
  ]

  -- where a sink failed, and its count stood below its last value, the status is that of a write fault
  pub Ends-passed : Ends a (console_of old) (console_of new) status → CountsBelowLast old → SinkRose old new → status ≡ write_fault
  Ends-passed h below rose = elim h.ended [
    | inl w ↦ absurd (Quiet-not_SinkRose old new w.quiet below rose)
    | inr w ↦ w.status_is
  ]

  -- a status that is not a write fault's is the answer's, and all of the answer is written
  pub Ends-other : Ends a (console_of old) (console_of new) status → status ≢ write_fault → (status ≡ a.status) × Written a.parts (console_of old) (console_of new)
  Ends-other h other = elim h.ended [
    | inl w ↦ (w.status_is, w.written)
    | inr w ↦ absurd (other w.status_is)
  ]

  -- the status of a write fault comes with a cut part, where the answer has another status
  pub Ends-cut : Ends a (console_of old) (console_of new) status → status ≡ write_fault → a.status ≢ write_fault → Cut a.parts (console_of old) (console_of new)
  Ends-cut h e other = elim h.ended [
    | inl w ↦ absurd (other (sym w.status_is ∙ e))
    | inr w ↦ w.cut
  ]
