-- Pipes that are made one after another.
use Rattle.std.proofs.Common.{◌≡◌, ◌∙◌, sym, ap, refl, subst, ℕ, ◌+◌, ◌<◌, ◌⊎◌, inl, inr, List, [], ◌∷◌, ◌++◌, arith}
use Rattle.std.proofs.lemmas.Bool.{cases_order}
use Rattle.std.proofs.lemmas.List.{length_push, get_or_push, get_or_append_left}
use Rattle.slab.specs.Slab.{Slab}
use Rattle.machine.specs.declared.process.Target.{Target}
use Rattle.pipe_files.specs.declared.pipes.Pipe.{Pipe}
use Rattle.pipe_files.specs.Counts.{no_pipe, pipe_at}
use Rattle.pipe_files.specs.Made.{AreAdded, HasEnds, IsFresh, IsMade, AreMade}

-- none is made yet
pub made-none : (d : Slab Target) → AreMade d d 0 []
made-none d = record {
  added = record { kept = λ key t e. e; count = omega arith; capacity = refl };
  below = λ h. h;
  count_is = refl;
  ends = λ k low. absurd (omega arith);
  fresh = λ k low. absurd (omega arith);
}

-- ends that had descriptions have them still
kept-ends : (a b : Slab Target) (more k : ℕ) (p : Pipe) → AreAdded a b more → HasEnds a k p → HasEnds b k p
kept-ends a b more k p added ends = record {
  reading = added.kept p.reading _ ends.reading;
  writing = added.kept p.writing _ ends.writing;
  capacity = ends.capacity;
}

-- one more is made
pub made-more : (a b c : Slab Target) (n : ℕ) (pipes : List Pipe) (p : Pipe) → AreMade a b n pipes → IsMade b c n p → AreMade a c (n + 1) (pipes ++ p ∷ [])
made-more a b c n pipes p made one = record {
  added = record {
    kept = λ key t e. one.added.kept key t (made.added.kept key t e);
    count = let first = made.added.count in let then = one.added.count in omega arith;
    capacity = one.added.capacity ∙ made.added.capacity;
  };
  below = λ h. one.below (made.below h);
  count_is = length_push pipes p ∙ ap (λ (k : ℕ). k + 1) made.count_is;
  ends = λ k low. by k low (HasEnds c k) (λ less. kept-ends b c 2 k (pipe_at pipes k) one.added (made.ends k less)) (λ same. subst (λ (j : ℕ). HasEnds c j p) (sym same) one.ends);
  fresh = λ k low. by k low IsFresh (λ less. made.fresh k less) (λ same. one.fresh);
}
  where
    by : (k : ℕ) → k < n + 1 → (P : Pipe → Type 0) → (k < n → P (pipe_at pipes k)) → (k ≡ n → P p) → P (pipe_at (pipes ++ p ∷ []) k)
    by k low P before here = by-order (cases_order k n)
      where
        by-order : (k ≡ n) ⊎ ((k < n) ⊎ (n < k)) → P (pipe_at (pipes ++ p ∷ []) k)
        by-order (inl same) = subst P (sym (get_or_push pipes p no_pipe k (made.count_is ∙ sym same))) (here same)
        by-order (inr (inl less)) = let count = made.count_is in subst P (sym (get_or_append_left pipes (p ∷ []) no_pipe k (omega arith))) (before less)
        by-order (inr (inr more)) = absurd (omega arith)
