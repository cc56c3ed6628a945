-- Moments, one after another.
use Rattle.std.proofs.Common.{◌≡◌, ◌≢◌, ◌⊎◌, ℕ, List, [], ◌∷◌, ◌++◌, refl, sym, ap, ◌∙◌, arith, inl, inr, Result, Ok, Err, MatchResult, append_assoc, append-nil, IsErrAnd}
use Rattle.std.specs.Prelude.{Contains}
use Rattle.std.proofs.lemmas.List.Elements.{Contains-append_right}
use Rattle.std.proofs.lemmas.Result.{err_from_is_err_and}
use Rattle.outside_io.specs.Parts.{Part, Console, front_of, Written, Cut, Quiet, Prints}
use Rattle.outside_io.specs.Answers.{Answer, Ends, write_fault}
use Rattle.outside_io.specs.Moments.{Moment, parts_of, while_stands, Course, answer_of, steady, CutAt, Leaves, MomentsUnderway, Goes, EndsAt}
use Rattle.outside_io.proofs.PartLemmas.{Written-nil, Written-then, Quiet-refl, Quiet-then, RoseAt-later}

module _ {B : Type 0} where
  pub parts_of-append : (ms ns : List (Moment B)) → parts_of (ms ++ ns) ≡ parts_of ms ++ parts_of ns
  parts_of-append [] ns = refl
  parts_of-append (m ∷ ms) ns = ap (λ l. m.0 ∷ l) (parts_of-append ms ns)

  pub parts_of-while : (t : B) (ps : List Part) → parts_of (while_stands t ps) ≡ ps
  parts_of-while t [] = refl
  parts_of-while t (p ∷ ps) = ap (λ l. p ∷ l) (parts_of-while t ps)

  while-append : (t : B) (ps qs : List Part) → while_stands t (ps ++ qs) ≡ while_stands t ps ++ while_stands t qs
  while-append t [] qs = refl
  while-append t (p ∷ ps) qs = ap (λ l. (p, t) ∷ l) (while-append t ps qs)

  -- a cut among parts during which one thing stands
  pub CutAt-while : (t : B) (L : B → Type 0) (ps : List Part) (a b : Console) → L t → Cut ps a b → CutAt (while_stands t ps) L a b
  CutAt-while t L ps a b left h = record {
    before = while_stands t h.before;
    part = h.part;
    some = h.some;
    state = t;
    after = while_stands t h.after;
    count = h.count;
    list = ap (while_stands t) h.list ∙ while-append t h.before (h.part ∷ h.after);
    written = rw (parts_of-while t h.before) h.written;
    rose = h.rose;
    left = left;
  }

  -- a cut among moments is one among their parts
  pub CutAt-parts : (ms : List (Moment B)) (L : B → Type 0) (a b : Console) → CutAt ms L a b → Cut (parts_of ms) a b
  CutAt-parts ms L a b h = record {
    before = parts_of h.before;
    part = h.part;
    some = h.some;
    after = parts_of h.after;
    count = h.count;
    list = ap parts_of h.list ∙ parts_of-append h.before ((h.part, h.state) ∷ h.after);
    written = h.written;
    rose = h.rose;
  }

  -- the same, where what is left is said otherwise
  pub CutAt-left : (ms : List (Moment B)) (L M : B → Type 0) (a b : Console) → ((t : B) → L t → M t) → CutAt ms L a b → CutAt ms M a b
  CutAt-left ms L M a b f h = record {
    before = h.before;
    part = h.part;
    some = h.some;
    state = h.state;
    after = h.after;
    count = h.count;
    list = h.list;
    written = h.written;
    rose = h.rose;
    left = f h.state h.left;
  }

  -- a cut in the first moments is a cut in all of them
  pub CutAt-stop : (ms ns : List (Moment B)) (L : B → Type 0) (a b : Console) → CutAt ms L a b → CutAt (ms ++ ns) L a b
  CutAt-stop ms ns L a b h = record {
    before = h.before;
    part = h.part;
    some = h.some;
    state = h.state;
    after = h.after ++ ns;
    count = h.count;
    list = ap (λ l. l ++ ns) h.list ∙ append_assoc h.before ((h.part, h.state) ∷ h.after) ns;
    written = h.written;
    rose = h.rose;
    left = h.left;
  }

  -- the first parts are whole, and one of those after them is cut
  pub CutAt-then : (ms ns : List (Moment B)) (L : B → Type 0) (a b c : Console) → Written (parts_of ms) a b → Quiet a b → CutAt ns L b c → CutAt (ms ++ ns) L a c
  CutAt-then ms ns L a b c g quiet h = record {
    before = ms ++ h.before;
    part = h.part;
    some = h.some;
    state = h.state;
    after = h.after;
    count = h.count;
    list = ap (λ l. ms ++ l) h.list ∙ sym (append_assoc ms h.before ((h.part, h.state) ∷ h.after));
    written = rw (parts_of-append ms h.before, append_assoc (parts_of ms) (parts_of h.before) (front_of h.count h.part ∷ []))
        (Written-then (parts_of ms) (parts_of h.before ++ front_of h.count h.part ∷ []) a b c g h.written);
    rose = RoseAt-later h.part a b c quiet h.rose;
    left = h.left;
  }

  -- all moments are to come
  pub MomentsUnderway-start : (ms : List (Moment B)) (a : Console) → MomentsUnderway ms ms a a
  MomentsUnderway-start ms a = record { done = []; list = refl; written = Written-nil a; quiet = Quiet-refl a }

  -- the next parts are whole, and one thing stands while they are written
  pub MomentsUnderway-more : {T E : Type 0} (ms rest : List (Moment B)) (ps : List Part) (t : B) (a b c : Console) (x : T)
      → MomentsUnderway ms (while_stands t ps ++ rest) a b → Prints {T = T} {E = E} ps b c (Ok x) → MomentsUnderway ms rest a c
  MomentsUnderway-more ms rest ps t a b c x g h = record {
    done = g.done ++ while_stands t ps;
    list = g.list ∙ sym (append_assoc g.done (while_stands t ps) rest);
    written = rw (parts_of-append g.done (while_stands t ps), parts_of-while t ps) (Written-then (parts_of g.done) ps a b c g.written h.whole);
    quiet = Quiet-then a b c g.quiet h.quiet;
  }

  -- one of the next parts is cut, and the failure is handed on
  pub MomentsUnderway-stop : {T E U F : Type 0} (ms rest : List (Moment B)) (ps : List Part) (t end : B) (L : B → Type 0) (a b c : Console) (e : E) (r : Result U F) (Q : F → Type 0)
      → IsErrAnd r Q → L t → MomentsUnderway ms (while_stands t ps ++ rest) a b → Prints {T = T} {E = E} ps b c (Err e) → Leaves ms end L a c r
  MomentsUnderway-stop ms rest ps t end L a b c e r Q q left g h = let p = err_from_is_err_and r q in rw p.1 (record {
    whole = tt;
    quiet = tt;
    left = tt;
    cut = rw g.list (CutAt-then g.done (while_stands t ps ++ rest) L a b c g.written g.quiet (CutAt-stop (while_stands t ps) rest L b c (CutAt-while t L ps b c left h.cut)));
    later = record { out = omega (arith, g.quiet.out, h.later.out); err = omega (arith, g.quiet.err, h.later.err) };
  })

  -- nothing is to come
  pub MomentsUnderway-end : {T E : Type 0} (ms : List (Moment B)) (end : B) (L : B → Type 0) (a b : Console) (x : T) → L end → MomentsUnderway ms [] a b → Leaves {T = T} {E = E} ms end L a b (Ok x)
  MomentsUnderway-end ms end L a b x left h = record {
    whole = rw (h.list ∙ append-nil h.done) h.written;
    quiet = h.quiet;
    left = left;
    cut = tt;
    later = record { out = omega (arith, h.quiet.out); err = omega (arith, h.quiet.err) };
  }

  -- parts during which one thing stands
  pub Leaves-while : {T E : Type 0} (t : B) (L : B → Type 0) (ps : List Part) (a b : Console) (r : Result T E) → L t → Prints ps a b r → Leaves (while_stands t ps) t L a b r
  Leaves-while t L ps a b (Ok x) left h = record { whole = rw (parts_of-while t ps) h.whole; quiet = h.quiet; left = left; cut = tt; later = h.later }
  Leaves-while t L ps a b (Err e) left h = record { whole = tt; quiet = tt; left = tt; cut = CutAt-while t L ps a b left h.cut; later = h.later }

  -- the first moments are whole, and the others follow, whole or cut
  pub Leaves-then : {T U E F : Type 0} (ms ns : List (Moment B)) (s t : B) (L M : B → Type 0) (a b c : Console) (x : T) (r : Result U F)
      → Leaves {T = T} {E = E} ms s L a b (Ok x) → Leaves ns t M b c r → Leaves (ms ++ ns) t M a c r
  Leaves-then ms ns s t L M a b c x (Ok y) g h = record {
    whole = rw (parts_of-append ms ns) (Written-then (parts_of ms) (parts_of ns) a b c g.whole h.whole);
    quiet = Quiet-then a b c g.quiet h.quiet;
    left = h.left;
    cut = tt;
    later = record { out = omega (arith, g.quiet.out, h.quiet.out); err = omega (arith, g.quiet.err, h.quiet.err) };
  }
  Leaves-then ms ns s t L M a b c x (Err f) g h = record {
    whole = tt;
    quiet = tt;
    left = tt;
    cut = CutAt-then ms ns M a b c g.whole g.quiet h.cut;
    later = record { out = omega (arith, g.quiet.out, h.later.out); err = omega (arith, g.quiet.err, h.later.err) };
  }

  -- one of the first moments is cut, and the failure is handed on
  pub Leaves-stop : {T U E F : Type 0} (ms ns : List (Moment B)) (s t : B) (L : B → Type 0) (a b : Console) (e : E) (r : Result U F) (Q : F → Type 0)
      → IsErrAnd r Q → Leaves {T = T} {E = E} ms s L a b (Err e) → Leaves (ms ++ ns) t L a b r
  Leaves-stop ms ns s t L a b e r Q q h = let p = err_from_is_err_and r q in rw p.1 (record { whole = tt; quiet = tt; left = tt; cut = CutAt-stop ms ns L a b h.cut; later = h.later })

  -- another value is given at the end
  pub Leaves-gives : {T U E F : Type 0} (ms : List (Moment B)) (t : B) (L : B → Type 0) (a b : Console) (x : T) (y : U) → Leaves {T = T} {E = E} ms t L a b (Ok x) → Leaves {T = U} {E = F} ms t L a b (Ok y)
  Leaves-gives ms t L a b x y h = record { whole = h.whole; quiet = h.quiet; left = h.left; cut = tt; later = h.later }

  -- a failure of a command, handed on
  pub Goes-failed : {F : Type 0} (c : Course B) (L : B → Type 0) (a b : Console) (r : Result ℕ F) (Q : F → Type 0) → IsErrAnd r Q → Leaves c.moments c.end L a b r → Goes c L a b r
  Goes-failed c L a b r Q q h = let p = err_from_is_err_and r q in rw p.1 (let k : Leaves c.moments c.end L a b (Err p.0) = rw p.1 at h in record { leaves = k; status = tt })

  -- the status of a program whose command gave this
  pub EndsAt-from : {E : Type 0} (c : Course B) (L M : B → Type 0) (a b : Console) (r : Result ℕ E) (status : ℕ) → ((t : B) → L t → M t)
      → Goes c L a b r → MatchResult r (λ given. status ≡ given) (λ _. status ≡ write_fault) → EndsAt c M a b status
  EndsAt-from c L M a b (Ok given) status f h e = rw e (record {
    later = h.leaves.later;
    ended = inl (record { whole = record { status_is = h.status; written = h.leaves.whole; quiet = h.leaves.quiet }; left = f c.end h.leaves.left });
  })
  EndsAt-from c L M a b (Err d) status f h e = rw e (record { later = h.leaves.later; ended = inr (record { status_is = refl; cut = CutAt-left c.moments L M a b f h.leaves.cut }) })

  -- a program that answered while one thing stood
  pub EndsAt-steady : (t : B) (answer : Answer) (L : B → Type 0) (a b : Console) (status : ℕ) → L t → Ends answer a b status → EndsAt (steady t answer) L a b status
  EndsAt-steady t answer L a b status left h = record {
    later = h.later;
    ended = elim h.ended [
      | inl w ↦ inl (record { whole = record { status_is = w.status_is; written = rw (parts_of-while t answer.parts) w.written; quiet = w.quiet }; left = left })
      | inr w ↦ inr (record { status_is = w.status_is; cut = CutAt-while t L answer.parts a b left w.cut })
    ];
  }

  -- a program that went a course ended with its answer
  pub EndsAt-answer : (c : Course B) (L : B → Type 0) (a b : Console) (status : ℕ) → EndsAt c L a b status → Ends (answer_of c) a b status
  EndsAt-answer c L a b status h = record {
    later = h.later;
    ended = elim h.ended [
      | inl w ↦ inl w.whole
      | inr w ↦ inr (record { status_is = w.status_is; cut = CutAt-parts c.moments L a b w.cut })
    ];
  }

  -- a status that is not a write fault's leaves the end
  pub EndsAt-left : (c : Course B) (L : B → Type 0) (a b : Console) (status : ℕ) → EndsAt c L a b status → status ≢ write_fault → L c.end
  EndsAt-left c L a b status h other = elim h.ended [
    | inl w ↦ w.left
    | inr w ↦ absurd (other w.status_is)
  ]

  -- the status of a write fault comes with a cut moment, where the course has another status
  pub EndsAt-cut : (c : Course B) (L : B → Type 0) (a b : Console) (status : ℕ) → EndsAt c L a b status → status ≡ write_fault → c.status ≢ write_fault → CutAt c.moments L a b
  EndsAt-cut c L a b status h e other = elim h.ended [
    | inl w ↦ absurd (other (sym w.whole.status_is ∙ e))
    | inr w ↦ w.cut
  ]

  -- what a cut leaves stood at one of the moments
  CutAt-moment : (ms : List (Moment B)) (L : B → Type 0) (a b : Console) → CutAt ms L a b → (m : Moment B) × (Contains ms m × L m.1)
  CutAt-moment ms L a b h = ((h.part, h.state), (rw h.list (Contains-append_right h.before ((h.part, h.state) ∷ h.after) (h.part, h.state) (0, omega arith, refl)), h.left))

  -- what a program leaves stood at the end of its course, or at one of its moments
  pub EndsAt-moment : (c : Course B) (L : B → Type 0) (a b : Console) (status : ℕ) → EndsAt c L a b status → L c.end ⊎ ((m : Moment B) × (Contains c.moments m × L m.1))
  EndsAt-moment c L a b status h = elim h.ended [
    | inl w ↦ inl w.left
    | inr w ↦ inr (CutAt-moment c.moments L a b w.cut)
  ]
