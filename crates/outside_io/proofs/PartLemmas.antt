-- Parts that are written in several calls, one after another.
use Rattle.std.proofs.Common.{◌≡◌, ◌≢◌, ℕ, List, [], ◌∷◌, ◌++◌, refl, sym, ap, ◌∙◌, arith, subst, Ok, Err, Result, OnErr, append_assoc, append-nil, IsErrAnd}
use Rattle.std.proofs.lemmas.Result.{err_from_is_err_and}
use Rattle.std.proofs.KnownBytes.{Appends-trans, Appends-nil}
use Rattle.outside_io.specs.Faults.{Rose}
use Rattle.outside_io.specs.States.{SinkState, PrintsText}
use Rattle.outside_io.specs.Parts.{Part, out_part, err_part, Console, console, out_bytes, err_bytes, front_of, RoseAt, Written, Cut, Quiet, Prints, Underway}

-- the bytes for one sink of two lists of parts are those of the first, and then those of the second
pub out_bytes-append : (ps qs : List Part) → out_bytes (ps ++ qs) ≡ out_bytes ps ++ out_bytes qs
out_bytes-append [] qs = refl
out_bytes-append (out_part bytes ∷ ps) qs = ap (λ l. bytes ++ l) (out_bytes-append ps qs) ∙ sym (append_assoc bytes (out_bytes ps) (out_bytes qs))
out_bytes-append (err_part bytes ∷ ps) qs = out_bytes-append ps qs

pub err_bytes-append : (ps qs : List Part) → err_bytes (ps ++ qs) ≡ err_bytes ps ++ err_bytes qs
err_bytes-append [] qs = refl
err_bytes-append (err_part bytes ∷ ps) qs = ap (λ l. bytes ++ l) (err_bytes-append ps qs) ∙ sym (append_assoc bytes (err_bytes ps) (err_bytes qs))
err_bytes-append (out_part bytes ∷ ps) qs = err_bytes-append ps qs

-- no part is written where nothing happens
pub Written-nil : (a : Console) → Written [] a a
Written-nil a = record { out = Appends-nil a.out.written; err = Appends-nil a.err.written }

-- parts that are written after others
pub Written-then : (ps qs : List Part) (a b c : Console) → Written ps a b → Written qs b c → Written (ps ++ qs) a c
Written-then ps qs a b c g h = record {
  out = rw (out_bytes-append ps qs) (Appends-trans _ _ _ (out_bytes ps) (out_bytes qs) g.out h.out);
  err = rw (err_bytes-append ps qs) (Appends-trans _ _ _ (err_bytes ps) (err_bytes qs) g.err h.err);
}

-- no fault is met where nothing happens, nor in one quiet call after another
pub Quiet-refl : (a : Console) → Quiet a a
Quiet-refl a = record { out = refl; err = refl }

pub Quiet-then : (a b c : Console) → Quiet a b → Quiet b c → Quiet a c
Quiet-then a b c g h = record { out = h.out ∙ g.out; err = h.err ∙ g.err }

-- a count that rose after a quiet call rose in both together
pub RoseAt-later : (part : Part) (a b c : Console) → Quiet a b → RoseAt part b c → RoseAt part a c
RoseAt-later (out_part bytes) a b c g h = subst (λ n. Rose n c.out.faults) g.out h
RoseAt-later (err_part bytes) a b c g h = subst (λ n. Rose n c.err.faults) g.err h

-- a cut in the first parts is a cut in all of them
pub Cut-stop : (ps qs : List Part) (a b : Console) → Cut ps a b → Cut (ps ++ qs) a b
Cut-stop ps qs a b h = record {
  before = h.before;
  part = h.part;
  some = h.some;
  after = h.after ++ qs;
  count = h.count;
  list = ap (λ l. l ++ qs) h.list ∙ append_assoc h.before (h.part ∷ h.after) qs;
  written = h.written;
  rose = h.rose;
}

-- the first parts are whole, and one of those after them is cut
pub Cut-then : (ps qs : List Part) (a b c : Console) → Written ps a b → Quiet a b → Cut qs b c → Cut (ps ++ qs) a c
Cut-then ps qs a b c g quiet h = record {
  before = ps ++ h.before;
  part = h.part;
  some = h.some;
  after = h.after;
  count = h.count;
  list = ap (λ l. ps ++ l) h.list ∙ sym (append_assoc ps h.before (h.part ∷ h.after));
  written = rw (append_assoc ps h.before (front_of h.count h.part ∷ [])) (Written-then ps (h.before ++ front_of h.count h.part ∷ []) a b c g h.written);
  rose = RoseAt-later h.part a b c quiet h.rose;
}

module _ {T E : Type 0} where
  -- a text that is printed to the output is one part
  pub Prints-out : (text : List ℕ) (o p e : SinkState) (r : Result T E) → OnErr r (text ≢ []) → PrintsText text o p r → Prints (out_part text ∷ []) (console o e) (console p e) r
  Prints-out text o p e (Ok x) some h = record {
    whole = record { out = rw append-nil h.whole; err = Appends-nil e.written };
    quiet = record { out = h.cause.kept; err = refl };
    cut = tt;
    later = record { out = h.cause.later; err = omega arith };
  }
  Prints-out text o p e (Err x) some h = record {
    whole = tt;
    quiet = tt;
    cut = record {
      before = [];
      part = out_part text;
      some = some;
      after = [];
      count = h.part.0;
      list = refl;
      written = record { out = rw append-nil h.part.1; err = Appends-nil e.written };
      rose = h.cause.failed;
    };
    later = record { out = h.cause.later; err = omega arith };
  }

  -- and so is one that is printed to the errors
  pub Prints-err : (text : List ℕ) (o e f : SinkState) (r : Result T E) → OnErr r (text ≢ []) → PrintsText text e f r → Prints (err_part text ∷ []) (console o e) (console o f) r
  Prints-err text o e f (Ok x) some h = record {
    whole = record { err = rw append-nil h.whole; out = Appends-nil o.written };
    quiet = record { err = h.cause.kept; out = refl };
    cut = tt;
    later = record { err = h.cause.later; out = omega arith };
  }
  Prints-err text o e f (Err x) some h = record {
    whole = tt;
    quiet = tt;
    cut = record {
      before = [];
      part = err_part text;
      some = some;
      after = [];
      count = h.part.0;
      list = refl;
      written = record { err = rw append-nil h.part.1; out = Appends-nil o.written };
      rose = h.cause.failed;
    };
    later = record { err = h.cause.later; out = omega arith };
  }

  -- no part is left
  pub Underway-end : (ps : List Part) (a b : Console) (x : T) → Underway ps [] a b → Prints {T = T} {E = E} ps a b (Ok x)
  Underway-end ps a b x h = record {
    whole = rw (h.list ∙ append-nil h.done) h.written;
    quiet = h.quiet;
    cut = tt;
    later = record { out = omega (arith, h.quiet.out); err = omega (arith, h.quiet.err) };
  }

  -- the next parts are written whole
  pub Underway-more : (ps qs rest : List Part) (a b c : Console) (x : T) → Underway ps (qs ++ rest) a b → Prints {T = T} {E = E} qs b c (Ok x) → Underway ps rest a c
  Underway-more ps qs rest a b c x g h = record {
    done = g.done ++ qs;
    list = g.list ∙ sym (append_assoc g.done qs rest);
    written = Written-then g.done qs a b c g.written h.whole;
    quiet = Quiet-then a b c g.quiet h.quiet;
  }

-- all parts are left
pub Underway-start : (ps : List Part) (a : Console) → Underway ps ps a a
Underway-start ps a = record { done = []; list = refl; written = Written-nil a; quiet = Quiet-refl a }

-- One of the next parts is cut, and the failure is handed on.
pub Underway-stop : {T E U F : Type 0} (ps qs rest : List Part) (a b c : Console) (e : E) (r : Result U F) (Q : F → Type 0) → IsErrAnd r Q → Underway ps (qs ++ rest) a b → Prints {T = T} {E = E} qs b c (Err e) → Prints ps a c r
Underway-stop ps qs rest a b c e r Q q g h = let p = err_from_is_err_and r q in rw p.1 (record {
  whole = tt;
  quiet = tt;
  cut = rw g.list (Cut-then g.done (qs ++ rest) a b c g.written g.quiet (Cut-stop qs rest b c h.cut));
  later = record { out = omega (arith, g.quiet.out, h.later.out); err = omega (arith, g.quiet.err, h.later.err) };
})

-- One of the first parts is cut, and the failure is handed on.
pub Prints-stop : {T U E F : Type 0} (ps qs : List Part) (a b : Console) (e : E) (r : Result U F) (Q : F → Type 0) → IsErrAnd r Q → Prints {T = T} {E = E} ps a b (Err e) → Prints (ps ++ qs) a b r
Prints-stop ps qs a b e r Q q h = let p = err_from_is_err_and r q in rw p.1 (record { whole = tt; quiet = tt; cut = Cut-stop ps qs a b h.cut; later = h.later })

-- The first parts are whole, and the others follow, whole or cut.
pub Prints-then : {T U E F : Type 0} (ps qs : List Part) (a b c : Console) (x : T) (r : Result U F) → Prints {T = T} {E = E} ps a b (Ok x) → Prints qs b c r → Prints (ps ++ qs) a c r
Prints-then ps qs a b c x (Ok y) g h = record {
  whole = Written-then ps qs a b c g.whole h.whole;
  quiet = Quiet-then a b c g.quiet h.quiet;
  cut = tt;
  later = record { out = omega (arith, g.quiet.out, h.quiet.out); err = omega (arith, g.quiet.err, h.quiet.err) };
}
Prints-then ps qs a b c x (Err f) g h = record {
  whole = tt;
  quiet = tt;
  cut = Cut-then ps qs a b c g.whole g.quiet h.cut;
  later = record { out = omega (arith, g.quiet.out, h.later.out); err = omega (arith, g.quiet.err, h.later.err) };
}

-- a call that wrote no part
pub Prints-nothing : {T E : Type 0} (a : Console) (x : T) → Prints {T = T} {E = E} [] a a (Ok x)
Prints-nothing a x = record { whole = Written-nil a; quiet = Quiet-refl a; cut = tt; later = record { out = omega arith; err = omega arith } }

-- another value is given at the end
pub Prints-gives : {T U E F : Type 0} (ps : List Part) (a b : Console) (x : T) (y : U) → Prints {T = T} {E = E} ps a b (Ok x) → Prints {T = U} {E = F} ps a b (Ok y)
Prints-gives ps a b x y h = record { whole = h.whole; quiet = h.quiet; cut = tt; later = h.later }
