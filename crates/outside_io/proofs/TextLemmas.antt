-- Texts that are printed to one sink in several calls.
use Rattle.std.proofs.Common.{◌≡◌, ℕ, min, ◌+◌, List, [], ◌++◌, append_assoc, append-nil, length, take, refl, sym, ◌∙◌, arith, Ok, Err, Result, IsErrAnd}
use Rattle.std.proofs.lemmas.Result.{err_from_is_err_and}
use Rattle.std.proofs.Math.Seq.{take-append-add}
use Rattle.std.proofs.lemmas.List.{take-append-le, take_min}
use Rattle.std.proofs.KnownBytes.{Appends-trans, Appends-nil}
use Rattle.outside_io.specs.States.{SinkState, PrintsText, TextUnderway}

-- a prefix of the first text is one of both together
take_short : (count : ℕ) (a b : List ℕ) → take (min count (length a)) (a ++ b) ≡ take count a
take_short count a b = take-append-le (min count (length a)) a b (omega arith) ∙ take_min count a

-- A failure in the first text is one in both together, and is handed on.
pub PrintsText-stop : {T U E F : Type 0} (a b : List ℕ) (old new : SinkState) (e : E) (r : Result U F) (Q : F → Type 0) → IsErrAnd r Q → PrintsText {T = T} {E = E} a old new (Err e) → PrintsText (a ++ b) old new r
PrintsText-stop a b old new e r Q q h = let p = err_from_is_err_and r q in rw p.1 (record {
  whole = tt;
  part = (min h.part.0 (length a), rw take_short (h.part.1));
  cause = record { later = h.cause.later; failed = h.cause.failed; kept = tt };
})

-- The first text is whole, and the second follows, whole or not.
pub PrintsText-then : {T U E F : Type 0} (a b : List ℕ) (old mid new : SinkState) (x : T) (r : Result U F) → PrintsText {T = T} {E = E} a old mid (Ok x) → PrintsText b mid new r → PrintsText (a ++ b) old new r
PrintsText-then a b old mid new x (Ok y) g h = record {
  whole = Appends-trans _ _ _ a b g.whole h.whole;
  part = tt;
  cause = record { later = omega (arith, g.cause.later, h.cause.later); failed = tt; kept = h.cause.kept ∙ g.cause.kept };
}
PrintsText-then a b old mid new x (Err e) g h = record {
  whole = tt;
  part = (length a + h.part.0, rw take-append-add (Appends-trans _ _ _ a (take h.part.0 b) g.whole h.part.1));
  cause = record { later = omega (arith, g.cause.later, h.cause.later); failed = let k = g.cause.kept in rw k at h.cause.failed; kept = tt };
}

-- a call that printed nothing
pub PrintsText-nothing : {T E : Type 0} (a : SinkState) (x : T) → PrintsText {T = T} {E = E} [] a a (Ok x)
PrintsText-nothing a x = record { whole = Appends-nil a.written; part = tt; cause = record { later = omega arith; failed = tt; kept = refl } }

-- the whole text is left
pub TextUnderway-start : (text : List ℕ) (a : SinkState) → TextUnderway text text a a
TextUnderway-start text a = record { done = []; list = refl; written = Appends-nil a.written; kept = refl }

-- the next piece is printed whole
pub TextUnderway-more : {T E : Type 0} (text piece rest : List ℕ) (a b c : SinkState) (x : T) → TextUnderway text (piece ++ rest) a b → PrintsText {T = T} {E = E} piece b c (Ok x) → TextUnderway text rest a c
TextUnderway-more text piece rest a b c x g h = record {
  done = g.done ++ piece;
  list = g.list ∙ sym (append_assoc g.done piece rest);
  written = Appends-trans _ _ _ g.done piece g.written h.whole;
  kept = h.cause.kept ∙ g.kept;
}

-- The next piece failed, and the failure is handed on.
pub TextUnderway-stop : {T E U F : Type 0} (text piece rest : List ℕ) (a b c : SinkState) (e : E) (r : Result U F) (Q : F → Type 0) → IsErrAnd r Q → TextUnderway text (piece ++ rest) a b → PrintsText {T = T} {E = E} piece b c (Err e) → PrintsText text a c r
TextUnderway-stop text piece rest a b c e r Q q g h = let p = err_from_is_err_and r q in rw p.1 (record {
  whole = tt;
  part = (length g.done + min h.part.0 (length piece), rw (g.list, take-append-add) (Appends-trans _ _ _ g.done _ g.written (rw take_short h.part.1)));
  cause = record { later = omega (arith, g.kept, h.cause.later); failed = let k = g.kept in rw k at h.cause.failed; kept = tt };
})

-- nothing of the text is left
pub TextUnderway-end : {T E : Type 0} (text : List ℕ) (a b : SinkState) (x : T) → TextUnderway text [] a b → PrintsText {T = T} {E = E} text a b (Ok x)
TextUnderway-end text a b x g = record {
  whole = rw (g.list ∙ append-nil g.done) g.written;
  part = tt;
  cause = record { later = omega (arith, g.kept); failed = tt; kept = g.kept };
}
