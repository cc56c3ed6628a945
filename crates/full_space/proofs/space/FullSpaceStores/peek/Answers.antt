use Rattle.std.proofs.Common.{◌≡◌, ◌∙◌, ◌*◌, ◌/◌, Some, None, refl, sym, arith}
use Rattle.full_space.proofs.KnownSpaces.{frame-there}
use Rattle.full_space.proofs.Looking.{peek-is}
use Rattle.full_space.proofs.space.FullSpaceStores.peek.Goals as goal

pub returns-in_err-entry : goal.returns-in_err-entry
returns-in_err-entry c content stands =
    let was : c.entry_of.result ≡ None = c.in_err-entry.was in
    rw (c.from_residual.ensures, peek-is c.args.self.now content c.args.region c.args.page c.args.granule stands, ← c.entry_of.ensures, was) refl

pub load_cap-requires-clause-frame : goal.load_cap-requires-clause-frame
load_cap-requires-clause-frame c =
    let was : c.entry_of.result ≡ Some c.in_ok-entry.entry = c.in_ok-entry.was in
    frame-there c.args.self.now c.args.region c.args.page c.in_ok-entry.entry (sym c.entry_of.ensures ∙ was) c.requires.some

pub returns : goal.returns
returns c content stands =
    let was : c.entry_of.result ≡ Some c.in_ok-entry.entry = c.in_ok-entry.was in
    let place : 16 * c.args.granule / 16 ≡ c.args.granule = omega arith in
    rw (peek-is c.args.self.now content c.args.region c.args.page c.args.granule stands, ← c.entry_of.ensures, was, c.load_cap.ensures.is, place) refl
