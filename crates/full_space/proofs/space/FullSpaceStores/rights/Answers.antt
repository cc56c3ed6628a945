use Rattle.std.proofs.Common.{◌≡◌, Some, None, refl}
use Rattle.full_space.proofs.Looking.{rights-is}
use Rattle.full_space.proofs.space.FullSpaceStores.rights.Goals as goal

pub returns-in_err-entry : goal.returns-in_err-entry
returns-in_err-entry c content stands =
    let was : c.entry_of.result ≡ None = c.in_err-entry.was in
    rw (c.from_residual.ensures, rights-is c.args.self.now content c.args.region c.args.page stands, ← c.entry_of.ensures, was) refl

pub returns : goal.returns
returns c content stands =
    let was : c.entry_of.result ≡ Some c.in_ok-entry.entry = c.in_ok-entry.was in
    rw (rights-is c.args.self.now content c.args.region c.args.page stands, ← c.entry_of.ensures, was) refl
