use Rattle.std.proofs.Common.{◌≡◌, ◌∙◌, Ok, Err, refl, sym}
use Rattle.std.proofs.lemmas.Result.{err_from_is_err_and}
use Rattle.machine_types.specs.declared.touches.Access.TheVariants.{Read}
use Rattle.contents.specs.Accesses.{page_of_place}
use Rattle.full_space.proofs.Accessing.{read_cap-is, loaded-after, found-there}
use Rattle.full_space.proofs.KnownSpaces.{frame-there}
use Rattle.full_space.proofs.space.FullSpaceStores.read_cap.Goals as goal

pub returns-in_err-entry-clause-answer : goal.returns-in_err-entry-clause-answer
returns-in_err-entry-clause-answer c content stands =
    let refused = err_from_is_err_and c.from_residual.result c.from_residual.ensures.1 in
    let was : c.entry_for.result ≡ Err c.in_err-entry.field-0.0 = c.in_err-entry.was in
    rw (refused.1, refused.2, read_cap-is c.args.self.now content stands c.args.region c.args.at, ← c.entry_for.ensures, was) refl

pub returns-in_err-entry-clause-after : goal.returns-in_err-entry-clause-after
returns-in_err-entry-clause-after c content stands = rw (read_cap-is c.args.self.now content stands c.args.region c.args.at, loaded-after) stands

pub load_cap-cap-requires-clause-frame : goal.load_cap-cap-requires-clause-frame
load_cap-cap-requires-clause-frame c =
    let was : c.entry_for.result ≡ Ok c.in_ok-entry.entry = c.in_ok-entry.was in
    frame-there c.args.self.now c.args.region (page_of_place c.args.at) c.in_ok-entry.entry (found-there Read _ c.in_ok-entry.entry (sym was ∙ c.entry_for.ensures)) c.requires.some

pub returns-clause-answer : goal.returns-clause-answer
returns-clause-answer c content stands =
    let was : c.entry_for.result ≡ Ok c.in_ok-entry.entry = c.in_ok-entry.was in
    rw (read_cap-is c.args.self.now content stands c.args.region c.args.at, ← c.entry_for.ensures, was, c.load_cap-cap.ensures.is, c.byte_of.ensures) refl

pub returns-clause-after : goal.returns-clause-after
returns-clause-after c content stands = rw (read_cap-is c.args.self.now content stands c.args.region c.args.at, loaded-after) stands
