use Rattle.std.proofs.Common.{◌≡◌, ◌∙◌, Ok, Err, refl, sym}
use Rattle.std.proofs.lemmas.Result.{err_from_is_err_and}
use Rattle.machine_types.specs.declared.touches.Access.TheVariants.{Write}
use Rattle.machine_types.specs.Granules.{with_number}
use Rattle.contents.specs.Accesses.{page_of_place, byte_of_place, write_of}
use Rattle.contents.specs.Laws.{HasSameRegions}
use Rattle.contents.proofs.CallShapes.{write-holds}
use Rattle.contents.proofs.HeldGranules.{number-keeps, place-within}
use Rattle.contents.proofs.KeptRegions.{region-stores}
use Rattle.stores.specs.Known.{Any}
use Rattle.stores.proofs.Keeping.{keeps-stores}
use Rattle.full_space.specs.Full.{FullStands}
use Rattle.full_space.proofs.Accessing.{write-is, found-there}
use Rattle.full_space.proofs.KnownSpaces.{frame-there}
use Rattle.full_space.proofs.ChangedPages.{space-changed}
use Rattle.full_space.proofs.space.FullSpaceStores.write.Goals as goal

pub returns-in_err-entry-clause-answer : goal.returns-in_err-entry-clause-answer
returns-in_err-entry-clause-answer c content stands =
    let refused = err_from_is_err_and c.from_residual.result c.from_residual.ensures.1 in
    let was : c.entry_for.result ≡ Err c.in_err-entry.field-0.0 = c.in_err-entry.was in
    rw (refused.1, refused.2, write-is c.args.self.now content stands c.args.region c.args.at c.args.size c.args.v, ← c.entry_for.ensures, was) refl

pub returns-in_err-entry-clause-after : goal.returns-in_err-entry-clause-after
returns-in_err-entry-clause-after c content stands =
    let was : c.entry_for.result ≡ Err c.in_err-entry.field-0.0 = c.in_err-entry.was in
    rw (write-is c.args.self.now content stands c.args.region c.args.at c.args.size c.args.v, ← c.entry_for.ensures, was) stands

pub store-requires-clause-frame : goal.store-requires-clause-frame
store-requires-clause-frame c =
    let was : c.entry_for.result ≡ Ok c.in_ok-entry.entry = c.in_ok-entry.was in
    frame-there c.args.self.now c.args.region (page_of_place c.args.at) c.in_ok-entry.entry (found-there Write _ c.in_ok-entry.entry (sym was ∙ c.entry_for.ensures)) c.requires.some

pub returns-clause-answer : goal.returns-clause-answer
returns-clause-answer c content stands =
    let was : c.entry_for.result ≡ Ok c.in_ok-entry.entry = c.in_ok-entry.was in
    rw (write-is c.args.self.now content stands c.args.region c.args.at c.args.size c.args.v, ← c.entry_for.ensures, was) refl

pub returns-clause-after : goal.returns-clause-after
returns-clause-after c content stands =
    let was : c.entry_for.result ≡ Ok c.in_ok-entry.entry = c.in_ok-entry.was in
    rw (write-is c.args.self.now content stands c.args.region c.args.at c.args.size c.args.v, ← c.entry_for.ensures, was)
    (space-changed c.args.self.now content c.args.region (page_of_place c.args.at) c.in_ok-entry.entry (λ granules. with_number granules (byte_of_place c.args.at) c.args.size c.args.v) stands
    (found-there Write _ c.in_ok-entry.entry (sym was ∙ c.entry_for.ensures))
    (number-keeps c.args.region (byte_of_place c.args.at) c.args.size c.args.v (place-within c.args.at c.args.size c.requires.size c.requires.aligned)) _ (rw c.byte_of.ensures at c.store.ensures.is) _)

pub returns-clause-keeps : goal.returns-clause-keeps
returns-clause-keeps c =
    keeps-stores FullStands c.args.self.now _ (λ content. (write_of content c.args.region c.args.at c.args.size c.args.v).after) (returns-clause-after c) Any
    (λ content _. write-holds HasSameRegions c.args.region (region-stores c.args.region) content c.args.at c.args.size c.args.v) c.requires.some
