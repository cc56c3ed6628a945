use Rattle.std.proofs.Common.{◌∙◌, sym, rules, slice_set}
use Rattle.contents.specs.Accesses.{page_of_place, granule_of_place}
use Rattle.contents.specs.Regions.{seed_cap_of}
use Rattle.contents.specs.Conditions.{IsOwn}
use Rattle.contents.specs.Laws.{HasSameRegions}
use Rattle.contents.proofs.CallShapes.{seed_cap-holds}
use Rattle.contents.proofs.HeldGranules.{cap-keeps}
use Rattle.contents.proofs.KeptRegions.{region-stores}
use Rattle.stores.proofs.Keeping.{keeps-stores}
use Rattle.full_space.specs.Full.{FullStands}
use Rattle.full_space.proofs.KnownSpaces.{frame-there, own-there}
use Rattle.full_space.proofs.ChangedPages.{space-changed}
use Rattle.full_space.proofs.space.FullSpaceStores.seed_cap.Goals as goal

pub unwrap-entry-requires : goal.unwrap-entry-requires
unwrap-entry-requires c = rw (c.entry_of.ensures, c.page_of.ensures) (own-there c.args.self.now c.args.region (page_of_place c.args.at) c.requires.own)

pub store_cap-requires-clause-frame : goal.store_cap-requires-clause-frame
store_cap-requires-clause-frame c = frame-there c.args.self.now c.args.region c.page_of.result c.unwrap-entry.result (sym c.entry_of.ensures ∙ c.unwrap-entry.ensures) c.requires.own

pub returns-clause-after : goal.returns-clause-after
unfolding seed_cap_of
returns-clause-after c content stands =
    space-changed c.args.self.now content c.args.region (page_of_place c.args.at) c.unwrap-entry.result (λ granules. slice_set granules (granule_of_place c.args.at) c.args.cap) stands
    (rw c.page_of.ensures at (sym c.entry_of.ensures ∙ c.unwrap-entry.ensures)) (cap-keeps c.args.region (granule_of_place c.args.at) c.args.cap (search rules) c.requires.held) _ (rw c.byte_of.ensures at c.store_cap.ensures.is) _

pub returns-clause-keeps : goal.returns-clause-keeps
returns-clause-keeps c =
    keeps-stores FullStands c.args.self.now _ (λ content. seed_cap_of content c.args.region c.args.at c.args.cap) (returns-clause-after c) (IsOwn c.args.region (page_of_place c.args.at))
    (λ content _. seed_cap-holds HasSameRegions c.args.region (region-stores c.args.region) content c.args.at c.args.cap) c.requires.own
