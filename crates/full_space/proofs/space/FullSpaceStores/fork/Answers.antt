use Rattle.std.proofs.Common.{◌≡◌, ◌∙◌, true, refl, sym, ap, slice_set}
use Rattle.std.specs.Prelude.{is_some}
use Rattle.std.specs.Option.{option_map}
use Rattle.machine_types.specs.Stores.{moved_store}
use Rattle.contents.specs.Regions.{fork_of}
use Rattle.contents.specs.Conditions.{HasStore, HasNoStore}
use Rattle.contents.specs.Laws.{OthersStay, HasSameSetting}
use Rattle.contents.proofs.CallShapes.{fork-holds}
use Rattle.contents.proofs.KeptRegions.{fork-some}
use Rattle.contents.proofs.Options.{is_some-option_map}
use Rattle.contents.proofs.OtherStores.{other-steps}
use Rattle.contents.proofs.Settings.{setting-steps}
use Rattle.stores.proofs.Keeping.{stands-after, keeps-others}
use Rattle.full_space.specs.Full.{FullStands}
use Rattle.full_space.proofs.KnownSpaces.{board-stands, live-there, live-none, store-there}
use Rattle.full_space.proofs.LiveRegions.{space-stored}
use Rattle.full_space.proofs.ForkOutcomes.{fork-lacks, refused-after, forked-stores}
use Rattle.full_space.proofs.space.FullSpaceStores.fork.Goals as goal

pub returns-then-free-page_count-clause-answer : goal.returns-then-free-page_count-clause-answer
returns-then-free-page_count-clause-answer c content stands =
    sym (fork-lacks c.args.self.now content c.args.from c.args.to c.free.result c.page_count.result stands c.free.ensures (c.page_count.ensures.each content stands.board) c.if-free-page_count.true)

pub returns-then-free-page_count-clause-after : goal.returns-then-free-page_count-clause-after
returns-then-free-page_count-clause-after c content stands =
    rw (refused-after content c.args.from c.args.to (sym (returns-then-free-page_count-clause-answer c content stands))) stands

pub returns-then-free-page_count-clause-keeps : goal.returns-then-free-page_count-clause-keeps
returns-then-free-page_count-clause-keeps c =
    keeps-others FullStands c.args.self.now c.args.self.now (λ content. content) (λ content stands. stands) (HasStore c.args.from) c.args.to (λ content _ region _. refl) c.requires.store

pub copy_pages-requires-clause-apart : goal.copy_pages-requires-clause-apart
copy_pages-requires-clause-apart c same =
    let there = live-there c.args.self.now c.args.from c.requires.store in
    let none = live-none c.args.self.now c.args.to c.requires.none in
    cc

pub copy_pages-requires-clause-none : goal.copy_pages-requires-clause-none
copy_pages-requires-clause-none c = board-stands c.args.self.now (HasNoStore c.args.to) c.requires.none

pub returns-clause-after : goal.returns-clause-after
returns-clause-after c content stands =
    let outcome = c.copy_pages.ensures.each content stands.board stands.rule in
    let parent = store-there c.args.self.now c.args.from c.requires.store content stands in
    let child : is_some (option_map (moved_store c.args.from c.args.to) (content.stores c.args.from)) ≡ true = is_some-option_map (moved_store c.args.from c.args.to) (content.stores c.args.from) ∙ parent in
    space-stored c.args.self.now _ content (fork_of content c.args.from c.args.to).after c.args.to (option_map (moved_store c.args.from c.args.to) (content.stores c.args.from)) stands outcome.after
    (fork-holds HasSameSetting c.args.to (setting-steps c.args.to) content c.args.from) (forked-stores content c.args.from c.args.to (sym outcome.answer))
    (c.begin.ensures.is ∙ ap (slice_set c.args.self.now.live c.args.to) (sym child)) c.begin.ensures.within

pub returns-clause-begun : goal.returns-clause-begun
returns-clause-begun c _ =
    stands-after FullStands c.args.self.now _ (λ content. (fork_of content c.args.from c.args.to).after) (returns-clause-after c) (HasStore c.args.from) (HasStore c.args.to)
    (λ content stands parent. fork-some content c.args.from c.args.to (sym (c.copy_pages.ensures.each content stands.board stands.rule).answer) ∙ parent) c.requires.store

pub returns-clause-keeps : goal.returns-clause-keeps
returns-clause-keeps c =
    keeps-others FullStands c.args.self.now _ (λ content. (fork_of content c.args.from c.args.to).after) (returns-clause-after c) (HasStore c.args.from) c.args.to
    (λ content _. fork-holds (OthersStay c.args.to) c.args.to (other-steps c.args.to) content c.args.from) c.requires.store
