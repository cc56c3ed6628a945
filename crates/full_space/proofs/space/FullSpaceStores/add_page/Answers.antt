use Rattle.std.proofs.Common.{◌≡◌, ◌∙◌, Result, Ok, Err, refl, sym}
use Rattle.std.specs.Prelude.{IsOk}
use Rattle.machine_types.specs.declared.touches.NoFrame.{NoFrame}
use Rattle.contents.specs.Regions.{add_page_of}
use Rattle.contents.specs.Conditions.{LacksPage, IsOwn}
use Rattle.contents.specs.Laws.{HasSameSetting}
use Rattle.contents.proofs.AddedPages.{added-own}
use Rattle.contents.proofs.CallShapes.{add_page-holds}
use Rattle.contents.proofs.KeptRegions.{add_page-regions}
use Rattle.contents.proofs.Settings.{setting-steps}
use Rattle.stores.proofs.Keeping.{stands-after, keeps-stores}
use Rattle.stores.proofs.WholeContents.{stands-whole}
use Rattle.full_space.specs.Full.{FullStands}
use Rattle.full_space.proofs.KnownSpaces.{board-stands, store-there, lacks-store}
use Rattle.full_space.proofs.ChangedPages.{space-after}
use Rattle.full_space.proofs.AddedPages.{own-added}
use Rattle.full_space.proofs.space.FullSpaceStores.add_page.Goals as goal

pub add_own_page-requires-clause-absent : goal.add_own_page-requires-clause-absent
add_own_page-requires-clause-absent c = board-stands c.args.self.now (LacksPage c.args.region c.args.page) c.requires.absent

pub invariant_of-self : goal.invariant_of-self
invariant_of-self c = record {
  own = own-added c.args.self.now.board c.add_own_page.new.board c.args.region c.args.page c.args.rights c.args.bytes.now c.args.self.now.own
      (board-stands c.args.self.now (LacksPage c.args.region c.args.page) c.requires.absent) c.add_own_page.result c.add_own_page.ensures.each c.add_own_page.ensures.refused;
}

pub returns-clause-answer : goal.returns-clause-answer
returns-clause-answer c content stands =
    (c.add_own_page.ensures.each content stands.board (store-there c.args.self.now c.args.region (lacks-store c.args.self.now c.args.region c.args.page c.requires.absent) content stands)).answer

pub returns-clause-after : goal.returns-clause-after
returns-clause-after c content stands =
    space-after c.args.self.now _ content (add_page_of content c.args.region c.args.page c.args.rights c.args.bytes.now).after stands
    (c.add_own_page.ensures.each content stands.board (store-there c.args.self.now c.args.region (lacks-store c.args.self.now c.args.region c.args.page c.requires.absent) content stands)).after refl
    (add_page-holds HasSameSetting c.args.region (setting-steps c.args.region) content c.args.page c.args.rights c.args.bytes.now)
    (add_page-regions content c.args.region c.args.page c.args.rights c.args.bytes.now)

-- what is Ok is Ok of nothing
ok-is : (result : Result (Unit {0}) NoFrame) → IsOk result → result ≡ Ok tt
ok-is (Ok done) ok = refl
ok-is (Err lack) ok = absurd (cc)

pub returns-clause-own : goal.returns-clause-own
returns-clause-own c done =
    stands-after FullStands c.args.self.now _ (λ content. (add_page_of content c.args.region c.args.page c.args.rights c.args.bytes.now).after) (returns-clause-after c)
    (LacksPage c.args.region c.args.page) (IsOwn c.args.region c.args.page)
    (λ content stands lacks. added-own content c.args.region c.args.page c.args.rights c.args.bytes.now (stands-whole c.args.self.now.board content stands.board) lacks
    (sym (returns-clause-answer c content stands) ∙ ok-is c.add_own_page.result done)) c.requires.absent

pub returns-clause-keeps : goal.returns-clause-keeps
returns-clause-keeps c =
    keeps-stores FullStands c.args.self.now _ (λ content. (add_page_of content c.args.region c.args.page c.args.rights c.args.bytes.now).after) (returns-clause-after c) (LacksPage c.args.region c.args.page)
    (λ content _. add_page-regions content c.args.region c.args.page c.args.rights c.args.bytes.now) c.requires.absent
