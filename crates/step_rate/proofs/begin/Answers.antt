use Rattle.contents.specs.Conditions.{HasStore, HasEmptyStore, LacksPage}
use Rattle.stores.proofs.Keeping.{stands-weaker}
use Rattle.cheri_step.specs.Effect.{CanStep}
use Rattle.step_rate.proofs.Started.{empty-lacks, whole-inside, whole-code, started}
use Rattle.step_rate.proofs.begin.Goals as goal

pub add_page-requires-clause-absent : goal.add_page-requires-clause-absent
add_page-requires-clause-absent g c = stands-weaker g.S.Stores.stands_for c.begin.new.self (HasEmptyStore 0) (LacksPage 0 0) (empty-lacks 0 0) c.begin.ensures.empty

pub returns : goal.returns
returns g c =
    let register = whole-inside c.root.result c.root.ensures.base c.root.ensures.top in
    let code = c.root-2.ensures in
    record {
      ready = stands-weaker g.S.Stores.stands_for c.add_page.new.self (HasStore 0) (CanStep 0 c.put.new.self c.root-2.result)
          (started c.put.new.self c.root-2.result c.put.ensures.whole (c.put.ensures.inside 0 (c.new-regs.ensures.inside 0) (λ _. register)) (whole-code c.root-2.result code.tag code.plain code.address code.perms) (whole-inside c.root-2.result code.base code.top))
          (c.add_page.ensures.keeps.with_store 0 c.begin.ensures.begun);
    }
