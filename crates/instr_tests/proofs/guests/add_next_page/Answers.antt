use Rattle.std.proofs.Common.{◌∙◌, arith}
use Rattle.contents.specs.Conditions.{LacksPage}
use Rattle.contents.proofs.KeptRegions.{add_page-regions}
use Rattle.contents.proofs.StayedElse.{added-others}
use Rattle.stores.proofs.Keeping.{stands-after}
use Rattle.full_space.specs.Full.{FullStands}
use Rattle.instr_tests.proofs.guests.add_next_page.Goals as goal

pub returns : goal.returns
returns c = record {
  lacks = λ p after.
      stands-after FullStands c.args.space.now c.add_page.new.self _ c.add_page.ensures.after (LacksPage 0 p) (LacksPage 0 p)
      (λ content _ lacks. record {
        store = add_page-regions content 0 c.args.page c.args.rights _ 0 ∙ lacks.store;
        absent = added-others content 0 c.args.page c.args.rights _ p (λ same. omega arith) ∙ lacks.absent;
      }) (c.requires.lacks p (omega arith));
}
