use Rattle.std.proofs.Common.{◌∙◌, ap, arith}
use Rattle.std.specs.Prelude.{is_some}
use Rattle.contents.specs.Content.{page_in}
use Rattle.contents.specs.Conditions.{HasEmptyStore, LacksPage}
use Rattle.contents.proofs.KeptRegions.{add_page-regions}
use Rattle.contents.proofs.StayedElse.{added-others}
use Rattle.stores.proofs.Keeping.{stands-after, stands-weaker}
use Rattle.full_space.specs.Full.{FullStands}
use Rattle.full_space.proofs.tests.begin_page.Goals as goal

pub add_page-requires-clause-absent : goal.add_page-requires-clause-absent
add_page-requires-clause-absent c =
    stands-weaker FullStands c.begin.new.self (HasEmptyStore c.args.region) (LacksPage c.args.region 0)
    (λ content empty. record { store = ap is_some empty; absent = ap (λ o. page_in o 0) empty }) c.begin.ensures.empty

pub returns-clause-lacks : goal.returns-clause-lacks
returns-clause-lacks c =
    stands-after FullStands c.begin.new.self c.add_page.new.self _ c.add_page.ensures.after (HasEmptyStore c.args.region) (LacksPage c.args.region 1)
    (λ content _ empty. record {
      store = add_page-regions content c.args.region 0 c.args.rights _ c.args.region ∙ ap is_some empty;
      absent = added-others content c.args.region 0 c.args.rights _ 1 (λ same. omega arith) ∙ ap (λ o. page_in o 1) empty;
    }) c.begin.ensures.empty
