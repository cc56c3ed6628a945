use Rattle.std.proofs.Common.{ap, arith}
use Rattle.std.specs.Prelude.{is_some}
use Rattle.contents.specs.Content.{page_in}
use Rattle.contents.specs.Conditions.{HasStore, HasEmptyStore, LacksPage}
use Rattle.stores.proofs.Keeping.{stands-weaker}
use Rattle.full_space.specs.Full.{FullStands}
use Rattle.instr_tests.proofs.guests.begin_pages.Goals as goal

pub add_next_page-requires-clause-lacks : goal.add_next_page-requires-clause-lacks
add_next_page-requires-clause-lacks c p from =
    stands-weaker FullStands c.begin.new.self (HasEmptyStore 0) (LacksPage 0 p)
    (λ content empty. record { store = ap is_some empty; absent = ap (λ o. page_in o p) empty }) c.begin.ensures.empty

pub returns : goal.returns
returns c =
    stands-weaker FullStands c.add_next_page-4.new.space (LacksPage 0 4) (HasStore 0) (λ content lacks. lacks.store)
    (c.add_next_page-4.ensures.lacks 4 (omega arith))
