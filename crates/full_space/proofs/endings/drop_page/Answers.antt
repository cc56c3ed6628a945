use Rattle.std.proofs.Common.{◌≡◌, ◌∙◌, Some, refl, sym, arith}
use Rattle.stores.specs.Known.{Any}
use Rattle.full_space.proofs.EndedPages.{stands-dropped, stands-absent}
use Rattle.full_space.proofs.LostFrames.{HasLostFrame}
use Rattle.full_space.proofs.OwnFrames.{entry-used, entry-owners, own-alone, own-lost}
use Rattle.full_space.proofs.endings.drop_page.Goals as goal

pub leave-requires-clause-frame : goal.leave-requires-clause-frame
leave-requires-clause-frame c = entry-owners c.args.board.now Any c.requires.some c.args.region c.args.page c.in-Some.entry (sym c.entry_of.ensures ∙ c.in-Some.is)

pub leave-requires-clause-shared : goal.leave-requires-clause-shared
leave-requires-clause-shared c = let one = own-alone c.args.board.now c.args.region c.args.page c.in-Some.entry c.requires.own (sym c.entry_of.ensures ∙ c.in-Some.is) in omega arith

pub give-requires : goal.give-requires
give-requires c = entry-used c.args.board.now Any c.requires.some c.args.region c.args.page c.in-Some.entry (sym c.entry_of.ensures ∙ c.in-Some.is)

-- the page loses its frame
lost : (c : goal.After-give) → HasLostFrame c.args.board.now (record c.args.board.now { pool = c.give.new.self; owners = c.leave.new.self; table = c.unset.new.self }) c.args.region c.args.page c.in-Some.entry
lost c =
    let there : c.args.board.now.table.entries c.args.region c.args.page ≡ Some c.in-Some.entry = sym c.entry_of.ensures ∙ c.in-Some.is in
    record {
      there = there;
      alone = own-alone c.args.board.now c.args.region c.args.page c.in-Some.entry c.requires.own there;
      memory = refl;
      pool = c.give.ensures.after;
      owners = c.leave.ensures.after;
      entries = c.unset.ensures.is;
    }

pub returns-in-Some-clause-own : goal.returns-in-Some-clause-own
returns-in-Some-clause-own c = own-lost c.args.board.now _ Any c.args.region c.args.page c.in-Some.entry c.requires.some (lost c) c.requires.own

pub returns-in-Some-clause-each : goal.returns-in-Some-clause-each
returns-in-Some-clause-each c = λ content stands. stands-dropped c.args.board.now _ content c.args.region c.args.page c.in-Some.entry (lost c) stands

pub returns-in_default-clause-each : goal.returns-in_default-clause-each
returns-in_default-clause-each c = λ content stands. stands-absent c.args.board.now content c.args.region c.args.page (sym c.entry_of.ensures ∙ c.in_default.is) stands
