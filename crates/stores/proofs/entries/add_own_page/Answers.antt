use Rattle.std.proofs.Common.{rules, ◌≡◌, ◌≢◌}
use Rattle.frame_pool.specs.Pool.{used_count}
use Rattle.page_table.specs.declared.table.Entry.{Entry}
use Rattle.contents.specs.Conditions.{LacksPage}
use Rattle.stores.specs.declared.board.Board.{Board}
use Rattle.stores.proofs.FreeFrames.{free-memory, free-owners, free-sharers}
use Rattle.stores.proofs.OwnPages.{lacks-entry, add-refused, add-done}
use Rattle.stores.proofs.entries.add_own_page.Goals as goal

pub returns-in_default-clause-each : goal.returns-in_default-clause-each
returns-in_default-clause-each c d stands store =
    let all : used_count c.args.board.now.pool ≡ c.args.board.now.pool.size = search rules in
    rw c.in_default.ensures.after (add-refused c.args.board.now d c.args.region c.args.page c.args.rights c.args.bytes.now all stands)

pub fill_frame-requires-clause-frame : goal.fill_frame-requires-clause-frame
fill_frame-requires-clause-frame c = free-memory c.args.board.now (LacksPage c.args.region c.args.page) c.requires.absent c.in-Some.frame.0 c.in-Some.ensures.least

pub begin-requires-clause-frame : goal.begin-requires-clause-frame
begin-requires-clause-frame c = free-owners c.args.board.now (LacksPage c.args.region c.args.page) c.requires.absent c.in-Some.frame.0 c.in-Some.ensures.least

pub begin-requires-clause-none : goal.begin-requires-clause-none
begin-requires-clause-none c = free-sharers c.args.board.now (LacksPage c.args.region c.args.page) c.requires.absent c.in-Some.frame.0 c.in-Some.ensures.least

pub returns-clause-each : goal.returns-clause-each
returns-clause-each c d stands store =
    let old : Board = c.args.board.now in
    let new : Board = record { memory = c.fill_frame.new.memory; pool = c.take.new.self; owners = c.begin.new.self; table = c.set.new.self } in
    let e : Entry = record { frame = c.in-Some.frame; rights = c.args.rights } in
    let some : used_count old.pool ≢ old.pool.size = search rules in
    add-done old new d c.args.region c.args.page c.args.bytes.now e some
    (record {
      region_is = c.requires.region;
      absent = lacks-entry old c.args.region c.args.page c.requires.absent;
      least = c.in-Some.ensures.least;
      memory = c.fill_frame.ensures;
      pool = c.in-Some.ensures.after;
      taken = c.in-Some.ensures.used;
      owners = c.begin.ensures;
      entries = c.set.ensures.is;
    })
    stands store
