use Rattle.std.proofs.Common.{◌≡◌, ◌∙◌, List, refl, ap, sym}
use Rattle.std.proofs.lemmas.List.{length-set}
use Rattle.cap_format.specs.declared.cap.Cap.{Cap}
use Rattle.machine_types.specs.Held.{AreHeld}
use Rattle.frame_pool.specs.Pool.{IsLeastFree}
use Rattle.tagged_memory.specs.Frames.{frame}
use Rattle.stores.specs.declared.board.Board.{Board}
use Rattle.stores.specs.Known.{Any}
use Rattle.stores.proofs.BoardParts.{frame-with_frame_same}
use Rattle.stores.proofs.FreeFrames.{free-memory, free-owners, free-sharers}
use Rattle.full_space.proofs.CopiedPages.{stands-copied, stands-uncopied, copied-memory}
use Rattle.full_space.proofs.OwnFrames.{entry-memory, own-held, own-new}
use Rattle.full_space.proofs.forks.copy_page.Goals as goal

pub copy_frame-requires-clause-from : goal.copy_frame-requires-clause-from
copy_frame-requires-clause-from c = entry-memory c.args.board.now Any c.requires.some c.args.from c.args.page c.in-Some.entry (sym c.entry_of.ensures ∙ c.in-Some.is)

pub copy_frame-requires-clause-to : goal.copy_frame-requires-clause-to
copy_frame-requires-clause-to c = free-memory c.args.board.now Any c.requires.some c.unwrap-frame.result.0 (rw c.unwrap-frame.ensures at c.take.ensures.least)

pub move_granules-requires-clause-frame : goal.move_granules-requires-clause-frame
move_granules-requires-clause-frame c =
    let below = free-memory c.args.board.now Any c.requires.some c.unwrap-frame.result.0 (rw c.unwrap-frame.ensures at c.take.ensures.least) in
    rw (c.copy_frame.ensures.is, length-set) below

pub move_granules-requires-clause-held : goal.move_granules-requires-clause-held
move_granules-requires-clause-held c =
    let below = free-memory c.args.board.now Any c.requires.some c.unwrap-frame.result.0 (rw c.unwrap-frame.ensures at c.take.ensures.least) in
    let held = own-held c.args.board.now Any c.args.from c.args.page c.in-Some.entry c.requires.some c.requires.own (sym c.entry_of.ensures ∙ c.in-Some.is) in
    let same : frame c.copy_frame.new.self c.unwrap-frame.result.0 ≡ frame c.args.board.now.memory c.in-Some.entry.frame.0
    = ap (λ (memory : List (List Cap)). frame memory c.unwrap-frame.result.0) c.copy_frame.ensures.is
    ∙ frame-with_frame_same c.args.board.now.memory c.unwrap-frame.result.0 (frame c.args.board.now.memory c.in-Some.entry.frame.0) below in
    let copied : AreHeld c.args.from (frame c.copy_frame.new.self c.unwrap-frame.result.0) = rw same held in
    copied

pub begin-requires-clause-frame : goal.begin-requires-clause-frame
begin-requires-clause-frame c = free-owners c.args.board.now Any c.requires.some c.unwrap-frame.result.0 (rw c.unwrap-frame.ensures at c.take.ensures.least)

pub begin-requires-clause-none : goal.begin-requires-clause-none
begin-requires-clause-none c = free-sharers c.args.board.now Any c.requires.some c.unwrap-frame.result.0 (rw c.unwrap-frame.ensures at c.take.ensures.least)

-- the board with the copy
abbrev copied : goal.After-set → Board
copied c = record { memory = c.move_granules.new.memory; pool = c.take.new.self; owners = c.begin.new.self; table = c.set.new.self }

pub returns-in-Some-clause-own : goal.returns-in-Some-clause-own
returns-in-Some-clause-own c =
    let least : IsLeastFree c.args.board.now.pool c.unwrap-frame.result.0 = rw c.unwrap-frame.ensures at c.take.ensures.least in
    own-new c.args.board.now (copied c) Any c.args.to c.args.page (record { frame = c.unwrap-frame.result; rights = c.in-Some.entry.rights }) c.requires.some least.free
    (free-owners c.args.board.now Any c.requires.some c.unwrap-frame.result.0 least) c.begin.ensures c.set.ensures.is c.requires.own

pub returns-in-Some-clause-each : goal.returns-in-Some-clause-each
returns-in-Some-clause-each c = λ content stands.
    let least : IsLeastFree c.args.board.now.pool c.unwrap-frame.result.0 = rw c.unwrap-frame.ensures at c.take.ensures.least in
    let below = free-memory c.args.board.now Any c.requires.some c.unwrap-frame.result.0 least in
    stands-copied c.args.board.now (copied c) content c.args.from c.args.to c.args.page c.in-Some.entry (record { frame = c.unwrap-frame.result; rights = c.in-Some.entry.rights })
    c.requires.from c.requires.to c.requires.apart c.requires.own (sym c.entry_of.ensures ∙ c.in-Some.is) refl
    (λ absent. record {
      region_is = c.requires.to;
      absent = absent;
      least = least;
      memory = copied-memory c.args.board.now.memory c.copy_frame.new.self c.move_granules.new.memory c.unwrap-frame.result.0 c.in-Some.entry.frame.0 c.args.from c.args.to below c.copy_frame.ensures.is c.move_granules.ensures;
      pool = rw c.unwrap-frame.ensures at c.take.ensures.after;
      taken = rw c.unwrap-frame.ensures at c.take.ensures.used;
      owners = c.begin.ensures;
      entries = c.set.ensures.is;
    })
    stands

pub returns-in_default-clause-each : goal.returns-in_default-clause-each
returns-in_default-clause-each c = λ content stands. stands-uncopied c.args.board.now content c.args.from c.args.to c.args.page c.requires.apart (sym c.entry_of.ensures ∙ c.in_default.is) stands
