use Rattle.std.proofs.Common.{◌≡◌, ◌∙◌, ℕ, ◌+◌, ◌-◌, length, take, refl, sym, arith}
use Rattle.std.proofs.Math.Seq.{take-length}
use Rattle.machine_types.specs.declared.touches.Access.TheVariants.{Write}
use Rattle.contents.specs.Conditions.{Covers}
use Rattle.contents.specs.Transfers.{write_bytes_of}
use Rattle.stores.specs.Known.{Any}
use Rattle.stores.specs.Boards.{Stands}
use Rattle.stores.proofs.Keeping.{stands-after}
use Rattle.full_space.proofs.OwnFrames.{entry-memory}
use Rattle.full_space.proofs.Pieces.{covered-there, write-more}
use Rattle.full_space.proofs.bytes.bytes_in.Goals as goal

pub loop-done-init : goal.loop-done-init
unfolding write_bytes_of
loop-done-init c = record { within = omega arith; own = c.requires.own; stored = λ content stands. stands; table = refl }

pub unwrap-entry-requires : goal.unwrap-entry-requires
unwrap-entry-requires c =
    rw (c.entry_of.ensures, c.first_piece-piece.ensures.page, c.loop-done.invariant.table)
    (covered-there c.args.board.now c.args.region c.args.at (length c.args.from.now) Write c.requires.covered c.loop-done.done (omega arith))

pub bytes_in-requires-clause-frame : goal.bytes_in-requires-clause-frame
bytes_in-requires-clause-frame c =
    entry-memory c.loop-done.board Any
    (stands-after Stands c.args.board.now c.loop-done.board (λ content. write_bytes_of content c.args.region c.args.at (take c.loop-done.done c.args.from.now)) c.loop-done.invariant.stored
    (Covers c.args.region c.args.at (length c.args.from.now) Write) Any (λ content stands _. tt) c.requires.covered)
    c.args.region c.first_piece-piece.result.page c.unwrap-entry.result (sym c.entry_of.ensures ∙ c.unwrap-entry.ensures)

pub loop-done-preserved : goal.loop-done-preserved
loop-done-preserved c =
    let done : ℕ = c.loop-done.done in
    let count : ℕ = c.first_piece-piece.result.count in
    let rest : done + count - done ≡ count = omega arith in
    record {
      within = omega arith;
      own = c.loop-done.invariant.own;
      stored = write-more c.loop-done.board c.args.region c.args.at done count c.unwrap-entry.result c.loop-done.invariant.own
          (rw c.first_piece-piece.ensures.page at (sym c.entry_of.ensures ∙ c.unwrap-entry.ensures)) (rw c.first_piece-piece.ensures.byte at c.first_piece-piece.ensures.on_page)
          c.args.board.now c.args.from.now (omega arith) _ (rw (rest, c.first_piece-piece.ensures.byte) at c.bytes_in.ensures.is) c.loop-done.invariant.stored;
      table = c.loop-done.invariant.table;
    }

pub returns-clause-own : goal.returns-clause-own
returns-clause-own c = c.loop-done.invariant.own

pub returns-clause-after : goal.returns-clause-after
returns-clause-after c content stands =
    let done : c.loop-done.done ≡ length c.args.from.now = omega arith in
    rw (done, take-length) at (c.loop-done.invariant.stored content stands)

pub returns-clause-table : goal.returns-clause-table
returns-clause-table c = c.loop-done.invariant.table
