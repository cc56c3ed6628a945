use Rattle.std.proofs.Common.{◌≡◌, ◌∙◌, ℕ, ◌+◌, ◌-◌, ◌≤◌, length, take, refl, ap, sym, arith}
use Rattle.std.proofs.lemmas.List.Edits.{length-between}
use Rattle.std.proofs.lemmas.Slice.{take-put_mid}
use Rattle.std.proofs.Math.Seq.{take-length}
use Rattle.machine_types.specs.declared.touches.Access.TheVariants.{Read}
use Rattle.contents.specs.Conditions.{Covers}
use Rattle.contents.specs.Transfers.{read_bytes_of}
use Rattle.full_space.proofs.OwnFrames.{entry-memory}
use Rattle.full_space.proofs.Pieces.{covered-there, read-more}
use Rattle.full_space.proofs.bytes.bytes_out.Goals as goal

pub loop-done-init : goal.loop-done-init
unfolding read_bytes_of
loop-done-init c = record { within = omega arith; read = λ content stands. refl }

pub unwrap-entry-requires : goal.unwrap-entry-requires
unwrap-entry-requires c =
    rw (c.entry_of.ensures, c.first_piece-piece.ensures.page)
    (covered-there c.args.board.now c.args.region c.args.at (length c.args.into.now) Read c.requires.covered c.loop-done.done (omega arith))

pub bytes_out-requires-clause-frame : goal.bytes_out-requires-clause-frame
bytes_out-requires-clause-frame c =
    entry-memory c.args.board.now (Covers c.args.region c.args.at (length c.args.into.now) Read) c.requires.covered c.args.region c.first_piece-piece.result.page c.unwrap-entry.result
    (sym c.entry_of.ensures ∙ c.unwrap-entry.ensures)

pub loop-done-preserved : goal.loop-done-preserved
loop-done-preserved c =
    let done : ℕ = c.loop-done.done in
    let count : ℕ = c.first_piece-piece.result.count in
    let within : done ≤ length c.loop-done.into = omega arith in
    let rest : done + count - done ≡ count = omega arith in
    let long = length-between c.loop-done.into done (done + count) (omega arith) ∙ rest in
    let kept : length c.bytes_out.new.into ≡ count = c.bytes_out.auto.into ∙ long in
    record {
      within = omega arith;
      read = λ content stands.
          read-more c.args.board.now c.args.region c.args.at done count c.unwrap-entry.result c.requires.own
          (rw c.first_piece-piece.ensures.page at (sym c.entry_of.ensures ∙ c.unwrap-entry.ensures)) (rw c.first_piece-piece.ensures.byte at c.first_piece-piece.ensures.on_page)
          c.loop-done.into _ c.bytes_out.new.into (take-put_mid done _ c.loop-done.into c.bytes_out.new.into (done + count) (ap (λ (n : ℕ). done + n) (sym kept)) within)
          (rw (long, c.first_piece-piece.ensures.byte) at c.bytes_out.ensures)
          content stands (c.loop-done.invariant.read content stands);
    }

pub returns : goal.returns
returns c content stands =
    let done : c.loop-done.done ≡ length c.loop-done.into = omega arith in
    let read = c.loop-done.invariant.read content stands in
    let all : take (length c.loop-done.into) c.loop-done.into ≡ read_bytes_of content c.args.region c.args.at (length c.loop-done.into) = rw done at read in
    sym (take-length c.loop-done.into) ∙ all ∙ ap (read_bytes_of content c.args.region c.args.at) c.loop-done.auto.into
