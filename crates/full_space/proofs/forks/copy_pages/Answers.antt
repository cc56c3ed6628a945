use Rattle.std.proofs.Common.{◌≡◌, ◌∙◌, ℕ, true, is_some, refl, ap, sym, subst, arith}
use Rattle.std.proofs.Math.Bridge.{le_prop}
use Rattle.std.proofs.Math.Logic.{∥∥₁_elim}
use Rattle.cap_format.specs.Numbers.{region_pages}
use Rattle.contents.specs.Conditions.{HasNoStore}
use Rattle.stores.specs.Boards.{Stands}
use Rattle.stores.specs.Known.{StandsFor, Any}
use Rattle.stores.proofs.Keeping.{stands-after}
use Rattle.full_space.specs.Steps.{forked_below}
use Rattle.full_space.proofs.CopiedPages.{no-entries, stands-first, frame-left, fork-done}
use Rattle.full_space.proofs.forks.copy_pages.Goals as goal

pub loop-page-init : goal.loop-page-init
loop-page-init c = record {
  own = c.requires.own;
  each = λ content stands. stands-first c.args.board.now content c.args.from c.args.to (no-entries c.args.board.now c.args.to c.requires.none) stands;
  frames = λ r p other. refl;
}

pub copy_page-requires-clause-some : goal.copy_page-requires-clause-some
copy_page-requires-clause-some c =
    stands-after Stands c.args.board.now c.loop-page.board (λ content. forked_below content c.args.from c.args.to c.loop-page.page) c.loop-page.invariant.each (HasNoStore c.args.to) Any (λ content stands none. tt) c.requires.none

pub copy_page-requires-clause-room : goal.copy_page-requires-clause-room
copy_page-requires-clause-room c = λ there.
    let same : is_some (c.args.board.now.table.entries c.args.from c.loop-page.page) ≡ true = ap is_some (sym (c.loop-page.invariant.frames c.args.from c.loop-page.page c.requires.apart)) ∙ there in
    ∥∥₁_elim c.requires.none le_prop (λ (known : StandsFor Stands c.args.board.now (HasNoStore c.args.to)).
    frame-left c.args.board.now c.loop-page.board known.content c.args.from c.args.to c.loop-page.page known.stands (c.loop-page.invariant.each known.content known.stands) same c.loop-page-test.true c.requires.room)

pub returns-clause-each : goal.returns-clause-each
returns-clause-each c = λ content stands full.
    let all : c.loop-page.page ≡ region_pages = omega arith in
    fork-done c.args.board.now c.loop-page.board content c.args.from c.args.to full c.requires.room stands
    (subst (λ (n : ℕ). Stands c.loop-page.board (forked_below content c.args.from c.args.to n)) all (c.loop-page.invariant.each content stands))
