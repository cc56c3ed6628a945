use Rattle.std.proofs.Common.{◌≡◌, ℕ, refl, subst, arith}
use Rattle.cap_format.specs.Numbers.{region_pages}
use Rattle.stores.specs.Boards.{Stands}
use Rattle.stores.specs.Known.{Any}
use Rattle.stores.proofs.Keeping.{stands-after}
use Rattle.full_space.specs.Steps.{ended_below}
use Rattle.full_space.proofs.EndedPages.{stands-begun, stands-ended}
use Rattle.full_space.proofs.endings.drop_pages.Goals as goal

pub loop-page-init : goal.loop-page-init
loop-page-init c = record {
  own = c.requires.own;
  each = λ content stands. stands-begun c.args.board.now content c.args.region stands;
  frames = λ r p other. refl;
}

pub drop_page-requires-clause-some : goal.drop_page-requires-clause-some
drop_page-requires-clause-some c =
    stands-after Stands c.args.board.now c.loop-page.board (λ content. ended_below content c.args.region c.loop-page.page) c.loop-page.invariant.each Any Any (λ content stands any. any) c.requires.some

pub returns-clause-each : goal.returns-clause-each
returns-clause-each c = λ content stands.
    let all : c.loop-page.page ≡ region_pages = omega arith in
    stands-ended c.args.board.now c.loop-page.board content c.args.region stands
    (subst (λ (n : ℕ). Stands c.loop-page.board (ended_below content c.args.region n)) all (c.loop-page.invariant.each content stands))
