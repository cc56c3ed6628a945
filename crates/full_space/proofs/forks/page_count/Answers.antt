use Rattle.std.proofs.Common.{◌≡◌, ◌∙◌, ◌+◌, ℕ, cond, is_some, sym, ap, arith}
use Rattle.std.specs.declared.option.Option.{Option}
use Rattle.cap_format.specs.Numbers.{region_pages}
use Rattle.page_table.specs.declared.table.Entry.{Entry}
use Rattle.full_space.specs.Steps.{entries_below}
use Rattle.full_space.proofs.CountedPages.{entries-none, entries-more, all-counted}
use Rattle.full_space.proofs.forks.page_count.Goals.{then-is_some, else-is_some}
use Rattle.full_space.proofs.forks.page_count.Goals as goal

pub loop-page-init : goal.loop-page-init
loop-page-init c = record { is = sym (entries-none (c.args.board.now.table.entries c.args.region)); most = omega arith }

pub loop-page-preserved : goal.loop-page-preserved
loop-page-preserved c =
    let i = c.loop-page.invariant in
    let entries : ℕ → Option Entry = c.args.board.now.table.entries c.args.region in
    let more : entries_below entries (c.loop-page.page + 1) ≡ entries_below entries c.loop-page.page + cond c.is_some.result 1 0
    = entries-more entries c.loop-page.page ∙ ap (λ (b : _). entries_below entries c.loop-page.page + cond b 1 0) (ap is_some (sym c.entry_of.ensures) ∙ sym c.is_some.ensures) in
    elim c.if-is_some.branch [
      | then-is_some w ↦ let one = rw w.if-is_some.true at more in record { is = omega arith; most = omega arith }
      | else-is_some w ↦ let none = rw w.if-is_some.false at more in record { is = omega arith; most = omega arith }
    ]

-- all pages are counted
all-pages : goal.returns-clause-is
all-pages c = let last : c.loop-page.page ≡ region_pages = omega arith in c.loop-page.invariant.is ∙ ap (entries_below (c.args.board.now.table.entries c.args.region)) last

pub returns-clause-is : goal.returns-clause-is
returns-clause-is c = all-pages c

pub returns-clause-each : goal.returns-clause-each
returns-clause-each c = λ content stands. all-pages c ∙ all-counted c.args.board.now content c.args.region stands
