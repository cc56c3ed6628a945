use Rattle.std.proofs.Common.{◌∙◌, sym, arith, All, subst}
use Rattle.std.proofs.lemmas.List.{take_all}
use Rattle.elf_loader.specs.Tested.{IsInRegion, IsTableIn}
use Rattle.elf_loader.proofs.Walks.{header-fault, header-more, is-none}
use Rattle.elf_loader.proofs.rules.headers_fault.Goals as goal

pub returns-then-is_some-clause-is : goal.returns-then-is_some-clause-is
returns-then-is_some-clause-is c =
    header-fault c.args.n c.args.headers.now c.loop-header.past c.loop-header.first c.loop-header.h c.loop-header.header-index _ c.header_fault-found.result c.loop-header.invariant c.loop-header-test.true
    (sym c.is_some.ensures ∙ c.if-is_some.true) c.header_fault-found.ensures.is

pub loop-header-preserved : goal.loop-header-preserved
loop-header-preserved c =
    header-more c.args.n c.args.headers.now c.loop-header.past c.loop-header.first c.loop-header.h c.loop-header.header-index _ c.header_fault-found.result c.past_after-past.result c.first_after-first.result
    c.loop-header.invariant c.loop-header-test.true (sym c.is_some.ensures ∙ c.if-is_some.false) c.header_fault-found.ensures.is
    (c.header_fault-found.ensures.region (is-none c.header_fault-found.result (sym c.is_some.ensures ∙ c.if-is_some.false)))
    (c.header_fault-found.ensures.table (is-none c.header_fault-found.result (sym c.is_some.ensures ∙ c.if-is_some.false))) c.past_after-past.ensures c.first_after-first.ensures

pub returns-clause-region : goal.returns-clause-region
returns-clause-region c none = subst (All IsInRegion) (take_all c.loop-header.header-index c.args.headers.now (omega (arith, c.loop-header-test.false))) c.loop-header.invariant.region

pub returns-clause-tables : goal.returns-clause-tables
returns-clause-tables c none = subst (All (IsTableIn c.args.n)) (take_all c.loop-header.header-index c.args.headers.now (omega (arith, c.loop-header-test.false))) c.loop-header.invariant.tables
