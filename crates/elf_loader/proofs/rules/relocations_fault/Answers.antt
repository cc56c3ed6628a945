use Rattle.std.proofs.Common.{◌≡◌, ◌∙◌, sym, ap, subst}
use Rattle.cap_format.specs.Rules.{first_fault}
use Rattle.cap_format.specs.Image.{relocation_at, relocation_rules}
use Rattle.cap_format.specs.declared.image.Relocation.{Relocation}
use Rattle.elf_loader.specs.Tested.{IsNarrow}
use Rattle.elf_loader.proofs.Walks.{relocation-fault, relocation-more, is-none}
use Rattle.elf_loader.proofs.rules.relocations_fault.Goals as goal

pub returns-then-is_some-clause-is : goal.returns-then-is_some-clause-is
returns-then-is_some-clause-is c =
    let found : c.relocation_fault-found.result ≡ first_fault (relocation_rules c.args.headers.now c.loop-number.least c.loop-number.r (relocation_at c.args.bytes.now c.loop-number.r)) =
    c.relocation_fault-found.ensures.is ∙ ap (λ (x : Relocation). first_fault (relocation_rules c.args.headers.now c.loop-number.least c.loop-number.r x)) c.relocation_at-relocation.ensures in
    relocation-fault c.args.bytes.now c.args.headers.now c.args.from c.args.count c.loop-number.least c.loop-number.r c.loop-number._number c.relocation_fault-found.result c.loop-number.invariant
    c.loop-number-test.true (sym c.is_some.ensures ∙ c.if-is_some.true) found

pub loop-number-preserved : goal.loop-number-preserved
loop-number-preserved c =
    let found : c.relocation_fault-found.result ≡ first_fault (relocation_rules c.args.headers.now c.loop-number.least c.loop-number.r (relocation_at c.args.bytes.now c.loop-number.r)) =
    c.relocation_fault-found.ensures.is ∙ ap (λ (x : Relocation). first_fault (relocation_rules c.args.headers.now c.loop-number.least c.loop-number.r x)) c.relocation_at-relocation.ensures in
    rw c.relocation_at-relocation.ensures
    (relocation-more c.args.bytes.now c.args.headers.now c.args.from c.args.count c.loop-number.least c.loop-number.r c.loop-number._number c.relocation_fault-found.result c.loop-number.invariant
    c.loop-number-test.true (sym c.is_some.ensures ∙ c.if-is_some.false) found
    (subst IsNarrow c.relocation_at-relocation.ensures (c.relocation_fault-found.ensures.narrow (is-none c.relocation_fault-found.result (sym c.is_some.ensures ∙ c.if-is_some.false)))))
