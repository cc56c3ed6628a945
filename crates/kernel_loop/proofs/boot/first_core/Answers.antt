use Rattle.std.proofs.Common.{◌∙◌, ap, refl, subst, List, ℕ}
use Rattle.contents.specs.Content.{nothing}
use Rattle.elf_loader.specs.declared.image.Image.{Image}
use Rattle.elf_loader.specs.declared.starts.StartState.{StartState}
use Rattle.elf_loader.specs.Start.{started, start_pcc}
use Rattle.kernel_loop.proofs.Booted.{begins, keeps}
use Rattle.kernel_loop.proofs.boot.first_core.Goals as goal

pub returns-clause-stands : goal.returns-clause-stands
returns-clause-stands g c =
    let config = c.args.config in
    let file : List ℕ = c.args.bytes.now in
    let begun = c.in-Ok.ensures.started (nothing config.rule config.frames) c.requires.fresh in
    begins config c.args.world.input.items c.args.world c.requires.config c.requires.world c.in-Ok.field-0.regs c.in-Ok.field-0.pcc g.S.Stores.stands_for
    (record { config = config; world = c.admit.new.world; space = c.start.new.space; clock = c.new.result; printed = 0 }) c.args.schedule file refl c.admit.ensures c.new.ensures
    (ap (λ (s : StartState). s.regs) begun.1) (ap (λ (s : StartState). s.pcc) begun.1 ∙ ap (λ (i : Image). start_pcc i.entry) c.requires.read.1)
    (subst (λ (i : Image). g.S.Stores.stands_for c.start.new.space (started file i (nothing config.rule config.frames))) c.requires.read.1 begun.2)

pub returns-clause-kept : goal.returns-clause-kept
returns-clause-kept g c =
    keeps c.args.config c.args.world.input.items c.args.world c.requires.config c.requires.world c.in-Ok.field-0.regs c.in-Ok.field-0.pcc g.S.Stores.stands_for
    (record { config = c.args.config; world = c.admit.new.world; space = c.start.new.space; clock = c.new.result; printed = 0 }) c.args.schedule c.args.bytes.now refl c.admit.ensures c.new.ensures refl
