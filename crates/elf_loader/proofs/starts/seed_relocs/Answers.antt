use Rattle.std.proofs.Common.{◌+◌, drop, get_or}
use Rattle.elf_loader.proofs.RelocationsSeeded.{none-seeded, next-seed, own-at, one-seeded, all-seeded}
use Rattle.elf_loader.proofs.starts.seed_relocs.Goals as goal

pub loop-reloc-init : goal.loop-reloc-init
loop-reloc-init g c = none-seeded g.S.Stores.stands_for g.S.Stores.translation_at c.args.relocs.now c.args.space.now c.requires.own

pub seed_cap-requires-clause-own : goal.seed_cap-requires-clause-own
seed_cap-requires-clause-own g c =
    own-at g.S.Stores.stands_for g.S.Stores.translation_at c.args.relocs.now c.args.space.now c.loop-reloc.space c.loop-reloc.reloc-index _ c.loop-reloc-test.true c.loop-reloc.invariant

pub loop-reloc-preserved : goal.loop-reloc-preserved
loop-reloc-preserved g c =
    let relocs = c.args.relocs.now in
    let old = c.args.space.now in
    let mid = c.loop-reloc.space in
    let i = c.loop-reloc.reloc-index in
    one-seeded g.S.Stores.stands_for g.S.Stores.translation_at relocs old mid c.seed_cap.new.self (get_or relocs i _) (drop (i + 1) relocs) c.capability_for.result c.capability_for.ensures.is
    c.seed_cap.ensures.after c.seed_cap.ensures.keeps c.seed_cap.ensures.frames
    (next-seed g.S.Stores.stands_for g.S.Stores.translation_at relocs old mid i _ c.loop-reloc-test.true c.loop-reloc.invariant)

pub returns-clause-after : goal.returns-clause-after
returns-clause-after g c =
    all-seeded g.S.Stores.stands_for g.S.Stores.translation_at c.args.relocs.now c.args.space.now c.loop-reloc.space c.loop-reloc.reloc-index c.loop-reloc-test.false c.loop-reloc.invariant
