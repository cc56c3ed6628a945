use Rattle.std.proofs.Common.{◌≡◌, ◌∙◌, sym, ap, subst, arith}
use Rattle.std.specs.Option.{is_some}
use Rattle.cap_format.specs.declared.image.Relocation.{Relocation}
use Rattle.elf_loader.specs.Tested.{IsNarrow}
use Rattle.elf_loader.specs.Loaded.{reloc_of}
use Rattle.elf_loader.proofs.Walks.{first-narrow, rest-narrow, relocs-more, pushed}
use Rattle.elf_loader.proofs.image.Relocs.read.Goals as goal

pub reloc_of-requires : goal.reloc_of-requires
reloc_of-requires c = subst IsNarrow (sym c.relocation_at-relocation.ensures) (first-narrow c.args.bytes.now _ _ (omega (arith, c.loop-number-test.true)) c.loop-number.invariant.narrow)

pub loop-number-preserved : goal.loop-number-preserved
loop-number-preserved c =
    let value : c.reloc_of.result ≡ reloc_of _ = c.reloc_of.ensures ∙ ap (λ (r : Relocation). reloc_of r) c.relocation_at-relocation.ensures in
    let same = relocs-more c.args.bytes.now c.args.from c.args.count c.loop-number.number c.loop-number.list.items _ c.reloc_of.result c.loop-number-test.true value c.loop-number.invariant.same in
    let items = pushed c.loop-number.list.items c.push.new.self.items c.reloc_of.result _ c.push.ensures.items (sym c.ok.ensures.variant ∙ ap is_some c.in_ok-ok.was) in
    record {
      within = omega (arith, c.loop-number-test.true);
      narrow = rest-narrow c.args.bytes.now c.args.from c.args.count c.loop-number.number c.loop-number-test.true c.loop-number.invariant.narrow;
      same = rw items same;
    }
