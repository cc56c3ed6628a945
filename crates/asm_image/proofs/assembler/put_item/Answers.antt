-- Zeros stand before a segment.
use Rattle.std.proofs.Common.{◌≡◌, ◌∙◌, ap, sym, true, is_some, ◌++◌}
use Rattle.std.proofs.lemmas.Result.{on_ok_weaker}
use Rattle.asm_image.specs.Pieces.{piece_bytes}
use Rattle.asm_image.specs.Places.{begun_by}
use Rattle.asm_image.proofs.BodiesWritten.{zeros-added}
use Rattle.asm_image.proofs.assembler.put_item.Goals as goal

pub returns-then-is_some : goal.returns-then-is_some
unfolding piece_bytes
returns-then-is_some c =
    let begins : is_some (begun_by c.args.item.now) ≡ true = ap is_some (sym c.begun.ensures) ∙ sym c.is_some.ensures ∙ c.if-is_some.true in
    on_ok_weaker c.pad_to.result (λ is. is ∙ ap (λ list. c.args.out.now.items ++ list) (sym (zeros-added _ (begun_by c.args.item.now) _ begins))) c.pad_to.ensures
