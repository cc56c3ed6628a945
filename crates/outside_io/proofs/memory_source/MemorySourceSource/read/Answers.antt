use Rattle.std.proofs.Common.{arith, sym, ap, ◌∙◌}
use Rattle.std.proofs.lemmas.Grind.{common_steps}
use Rattle.std.proofs.Math.ListN.{drop_of_length-le}
use Rattle.outside_io.proofs.ReadLemmas.{left_split}
use Rattle.outside_io.proofs.memory_source.MemorySourceSource.read.Goals as goal

pub returns-clause-bytes : goal.returns-clause-bytes
returns-clause-bytes c =
    let bytes = c.self.inside.bytes.items in
    let taken = c.self.inside.taken in (
      sym (ap (λ s. s.left) c.self.view_is)
          ∙ left_split bytes c.copy_from_slice.new.self _ taken c.min-count.result (grind (arith, common_steps)) (grind (arith, common_steps, c.deref.ensures.value, c.copy_from_slice.ensures.after)),
      λ none room. drop_of_length-le bytes (grind (arith, common_steps)),
    )
