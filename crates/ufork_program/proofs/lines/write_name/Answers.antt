use Rattle.std.proofs.Common.{◌∷◌, []}
use Rattle.outside_io.proofs.TextLemmas.{PrintsText-stop, PrintsText-then}
use Rattle.ufork_program.proofs.lines.write_name.Goals as goal

pub returns-in_err-write : goal.returns-in_err-write
returns-in_err-write g c = PrintsText-stop c.args.name.now (10 ∷ []) _ _ _ _ _ c.from_residual.ensures.1 (rw c.as_bytes.ensures.value at c.in_err-write.ensures.prints)

pub returns : goal.returns
returns g c = PrintsText-then c.args.name.now (10 ∷ []) _ _ _ _ _ (rw c.as_bytes.ensures.value at c.in_ok-write.ensures.prints) c.write-2.ensures.prints
