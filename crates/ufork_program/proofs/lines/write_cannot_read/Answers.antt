use Rattle.std.proofs.Common.{◌∷◌, [], ◌++◌, codes}
use Rattle.outside_io.proofs.TextLemmas.{PrintsText-stop, PrintsText-then}
use Rattle.ufork_program.proofs.lines.write_cannot_read.Goals as goal

pub returns-in_err-write : goal.returns-in_err-write
returns-in_err-write g c = PrintsText-stop (codes "ufork: cannot read ") (c.args.name.now ++ 10 ∷ []) _ _ _ _ _ c.from_residual.ensures.1 c.in_err-write.ensures.prints

pub returns : goal.returns
returns g c = PrintsText-then (codes "ufork: cannot read ") (c.args.name.now ++ 10 ∷ []) _ _ _ _ _ c.in_ok-write.ensures.prints c.write_name.ensures
