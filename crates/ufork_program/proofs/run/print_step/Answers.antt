use Rattle.std.proofs.Common.{◌∷◌, []}
use Rattle.outside_io.specs.Parts.{out_part, err_part}
use Rattle.outside_io.proofs.PartLemmas.{Prints-out, Prints-err, Prints-stop, Prints-then}
use Rattle.run_texts.specs.Endings.{end_line}
use Rattle.ufork_program.proofs.run.print_step.Goals as goal
use Rattle.ufork_program.proofs.run.print_step.Goals.{in-Console+in_ok-print_piece-in-Console, in-Quiet}

pub returns-in_err-print_piece-in-Console : goal.returns-in_err-print_piece-in-Console
returns-in_err-print_piece-in-Console g c =
    rw c.in-Console.is (Prints-stop (out_part c.args.piece.now ∷ []) (err_part (end_line c.args.report.now) ∷ []) _ _ _ _ _ c.from_residual.ensures.1
    (Prints-out _ _ _ _ _ c.in_err-print_piece-in-Console.ensures.some c.in_err-print_piece-in-Console.ensures.prints))

pub returns : goal.returns
returns g c = elim c.match-show.branch [
  | in-Console+in_ok-print_piece-in-Console w ↦ rw (w.in-Console.is, w.out-is) (Prints-then (out_part c.args.piece.now ∷ []) (err_part (end_line c.args.report.now) ∷ []) _ _ _ _ _
      (Prints-out _ _ _ _ _ w.in_ok-print_piece-in-Console.ensures.some w.in_ok-print_piece-in-Console.ensures.prints) (Prints-err _ _ _ _ _ c.write_end.ensures.some c.write_end.ensures.prints))
  | in-Quiet w ↦ rw (w.in-Quiet.is, w.out-is) (Prints-err _ _ _ _ _ c.write_end.ensures.some c.write_end.ensures.prints)
]
