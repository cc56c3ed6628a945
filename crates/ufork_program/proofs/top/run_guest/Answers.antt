use Rattle.std.proofs.Common.{◌≡◌, ◌-◌, inl, arith}
use Rattle.full_space.specs.Full.{FullStands}
use Rattle.outside_io.proofs.MomentLemmas.{EndsAt-from}
use Rattle.machine_steps.specs.Runs.{start}
use Rattle.kernel_loop.specs.Kernels.{KernelStands, steps_of}
use Rattle.ufork_program.specs.Run.{run_course, IsLeftIn}
use Rattle.ufork_program.specs.Request.{setup_of}
use Rattle.ufork_program.specs.Headline.{IsLeftOn}
use Rattle.ufork_program.proofs.RunLemmas.{stands-steps}
use Rattle.ufork_program.proofs.LeftLemmas.{left_on, space_left}
use Rattle.ufork_program.proofs.top.run_guest.Goals as goal

pub returns : goal.returns
returns g c =
    let setup = setup_of c.args.guest in
    let kernel = c.print_run-kernel.result.kernel in
    let begun : KernelStands FullStands c.in-Ok.kernel (start setup) = rw c.deref.ensures.value at c.in-Ok.ensures.stands in
    let none : 0 ≡ steps_of c.in-Ok.kernel = stands-steps FullStands c.in-Ok.kernel (start setup) begun in
    let all : setup.config.steps - steps_of c.in-Ok.kernel ≡ setup.config.steps = omega (arith, none) in
    inl (EndsAt-from (run_course setup) (IsLeftIn FullStands kernel) (IsLeftOn c.args.board c.into_board.result) _ _ _ _
    (left_on kernel c.args.board c.into_board.result (space_left _ _ _ c.into_space.ensures c.into_board.ensures.stands))
    (rw all at c.print_run-kernel.ensures (start setup) begun) c.status_of.ensures)
