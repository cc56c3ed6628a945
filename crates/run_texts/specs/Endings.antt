-- The lines of a run on the errors: how a process ended, and how the run did.
use Rattle.std.specs.Prelude.{ℕ, List, [], ◌++◌, codes, decimal}
use Rattle.machine_types.specs.declared.config.Outcome.{Outcome}
use Rattle.machine_types.specs.declared.config.Outcome.TheVariants.{Running, Done, Stuck}
use Rattle.machine.specs.declared.report.WorkEnd.{WorkEnd}
use Rattle.machine.specs.declared.report.WorkEnd.TheVariants.{Plain, Answered, Waiting, Forked, Ended}
use Rattle.machine.specs.declared.report.StepReport.{StepReport}

-- the process of this id ended with this status
abbrev pub exit_line : ℕ → ℕ → List ℕ
exit_line id status = codes "exit " ++ (decimal id ++ (codes " " ++ (decimal status ++ codes "\n")))

-- no process is live after so many steps
abbrev pub done_line : ℕ → List ℕ
done_line steps = codes "done " ++ (decimal steps ++ codes "\n")

-- a live process is ready after so many steps, and no more are made
abbrev pub stopped_line : ℕ → List ℕ
stopped_line steps = codes "stopped " ++ (decimal steps ++ codes "\n")

-- processes are live after so many steps, and none is ready
abbrev pub stuck_line : ℕ → List ℕ
stuck_line steps = codes "stuck " ++ (decimal steps ++ codes "\n")

-- the line of a process of this id whose work ended so, if it ended the process
abbrev pub end_as : ℕ → WorkEnd → List ℕ
end_as id Plain = []
end_as id (Answered number answer) = []
end_as id (Waiting number) = []
end_as id (Forked answer child slot region) = []
end_as id (Ended status) = exit_line id status

abbrev pub end_line : StepReport → List ℕ
end_line report = end_as report.id report.end

-- the last line of a run that stands so after so many steps
abbrev pub last_line : Outcome → ℕ → List ℕ
last_line Running steps = stopped_line steps
last_line Done steps = done_line steps
last_line Stuck steps = stuck_line steps
