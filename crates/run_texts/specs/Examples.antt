-- Texts and lines that were worked out by hand.
use Rattle.std.specs.Prelude.{◌≡◌, pos, Ok, Err, [], ◌∷◌, codes}
use Rattle.machine_types.specs.declared.config.Outcome.TheVariants.{Running, Done, Stuck}
use Rattle.machine.specs.declared.report.WorkEnd.TheVariants.{Plain, Answered, Waiting, Forked, Ended}
use Rattle.run_texts.specs.Schedules.{schedule_of}
use Rattle.run_texts.specs.Endings.{end_as, last_line}

-- Each comes to what was worked out.
pub record WorkedSchedulesHold : Type 0 where
  pub none : schedule_of [] ≡ Ok []
  pub once : schedule_of (codes "5") ≡ Ok ((5, 1) ∷ [])
  pub ended : schedule_of (codes "5\n") ≡ Ok ((5, 1) ∷ [])
  pub least : schedule_of (codes "1*1\n") ≡ Ok ((1, 1) ∷ [])
  pub most : schedule_of (codes "1000000\n250*40\n1*1000000000") ≡ Ok ((1000000, 1) ∷ (250, 40) ∷ (1, 1000000000) ∷ [])
  pub empty_line : schedule_of (codes "\n") ≡ Err 1
  pub empty_between : schedule_of (codes "10\n\n10") ≡ Err 2
  pub zero : schedule_of (codes "10\n0\n0") ≡ Err 2
  pub too_great : schedule_of (codes "1000001") ≡ Err 1
  pub never : schedule_of (codes "1*0") ≡ Err 1
  pub too_often : schedule_of (codes "1*1000000001") ≡ Err 1
  pub leading_zero : schedule_of (codes "01") ≡ Err 1
  pub blank : schedule_of (codes "1 ") ≡ Err 1
  pub two_stars : schedule_of (codes "1*2*3") ≡ Err 1

-- A line of a process comes where it ended, and the last line says how the run stands.
pub record WorkedEndingsHold : Type 0 where
  pub killed : end_as 1 (Ended 268) ≡ codes "exit 1 268\n"
  pub left : end_as 12 (Ended 0) ≡ codes "exit 12 0\n"
  pub plain : end_as 1 Plain ≡ []
  pub answered : end_as 1 (Answered 8 (pos 3)) ≡ []
  pub waits : end_as 1 (Waiting 3) ≡ []
  pub forked : end_as 1 (Forked (pos 2) 2 1 1) ≡ []
  pub done : last_line Done 8 ≡ codes "done 8\n"
  pub stopped : last_line Running 20000000 ≡ codes "stopped 20000000\n"
  pub stuck : last_line Stuck 6 ≡ codes "stuck 6\n"
