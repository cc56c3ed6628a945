-- Laws of counts of faults, and of moments: each is the contract of a function of this crate.
use Rattle.std.specs.Prelude.{ℕ, Bool, IsTrue, ◌<◌, ◌⊎◌, List, Contains}
use Rattle.outside_io.specs.Faults.{Rose, Still, last_count}
use Rattle.outside_io.specs.States.{Outside, NoneRose, CountsBelowLast}
use Rattle.outside_io.specs.Parts.{Console, Cut}
use Rattle.outside_io.specs.Answers.{Ends}
use Rattle.outside_io.specs.Moments.{Moment, Course, parts_of, answer_of, CutAt, EndsAt}

-- What counts tell. A count rose or did not, and not both; one that stays below its last value did not. So none rose where all
-- stay below their last values.
pub record CountsTell : Type 0 where
  pub either : (before now : ℕ) → Rose before now ⊎ Still before now
  pub apart : (before now : ℕ) → Rose before now → Still before now → ⊥
  pub stays : (count : ℕ) → count < last_count → Still count count
  pub below : (o : Outside) → o.files.faults < last_count → o.input.faults < last_count → o.out.faults < last_count → o.err.faults < last_count → CountsBelowLast o
  pub none : (o : Outside) → CountsBelowLast o → NoneRose o o

-- What is said of moments says the same of their parts: a cut moment is a cut part, and a program that went a course ended with
-- its answer. What is left stood at a moment of the course, or at its end. The law is stated where what stands is a number, and
-- what is left is told by a test.
pub record MomentsAreParts : Type 0 where
  pub cut : (moments : List (Moment ℕ)) (is_left : ℕ → Bool) (old new : Console) → CutAt moments (λ state. IsTrue (is_left state)) old new → Cut (parts_of moments) old new
  pub ends : (course : Course ℕ) (is_left : ℕ → Bool) (old new : Console) (status : ℕ) → EndsAt course (λ state. IsTrue (is_left state)) old new status → Ends (answer_of course) old new status
  pub left : (course : Course ℕ) (is_left : ℕ → Bool) (old new : Console) (status : ℕ) → EndsAt course (λ state. IsTrue (is_left state)) old new status
      → IsTrue (is_left course.end) ⊎ ((moment : Moment ℕ) × (Contains course.moments moment × IsTrue (is_left moment.1)))
