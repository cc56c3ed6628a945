-- What a program is to answer: a status, and the parts that it writes.
use Rattle.std.specs.Prelude.{◌≡◌, ℕ, ◌⊎◌, List, [], ◌∷◌, Result, IfOk}
use Rattle.outside_io.specs.Parts.{Part, err_part, Console, Prints, Written, Cut, Later, Quiet}

-- the status, and the parts in order
pub record Answer : Type 0 where
  pub status : ℕ
  pub parts : List Part

-- a refusal has a status and a line on the errors
abbrev pub refusal : ℕ → List ℕ → Answer
refusal status line = record { status = status; parts = err_part line ∷ [] }

-- the status of a write fault
abbrev pub write_fault : ℕ
write_fault = 7

-- the status of want of memory, before anything was written
abbrev pub memory_wanted : Answer
memory_wanted = record { status = 10; parts = [] }

-- A command wrote the parts of its answer and gives the status, or one of the parts was cut.
pub record Answers {E : Type 0} (answer : Answer) (old new : Console) (result : Result ℕ E) : Type 0 where
  pub prints : Prints answer.parts old new result
  pub status : IfOk result (λ status. status ≡ answer.status)

-- all parts are written, no sink failed, and this is the status
pub record EndsWhole (answer : Answer) (old new : Console) (status : ℕ) : Type 0 where
  pub status_is : status ≡ answer.status
  pub written : Written answer.parts old new
  pub quiet : Quiet old new

-- one part was cut, and the status is that of a write fault
pub record EndsCut (answer : Answer) (old new : Console) (status : ℕ) : Type 0 where
  pub status_is : status ≡ write_fault
  pub cut : Cut answer.parts old new

-- a program ended with the answer, or with a write fault in the midst of it
pub record Ends (answer : Answer) (old new : Console) (status : ℕ) : Type 0 where
  pub later : Later old new
  pub ended : EndsWhole answer old new status ⊎ EndsCut answer old new status

-- the status is that of the answer and its parts are written; or memory was wanted and nothing is written
abbrev pub IsAnswered : Answer → Console → Console → ℕ → Type 0
IsAnswered answer old new status = ((status ≡ answer.status) × Written answer.parts old new) ⊎ ((status ≡ memory_wanted.status) × Written [] old new)
