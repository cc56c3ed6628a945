-- Parts with what stands when one of them is cut: what a program leaves behind beside its bytes.
use Rattle.std.specs.Prelude.{◌≡◌, ℕ, ◌⊎◌, List, [], ◌∷◌, ◌++◌, Result, OnOk, OnErr, IfOk}
use Rattle.outside_io.specs.Parts.{Part, Console, front_of, HasBytes, RoseAt, Written, Later, Quiet}
use Rattle.outside_io.specs.Answers.{Answer, EndsWhole, write_fault}

-- a part, and what stands where it is cut
abbrev pub Moment : Type 0 → Type 0
Moment B = Part × B

-- the parts of moments
abbrev pub parts_of : {B : Type 0} → List (Moment B) → List Part
parts_of [] = []
parts_of (moment ∷ moments) = moment.0 ∷ parts_of moments

-- parts while this stands
abbrev pub while_stands : {B : Type 0} → B → List Part → List (Moment B)
while_stands state [] = []
while_stands state (part ∷ parts) = (part, state) ∷ while_stands state parts

-- The course of a command: the status, the moments in order, and what stands at the end.
pub record Course (B : Type 0) : Type 0 where
  pub status : ℕ
  pub moments : List (Moment B)
  pub end : B

-- what is answered in that course
abbrev pub answer_of : {B : Type 0} → Course B → Answer
answer_of course = record { status = course.status; parts = parts_of course.moments }

-- an answer during which this stands all the time
abbrev pub steady : {B : Type 0} → B → Answer → Course B
steady state answer = record { status = answer.status; moments = while_stands state answer.parts; end = state }

-- One part was cut, which has bytes: all before it are written whole, a prefix of it is written, and nothing after it is. The
-- count of its sink rose. What stands there is left.
pub record CutAt {B : Type 0} (moments : List (Moment B)) (IsLeft : B → Type 0) (old new : Console) : Type 0 where
  pub before : List (Moment B)
  pub part : Part
  pub some : HasBytes part
  pub state : B
  pub after : List (Moment B)
  pub count : ℕ
  pub list : moments ≡ before ++ (part, state) ∷ after
  pub written : Written (parts_of before ++ front_of count part ∷ []) old new
  pub rose : RoseAt part old new
  pub left : IsLeft state

-- A call wrote the parts of moments. `Ok` wrote them whole, met no fault and left the end; a failure cut one of them, and left
-- what stands there.
pub record Leaves {T E B : Type 0} (moments : List (Moment B)) (end : B) (IsLeft : B → Type 0) (old new : Console) (result : Result T E) : Type 0 where
  pub whole : OnOk result (Written (parts_of moments) old new)
  pub quiet : OnOk result (Quiet old new)
  pub left : OnOk result (IsLeft end)
  pub cut : OnErr result (CutAt moments IsLeft old new)
  pub later : Later old new

-- Moments whose parts are written in several calls so far: the first are written whole, and these are to come.
pub record MomentsUnderway {B : Type 0} (moments rest : List (Moment B)) (old now : Console) : Type 0 where
  pub done : List (Moment B)
  pub list : moments ≡ done ++ rest
  pub written : Written (parts_of done) old now
  pub quiet : Quiet old now

-- A command went its course and gives the status, or one of its parts was cut.
pub record Goes {E B : Type 0} (course : Course B) (IsLeft : B → Type 0) (old new : Console) (result : Result ℕ E) : Type 0 where
  pub leaves : Leaves course.moments course.end IsLeft old new result
  pub status : IfOk result (λ status. status ≡ course.status)

-- all of the answer is written, and the end is left
pub record EndsWholeAt {B : Type 0} (course : Course B) (IsLeft : B → Type 0) (old new : Console) (status : ℕ) : Type 0 where
  pub whole : EndsWhole (answer_of course) old new status
  pub left : IsLeft course.end

-- one part was cut, what stands there is left, and the status is that of a write fault
pub record EndsCutAt {B : Type 0} (course : Course B) (IsLeft : B → Type 0) (old new : Console) (status : ℕ) : Type 0 where
  pub status_is : status ≡ write_fault
  pub cut : CutAt course.moments IsLeft old new

-- a program went the course to its end, or to a write fault in its midst
pub record EndsAt {B : Type 0} (course : Course B) (IsLeft : B → Type 0) (old new : Console) (status : ℕ) : Type 0 where
  pub later : Later old new
  pub ended : EndsWholeAt course IsLeft old new status ⊎ EndsCutAt course IsLeft old new status
