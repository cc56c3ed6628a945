-- What a program writes to its output and its errors, as one list of parts in order.
use Rattle.std.specs.Prelude.{◌≡◌, ◌≢◌, ℕ, ◌≤◌, List, [], ◌∷◌, ◌++◌, take, Result, OnOk, OnErr}
use Rattle.std.specs.Io.KnownBytes.{Appends}
use Rattle.outside_io.specs.Faults.{Rose}
use Rattle.outside_io.specs.States.{SinkState, Outside}

-- bytes for the output, or for the errors
pub data Part : Type 0 where
  out_part : List ℕ → Part
  err_part : List ℕ → Part

-- what stands on the output and on the errors
pub record Console : Type 0 where
  pub out : SinkState
  pub err : SinkState

abbrev pub console : SinkState → SinkState → Console
console out err = record { out = out; err = err }

abbrev pub console_of : Outside → Console
console_of outside = console outside.out outside.err

-- the bytes of the parts for the output
abbrev pub out_bytes : List Part → List ℕ
out_bytes [] = []
out_bytes (out_part bytes ∷ parts) = bytes ++ out_bytes parts
out_bytes (err_part bytes ∷ parts) = out_bytes parts

-- the bytes of the parts for the errors
abbrev pub err_bytes : List Part → List ℕ
err_bytes [] = []
err_bytes (out_part bytes ∷ parts) = err_bytes parts
err_bytes (err_part bytes ∷ parts) = bytes ++ err_bytes parts

-- the first bytes of a part
abbrev pub front_of : ℕ → Part → Part
front_of count (out_part bytes) = out_part (take count bytes)
front_of count (err_part bytes) = err_part (take count bytes)

-- the part has bytes
abbrev pub HasBytes : Part → Type 0
HasBytes (out_part bytes) = bytes ≢ []
HasBytes (err_part bytes) = bytes ≢ []

-- the count of the part's sink rose
abbrev pub RoseAt : Part → Console → Console → Type 0
RoseAt (out_part bytes) old new = Rose old.out.faults new.out.faults
RoseAt (err_part bytes) old new = Rose old.err.faults new.err.faults

-- both sinks hold what they held, followed by the parts, each sink's in order
pub record Written (parts : List Part) (old new : Console) : Type 0 where
  pub out : Appends old.out.written new.out.written (out_bytes parts)
  pub err : Appends old.err.written new.err.written (err_bytes parts)

-- One part was cut, which has bytes: all before it are written whole, a prefix of it is written, and nothing after it is.
-- The count of its sink rose.
pub record Cut (parts : List Part) (old new : Console) : Type 0 where
  pub before : List Part
  pub part : Part
  pub some : HasBytes part
  pub after : List Part
  pub count : ℕ
  pub list : parts ≡ before ++ part ∷ after
  pub written : Written (before ++ front_of count part ∷ []) old new
  pub rose : RoseAt part old new

-- no count fell
pub record Later (old new : Console) : Type 0 where
  pub out : old.out.faults ≤ new.out.faults
  pub err : old.err.faults ≤ new.err.faults

-- both counts are as they were
pub record Quiet (old new : Console) : Type 0 where
  pub out : new.out.faults ≡ old.out.faults
  pub err : new.err.faults ≡ old.err.faults

-- A call wrote the parts. `Ok` wrote them whole and met no fault, and a failure cut one of them.
pub record Prints {T E : Type 0} (parts : List Part) (old new : Console) (result : Result T E) : Type 0 where
  pub whole : OnOk result (Written parts old new)
  pub quiet : OnOk result (Quiet old new)
  pub cut : OnErr result (Cut parts old new)
  pub later : Later old new

-- Parts that are written in several calls so far: the first are written whole, and these are left.
pub record Underway (parts left : List Part) (old now : Console) : Type 0 where
  pub done : List Part
  pub list : parts ≡ done ++ left
  pub written : Written done old now
  pub quiet : Quiet old now
