-- What stands outside the program: sources, sinks and files, as far as they tell it, and their counts of faults.
use Rattle.std.specs.Prelude.{◌≡◌, ℕ, ◌<◌, ◌⊎◌, List, ◌++◌, take, Result, OnOk, OnErr}
use Rattle.std.specs.declared.option.Option.{Option}
use Rattle.std.specs.Io.KnownBytes.{Appends}
use Rattle.outside_io.specs.Faults.{HasCause, Rose, Still, last_count}

-- the bytes that a source has left, where it tells them, and how often a read has failed
pub record SourceState : Type 0 where
  pub left : Option (List ℕ)
  pub faults : ℕ

-- the bytes that were written to a sink, where it tells them, and how often a write has failed
pub record SinkState : Type 0 where
  pub written : Option (List ℕ)
  pub faults : ℕ

-- what each name holds, where that is told; how often a read has failed; and the name that failed last
pub record FilesState : Type 0 where
  pub contents : Option (List ℕ → Option (List ℕ))
  pub faults : ℕ
  pub failed_last : Option (List ℕ)

-- the bytes grow by a prefix of the text
abbrev pub AppendsPart : Option (List ℕ) → Option (List ℕ) → List ℕ → Type 0
AppendsPart old new text = (count : ℕ) × Appends old new (take count text)

-- A call printed the text to a sink. `Ok` appended the whole of it, and a failure a prefix of it.
pub record PrintsText {T E : Type 0} (text : List ℕ) (old new : SinkState) (result : Result T E) : Type 0 where
  pub whole : OnOk result (Appends old.written new.written text)
  pub part : OnErr result (AppendsPart old.written new.written text)
  pub cause : HasCause old.faults new.faults result

-- A text that is printed in several calls so far: its front is written whole, and this is left.
pub record TextUnderway (text left : List ℕ) (old now : SinkState) : Type 0 where
  pub done : List ℕ
  pub list : text ≡ done ++ left
  pub written : Appends old.written now.written done
  pub kept : now.faults ≡ old.faults

-- all that stands outside at one moment
pub record Outside : Type 0 where
  pub files : FilesState
  pub input : SourceState
  pub out : SinkState
  pub err : SinkState

abbrev pub outside : FilesState → SourceState → SinkState → SinkState → Outside
outside files input out err = record { files = files; input = input; out = out; err = err }

-- no count rose, on the output and on the errors
pub record SinksStill (old new : Outside) : Type 0 where
  pub out : Still old.out.faults new.out.faults
  pub err : Still old.err.faults new.err.faults

-- the count rose of the output or of the errors
abbrev pub SinkRose : Outside → Outside → Type 0
SinkRose old new = Rose old.out.faults new.out.faults ⊎ Rose old.err.faults new.err.faults

-- no count rose
pub record NoneRose (old new : Outside) : Type 0 where
  pub files : Still old.files.faults new.files.faults
  pub input : Still old.input.faults new.input.faults
  pub sinks : SinksStill old new

-- every count stands below its last value
pub record CountsBelowLast (now : Outside) : Type 0 where
  pub files : now.files.faults < last_count
  pub input : now.input.faults < last_count
  pub out : now.out.faults < last_count
  pub err : now.err.faults < last_count
