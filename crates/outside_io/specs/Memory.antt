-- What sources, sinks and files in memory hold, and which of their calls fail.
use Rattle.std.specs.Prelude.{◌≡◌, ℕ, ◌+◌, ◌-◌, ◌^◌, cond, if◌then◌else◌, nat_lt, ◌⊎◌, IsSomeAnd, Contains, List, [], ◌∷◌, Result, Ok, Err, Some, None, ⊤, bytes_eq}
use Rattle.std.specs.declared.option.Option.{Option}
use Rattle.outside_io.specs.declared.files.FileRefusal.{FileRefusal}
use Rattle.outside_io.specs.declared.files.FileRefusal.TheVariants.{Failed, TooLong, NoMemory}

-- The numbers of the calls that fail, and the number of the next call. After the call 2^64 - 1 there is no number.
pub record Failures : Type 0 where
  pub calls : List ℕ
  pub next : Option ℕ

abbrev pub failures_of : List ℕ → Failures
failures_of calls = record { calls = calls; next = Some 0 }

-- the next call is one of those that fail
abbrev pub FailsNow : Failures → Type 0
FailsNow failures = IsSomeAnd failures.next (Contains failures.calls)

abbrev pub next_number : Option ℕ → Option ℕ
next_number None = None
next_number (Some n) = if nat_lt n (2 ^ 64 - 1) then Some (n + 1) else None

-- one call later
abbrev pub failures_after : Failures → Failures
failures_after failures = record { calls = failures.calls; next = next_number failures.next }

-- the bytes that are left, and the most that a call gives
pub record MemorySourceState : Type 0 where
  pub left : List ℕ
  pub piece : ℕ
  pub failures : Failures
  pub faults : ℕ

-- the bytes that were written, and the room that is left
pub record MemorySinkState : Type 0 where
  pub written : List ℕ
  pub room : ℕ
  pub failures : Failures
  pub faults : ℕ

-- names with what they hold
pub record MemoryFilesState : Type 0 where
  pub entries : List (List ℕ × List ℕ)
  pub failures : Failures
  pub faults : ℕ
  pub failed_last : Option (List ℕ)

-- the content of the first entry of that name
abbrev pub content_of : List (List ℕ × List ℕ) → List ℕ → Option (List ℕ)
content_of [] name = None
content_of (entry ∷ entries) name = cond (bytes_eq entry.0 name) (Some entry.1) (content_of entries name)

-- Which answer comes: Failed exactly where the call fails or the name isn't there, and TooLong exactly where it doesn't
-- fail and the content is longer than the limit. Want of memory is free.
abbrev pub IsMemoryRead : {V : Type 0} → Failures → Option (List ℕ) → ℕ → Result V FileRefusal → Type 0
IsMemoryRead failures found limit (Err Failed) = FailsNow failures ⊎ (found ≡ None)
IsMemoryRead failures found limit (Err TooLong) = ¬ FailsNow failures
IsMemoryRead failures found limit (Ok v) = ¬ FailsNow failures
IsMemoryRead failures found limit (Err NoMemory) = ⊤

-- the count of faults of the host's files, and the name that failed last
pub record HostFilesState : Type 0 where
  pub faults : ℕ
  pub failed_last : Option (List ℕ)
