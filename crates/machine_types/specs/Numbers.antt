-- The limits of a configuration and the bits of the rights of a page, as this project fixes them. The code's constants are
-- these.
use Rattle.std.specs.Prelude.{ℕ, ◌≡◌}
use Rattle.machine_types.specs.declared.TheConstants as code

-- the most slots for processes, and the most steps that a run may be limited to
abbrev pub most_slots : ℕ
most_slots = 64

abbrev pub most_steps : ℕ
most_steps = 1000000000

-- the greatest quantum of a schedule
abbrev pub most_quantum : ℕ
most_quantum = 1000000

-- how often a number of a list is repeated at most, and the most lines and bytes of a list
abbrev pub most_repeats : ℕ
most_repeats = 1000000000

abbrev pub most_lines : ℕ
most_lines = 100000

abbrev pub list_bytes : ℕ
list_bytes = 1048576

abbrev pub right_to_execute : ℕ
right_to_execute = 1

abbrev pub right_to_write : ℕ
right_to_write = 2

abbrev pub right_to_read : ℕ
right_to_read = 4

-- each constant of the code is its number
pub record ConstantsAreFixed : Type 0 where
  pub slots : code.MOST_SLOTS ≡ most_slots
  pub steps : code.MOST_STEPS ≡ most_steps
  pub quantum : code.MOST_QUANTUM ≡ most_quantum
  pub repeats : code.MOST_REPEATS ≡ most_repeats
  pub lines : code.MOST_LINES ≡ most_lines
  pub list : code.LIST_BYTES ≡ list_bytes
  pub execute : code.RIGHT_X ≡ right_to_execute
  pub write : code.RIGHT_W ≡ right_to_write
  pub read : code.RIGHT_R ≡ right_to_read
