-- The rights of a page.
use Rattle.std.specs.Prelude.{ℕ, Bool, ◌==◌, bit_and}
use Rattle.machine_types.specs.Numbers.{right_to_execute, right_to_write, right_to_read}
use Rattle.machine_types.specs.declared.touches.Access.{Access}
use Rattle.machine_types.specs.declared.touches.Access.TheVariants.{Read, Write, Fetch}

-- the right that an access wants
abbrev pub right_of : Access → ℕ
right_of Read = right_to_read
right_of Write = right_to_write
right_of Fetch = right_to_execute

-- the rights have it
abbrev pub is_allowed : Access → ℕ → Bool
is_allowed access rights = bit_and rights (right_of access) == right_of access
