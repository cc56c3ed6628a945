-- The numbers of calls and of their registers, and the limits of descriptors and pipes, as this project fixes them.
use Rattle.std.specs.Prelude.{ℕ, ◌≡◌}
use Rattle.machine.specs.declared.TheConstants as code

-- the numbers of calls, in x17
abbrev pub exit_call : ℕ
exit_call = 1

abbrev pub fork_call : ℕ
fork_call = 2

abbrev pub wait_call : ℕ
wait_call = 3

abbrev pub getpid_call : ℕ
getpid_call = 4

abbrev pub getppid_call : ℕ
getppid_call = 5

abbrev pub read_call : ℕ
read_call = 7

abbrev pub write_call : ℕ
write_call = 8

abbrev pub yield_call : ℕ
yield_call = 12

-- the registers of a call's number, of its arguments and of its answers
abbrev pub number_register : ℕ
number_register = 17

abbrev pub first_argument : ℕ
first_argument = 10

abbrev pub second_argument : ℕ
second_argument = 11

abbrev pub third_argument : ℕ
third_argument = 12

-- how many descriptors a process has, and how many pipes there are
abbrev pub descriptor_count : ℕ
descriptor_count = 16

abbrev pub pipe_count : ℕ
pipe_count = 16

-- the most bytes that a pipe holds, and the most of a write to a pipe that goes out at once
abbrev pub pipe_bytes : ℕ
pipe_bytes = 4096

abbrev pub pipe_buf : ℕ
pipe_buf = 512

-- each constant of the code, which has those of descriptors and pipes, is its number
pub record ConstantsAreFixed : Type 0 where
  pub descriptors : code.DESCRIPTORS ≡ descriptor_count
  pub pipes : code.PIPES ≡ pipe_count
  pub bytes : code.PIPE_BYTES ≡ pipe_bytes
  pub buf : code.PIPE_BUF ≡ pipe_buf
