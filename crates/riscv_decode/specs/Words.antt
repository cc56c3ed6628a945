-- The fields and the immediates of an instruction word. After the base formats of the RISC-V unprivileged ISA.
use Rattle.std.specs.Prelude.{ℕ, ◌+◌, ◌-◌, ◌*◌, ◌/◌, ◌%◌, ◌^◌, nat_lt, if◌then◌else◌, ℤ, pos, ◌-ℤ◌}

-- so many bits of a word, from this one on
abbrev pub field : ℕ → ℕ → ℕ → ℕ
field word low width = word / 2 ^ low % 2 ^ width

abbrev pub opcode_of : ℕ → ℕ
opcode_of word = field word 0 7

abbrev pub rd_of : ℕ → ℕ
rd_of word = field word 7 5

abbrev pub funct3_of : ℕ → ℕ
funct3_of word = field word 12 3

abbrev pub rs1_of : ℕ → ℕ
rs1_of word = field word 15 5

abbrev pub rs2_of : ℕ → ℕ
rs2_of word = field word 20 5

abbrev pub funct7_of : ℕ → ℕ
funct7_of word = field word 25 7

-- a number of so many bits as a signed one
abbrev pub signed : ℕ → ℕ → ℤ
signed width n = if nat_lt n (2 ^ (width - 1)) then pos n else pos n -ℤ pos (2 ^ width)

-- the immediates of the formats I, S, B, U and J
abbrev pub immediate_i : ℕ → ℤ
immediate_i word = signed 12 (field word 20 12)

abbrev pub immediate_s : ℕ → ℤ
immediate_s word = signed 12 (field word 25 7 * 2 ^ 5 + field word 7 5)

abbrev pub immediate_b : ℕ → ℤ
immediate_b word = signed 13 (field word 31 1 * 2 ^ 12 + field word 7 1 * 2 ^ 11 + field word 25 6 * 2 ^ 5 + field word 8 4 * 2)

abbrev pub immediate_u : ℕ → ℕ
immediate_u word = field word 12 20

abbrev pub immediate_j : ℕ → ℤ
immediate_j word = signed 21 (field word 31 1 * 2 ^ 20 + field word 12 8 * 2 ^ 12 + field word 20 1 * 2 ^ 11 + field word 21 10 * 2)
