-- What the rows of 32 bits give before the sign is extended: how the code cuts the table of values in two.
use Rattle.std.specs.Prelude.{ℕ, Bool, true, false}
use Rattle.riscv_decode.specs.declared.instr.RegOp.{RegOp}
use Rattle.riscv_decode.specs.declared.instr.RegOp.TheVariants as reg
use Rattle.int_step.specs.Values.{sum, difference, product, shifted_left, shifted_right, shifted_signed, quotient, remainder, unsigned_quotient, unsigned_remainder}

-- it is a row of 32 bits
abbrev pub is_word_row : RegOp → Bool
is_word_row reg.Addw = true
is_word_row reg.Subw = true
is_word_row reg.Sllw = true
is_word_row reg.Srlw = true
is_word_row reg.Sraw = true
is_word_row reg.Mulw = true
is_word_row reg.Divw = true
is_word_row reg.Divuw = true
is_word_row reg.Remw = true
is_word_row reg.Remuw = true
is_word_row _ = false

-- the value of its row, of operands of 32 bits
abbrev pub word_value : RegOp → ℕ → ℕ → ℕ
word_value reg.Addw a b = sum 32 a b
word_value reg.Subw a b = difference 32 a b
word_value reg.Sllw a b = shifted_left 32 a b
word_value reg.Srlw a b = shifted_right 32 a b
word_value reg.Sraw a b = shifted_signed 32 a b
word_value reg.Mulw a b = product 32 a b
word_value reg.Divw a b = quotient 32 a b
word_value reg.Divuw a b = unsigned_quotient 32 a b
word_value reg.Remw a b = remainder 32 a b
word_value reg.Remuw a b = unsigned_remainder 32 a b
word_value _ a b = 0
