-- What values come to, and which of them fit. The ranges of immediates are those of the RISC-V unprivileged ISA, and for capabilities this
-- project's own.
use Rattle.std.specs.Prelude.{ℕ, ◌+◌, ◌-◌, ◌*◌, ◌^◌, ◌==◌, ℤ, pos, neg_ℤ, ◌-ℤ◌, ◌≤ℤ◌, int_le, Bool, true, ◌&&◌, nat_le, Option, Some, None, option_map, List, [], replicate, bit_and, ⊤}
use Rattle.std.specs.Int.{w32, to_le_bytes, bytes_low_first, int_rem_euclid}
use Rattle.cap_format.specs.Numbers.{region_bytes, granule_bytes, all_permissions}
use Rattle.cap_format.specs.Region.{region_start}
use Rattle.cap_format.specs.SetBounds.{is_exact}
use Rattle.riscv_decode.specs.declared.instr.Instr.{Instr}
use Rattle.riscv_decode.specs.declared.instr.Instr.TheVariants.{Reg, Imm, Load, Store, Branch, Upper, Jal, Jalr, One, Ecall, Ebreak, Fence}
use Rattle.riscv_decode.specs.Rows.{Format, format_unsigned, format_shift6, format_shift5, imm_row}
use Rattle.riscv_decode.specs.Encoded.{word_of}
use Rattle.asm_text.specs.declared.listing.Value.{Value}
use Rattle.asm_text.specs.declared.listing.Value.TheVariants.{Number, Name}
use Rattle.asm_text.specs.declared.listing.What.{What}
use Rattle.asm_text.specs.declared.listing.What.TheVariants as what
use Rattle.asm_text.specs.Lines.{slice_of}
use Rattle.asm_image.specs.Places.{natural, string_of, gap}
use Rattle.asm_image.specs.Labels.{Offsets}

-- a number is from one to another
abbrev pub is_from : ℤ → ℤ → ℤ → Bool
is_from least most n = int_le least n && int_le n most

abbrev pub is_even : ℤ → Bool
is_even n = natural (int_rem_euclid n (pos 2)) == 0

-- a number of data: with a sign or without
abbrev pub fits_data : ℕ → ℤ → Bool
fits_data size n = is_from (neg_ℤ (pos (2 ^ (8 * size - 1)))) (pos (2 ^ (8 * size) - 1)) n

-- a signed number of 12 bits
abbrev pub is_signed12 : ℤ → Bool
is_signed12 n = is_from (neg_ℤ (pos 2048)) (pos 2047) n

-- the immediate of a row of opcode 13, 1b or 5b
abbrev pub fits_format : Format → ℤ → Bool
fits_format format_unsigned n = is_from (pos 0) (pos 4095) n
fits_format format_shift6 n = is_from (pos 0) (pos 63) n
fits_format format_shift5 n = is_from (pos 0) (pos 31) n
fits_format _ n = is_signed12 n

-- the immediate of an instruction, or its distance; an instruction that has none takes any number
abbrev pub fits_instr : Instr → ℤ → Bool
fits_instr (Reg op rd rs1 rs2) n = true
fits_instr (Imm op rd rs1 imm) n = fits_format (imm_row op).format n
fits_instr (Load op rd rs1 imm) n = is_signed12 n
fits_instr (Store op rs1 rs2 imm) n = is_signed12 n
fits_instr (Branch op rs1 rs2 imm) n = is_from (neg_ℤ (pos 4096)) (pos 4095) n && is_even n
fits_instr (Upper op rd imm) n = is_from (pos 0) (pos 1048575) n
fits_instr (Jal rd imm) n = is_from (neg_ℤ (pos 1048576)) (pos 1048575) n && is_even n
fits_instr (Jalr rd rs1 imm) n = is_signed12 n
fits_instr (One op rd rs1) n = true
fits_instr Ecall n = true
fits_instr Ebreak n = true
fits_instr Fence n = true

-- an upper immediate isn't negative, and others may have any sign
abbrev pub HasSign : Instr → ℤ → Type 0
HasSign (Upper op rd imm) n = pos 0 ≤ℤ n
HasSign _ n = ⊤

-- the instruction with that immediate
abbrev pub with_immediate : Instr → ℤ → Instr
with_immediate (Reg op rd rs1 rs2) n = Reg op rd rs1 rs2
with_immediate (Imm op rd rs1 imm) n = Imm op rd rs1 n
with_immediate (Load op rd rs1 imm) n = Load op rd rs1 n
with_immediate (Store op rs1 rs2 imm) n = Store op rs1 rs2 n
with_immediate (Branch op rs1 rs2 imm) n = Branch op rs1 rs2 n
with_immediate (Upper op rd imm) n = Upper op rd (natural n)
with_immediate (Jal rd imm) n = Jal rd n
with_immediate (Jalr rd rs1 imm) n = Jalr rd rs1 n
with_immediate (One op rd rs1) n = One op rd rs1
with_immediate Ecall n = Ecall
with_immediate Ebreak n = Ebreak
with_immediate Fence n = Fence

-- a value: a number is itself, and a label its offset less a place
abbrev pub value_from : List ℕ → Offsets → ℕ → Value → Option ℤ
value_from text offsets from (Number n) = Some n
value_from text offsets from (Name span) = option_map (λ offset. pos offset -ℤ pos from) (offsets (slice_of text span))

-- the place that the value of an instruction at a place counts from: branches and `cjal` have a distance from their own
abbrev pub origin_of : Instr → ℕ → ℕ
origin_of (Branch op rs1 rs2 imm) at = at
origin_of (Jal rd imm) at = at
origin_of _ at = 0

-- a capability from a base on: its bounds lie in the region and are exact, its address is within them or at their end, and its permissions
-- are some of those that there are
abbrev pub fits_cap : ℕ → ℤ → ℤ → ℤ → Bool
fits_cap base length offset perms =
    (int_le (pos 0) length && (int_le (pos 0) offset && int_le (pos 0) perms))
    && (nat_le base region_bytes && (nat_le (natural length) (region_bytes - base) && (is_exact (region_start 0 + base) (natural length)
    && (nat_le (natural offset) (natural length) && (bit_and (natural perms) all_permissions == natural perms)))))

-- so many of the lowest bytes of a number in two's complement, the lowest first
abbrev pub data_bytes : ℕ → ℤ → List ℕ
data_bytes size n = bytes_low_first 0 size (natural (int_rem_euclid n (pos (2 ^ 64))))

-- the number that a value is, where it is one
abbrev pub number_or_zero : Option ℤ → ℤ
number_or_zero None = pos 0
number_or_zero (Some n) = n

-- the bytes of a statement at a place, in the file's part of its segment
abbrev pub item_bytes : List ℕ → Offsets → ℕ → What → List ℕ
item_bytes text offsets at (what.Bytes size value) = data_bytes size (number_or_zero (value_from text offsets 0 value))
item_bytes text offsets at (what.Ascii span) = string_of text span
item_bytes text offsets at (what.Space count) = replicate (natural count) 0
item_bytes text offsets at (what.Align to) = replicate (gap at to) 0
item_bytes text offsets at (what.Cap base length offset perms) = replicate granule_bytes 0
item_bytes text offsets at (what.Instr instr value) = to_le_bytes w32 (word_of (with_immediate instr (number_or_zero (value_from text offsets (origin_of instr at) value))))
item_bytes text offsets at _ = []
