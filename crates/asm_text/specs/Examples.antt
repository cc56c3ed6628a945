-- Lines that were worked out by hand: their listings, or their faults; and the bytes of each class, and the names of all statements.
use Rattle.std.specs.Prelude.{◌≡◌, ℕ, zero, suc, filter, flat_map, ◌++◌, ◌^◌, ◌-◌, Ok, Err, pos, neg_ℤ, List, [], ◌∷◌, codes}
use Rattle.riscv_decode.specs.declared.instr.Instr.TheVariants.{Reg, Imm, Load, Store, Branch, Upper, Jal, Jalr, One, Ecall, Fence}
use Rattle.riscv_decode.specs.declared.instr.RegOp.TheVariants.{Add, Sub}
use Rattle.riscv_decode.specs.declared.instr.LoadOp.TheVariants.{Clc, Lb}
use Rattle.riscv_decode.specs.declared.instr.StoreOp.TheVariants.{Sd}
use Rattle.riscv_decode.specs.declared.instr.ImmOp.TheVariants.{Addi}
use Rattle.riscv_decode.specs.declared.instr.BranchOp.TheVariants.{Bne}
use Rattle.riscv_decode.specs.declared.instr.UpperOp.TheVariants.{Auipcc}
use Rattle.riscv_decode.specs.declared.instr.OneOp.TheVariants.{CMove}
use Rattle.asm_text.specs.Bytes.{is_blank}
use Rattle.asm_text.specs.Statements.{name_of}
use Rattle.asm_text.specs.declared.statements.TheConstants.{STATEMENTS}
use Rattle.asm_text.specs.Tokens.{is_lexeme, is_word, is_number, is_string}
use Rattle.asm_text.specs.declared.listing.Span.{Span}
use Rattle.asm_text.specs.declared.listing.Value.TheVariants.{Number, Name}
use Rattle.asm_text.specs.declared.listing.What.TheVariants.{Label, Segment, Entry, Bytes, Ascii, Space, Align, Bss, Cap, Instr}
use Rattle.asm_text.specs.declared.source.SourceReason.TheVariants.{BadText, BadStatement}
use Rattle.asm_text.specs.Source.{fault, item, source_of}

-- a place
abbrev pub at : ℕ → ℕ → Span
at first past = record { first = first; past = past }

-- the numbers below one
abbrev pub below : ℕ → List ℕ
below zero = []
below (suc n) = below n ++ (n ∷ [])

-- Each comes to what was worked out.
pub record WorkedLinesHold : Type 0 where
  pub nothing : source_of [] ≡ Ok []
  pub comment : source_of (codes " # add") ≡ Ok []
  pub label : source_of (codes "a:b:") ≡ Ok (item 1 (Label (at 0 1)) ∷ item 1 (Label (at 2 3)) ∷ [])
  pub registers : source_of (codes "add x1,c2, x31") ≡ Ok (item 1 (Instr (Reg Add 1 2 31) (Number (pos 0))) ∷ [])
  pub load : source_of (codes "clc c1, 8(c2)") ≡ Ok (item 1 (Instr (Load Clc 1 2 (pos 0)) (Number (pos 8))) ∷ [])
  pub store : source_of (codes "sd x1, a(c2)") ≡ Ok (item 1 (Instr (Store Sd 2 1 (pos 0)) (Name (at 7 8))) ∷ [])
  pub jump : source_of (codes "cjal c0, end") ≡ Ok (item 1 (Instr (Jal 0 (pos 0)) (Name (at 9 12))) ∷ [])
  pub segment : source_of (codes ".segment 0x1000 rw") ≡ Ok (item 1 (Segment (pos 4096) 6) ∷ [])
  pub entry : source_of (codes ".entry a") ≡ Ok (item 1 (Entry (at 7 8)) ∷ [])
  pub numbers : source_of (codes ".half 1, -2") ≡ Ok (item 1 (Bytes 2 (Number (pos 1))) ∷ item 1 (Bytes 2 (Number (neg_ℤ (pos 2)))) ∷ [])
  pub ascii : source_of (codes ".ascii \"#\\n\"") ≡ Ok (item 1 (Ascii (at 7 12)) ∷ [])
  pub space : source_of (codes ".space 9\n.bss 7\n.align -1") ≡ Ok (item 1 (Space (pos 9)) ∷ item 2 (Bss (pos 7)) ∷ item 3 (Align (neg_ℤ (pos 1))) ∷ [])
  pub cap : source_of (codes ".cap b, 1, 2, 0x3c") ≡ Ok (item 1 (Cap (at 5 6) (pos 1) (pos 2) (pos 60)) ∷ [])
  pub least : source_of (codes ".quad -9223372036854775808") ≡ Ok (item 1 (Bytes 8 (Number (neg_ℤ (pos (2 ^ 63))))) ∷ [])
  pub less : source_of (codes ".quad -9223372036854775809") ≡ Err (fault 1 BadText)
  pub greatest : source_of (codes ".quad 0xffffffffffffffff") ≡ Ok (item 1 (Bytes 8 (Number (pos (2 ^ 64 - 1)))) ∷ [])
  pub greater : source_of (codes ".quad 18446744073709551616") ≡ Err (fault 1 BadText)
  pub no_register : source_of (codes "add x1, x2, x32") ≡ Err (fault 1 BadStatement)
  pub leading_zero : source_of (codes "add x01, x2, x3") ≡ Err (fault 1 BadStatement)
  pub negative : source_of (codes ".bss -1") ≡ Err (fault 1 BadStatement)
  pub parted : source_of (codes ".byte 5x") ≡ Err (fault 1 BadStatement)
  pub open_string : source_of (codes ".ascii \"a") ≡ Err (fault 1 BadText)
  pub text_first : source_of (codes "add\n;\n;") ≡ Err (fault 1 BadStatement)
  pub text_on_a_line : source_of (codes "add ;") ≡ Err (fault 1 BadText)
  pub dotted : source_of (codes "a.b:") ≡ Err (fault 1 BadStatement)
  pub white : source_of (codes "ab:\tcd\r:\n\nef:") ≡ Ok (item 1 (Label (at 0 2)) ∷ item 1 (Label (at 4 6)) ∷ item 3 (Label (at 10 12)) ∷ [])
  pub names : source_of (codes "addi:x5:_A9:ecall") ≡ Ok (item 1 (Label (at 0 4)) ∷ item 1 (Label (at 5 7)) ∷ item 1 (Label (at 8 11)) ∷ item 1 (Instr Ecall (Number (pos 0))) ∷ [])
  pub dot_first : source_of (codes ".a:") ≡ Err (fault 1 BadStatement)
  pub forms : source_of (codes "addi x1,x2,-3\nbne x1,x2,4\nauipcc x1,5\ncjalr x1,x2,6\ncmove x1,x2\nsub x1,x2,x3\nlb x1,7(x2)\nfence") ≡ Ok (item 1 (Instr (Imm Addi 1 2 (pos 0)) (Number (neg_ℤ (pos 3)))) ∷ item 2 (Instr (Branch Bne 1 2 (pos 0)) (Number (pos 4))) ∷ item 3 (Instr (Upper Auipcc 1 0) (Number (pos 5))) ∷ item 4 (Instr (Jalr 1 2 (pos 0)) (Number (pos 6))) ∷ item 5 (Instr (One CMove 1 2) (Number (pos 0))) ∷ item 6 (Instr (Reg Sub 1 2 3) (Number (pos 0))) ∷ item 7 (Instr (Load Lb 1 2 (pos 0)) (Number (pos 7))) ∷ item 8 (Instr Fence (Number (pos 0))) ∷ [])
  pub register_label : source_of (codes "cjal x1, x5") ≡ Ok (item 1 (Instr (Jal 1 (pos 0)) (Name (at 9 11))) ∷ [])
  pub values : source_of (codes ".byte ab\n.word 1,2,-0x0aF") ≡ Ok (item 1 (Bytes 1 (Name (at 6 8))) ∷ item 2 (Bytes 4 (Number (pos 1))) ∷ item 2 (Bytes 4 (Number (pos 2))) ∷ item 2 (Bytes 4 (Number (neg_ℤ (pos 175)))) ∷ [])
  pub no_data : source_of (codes ".byte") ≡ Err (fault 1 BadStatement)
  pub ends_in_comma : source_of (codes ".byte 1,") ≡ Err (fault 1 BadStatement)
  pub no_comma_between : source_of (codes ".byte 1 2 3") ≡ Err (fault 1 BadStatement)
  pub rights : source_of (codes ".segment 0 r\n.segment -0 rx\n.segment 1 rwx") ≡ Ok (item 1 (Segment (pos 0) 4) ∷ item 2 (Segment (pos 0) 5) ∷ item 3 (Segment (pos 1) 7) ∷ [])
  pub write_alone : source_of (codes ".segment 0 w") ≡ Err (fault 1 BadStatement)
  pub negative_segment : source_of (codes ".segment -1 r") ≡ Err (fault 1 BadStatement)
  pub negative_space : source_of (codes ".space -1") ≡ Err (fault 1 BadStatement)
  pub long_names : source_of (codes ".entry ab\n.cap cd, -1, -2, -3") ≡ Ok (item 1 (Entry (at 7 9)) ∷ item 2 (Cap (at 15 17) (neg_ℤ (pos 1)) (neg_ℤ (pos 2)) (neg_ℤ (pos 3))) ∷ [])
  pub two_statements : source_of (codes "ecall ecall") ≡ Err (fault 1 BadStatement)
  pub no_comma : source_of (codes "add x1 x2 x3") ≡ Err (fault 1 BadStatement)
  pub other_mark : source_of (codes "add x1:x2:x3") ≡ Err (fault 1 BadStatement)
  pub other_bracket : source_of (codes "lb x1, 7)x2(") ≡ Err (fault 1 BadStatement)
  pub no_digits : source_of (codes ".byte 0x") ≡ Err (fault 1 BadStatement)
  pub great_x : source_of (codes ".byte 0X1") ≡ Err (fault 1 BadStatement)
  pub lone_sign : source_of (codes ".byte -") ≡ Err (fault 1 BadText)
  pub two_signs : source_of (codes ".byte --1") ≡ Err (fault 1 BadText)
  pub plus : source_of (codes ".byte +1") ≡ Err (fault 1 BadText)
  pub great_hex : source_of (codes ".quad 0x10000000000000000") ≡ Err (fault 1 BadText)
  pub hex_digits : source_of (codes ".quad 0xAbCdEf9876543210") ≡ Ok (item 1 (Bytes 8 (Number (pos 12379814388810658320))) ∷ [])
  pub strings : source_of (codes ".ascii \"\\\\\\\"\"#\"\n.ascii \"\"") ≡ Ok (item 1 (Ascii (at 7 13)) ∷ item 2 (Ascii (at 23 25)) ∷ [])
  pub open_escape : source_of (codes ".ascii \"\\\"") ≡ Err (fault 1 BadText)
  pub bad_comment : source_of (35 ∷ 127 ∷ []) ≡ Err (fault 1 BadText)
  pub blanks : filter is_blank (below 256) ≡ 9 ∷ 13 ∷ 32 ∷ []
  pub alone : filter (λ byte. is_lexeme (byte ∷ [])) (below 256) ≡ codes "(),.0123456789:ABCDEFGHIJKLMNOPQRSTUVWXYZ_abcdefghijklmnopqrstuvwxyz"
  pub in_words : filter (λ byte. is_word (97 ∷ byte ∷ [])) (below 256) ≡ codes ".0123456789ABCDEFGHIJKLMNOPQRSTUVWXYZ_abcdefghijklmnopqrstuvwxyz"
  pub hexadecimal : filter (λ byte. is_number (48 ∷ 120 ∷ byte ∷ [])) (below 256) ≡ codes "0123456789ABCDEFabcdef"
  pub escapes : filter (λ byte. is_string (34 ∷ 92 ∷ byte ∷ 34 ∷ [])) (below 256) ≡ codes "\"0\\nt"
  pub in_strings : filter (λ byte. is_string (34 ∷ byte ∷ 34 ∷ [])) (below 256) ≡ 9 ∷ 13 ∷ codes " !#$%&'()*+,-./0123456789:;<=>?@ABCDEFGHIJKLMNOPQRSTUVWXYZ[]^_`abcdefghijklmnopqrstuvwxyz{|}~"
  pub wide : source_of (codes ".byte 256\naddi x1,x2,4096") ≡ Ok (item 1 (Bytes 1 (Number (pos 256))) ∷ item 2 (Instr (Imm Addi 1 2 (pos 0)) (Number (pos 4096))) ∷ [])
  pub touching : source_of (codes ".segment 0x10rw") ≡ Ok (item 1 (Segment (pos 16) 6) ∷ [])
  pub parted_hex : source_of (codes ".byte 0xg") ≡ Err (fault 1 BadStatement)
  pub parted_sign : source_of (codes ".byte 1-1") ≡ Err (fault 1 BadStatement)
  pub many_zeros : source_of (codes ".byte -007") ≡ Ok (item 1 (Bytes 1 (Number (neg_ℤ (pos 7)))) ∷ [])
  pub all_names : flat_map (λ statement. name_of statement ++ (32 ∷ [])) STATEMENTS ≡ codes "add sub sll slt sltu xor srl sra or and mul mulh mulhsu mulhu div divu rem remu addw subw sllw srlw sraw mulw divw divuw remw remuw csetbounds csetboundsexact candperm csetaddr cincoffset csub ctestsubset cseqx addi slti sltiu xori ori andi slli srli srai addiw slliw srliw sraiw cincoffsetimm csetboundsimm lb lh lw ld lbu lhu lwu clc sb sh sw sd csc beq bne blt bge bltu bgeu lui auipcc cgetperm cgetbase cgetlen cgettag cgetsealed cgetoffset crrl cram cmove ccleartag cgetaddr csealentry cjal cjalr ecall ebreak fence .segment .entry .byte .half .word .quad .ascii .space .align .bss .cap "
  pub ended_label : source_of (codes "a:\n") ≡ Ok (item 1 (Label (at 0 1)) ∷ [])
  pub backslash_at_the_end : source_of (codes ".ascii \"a\\") ≡ Err (fault 1 BadText)
  pub third_line : source_of (codes "ecall\n\n;") ≡ Err (fault 3 BadText)
  pub comment_behind : source_of (codes ".byte 1 # , 2") ≡ Ok (item 1 (Bytes 1 (Number (pos 1))) ∷ [])
  pub string_over_lines : source_of (codes ".ascii \"a\nb\"") ≡ Err (fault 1 BadText)
  pub other_escape : source_of (codes ".ascii \"\\r\"") ≡ Err (fault 1 BadText)
  pub zeros_before_x : source_of (codes ".byte 00x5") ≡ Err (fault 1 BadStatement)
  pub sign_before_x : source_of (codes ".byte -0x") ≡ Err (fault 1 BadStatement)
  pub text_before_statement : source_of (codes ".bss -1 ;") ≡ Err (fault 1 BadText)
  pub not_hexadecimal : source_of (codes ".byte 5xa") ≡ Err (fault 1 BadStatement)
