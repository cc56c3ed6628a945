-- Words whose lines were worked out by hand, and an instruction of each row of the table.
use Rattle.std.specs.Prelude.{◌≡◌, flat_map, pos, neg_ℤ, [], ◌∷◌, ◌++◌, codes}
use Rattle.riscv_decode.specs.declared.instr.Instr.TheVariants.{Reg, Imm, Load, Store, Branch, Upper, Jal, Jalr, One, Ecall, Ebreak, Fence}
use Rattle.riscv_decode.specs.declared.instr.RegOp.TheVariants as reg
use Rattle.riscv_decode.specs.declared.instr.ImmOp.TheVariants as imm
use Rattle.riscv_decode.specs.declared.instr.LoadOp.TheVariants as load
use Rattle.riscv_decode.specs.declared.instr.StoreOp.TheVariants as store
use Rattle.riscv_decode.specs.declared.instr.BranchOp.TheVariants as branch
use Rattle.riscv_decode.specs.declared.instr.UpperOp.TheVariants as upper
use Rattle.riscv_decode.specs.declared.instr.OneOp.TheVariants as one
use Rattle.trace_tools.specs.Statements.{instr_text, instr_line}

-- Each has the line that was worked out. The first are of the program that writes `hi`. Registers that are used as capabilities are named so.
pub record WorkedStatementsHold : Type 0 where
  pub number : instr_line 0x00000 0x00100513 ≡ codes "00000: 00100513 addi x10, x0, 1\n"
  pub derived : instr_line 0x00004 0x020115db ≡ codes "00004: 020115db cincoffsetimm c11, c2, 32\n"
  pub call : instr_line 0x00010 0x00000073 ≡ codes "00010: 00000073 ecall\n"
  pub last : instr_line 0xffffc 0x89abcdea ≡ codes "ffffc: 89abcdea .word 0x89abcdea\n"
  pub two_sources : flat_map (λ op. instr_text (Reg op 1 2 31) ++ codes "\n") (reg.Add ∷ reg.Sub ∷ reg.Sll ∷ reg.Slt ∷ reg.Sltu ∷ reg.Xor ∷ reg.Srl ∷ reg.Sra ∷ reg.Or ∷ reg.And ∷ reg.Mul ∷ reg.Mulh ∷ reg.Mulhsu ∷ reg.Mulhu ∷ reg.Div ∷ reg.Divu ∷ reg.Rem ∷ reg.Remu ∷ reg.Addw ∷ reg.Subw ∷ reg.Sllw ∷ reg.Srlw ∷ reg.Sraw ∷ reg.Mulw ∷ reg.Divw ∷ reg.Divuw ∷ reg.Remw ∷ reg.Remuw ∷ reg.CSetBounds ∷ reg.CSetBoundsExact ∷ reg.CAndPerm ∷ reg.CSetAddr ∷ reg.CIncOffset ∷ reg.CSub ∷ reg.CTestSubset ∷ reg.CSeqx ∷ [])
      ≡ codes "add x1, x2, x31\nsub x1, x2, x31\nsll x1, x2, x31\nslt x1, x2, x31\nsltu x1, x2, x31\nxor x1, x2, x31\nsrl x1, x2, x31\nsra x1, x2, x31\nor x1, x2, x31\nand x1, x2, x31\nmul x1, x2, x31\nmulh x1, x2, x31\nmulhsu x1, x2, x31\nmulhu x1, x2, x31\ndiv x1, x2, x31\ndivu x1, x2, x31\nrem x1, x2, x31\nremu x1, x2, x31\naddw x1, x2, x31\nsubw x1, x2, x31\nsllw x1, x2, x31\nsrlw x1, x2, x31\nsraw x1, x2, x31\nmulw x1, x2, x31\ndivw x1, x2, x31\ndivuw x1, x2, x31\nremw x1, x2, x31\nremuw x1, x2, x31\ncsetbounds c1, c2, x31\ncsetboundsexact c1, c2, x31\ncandperm c1, c2, x31\ncsetaddr c1, c2, x31\ncincoffset c1, c2, x31\ncsub x1, c2, c31\nctestsubset x1, c2, c31\ncseqx x1, c2, c31\n"
  pub immediates : flat_map (λ op. instr_text (Imm op 10 0 (pos 9)) ++ codes "\n") (imm.Addi ∷ imm.Slti ∷ imm.Sltiu ∷ imm.Xori ∷ imm.Ori ∷ imm.Andi ∷ imm.Slli ∷ imm.Srli ∷ imm.Srai ∷ imm.Addiw ∷ imm.Slliw ∷ imm.Srliw ∷ imm.Sraiw ∷ imm.CIncOffsetImm ∷ imm.CSetBoundsImm ∷ [])
      ≡ codes "addi x10, x0, 9\nslti x10, x0, 9\nsltiu x10, x0, 9\nxori x10, x0, 9\nori x10, x0, 9\nandi x10, x0, 9\nslli x10, x0, 9\nsrli x10, x0, 9\nsrai x10, x0, 9\naddiw x10, x0, 9\nslliw x10, x0, 9\nsrliw x10, x0, 9\nsraiw x10, x0, 9\ncincoffsetimm c10, c0, 9\ncsetboundsimm c10, c0, 9\n"
  pub loads : flat_map (λ op. instr_text (Load op 5 6 (neg_ℤ (pos 2048))) ++ codes "\n") (load.Lb ∷ load.Lh ∷ load.Lw ∷ load.Ld ∷ load.Lbu ∷ load.Lhu ∷ load.Lwu ∷ load.Clc ∷ [])
      ≡ codes "lb x5, -2048(c6)\nlh x5, -2048(c6)\nlw x5, -2048(c6)\nld x5, -2048(c6)\nlbu x5, -2048(c6)\nlhu x5, -2048(c6)\nlwu x5, -2048(c6)\nclc c5, -2048(c6)\n"
  pub stores : flat_map (λ op. instr_text (Store op 7 8 (pos 2047)) ++ codes "\n") (store.Sb ∷ store.Sh ∷ store.Sw ∷ store.Sd ∷ store.Csc ∷ [])
      ≡ codes "sb x8, 2047(c7)\nsh x8, 2047(c7)\nsw x8, 2047(c7)\nsd x8, 2047(c7)\ncsc c8, 2047(c7)\n"
  pub branches : flat_map (λ op. instr_text (Branch op 1 2 (neg_ℤ (pos 4096))) ++ codes "\n") (branch.Beq ∷ branch.Bne ∷ branch.Blt ∷ branch.Bge ∷ branch.Bltu ∷ branch.Bgeu ∷ [])
      ≡ codes "beq x1, x2, -4096\nbne x1, x2, -4096\nblt x1, x2, -4096\nbge x1, x2, -4096\nbltu x1, x2, -4096\nbgeu x1, x2, -4096\n"
  pub uppers : flat_map (λ op. instr_text (Upper op 3 1048575) ++ codes "\n") (upper.Lui ∷ upper.Auipcc ∷ [])
      ≡ codes "lui x3, 1048575\nauipcc c3, 1048575\n"
  pub one_source : flat_map (λ op. instr_text (One op 29 30) ++ codes "\n") (one.CGetPerm ∷ one.CGetBase ∷ one.CGetLen ∷ one.CGetTag ∷ one.CGetSealed ∷ one.CGetOffset ∷ one.Crrl ∷ one.Cram ∷ one.CMove ∷ one.CClearTag ∷ one.CGetAddr ∷ one.CSealEntry ∷ [])
      ≡ codes "cgetperm x29, c30\ncgetbase x29, c30\ncgetlen x29, c30\ncgettag x29, c30\ncgetsealed x29, c30\ncgetoffset x29, c30\ncrrl x29, x30\ncram x29, x30\ncmove c29, c30\nccleartag c29, c30\ncgetaddr x29, c30\ncsealentry c29, c30\n"
  pub jump : instr_text (Jal 0 (pos 1048574)) ≡ codes "cjal c0, 1048574"
  pub jump_by_register : instr_text (Jalr 1 2 (neg_ℤ (pos 1))) ≡ codes "cjalr c1, c2, -1"
  pub ecall : instr_text Ecall ≡ codes "ecall"
  pub ebreak : instr_text Ebreak ≡ codes "ebreak"
  pub fence : instr_text Fence ≡ codes "fence"
  pub zeros : instr_line 0x00008 0x00000000 ≡ codes "00008: 00000000 .word 0x00000000\n"
  pub immediates_below : flat_map (λ op. instr_text (Imm op 10 0 (neg_ℤ (pos 12))) ++ codes "\n") (imm.Addi ∷ imm.Slti ∷ imm.Sltiu ∷ imm.Xori ∷ imm.Ori ∷ imm.Andi ∷ imm.Slli ∷ imm.Srli ∷ imm.Srai ∷ imm.Addiw ∷ imm.Slliw ∷ imm.Srliw ∷ imm.Sraiw ∷ imm.CIncOffsetImm ∷ imm.CSetBoundsImm ∷ [])
      ≡ codes "addi x10, x0, -12\nslti x10, x0, -12\nsltiu x10, x0, -12\nxori x10, x0, -12\nori x10, x0, -12\nandi x10, x0, -12\nslli x10, x0, -12\nsrli x10, x0, -12\nsrai x10, x0, -12\naddiw x10, x0, -12\nslliw x10, x0, -12\nsrliw x10, x0, -12\nsraiw x10, x0, -12\ncincoffsetimm c10, c0, -12\ncsetboundsimm c10, c0, -12\n"
  pub loads_above : flat_map (λ op. instr_text (Load op 31 9 (pos 16)) ++ codes "\n") (load.Lb ∷ load.Lh ∷ load.Lw ∷ load.Ld ∷ load.Lbu ∷ load.Lhu ∷ load.Lwu ∷ load.Clc ∷ [])
      ≡ codes "lb x31, 16(c9)\nlh x31, 16(c9)\nlw x31, 16(c9)\nld x31, 16(c9)\nlbu x31, 16(c9)\nlhu x31, 16(c9)\nlwu x31, 16(c9)\nclc c31, 16(c9)\n"
  pub stores_below : flat_map (λ op. instr_text (Store op 7 8 (neg_ℤ (pos 32))) ++ codes "\n") (store.Sb ∷ store.Sh ∷ store.Sw ∷ store.Sd ∷ store.Csc ∷ [])
      ≡ codes "sb x8, -32(c7)\nsh x8, -32(c7)\nsw x8, -32(c7)\nsd x8, -32(c7)\ncsc c8, -32(c7)\n"
  pub branches_above : flat_map (λ op. instr_text (Branch op 1 2 (pos 64)) ++ codes "\n") (branch.Beq ∷ branch.Bne ∷ branch.Blt ∷ branch.Bge ∷ branch.Bltu ∷ branch.Bgeu ∷ [])
      ≡ codes "beq x1, x2, 64\nbne x1, x2, 64\nblt x1, x2, 64\nbge x1, x2, 64\nbltu x1, x2, 64\nbgeu x1, x2, 64\n"
  pub jump_below : instr_text (Jal 1 (neg_ℤ (pos 1048576))) ≡ codes "cjal c1, -1048576"
  pub jump_by_register_above : instr_text (Jalr 0 1 (pos 32)) ≡ codes "cjalr c0, c1, 32"
  pub immediates_above : flat_map (λ op. instr_text (Imm op 31 30 (pos 2047)) ++ codes "\n") (imm.Addi ∷ imm.Slti ∷ imm.Sltiu ∷ imm.Xori ∷ imm.Ori ∷ imm.Andi ∷ imm.Slli ∷ imm.Srli ∷ imm.Srai ∷ imm.Addiw ∷ imm.Slliw ∷ imm.Srliw ∷ imm.Sraiw ∷ imm.CIncOffsetImm ∷ imm.CSetBoundsImm ∷ [])
      ≡ codes "addi x31, x30, 2047\nslti x31, x30, 2047\nsltiu x31, x30, 2047\nxori x31, x30, 2047\nori x31, x30, 2047\nandi x31, x30, 2047\nslli x31, x30, 2047\nsrli x31, x30, 2047\nsrai x31, x30, 2047\naddiw x31, x30, 2047\nslliw x31, x30, 2047\nsrliw x31, x30, 2047\nsraiw x31, x30, 2047\ncincoffsetimm c31, c30, 2047\ncsetboundsimm c31, c30, 2047\n"
  pub uppers_below : flat_map (λ op. instr_text (Upper op 30 16) ++ codes "\n") (upper.Lui ∷ upper.Auipcc ∷ [])
      ≡ codes "lui x30, 16\nauipcc c30, 16\n"
