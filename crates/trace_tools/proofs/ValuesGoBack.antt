-- The value that the statement of a word says fits, and gives the word's bytes again.
use Rattle.std.proofs.Common.{◌≡◌, ◌∙◌, sym, ap, refl, subst, ℕ, ◌-◌, ◌^◌, ◌%◌, true, Option, Some, None, pos, neg_ℤ, List, w32, arith}
use Rattle.std.specs.Int.{bytes_low_first, to_le_bytes}
use Rattle.std.proofs.lemmas.Int.{ints}
use Rattle.riscv_decode.specs.declared.instr.Instr.{Instr}
use Rattle.riscv_decode.specs.declared.instr.Instr.TheVariants.{Reg, Upper}
use Rattle.riscv_decode.specs.Table.{IsInRange}
use Rattle.riscv_decode.specs.Encoded.{word_of}
use Rattle.riscv_decode.specs.Decoded.{decoded}
use Rattle.riscv_decode.specs.RoundTrips.{WordsGoRound}
use Rattle.asm_image.specs.Labels.{Offsets}
use Rattle.asm_image.specs.Faults.{AllMet}
use Rattle.asm_image.specs.Rules.{value_rules}
use Rattle.asm_image.specs.Values.{fits_data, fits_instr, with_immediate, HasSign, data_bytes, item_bytes}
use Rattle.asm_image.proofs.Immediates.{Decides-from, ranges-are-tables}
use Rattle.trace_tools.specs.Laws.{immediate_of, what_of, IsWord}

-- an instruction with the immediate 0, and then with its own, is itself
immediate-back : (instr : Instr) → with_immediate (with_immediate instr (pos 0)) (immediate_of instr) ≡ instr
immediate-back (Reg op rd rs1 rs2) = refl
immediate-back _ = refl

-- an upper immediate isn't negative
has-sign : (instr : Instr) → HasSign (with_immediate instr (pos 0)) (immediate_of instr)
has-sign (Upper op rd imm) = omega (arith, ints)
has-sign _ = tt

-- the immediate of an instruction in range fits it
instr-fits : (instr : Instr) → IsInRange instr → fits_instr (with_immediate instr (pos 0)) (immediate_of instr) ≡ true
instr-fits instr range =
    ((ranges-are-tables (with_immediate instr (pos 0)) (immediate_of instr)).1 (subst IsInRange (sym (immediate-back instr)) range, has-sign instr)).1

-- a word fits 4 bytes
word-fits : (word : ℕ) → IsWord word → fits_data 4 (pos word) ≡ true
word-fits word small =
    (Decides-from (neg_ℤ (pos (2 ^ 31))) (pos (2 ^ 32 - 1)) (pos (2 ^ 32)) (pos word) (omega (arith, ints))).1 (omega (arith, ints), omega (arith, ints))

-- and those bytes are the word's
word-bytes : (word : ℕ) → IsWord word → data_bytes 4 (pos word) ≡ to_le_bytes w32 word
word-bytes word small =
    let same : word % 2 ^ 64 ≡ word = omega arith in
    ap (bytes_low_first 0 4) same

module _ (round : WordsGoRound) (text : List ℕ) (offsets : Offsets) (at word : ℕ) (small : IsWord word) where
  -- what is found for a word fits
  found-fits : (line : ℕ) (found : Option Instr) → decoded word ≡ found → AllMet (value_rules text offsets at line (what_of found word))
  found-fits line None is = (word-fits word small, tt)
  found-fits line (Some instr) is = (instr-fits instr (round.decoded word instr small is).0, tt)

  -- and has its bytes
  found-same : (found : Option Instr) → decoded word ≡ found → item_bytes text offsets at (what_of found word) ≡ to_le_bytes w32 word
  found-same None is = word-bytes word small
  found-same (Some instr) is = ap (λ i. to_le_bytes w32 (word_of i)) (immediate-back instr) ∙ ap (to_le_bytes w32) (round.decoded word instr small is).1

  -- the statement of a word is refused for no value
  pub value-fits : (line : ℕ) → AllMet (value_rules text offsets at line (what_of (decoded word) word))
  value-fits line = found-fits line (decoded word) refl

  -- and gives the word's bytes
  pub value-same : item_bytes text offsets at (what_of (decoded word) word) ≡ to_le_bytes w32 word
  value-same = found-same (decoded word) refl
