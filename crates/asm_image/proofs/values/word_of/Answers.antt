-- The instruction has a word with the immediate that is taken exactly where the number fits, and then the immediate is the number.
use Rattle.std.proofs.Common.{◌≡◌, ◌↔◌, IsSome, SFits, w32}
use Rattle.std.specs.Int.{w128}
use Rattle.std.proofs.lemmas.Int.{to_z-of_z}
use Rattle.riscv_decode.specs.Table.{IsInRange}
use Rattle.asm_image.specs.Values.{with_immediate}
use Rattle.asm_image.specs.Values.{HasSign}
use Rattle.asm_image.proofs.Immediates.{taken-fits, taken-word}
use Rattle.asm_image.proofs.values.word_of.Goals as goal

pub returns : goal.returns
returns c =
    let n = c.args.n in
    let imm = c.unwrap_or-imm.result in
    let fits : SFits w128 n = c.ranges.n in
    let small : SFits w32 imm = record { sfits = c.unwrap_or-imm.type_inv } in
    let is = simp to_z-of_z at c.try_from.ensures in
    let sign : HasSign c.args.instr imm = (simp to_z-of_z at c.has_sign.ensures).0 c.if-not-has_sign.false in
    let same : c.with_immediate.result ≡ with_immediate c.args.instr imm = simp to_z-of_z at c.with_immediate.ensures in
    let some : IsSome c.encode.result ↔ IsInRange (with_immediate c.args.instr imm) = rw same at c.encode.ensures.some in
    let fitting = taken-fits c.args.instr n imm c.try_from.result is c.unwrap_or-imm.ensures sign c.requires in
    record {
      word = taken-word c.args.instr n imm c.try_from.result is c.unwrap_or-imm.ensures sign c.encode.result some.0 (rw same at c.encode.ensures.is);
      some = (λ is. fitting.0 (some.0 is), λ fits. some.1 (fitting.1 fits));
    }
