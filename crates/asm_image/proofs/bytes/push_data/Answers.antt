use Rattle.std.proofs.Common.{◌≡◌, take, arith, rules}
use Rattle.std.specs.Int.{w128}
use Rattle.std.specs.Int.RustNames.{FitsSigned}
use Rattle.std.proofs.lemmas.Grind.{common_steps}
use Rattle.asm_image.specs.Values.{data_bytes}
use Rattle.asm_image.proofs.LowBytes.{data-taken}
use Rattle.asm_image.proofs.bytes.push_data.Goals as goal

pub returns : goal.returns
returns c =
    let left : FitsSigned w128 c.rem_euclid.result = search rules in
    let bytes = data-taken c.args.size c.args.n c.rem_euclid.result c.requires c.ranges.n left c.rem_euclid.ensures.value in
    let taken : take c.from.result c.to_le_bytes-bytes.result ≡ data_bytes c.args.size c.args.n = rw (c.from.ensures, c.to_le_bytes-bytes.ensures) bytes in
    grind (arith, common_steps, rw taken at c.extend_from_slice.ensures.items)
