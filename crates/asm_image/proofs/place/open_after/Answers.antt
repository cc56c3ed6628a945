-- A statement takes fewer than 2^64 bytes.
use Rattle.std.proofs.Common.{Some, arith}
use Rattle.asm_image.specs.Layout.{IsBounded}
use Rattle.asm_image.proofs.place.open_after.Goals as goal

pub returns-in-None-Some-clause-bounded : goal.returns-in-None-Some-clause-bounded
returns-in-None-Some-clause-bounded c count bounded =
    let within : IsBounded count (Some c.in-None-Some.current) = rw c.in-None-Some.is-1 at bounded in
    omega (arith, c.grown.ensures.small, within)
