use Rattle.std.proofs.Common.{◌≡◌, ◌∙◌, ◌-◌, ap, length, take, drop}
use Rattle.byteorder.specs.Endian.{little_number}
use Rattle.cap_format.specs.FileNumbers.{u64_at}
use Rattle.elf_loader.proofs.LittleNumbers.{from-place, little-64}
use Rattle.elf_loader.proofs.fields.u64_at.Goals as goal

pub returns : goal.returns
unfolding u64_at
returns c =
    let read : c.read_u64.result ≡ little_number 8 (take (length c.args.bytes.now - c.args.place) (drop c.args.place c.args.bytes.now)) = c.read_u64.ensures in
    read ∙ ap (little_number 8) (from-place c.args.place c.args.bytes.now) ∙ little-64 (drop c.args.place c.args.bytes.now)
