use Rattle.std.proofs.Common.{◌≡◌, ◌∙◌, ◌-◌, ap, length, take, drop}
use Rattle.byteorder.specs.Endian.{little_number}
use Rattle.cap_format.specs.FileNumbers.{u32_at}
use Rattle.elf_loader.proofs.LittleNumbers.{from-place, little-32}
use Rattle.elf_loader.proofs.fields.u32_at.Goals as goal

pub returns : goal.returns
unfolding u32_at
returns c =
    let read : c.read_u32.result ≡ little_number 4 (take (length c.args.bytes.now - c.args.place) (drop c.args.place c.args.bytes.now)) = c.read_u32.ensures in
    read ∙ ap (little_number 4) (from-place c.args.place c.args.bytes.now) ∙ little-32 (drop c.args.place c.args.bytes.now)
