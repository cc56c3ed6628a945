use Rattle.std.proofs.Common.{◌≡◌, ◌∙◌, ◌-◌, ap, length, take, drop}
use Rattle.byteorder.specs.Endian.{little_number}
use Rattle.cap_format.specs.FileNumbers.{u16_at}
use Rattle.elf_loader.proofs.LittleNumbers.{from-place, little-16}
use Rattle.elf_loader.proofs.fields.u16_at.Goals as goal

pub returns : goal.returns
unfolding u16_at
returns c =
    let read : c.read_u16.result ≡ little_number 2 (take (length c.args.bytes.now - c.args.place) (drop c.args.place c.args.bytes.now)) = c.read_u16.ensures in
    read ∙ ap (little_number 2) (from-place c.args.place c.args.bytes.now) ∙ little-16 (drop c.args.place c.args.bytes.now)
