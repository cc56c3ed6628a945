use Rattle.std.proofs.Common.{map, string_bytes}
use Rattle.ufork_program.proofs.RequestLemmas.{long_image}
use Rattle.ufork_program.proofs.request.read_image_file.Goals as goal

pub returns-in-Err-TooLong-clause-is : goal.returns-in-Err-TooLong-clause-is
returns-in-Err-TooLong-clause-is g c =
    let is = c.in-Err-TooLong.field-0-is in
    long_image (map string_bytes c.args.words.now) (g.F.Files.state c.args.files.now).contents c.args.index c.too_long.result c.too_long.ensures (rw is at c.in-Err-TooLong.ensures.content)
