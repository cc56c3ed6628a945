use Rattle.std.proofs.Common.{map, string_bytes}
use Rattle.ufork_program.proofs.SourceTexts.{long_source}
use Rattle.ufork_program.proofs.request.read_source_file.Goals as goal

pub returns-in-Err-TooLong-clause-is : goal.returns-in-Err-TooLong-clause-is
returns-in-Err-TooLong-clause-is g c =
    let is = c.in-Err-TooLong.field-0-is in
    long_source (map string_bytes c.args.words.now) (g.F.Files.state c.args.files.now).contents c.args.index c.too_long_source.result c.too_long_source.ensures
    (rw is at c.in-Err-TooLong.ensures.content)
