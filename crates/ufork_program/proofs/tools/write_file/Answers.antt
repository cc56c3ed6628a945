use Rattle.ufork_program.proofs.ListingLemmas.{image-some, printed-line}
use Rattle.ufork_program.proofs.tools.write_file.Goals as goal

pub returns : goal.returns
returns g c = λ err. printed-line c.args.file.now _ _ err _ (image-some c.args.file.now c.images_are_sound.ensures.headers c.requires) c.write.ensures.prints
