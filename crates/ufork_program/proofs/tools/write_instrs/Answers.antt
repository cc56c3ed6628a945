use Rattle.cap_format.specs.Image.{segments_of}
use Rattle.ufork_program.proofs.ListingLemmas.{segments-have}
use Rattle.ufork_program.proofs.tools.write_instrs.Goals as goal

pub write_segments-requires : goal.write_segments-requires
write_segments-requires g c =
    let file = c.args.found.now.bytes.items in
    let have = segments-have file 0 (segments_of file) (c.images_are_sound.ensures.segments file c.requires.0) in
    rw (c.list.ensures, c.deref.ensures.value, c.requires.1) have

pub returns : goal.returns
returns g c = λ err. rw (c.list.ensures, c.deref.ensures.value, c.requires.1) at c.write_segments.ensures err
