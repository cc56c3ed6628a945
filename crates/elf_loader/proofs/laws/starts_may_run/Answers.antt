use Rattle.cap_format.specs.Image.{entry_of}
use Rattle.elf_loader.proofs.ImageParts.{image-parts}
use Rattle.elf_loader.proofs.StartCaps.{pcc-plain, pcc-code, pcc-inside, data-plain, start-others, start-file, start-inside}
use Rattle.elf_loader.proofs.laws.starts_may_run.Goals as goal

pub returns : goal.returns
returns c =
    let sound = c.images_are_sound.ensures in
    let keeps = c.keeps_bounds_within.ensures in record {
      code = λ file image. pcc-code keeps (entry_of file) (image-parts sound file image).entry (sound.entry file image).aligned;
      pcc = λ file image. pcc-plain keeps (entry_of file) (image-parts sound file image).entry;
      counter = λ file image. pcc-inside keeps (entry_of file) (image-parts sound file image).entry;
      register_2 = data-plain;
      others = start-others;
      registers = start-file;
      inside = start-inside;
    }
