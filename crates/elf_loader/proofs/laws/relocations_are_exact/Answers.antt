use Rattle.std.proofs.Common.{List, ℕ}
use Rattle.std.proofs.lemmas.List.Elements.{All-contains}
use Rattle.cap_format.specs.Image.{IsImage}
use Rattle.elf_loader.specs.declared.image.Reloc.{Reloc}
use Rattle.elf_loader.specs.Loaded.{image_of}
use Rattle.elf_loader.specs.StartLaws.{HasReloc}
use Rattle.elf_loader.specs.Adding.{IsPlaceable}
use Rattle.elf_loader.proofs.ImageParts.{HasExactBounds, image-parts}
use Rattle.elf_loader.proofs.StartCaps.{reloc-capability, reloc-inside}
use Rattle.elf_loader.proofs.laws.relocations_are_exact.Goals as goal

pub returns : goal.returns
returns c =
    let keeps = c.keeps_bounds_within.ensures in
    let placeable : (file : List ℕ) (reloc : Reloc) → IsImage file → HasReloc file reloc → IsPlaceable reloc =
    λ file reloc image has. All-contains IsPlaceable (image_of file).relocs reloc (image-parts c.images_are_sound.ensures file image).placeable has in
    let exact : (file : List ℕ) (reloc : Reloc) → IsImage file → HasReloc file reloc → HasExactBounds reloc =
    λ file reloc image has. All-contains HasExactBounds (image_of file).relocs reloc (image-parts c.images_are_sound.ensures file image).exact has in
    record {
      capability = λ file reloc image has. reloc-capability keeps reloc (placeable file reloc image has) (exact file reloc image has);
      inside = λ file reloc image has. reloc-inside keeps reloc (placeable file reloc image has) (exact file reloc image has);
    }
