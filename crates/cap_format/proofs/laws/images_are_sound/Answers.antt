use Rattle.cap_format.proofs.ImageRules.{image-most, image-headers, image-segments, image-some, image-pages, image-entry, image-relocations, image-table, image-one-table}
use Rattle.cap_format.proofs.laws.images_are_sound.Goals as goal

pub returns : goal.returns
returns c = record {
  most = image-most;
  headers = image-headers;
  segments = image-segments;
  some = image-some;
  pages = image-pages;
  entry = image-entry;
  relocations = image-relocations;
  table = λ file header image. image-table file image header;
  one_table = λ file one other image. image-one-table file image one other;
}
