-- What the map of labels knows.
use Rattle.std.specs.Ordering.{nat_cmp}
use Rattle.std.specs.Cmp.Lexicographic.{slice_cmp}
use Rattle.std.specs.BTreeMap.{get_by}
use Rattle.asm_image.specs.declared.labels.Labels.{Labels}
use Rattle.asm_image.specs.Labels.{Offsets}

-- the offset of a name
abbrev pub known : Labels → Offsets
known labels name = get_by (λ key. slice_cmp nat_cmp name key.items) labels.offsets
