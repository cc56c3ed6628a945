use Rattle.std.proofs.Common.{refl}
use Rattle.std.proofs.lemmas.List.{length-replicate}
use Rattle.machine.specs.Pipes.{no_descriptors}
use Rattle.pipe_files.proofs.Opening.{nothing-named, nothing-held}
use Rattle.pipe_files.proofs.laws.nothing_is_open.Goals as goal

pub returns : goal.returns
returns c = record {
  slots = λ slots. length-replicate slots no_descriptors;
  none = nothing-named;
  pipes = λ slots. refl;
  empty = λ slots. nothing-held;
}
