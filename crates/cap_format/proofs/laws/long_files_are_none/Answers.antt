use Rattle.std.proofs.Common.{◌≡◌, length, refl, false, nat_le}
use Rattle.std.proofs.lemmas.Bool.{lt-leb}
use Rattle.cap_format.specs.Numbers.{image_bytes}
use Rattle.cap_format.specs.Image.{rules}
use Rattle.cap_format.proofs.laws.long_files_are_none.Goals as goal

pub returns : goal.returns
unfolding rules
returns c = record { none = λ file long. let e : nat_le (length file) image_bytes ≡ false = lt-leb (length file) image_bytes long in rw e refl }
