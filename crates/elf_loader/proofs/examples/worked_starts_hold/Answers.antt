use Rattle.std.proofs.Common.{◌≡◌, ℕ, ◌<◌, nat_lt, true, List, [], ◌∷◌, refl, arith}
use Rattle.std.specs.List.{list_all}
use Rattle.std.proofs.lemmas.Bool.{and_parts}
use Rattle.std.proofs.lemmas.Bool.Decides.{nat_tests}
use Rattle.machine_types.specs.MemoryLaws.{AreBytes}
use Rattle.elf_loader.specs.StartExamples.{worked_file}
use Rattle.std.proofs.lemmas.List.Elements.{All-cons, All-nil}
use Rattle.cap_format.specs.FileNumbers.{u16_at, u32_at, u64_at, byte_at}
use Rattle.cap_format.specs.Image.{rules}
use Rattle.cap_format.specs.Made.{with_address}
use Rattle.cap_format.specs.Pattern.{base_of, top_of, length_of}
use Rattle.cap_format.specs.SetBounds.{first_enough, bounds_for, bounded_base, bounded_top, set_bounds}
use Rattle.machine_types.specs.declared.config.Rule.TheVariants.{Full}
use Rattle.elf_loader.proofs.examples.worked_starts_hold.Goals as goal

-- each of the file's bytes is one
all-below : (bytes : List ℕ) → list_all (λ byte. nat_lt byte 256) bytes ≡ true → AreBytes bytes
all-below [] below = All-nil (λ byte. byte < 256)
all-below (byte ∷ bytes) below =
    let parts = and_parts (nat_lt byte 256) (list_all (λ byte. nat_lt byte 256) bytes) below in
    let first : byte < 256 = grind (arith, nat_tests, parts.0) in
    All-cons (λ byte. byte < 256) byte bytes first (all-below bytes parts.1)

worked-bytes : AreBytes worked_file
worked-bytes = all-below worked_file refl

pub returns : goal.returns
unfolding rules byte_at u16_at u32_at u64_at with_address set_bounds first_enough bounds_for bounded_base bounded_top base_of top_of length_of
returns c = record {
  image = refl;
  may = record { image = refl; bytes = worked-bytes; whole = c.calls_keep_whole.ensures.first Full 3; none = refl; room = omega arith };
  capability = refl;
  last = refl;
  register_2 = refl;
  pcc = refl;
}
