-- Command lines that were worked out by hand: what they say, or the place of the fault.
use Rattle.std.specs.Prelude.{◌≡◌, None, Some, Ok, [], ◌∷◌, codes}
use Rattle.machine_types.specs.declared.config.Rule.TheVariants.{Full}
use Rattle.command_words.specs.declared.words.Command.TheVariants.{Run, Asm, Disasm, Check}
use Rattle.command_words.specs.Commands.{read_of}
use Rattle.command_words.specs.Reading.{fault_at}

-- Each comes to what was worked out.
pub record WorkedCommandsHold : Type 0 where
  pub nothing : read_of [] ≡ fault_at 1
  pub name_alone : read_of (codes "run" ∷ []) ≡ fault_at 2
  pub too_many_frames : read_of (codes "run" ∷ codes "--frames" ∷ codes "5000" ∷ codes "a" ∷ []) ≡ fault_at 3
  pub leading_zero : read_of (codes "run" ∷ codes "--frames" ∷ codes "010" ∷ codes "a" ∷ []) ≡ fault_at 3
  pub used_twice : read_of (codes "run" ∷ codes "--frames" ∷ codes "1" ∷ codes "--frames" ∷ codes "1" ∷ codes "a" ∷ []) ≡ fault_at 4
  pub joined : read_of (codes "run" ∷ codes "--steps=5" ∷ codes "a" ∷ []) ≡ fault_at 2
  pub two_images : read_of (codes "run" ∷ codes "a" ∷ codes "b" ∷ []) ≡ fault_at 3
  pub no_frames : read_of (codes "run" ∷ codes "--frames" ∷ codes "0" ∷ codes "a" ∷ []) ≡ fault_at 3
  pub a_frame_more : read_of (codes "run" ∷ codes "--frames" ∷ codes "4097" ∷ codes "a" ∷ []) ≡ fault_at 3
  pub a_region_more : read_of (codes "run" ∷ codes "--regions" ∷ codes "65" ∷ codes "a" ∷ []) ≡ fault_at 3
  pub a_slot_more : read_of (codes "run" ∷ codes "--slots" ∷ codes "65" ∷ codes "a" ∷ []) ≡ fault_at 3
  pub a_step_more : read_of (codes "run" ∷ codes "--steps" ∷ codes "1000000001" ∷ codes "a" ∷ []) ≡ fault_at 3
  pub defaults : read_of (codes "run" ∷ codes "a" ∷ []) ≡ Ok (Run (record { config = record { frames = 4096; regions = 16; slots = 16; steps = 20000000; rule = Full }; schedule = None }) 1)
  pub all_options : read_of (codes "run" ∷ codes "--schedule" ∷ codes "s" ∷ codes "--copy" ∷ codes "full" ∷ codes "--steps" ∷ codes "1000000000" ∷ codes "--slots" ∷ codes "64" ∷ codes "--regions" ∷ codes "64" ∷ codes "--frames" ∷ codes "4096" ∷ codes "a" ∷ []) ≡ Ok (Run (record { config = record { frames = 4096; regions = 64; slots = 64; steps = 1000000000; rule = Full }; schedule = Some 2 }) 13)
  pub no_source : read_of (codes "asm" ∷ []) ≡ fault_at 2
  pub two_sources : read_of (codes "asm" ∷ codes "a" ∷ codes "b" ∷ []) ≡ fault_at 3
  pub option_of_check : read_of (codes "check" ∷ codes "--frames" ∷ codes "1" ∷ codes "a" ∷ []) ≡ fault_at 2
  pub asm : read_of (codes "asm" ∷ codes "a" ∷ []) ≡ Ok (Asm 1)
  pub disasm : read_of (codes "disasm" ∷ codes "a" ∷ []) ≡ Ok (Disasm 1)
  pub check : read_of (codes "check" ∷ codes "a" ∷ []) ≡ Ok (Check 1)
