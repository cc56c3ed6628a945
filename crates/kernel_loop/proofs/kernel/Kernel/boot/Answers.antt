use Rattle.std.proofs.Common.{◌≤◌, subst, ℕ, List}
use Rattle.elf_loader.specs.declared.image.Image.{Image}
use Rattle.machine_types.specs.MemoryLaws.{AreBytes}
use Rattle.machine_steps.specs.Laws.{MayBoot}
use Rattle.machine_steps.specs.Runs.{Setup, start}
use Rattle.kernel_loop.specs.Stands.{CoreStands}
use Rattle.kernel_loop.proofs.kernel.Kernel.boot.Goals as goal

pub invariant_of-result : goal.invariant_of-result
invariant_of-result g c =
    let setup : Setup = record { config = c.args.config.now; schedule = c.args.schedule; file = c.args.bytes.now; input = c.args.input.items } in
    let may : MayBoot setup = record {
      config = c.requires.config;
      image = c.requires.read.0;
      bytes = c.are_bytes.ensures;
      room = subst (λ (i : Image). i.pages ≤ c.args.config.now.frames) c.requires.read.1 c.if-config-image.false;
      schedule = c.requires.quanta;
      input = subst AreBytes c.deref.ensures.value c.are_bytes-2.ensures;
    } in
    record {
      sound = ∣ record {
        machine = start setup;
        stands = subst (λ (bytes : List ℕ). CoreStands g.S.Stores.stands_for c.first_core.result (start (record { config = c.args.config.now; schedule = c.args.schedule; file = c.args.bytes.now; input = bytes }))) c.in-Ok.ensures.input_is c.first_core.ensures.stands;
        is = c.runs_are_sound.ensures.start_machine setup may;
        sound = c.runs_are_sound.ensures.start_sound setup may;
        kept = c.first_core.ensures.kept;
        has = tt;
      } ∣₁;
    }
