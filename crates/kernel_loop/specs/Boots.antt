-- The world with which a kernel begins.
use Rattle.std.specs.Prelude.{ℕ, ◌≡◌, true, false, Some, List, length, replicate, slice_set}
use Rattle.cap_format.specs.declared.cap.Cap.{Cap}
use Rattle.contents.specs.Numbers.{most_transfer}
use Rattle.elf_loader.specs.Numbers.{process_region}
use Rattle.machine_types.specs.declared.config.Config.{Config}
use Rattle.machine.specs.declared.process.Process.{Process}
use Rattle.machine.specs.declared.process.State.TheVariants.{Ready}
use Rattle.machine.specs.Pipes.{console_table}
use Rattle.process_table.specs.Tables.{Table, empty}
use Rattle.pipe_files.specs.Files.{no_files, with_table}
use Rattle.trap_syscalls.specs.declared.world.World.{World}

-- a world without a process, in which nothing of this input is taken
pub record IsEmptyWorld (config : Config) (input : List ℕ) (w : World) : Type 0 where
  pub processes : w.processes ≡ empty config.slots
  pub files : w.files ≡ no_files config.slots
  pub plan : w.plan ≡ replicate config.regions false
  pub forks : w.forks ≡ 0
  pub input_is : w.input.items ≡ input
  pub taken : w.taken ≡ 0
  pub buffer : length w.buffer.items ≡ most_transfer

-- process 1, which has no parent, with these registers and this PCC
abbrev pub first_with : List Cap → Cap → Process
first_with regs pcc = record { id = 1; parent = 0; region = process_region; regs = regs; pcc = pcc; state = Ready }

-- a table with a process in slot 0, which is ready
abbrev pub with_first : Table → Process → Table
with_first t p = record { processes = slice_set t.processes 0 (Some p); marks = slice_set t.marks 0 true }

-- A world with its first process: it is in slot 0, is ready, has the console, and its region is taken.
abbrev pub admitted : World → Process → World
admitted w p = record w { processes = with_first w.processes p; files = with_table w.files 0 console_table; plan = slice_set w.plan process_region true }
