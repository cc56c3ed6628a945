-- What a machine *is*, apart from what makes it sound: lengths, ranges, and what stands for nothing.
use Rattle.std.specs.Prelude.{ℕ, ◌≡◌, ◌≤◌, ◌<◌, ◌^◌, false, true, is_some, Option, Some, None, List, [], length, All, slice_index_or}
use Rattle.cap_format.specs.Numbers.{most_regions, most_frames}
use Rattle.machine_types.specs.Numbers.{most_slots, most_steps}
use Rattle.machine_types.specs.MemoryLaws.{AreBytes, ArePatterns}
use Rattle.machine_types.specs.Registers.{IsRegisterFile}
use Rattle.machine_types.specs.Stores.{Page, Store, IsStore}
use Rattle.machine_types.specs.declared.config.Config.{Config}
use Rattle.contents.specs.Content.{Content, page_at}
use Rattle.machine.specs.declared.process.Process.{Process}
use Rattle.machine.specs.declared.process.State.TheVariants.{Zombie}
use Rattle.machine.specs.declared.process.Target.{Target}
use Rattle.machine.specs.declared.process.Target.TheVariants.{ConsoleIn, ConsoleOut, PipeRead, PipeWrite}
use Rattle.machine.specs.Numbers.{descriptor_count, pipe_count, pipe_bytes}
use Rattle.machine.specs.Processes.{process_at, is_live, lives, zombie_of}
use Rattle.machine.specs.Pipes.{Table, table_at, no_descriptors, is_unused}
use Rattle.machine.specs.Machines.{Machine}

-- the processes of slots, as a function
abbrev pub Slots : Type 0
Slots = ℕ → Option Process

-- the limits of a configuration
pub record IsConfig (config : Config) : Type 0 where
  pub some_frames : 1 ≤ config.frames
  pub frames : config.frames ≤ most_frames
  pub some_regions : 1 ≤ config.regions
  pub regions : config.regions ≤ most_regions
  pub some_slots : 1 ≤ config.slots
  pub slots : config.slots ≤ most_slots
  pub steps : config.steps ≤ most_steps

-- The lists of slots are as long as the configuration says, and the content has its rule and its frames.
pub record IsConfigured (m : Machine) : Type 0 where
  pub config : IsConfig m.config
  pub processes : length m.processes ≡ m.config.slots
  pub tables : length m.tables ≡ m.config.slots
  pub frames : m.content.frames ≡ m.config.frames
  pub rule : m.content.rule ≡ m.config.rule

-- a descriptor that names a pipe names one of the pipes
abbrev pub IsTarget : Option Target → Type 0
IsTarget None = Unit {0}
IsTarget (Some ConsoleIn) = Unit {0}
IsTarget (Some ConsoleOut) = Unit {0}
IsTarget (Some (PipeRead k)) = k < pipe_count
IsTarget (Some (PipeWrite k)) = k < pipe_count

pub record IsTable (table : Table) : Type 0 where
  pub count : length table ≡ descriptor_count
  pub targets : All IsTarget table

-- the descriptors of so many slots; a slot without a live process has none in use
pub record AreTables (at : Slots) (slots : ℕ) (tables : List Table) : Type 0 where
  pub each : (k : ℕ) → k < slots → IsTable (table_at tables k)
  pub none : (k : ℕ) → k < slots → lives (at k) ≡ false → table_at tables k ≡ no_descriptors

-- a pipe has bytes, and not too many; a free one has none
pub record IsPipe (tables : List Table) (k : ℕ) (bytes : List ℕ) : Type 0 where
  pub fits : length bytes ≤ pipe_bytes
  pub bytes_are : AreBytes bytes
  pub free : is_unused tables k ≡ true → bytes ≡ []

pub record ArePipes (tables : List Table) (pipes : List (List ℕ)) : Type 0 where
  pub count : length pipes ≡ pipe_count
  pub each : (k : ℕ) → k < pipe_count → IsPipe tables k (slice_index_or pipes k [])

-- A process has a register file and a PCC of 128 bits, and a Zombie has its id, parent and status alone.
pub record IsProcess (p : Process) : Type 0 where
  pub registers : IsRegisterFile p.regs
  pub pcc : p.pcc.bits < 2 ^ 128
  pub zombie : (status : ℕ) → p.state ≡ Zombie status → p ≡ zombie_of p status
  pub status : (status : ℕ) → p.state ≡ Zombie status → status < 2 ^ 32

-- a live process with this region
pub record LivesWith (at : Slots) (region : ℕ) : Type 0 where
  pub slot : ℕ
  pub process : Process
  pub there : at slot ≡ Some process
  pub live : is_live process.state ≡ true
  pub region_is : process.region ≡ region

-- There is a store for the region of each live process, and no other.
pub record StoresAreOfLive (at : Slots) (stores : ℕ → Option Store) : Type 0 where
  pub some : (k : ℕ) (p : Process) → at k ≡ Some p → is_live p.state ≡ true → is_some (stores p.region) ≡ true
  pub live : (region : ℕ) → is_some (stores region) ≡ true → LivesWith at region

-- Stores end at the last page and have 256 granules a page, each of 128 bits, and rights are three bits.
pub record ArePages (c : Content) : Type 0 where
  pub stores : (region : ℕ) (store : Store) → c.stores region ≡ Some store → IsStore store
  pub patterns : (region page : ℕ) (p : Page) → page_at c region page ≡ Some p → ArePatterns p.granules
  pub rights : (region page : ℕ) (p : Page) → page_at c region page ≡ Some p → p.rights < 8

pub record IsMachine (m : Machine) : Type 0 where
  pub configured : IsConfigured m
  pub tables : AreTables (process_at m.processes) m.config.slots m.tables
  pub pipes : ArePipes m.tables m.pipes
  pub processes : (k : ℕ) (p : Process) → process_at m.processes k ≡ Some p → IsProcess p
  pub stores : StoresAreOfLive (process_at m.processes) m.content.stores
  pub pages : ArePages m.content
  pub input : AreBytes m.input
  pub idle : m.clock.current ≡ None → m.clock.quantum ≡ None
