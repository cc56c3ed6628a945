-- The machine: all processes with their stores, descriptors and pipes, the console's input, and the clock. This project's own.
use Rattle.std.specs.Prelude.{ℕ, Option, List}
use Rattle.machine_types.specs.declared.config.Config.{Config}
use Rattle.contents.specs.Content.{Content}
use Rattle.machine.specs.declared.process.Process.{Process}
use Rattle.machine.specs.Processes.{children_of, lowest_free_slot, lowest_free_region, Children}
use Rattle.machine.specs.Pipes.{Table, table_at, Pipe, pipes_of}

-- The steps made; the current slot, or none; how many steps its quantum has left, or none where no interrupt is to come or no slot is current;
-- the last slot dispatched; and the quanta still to come.
pub record Clock : Type 0 where
  pub steps : ℕ
  pub current : Option ℕ
  pub quantum : Option ℕ
  pub last : ℕ
  pub rest : List ℕ

pub record Machine : Type 0 where
  pub config : Config
  -- a process or nothing for each slot, and its descriptors
  pub processes : List (Option Process)
  pub tables : List Table
  -- the stores and the frame account
  pub content : Content
  -- the bytes of each pipe
  pub pipes : List (List ℕ)
  -- the console's input that isn't taken
  pub input : List ℕ
  pub forks : ℕ
  pub clock : Clock

-- The *view* of a step: all that the work of a process depends on, beside the content. Of the content it is its own store, the account,
-- the rule and the number of frames alone.
pub record View : Type 0 where
  pub slot : ℕ
  pub process : Process
  pub table : Table
  pub pipes : List Pipe
  pub input : List ℕ
  pub children : Children
  pub forks : ℕ
  pub free_slot : Option ℕ
  pub free_region : Option ℕ

abbrev pub view_of : Machine → ℕ → Process → View
view_of m slot p = record {
  slot = slot;
  process = p;
  table = table_at m.tables slot;
  pipes = pipes_of m.tables m.pipes;
  input = m.input;
  children = children_of p.id m.processes;
  forks = m.forks;
  free_slot = lowest_free_slot m.processes;
  free_region = lowest_free_region m.config.regions m.processes;
}
