-- What is made at the beginning: the pipes, and the descriptions of their ends.
use Rattle.std.specs.Prelude.{ℕ, ◌≡◌, ◌<◌, ◌+◌, ◌*◌, Some, List, [], length}
use Rattle.slab.specs.Slab.{Slab, get, slab_len}
use Rattle.machine.specs.declared.process.Target.{Target}
use Rattle.machine.specs.declared.process.Target.TheVariants.{PipeRead, PipeWrite}
use Rattle.machine.specs.Numbers.{pipe_bytes}
use Rattle.pipe_files.specs.declared.pipes.Pipe.{Pipe}
use Rattle.pipe_files.specs.Counts.{pipe_at}

-- the descriptions that name ends of pipes name those whose numbers are below this one
pub record AreBelow (count : ℕ) (descriptions : Slab Target) : Type 0 where
  pub readers : (key k : ℕ) → get descriptions key ≡ Some (PipeRead k) → k < count
  pub writers : (key k : ℕ) → get descriptions key ≡ Some (PipeWrite k) → k < count

-- so many descriptions were added; those that were there are there still
pub record AreAdded (old new : Slab Target) (more : ℕ) : Type 0 where
  pub kept : (key : ℕ) (t : Target) → get old key ≡ Some t → get new key ≡ Some t
  pub count : slab_len new ≡ slab_len old + more
  pub capacity : new.capacity ≡ old.capacity

-- its ends have descriptions
pub record HasEnds (descriptions : Slab Target) (number : ℕ) (pipe : Pipe) : Type 0 where
  pub reading : get descriptions pipe.reading ≡ Some (PipeRead number)
  pub writing : get descriptions pipe.writing ≡ Some (PipeWrite number)
  pub capacity : pipe.bytes.capacity ≡ pipe_bytes

-- it is empty, and no descriptor names it
pub record IsFresh (pipe : Pipe) : Type 0 where
  pub bytes : pipe.bytes.items ≡ []
  pub readers : pipe.readers ≡ 0
  pub writers : pipe.writers ≡ 0

-- a pipe of this number was made
pub record IsMade (old new : Slab Target) (number : ℕ) (pipe : Pipe) : Type 0 where
  pub added : AreAdded old new 2
  pub below : AreBelow number old → AreBelow (number + 1) new
  pub ends : HasEnds new number pipe
  pub fresh : IsFresh pipe

-- pipes of the numbers below this one were made
pub record AreMade (old new : Slab Target) (count : ℕ) (pipes : List Pipe) : Type 0 where
  pub added : AreAdded old new (2 * count)
  pub below : AreBelow 0 old → AreBelow count new
  pub count_is : length pipes ≡ count
  pub ends : (k : ℕ) → k < count → HasEnds new k (pipe_at pipes k)
  pub fresh : (k : ℕ) → k < count → IsFresh (pipe_at pipes k)
