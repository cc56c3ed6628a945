-- A fork in a space of whole copies, by the number of free frames.
use Rattle.std.proofs.Common.{◌≡◌, ℕ, ◌+◌, ◌<◌, Result, Ok, Err, length, refl, arith}
use Rattle.std.specs.Option.{option_map}
use Rattle.machine_types.specs.declared.touches.NoFrame.{NoFrame}
use Rattle.machine_types.specs.Stores.{changed, moved_store}
use Rattle.frame_pool.specs.Pool.{used_count}
use Rattle.contents.specs.Content.{Content, CallOutcome}
use Rattle.contents.specs.Regions.{no_frame, numbers_in, fork_of}
use Rattle.contents.proofs.CallShapes.{by-fork}
use Rattle.contents.proofs.ForkLemmas.{fork-refused}
use Rattle.contents.proofs.Refusals.{fork-refused as refused-leaves}
use Rattle.stores.proofs.BoardPages.{used_count-classes}
use Rattle.full_space.specs.declared.space.FullSpace.{FullSpace}
use Rattle.full_space.specs.Full.{FullStands}

-- where fewer frames are free than the parent has pages, it is refused
pub fork-lacks : (space : FullSpace) (c : Content) (from to free count : ℕ) → FullStands space c → free + used_count space.board.pool ≡ space.board.pool.size → count ≡ length (numbers_in (c.stores from)) → free < count
    → (fork_of c from to).answer ≡ Err no_frame
fork-lacks space c from to free count stands left counted lacks =
    let used = used_count-classes space.board c stands.board in
    let size = stands.board.size in
    (fork-refused c from to stands.rule).1 (omega arith)

-- and changes nothing
pub refused-after : (c : Content) (from to : ℕ) → (fork_of c from to).answer ≡ Err no_frame → (fork_of c from to).after ≡ c
refused-after c from to refused = refused-leaves c from to no_frame refused

-- the stores after a fork that isn't refused
pub forked-stores : (c : Content) (from to : ℕ) → (fork_of c from to).answer ≡ Ok tt → (fork_of c from to).after.stores ≡ changed c.stores to (option_map (moved_store from to) (c.stores from))
forked-stores c from to =
    by-fork (λ (o : CallOutcome (Result (Unit {0}) NoFrame)). o.answer ≡ Ok tt → o.after.stores ≡ changed c.stores to (option_map (moved_store from to) (c.stores from))) c from to (λ none e. absurd (cc)) (λ account some e. refl)
