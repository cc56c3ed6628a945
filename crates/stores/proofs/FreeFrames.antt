-- A free frame of a board that stands for some content.
use Rattle.std.proofs.Common.{◌≡◌, ◌∙◌, ℕ, ◌<◌, nat_lt, false, length, sym, arith}
use Rattle.std.proofs.Math.Logic.{∥∥₁_elim}
use Rattle.std.proofs.Math.Bridge.{le_prop}
use Rattle.std.proofs.Math.Nat.{ℕ_set}
use Rattle.std.proofs.lemmas.Bool.Decides.{nat_tests}
use Rattle.frame_pool.specs.Pool.{IsLeastFree}
use Rattle.frame_owners.specs.Homes.{owner}
use Rattle.contents.specs.Content.{Content}
use Rattle.stores.specs.declared.board.Board.{Board}
use Rattle.stores.specs.Boards.{Stands}
use Rattle.stores.specs.Known.{StandsFor}

-- a number above which none is
none-above : (n : ℕ) → nat_lt 0 n ≡ false → n ≡ 0
none-above n test = grind (arith, nat_tests)

module _ (board : Board) (P : Content → Type 0) (known : ∥ StandsFor Stands board P ∥₁) (f : ℕ) (least : IsLeastFree board.pool f) where
  -- it is in memory
  pub free-memory : f < length board.memory
  free-memory = ∥∥₁_elim known le_prop (λ (known : StandsFor Stands board P). let below = least.below in let size = known.stands.size in let room = known.stands.memory in omega arith)

  -- it has an owner
  pub free-owners : f < length board.owners
  free-owners = ∥∥₁_elim known le_prop (λ (known : StandsFor Stands board P). let below = least.below in let size = known.stands.size in let room = known.stands.owners in omega arith)

  -- it has no sharer
  pub free-sharers : (owner board.owners f).sharers ≡ 0
  free-sharers = ∥∥₁_elim known (hlevel ℕ_set) (λ (known : StandsFor Stands board P). none-above (owner board.owners f).sharers (sym (known.stands.kept.counted f) ∙ least.free))
