-- An empty board stands for nothing, and what stands for nothing is empty.
use Rattle.std.proofs.Common.{◌≡◌, ◌∙◌, ℕ, nat_lt, true, false, Some, [], refl, ap, sym, arith}
use Rattle.std.proofs.lemmas.Bool.{false_from_ne_true}
use Rattle.std.proofs.lemmas.Bool.Decides.{nat_tests}
use Rattle.machine_types.specs.declared.config.Rule.{Rule}
use Rattle.frame_owners.specs.Homes.{owner}
use Rattle.frame_pool.specs.Pool.{is_used}
use Rattle.contents.specs.Content.{nothing}
use Rattle.stores.specs.declared.board.Board.{Board}
use Rattle.stores.specs.Boards.{frame_in, frame_of, IsEmpty, Stands}
use Rattle.stores.proofs.BoardCounts.{count_by-none, none-from-count_by}
use Rattle.stores.proofs.FramesShared.{none-from-AreFramesOf, none-from-HasSamePage}

-- no frame is taken where none is counted
none-used : (board : Board) → IsEmpty board → (f : ℕ) → is_used board.pool f ≡ false
none-used board empty f = false_from_ne_true (is_used board.pool f) (none-from-count_by board.pool.used empty.taken f)

-- no page has a frame where none has an entry
none-framed : (board : Board) → IsEmpty board → (region page f : ℕ) → frame_of board.table.entries region page ≡ Some f → ⊥
none-framed board empty region page f there = let none = ap frame_in (empty.entries region page) in cc

pub empty-stands : (board : Board) (rule : Rule) → IsEmpty board → Stands board (nothing rule board.pool.size)
empty-stands board rule empty = record {
  frames = [];
  kept = record {
    distinct = tt;
    classes = tt;
    within = λ f i. absurd i;
    taken = none-from-count_by board.pool.used empty.taken;
    used = λ f i. absurd i;
    listed = λ region page f there. none-framed board empty region page f there;
    counted = λ f. none-used board empty f ∙ sym (ap (nat_lt 0) (empty.sharers f));
    number = λ r p s q f here there. absurd (none-framed board empty r p f here);
  };
  pages = λ region page. rw (empty.entries region page) tt;
  size = refl;
  memory = empty.memory;
  owners = empty.owners;
}

pub stands-empty : (board : Board) (rule : Rule) → Stands board (nothing rule board.pool.size) → IsEmpty board
stands-empty board rule stands = record {
  entries = λ region page. none-from-HasSamePage board.memory board.owners region (board.table.entries region page) (stands.pages region page);
  taken = count_by-none board.pool.used none-taken;
  sharers = λ f. no-sharers (owner board.owners f).sharers (sym (stands.kept.counted f) ∙ false_from_ne_true (is_used board.pool f) (none-taken f));
  memory = stands.memory;
  owners = stands.owners;
}
  where
    -- a frame that is taken would have a class
    none-taken : (f : ℕ) → is_used board.pool f ≡ true → ⊥
    none-taken f used = none-from-AreFramesOf (frame_of board.table.entries) (owner board.owners) stands.frames stands.kept.classes f (stands.kept.taken f used)

    no-sharers : (n : ℕ) → nat_lt 0 n ≡ false → n ≡ 0
    no-sharers n test = grind (arith, nat_tests)
