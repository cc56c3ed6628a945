-- What a space of whole copies stands for after a change of the granules of one page.
use Rattle.std.proofs.Common.{◌≡◌, ◌∙◌, ℕ, Bool, false, Some, List, subst, sym, ap}
use Rattle.std.specs.Prelude.{slice_index_or}
use Rattle.cap_format.specs.declared.cap.Cap.{Cap}
use Rattle.machine_types.specs.Stores.{store_with}
use Rattle.tagged_memory.specs.Frames.{frame, with_frame}
use Rattle.page_table.specs.declared.table.Entry.{Entry}
use Rattle.contents.specs.Content.{Content, with_granules}
use Rattle.contents.specs.Laws.{HasSameSetting, HasSameRegions}
use Rattle.contents.proofs.KeptRegions.{region-stores}
use Rattle.contents.proofs.WholeStores.{KeepsPage}
use Rattle.stores.specs.declared.board.Board.{Board}
use Rattle.stores.specs.Boards.{Stands}
use Rattle.stores.proofs.PageWrites.{stands-written}
use Rattle.full_space.specs.declared.space.FullSpace.{FullSpace}
use Rattle.full_space.specs.Own.{AreOwn}
use Rattle.full_space.specs.Full.{FullStands}

-- the board with these frames, of which that of the page holds what the change makes of it
pub board-changed : (board : Board) (c : Content) (region page : ℕ) (e : Entry) (change : List Cap → List Cap) → AreOwn board → Stands board c → board.table.entries region page ≡ Some e → KeepsPage region change
    → (memory : List (List Cap)) → memory ≡ with_frame board.memory e.frame.0 (change (frame board.memory e.frame.0)) → Stands (record board { memory = memory }) (with_granules c region page change)
board-changed board c region page e change own stands there keeps memory is =
    subst (λ (memory : List (List Cap)). Stands (record board { memory = memory }) (with_granules c region page change)) (sym is)
    (stands-written board c region page e change stands there (own region page e there) keeps)

-- the space with that board
pub space-changed : (space : FullSpace) (c : Content) (region page : ℕ) (e : Entry) (change : List Cap → List Cap) → FullStands space c → space.board.table.entries region page ≡ Some e → KeepsPage region change
    → (memory : List (List Cap)) → memory ≡ with_frame space.board.memory e.frame.0 (change (frame space.board.memory e.frame.0))
    → (own : AreOwn (record space.board { memory = memory })) → FullStands (record space { board = record space.board { memory = memory }; own = own }) (with_granules c region page change)
space-changed space c region page e change stands there keeps memory is own = record {
  rule = stands.rule;
  board = board-changed space.board c region page e change space.own stands.board there keeps memory is;
  stores = λ r. (region-stores region).change c (store_with page change) r ∙ stands.stores r;
}

-- A call that keeps the rule and the regions with a store: what its board stands for, the space does.
pub space-after : (old new : FullSpace) (c after : Content) → FullStands old c → Stands new.board after → new.live ≡ old.live → HasSameSetting c after → HasSameRegions c after → FullStands new after
space-after old new c after stands board live setting regions = record {
  rule = setting.rule ∙ stands.rule;
  board = board;
  stores = λ r. regions r ∙ stands.stores r ∙ ap (λ (live : List Bool). slice_index_or live r false) (sym live);
}
