-- The pages of a content for which a board stands where each page has a frame of its own.
use Rattle.std.proofs.Common.{◌≡◌, ◌∙◌, ℕ, Option, Some, None, List, refl, ap}
use Rattle.std.specs.Option.{option_map}
use Rattle.cap_format.specs.declared.cap.Cap.{Cap}
use Rattle.machine_types.specs.Stores.{Page}
use Rattle.tagged_memory.specs.Frames.{frame}
use Rattle.frame_owners.specs.Homes.{Owner, owner}
use Rattle.page_table.specs.declared.table.Entry.{Entry}
use Rattle.contents.specs.Content.{Content, page_at}
use Rattle.stores.specs.declared.board.Board.{Board}
use Rattle.stores.specs.Boards.{Stands}
use Rattle.stores.proofs.BoardPages.{page-found, page-absent, same-page}
use Rattle.stores.proofs.PageWrites.{home-granules}
use Rattle.full_space.specs.Own.{AreOwn}

-- the page of an entry
abbrev pub page_of_entry : List (List Cap) → Entry → Page
page_of_entry memory e = record { rights = e.rights; granules = frame memory e.frame.0 }

-- a page is that of its entry
pub page-is : (board : Board) (c : Content) → AreOwn board → Stands board c → (region page : ℕ) → page_at c region page ≡ option_map (page_of_entry board.memory) (board.table.entries region page)
page-is board c own stands region page = by (board.table.entries region page) refl
  where
    by : (o : Option Entry) → board.table.entries region page ≡ o → page_at c region page ≡ option_map (page_of_entry board.memory) o
    by None none = page-absent board c region page stands none
    by (Some e) here =
        let found = page-found board c region page e stands here in
        let home : (owner board.owners e.frame.0).home ≡ region = ap (λ (o : Owner). o.home) (own region page e here) in
        found.there ∙ ap Some (same-page found.p (page_of_entry board.memory e) found.has.rights (home-granules found.has home))
