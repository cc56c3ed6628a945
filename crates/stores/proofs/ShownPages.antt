-- How the pages of a content stand, as a board shows it: for any space.
use Rattle.std.proofs.Common.{◌≡◌, ◌∙◌, ℕ, ◌==◌, not, Bool, true, false, Option, Some, None, length, refl, sym, ap}
use Rattle.std.specs.Option.{option_map}
use Rattle.frame_owners.specs.Homes.{owner}
use Rattle.page_table.specs.declared.table.Entry.{Entry}
use Rattle.contents.specs.Content.{Content}
use Rattle.contents.specs.Looks.{Standing, standing_of}
use Rattle.stores.specs.declared.board.Board.{Board}
use Rattle.stores.specs.declared.space.Translation.{Translation}
use Rattle.stores.specs.Boards.{frame_in, Stands}
use Rattle.stores.specs.Known.{standing}
use Rattle.stores.proofs.FoundClasses.{class-found}
use Rattle.stores.proofs.BoardPages.{page-found, page-absent}

-- The page of an entry has its rights. It is at home where its frame is, and alone where its frame has one sharer.
abbrev pub standing_in : Board → ℕ → Entry → Standing
standing_in board region e = record { rights = e.rights; home = (owner board.owners e.frame.0).home == region; alone = (owner board.owners e.frame.0).sharers == 1 }

twice-not : (b : Bool) → not (not b) ≡ b
twice-not true = refl
twice-not false = refl

-- so it stands in the content
pub standing-shown : (board : Board) (c : Content) (region page : ℕ) (e : Entry) → Stands board c → board.table.entries region page ≡ Some e → standing_of c region page ≡ Some (standing_in board region e)
unfolding standing_of
standing-shown board c region page e stands here =
    let page_is = page-found board c region page e stands here in
    let class_is = class-found stands.kept region page e.frame.0 (ap frame_in here) in
    rw (page_is.there, class_is.there, page_is.has.rights, class_is.is.home, class_is.is.sharers)
    (ap (λ (home : Bool). let shown : Standing = record { rights = e.rights; home = home; alone = length class_is.class.members == 1 } in Some shown) (twice-not (class_is.class.home == region)))

-- a page without an entry stands nowhere
pub standing-absent : (board : Board) (c : Content) (region page : ℕ) → Stands board c → board.table.entries region page ≡ None → standing_of c region page ≡ None
unfolding standing_of
standing-absent board c region page stands none = rw (page-absent board c region page stands none) refl

-- translations of entries that say how their pages stand say so of each page
pub translations-show : (board : Board) (c : Content) → Stands board c → (translation : ℕ → Entry → Translation)
    → ((region page : ℕ) (e : Entry) → board.table.entries region page ≡ Some e → standing (translation region e) ≡ standing_in board region e)
    → (region page : ℕ) → option_map standing (option_map (translation region) (board.table.entries region page)) ≡ standing_of c region page
translations-show board c stands translation show region page = by (board.table.entries region page) refl
  where
    by : (o : Option Entry) → board.table.entries region page ≡ o → option_map standing (option_map (translation region) o) ≡ standing_of c region page
    by None none = sym (standing-absent board c region page stands none)
    by (Some e) here = ap Some (show region page e here) ∙ sym (standing-shown board c region page e stands here)
