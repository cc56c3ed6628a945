-- A translation says how its page stands.
use Rattle.std.specs.Prelude.{ℕ, Bool, ◌≡◌, ◌==◌, true, Some}
use Rattle.std.proofs.Common.{refl, sym, ap, ◌∙◌, eq-eqb}
use Rattle.frame_owners.specs.Homes.{Owner}
use Rattle.page_table.specs.declared.table.Entry.{Entry}
use Rattle.contents.specs.Looks.{Standing}
use Rattle.stores.specs.declared.board.Board.{Board}
use Rattle.stores.specs.Known.{standing}
use Rattle.stores.proofs.ShownPages.{standing_in}
use Rattle.full_space.specs.Own.{AreOwn}
use Rattle.full_space.specs.Steps.{translation_of}

-- the page of a frame of its own is at home and alone
pub own-shown : (board : Board) → AreOwn board → (region page : ℕ) (e : Entry) → board.table.entries region page ≡ Some e → standing (translation_of e) ≡ standing_in board region e
own-shown board own region page e here =
    sym (ap (λ (o : Owner). shown (o.home == region) (o.sharers == 1)) (own region page e here) ∙ ap (λ (home : Bool). shown home true) (eq-eqb region region refl))
  where
    shown : Bool → Bool → Standing
    shown home alone = record { rights = e.rights; home = home; alone = alone }
