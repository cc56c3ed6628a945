-- A space of whole copies after a page was added: each page has a frame of its own still.
use Rattle.std.proofs.Common.{◌≡◌, ◌≢◌, ◌∙◌, ◌⊎◌, inl, inr, ℕ, ◌==◌, true, Option, Some, None, Result, Ok, Err, List, length, refl, ap, sym, subst}
use Rattle.std.specs.Prelude.{IsErr}
use Rattle.std.proofs.Math.Logic.{∥∥₁_elim}
use Rattle.std.proofs.Math.Nat.{ℕ_set}
use Rattle.std.proofs.lemmas.Bool.{eqb-true}
use Rattle.machine_types.specs.declared.touches.NoFrame.{NoFrame}
use Rattle.machine_types.specs.Accounts.{Class}
use Rattle.frame_owners.specs.Homes.{Owner, owner}
use Rattle.page_table.specs.declared.table.Entry.{Entry}
use Rattle.contents.specs.Content.{Content}
use Rattle.contents.specs.Regions.{add_page_of}
use Rattle.contents.specs.Looks.{Standing, standing_of}
use Rattle.contents.specs.Conditions.{HasStore, LacksPage, IsOwn}
use Rattle.contents.specs.Standing.{StandsStill}
use Rattle.contents.proofs.StillCalls.{add_page-still}
use Rattle.contents.proofs.AddedPages.{added-own}
use Rattle.stores.specs.declared.board.Board.{Board}
use Rattle.stores.specs.Known.{StandsFor}
use Rattle.stores.specs.Boards.{frame_in, Stands}
use Rattle.stores.specs.Entered.{IsOutcomeOf}
use Rattle.stores.proofs.FoundClasses.{class-found}
use Rattle.stores.proofs.FrameSteps.{page-or-other}
use Rattle.stores.proofs.ShownPages.{standing_in, standing-shown, standing-absent}
use Rattle.stores.proofs.WholeContents.{stands-whole}
use Rattle.full_space.specs.Own.{AreOwn}
use Rattle.full_space.specs.Shown.{own-shown}

-- an owner, by its parts
owner-of : (o : Owner) (region : ℕ) → o.home ≡ region → o.sharers ≡ 1 → o ≡ record { home = region; sharers = 1 }
owner-of o region home alone i = record { home = home i; sharers = alone i }

-- A page of a content for which the board stands.
module _ (board : Board) (c : Content) (region page : ℕ) (e : Entry) (stands : Stands board c) (there : board.table.entries region page ≡ Some e) where
  -- one that is at home and alone in its class has a frame of its own
  owner-from_class : IsOwn region page c → owner board.owners e.frame.0 ≡ record { home = region; sharers = 1 }
  owner-from_class own =
      let found = class-found stands.kept region page e.frame.0 (ap frame_in there) in
      let found_there = found.there in
      let own_there = own.there in
      let same : found.class ≡ own.class = cc in
      owner-of (owner board.owners e.frame.0) region
      (found.is.home ∙ ap (λ (class : Class). class.home) same ∙ own.home) (found.is.sharers ∙ ap (λ (class : Class). length class.members) same ∙ own.alone)

  -- so has one that stands as before, where it had one before
  owner-from_still : (old : Board) (d : Content) → AreOwn old → Stands old d → StandsStill (standing_of d region page) (standing_of c region page) → owner board.owners e.frame.0 ≡ record { home = region; sharers = 1 }
  owner-from_still old d own before still = by (old.table.entries region page) refl
    where
      after : standing_of c region page ≡ Some (standing_in board region e)
      after = standing-shown board c region page e stands there

      by : (o : Option Entry) → old.table.entries region page ≡ o → owner board.owners e.frame.0 ≡ record { home = region; sharers = 1 }
      by None none = absurd (rw (standing-absent old d region page before none, after) at still)
      by (Some f) here =
          let kept = rw (standing-shown old d region page f before here, after) at still in
          let shown = own-shown old own region page f here in
          let home : (owner board.owners e.frame.0).home == region ≡ true = kept.1 ∙ sym (ap (λ (s : Standing). s.home) shown) in
          let alone : (owner board.owners e.frame.0).sharers == 1 ≡ true = kept.2 (sym (ap (λ (s : Standing). s.alone) shown)) in
          owner-of (owner board.owners e.frame.0) region (eqb-true _ _ home) (eqb-true _ _ alone)

-- A page that is added has a frame of its own, and so have the others still.
module _ (old new : Board) (region page rights : ℕ) (bytes : List ℕ) (own : AreOwn old) (known : ∥ StandsFor Stands old (LacksPage region page) ∥₁) where
  own-made : ((c : Content) → Stands old c → HasStore region c → IsOutcomeOf new (add_page_of c region page rights bytes) (Ok tt)) → AreOwn new
  own-made each r p e there = ∥∥₁_elim known owner-prop (λ (known : StandsFor Stands old (LacksPage region page)). by known (page-or-other r p region page))
    where
      owner-prop : IsProp (owner new.owners e.frame.0 ≡ record { home = r; sharers = 1 })
      owner-prop = hlevel ℕ_set

      by : StandsFor Stands old (LacksPage region page) → ((r ≡ region) × (p ≡ page)) ⊎ ((r ≢ region) ⊎ (p ≢ page)) → owner new.owners e.frame.0 ≡ record { home = r; sharers = 1 }
      by known (inr other) =
          let outcome = each known.content known.stands known.holds.store in
          owner-from_still new (add_page_of known.content region page rights bytes).after r p e outcome.after there old known.content own known.stands
          (add_page-still known.content region page rights bytes r p other)
      by known (inl (same, alike)) =
          let outcome = each known.content known.stands known.holds.store in
          let whole = stands-whole old known.content known.stands in
          owner-from_class new (add_page_of known.content region page rights bytes).after r p e outcome.after there
          (rw (same, alike) (added-own known.content region page rights bytes whole known.holds (sym outcome.answer)))

  pub own-added : (result : Result (Unit {0}) NoFrame) → ((c : Content) → Stands old c → HasStore region c → IsOutcomeOf new (add_page_of c region page rights bytes) result) → (IsErr result → new ≡ old) → AreOwn new
  own-added (Err lack) each refused = subst AreOwn (sym (refused refl)) own
  own-added (Ok done) each refused = own-made each
