-- A space on an empty board, and regions whose stores begin and end.
use Rattle.std.proofs.Common.{◌≡◌, ◌≢◌, ◌∙◌, ◌⊎◌, inl, inr, ℕ, ◌<◌, nat_eq, Bool, true, false, cond, Option, Some, None, List, length, replicate, refl, ap, sym}
use Rattle.std.specs.Prelude.{is_some, slice_index_or, slice_set}
use Rattle.std.proofs.lemmas.Bool.Decides.{eqb_tells}
use Rattle.machine_types.specs.declared.config.Rule.TheVariants.{Full}
use Rattle.machine_types.specs.Stores.{Store, empty_store, changed}
use Rattle.contents.specs.Content.{Content, nothing, page_at, with_store}
use Rattle.contents.specs.Regions.{begin_of, end_of}
use Rattle.contents.specs.Conditions.{HasNoStore, HasEmptyStore}
use Rattle.contents.specs.Laws.{HasSameSetting}
use Rattle.contents.proofs.CallShapes.{begin-holds}
use Rattle.contents.proofs.Settings.{setting-steps}
use Rattle.contents.proofs.OtherStores.{changed-there}
use Rattle.contents.proofs.WholeStores.{page-changed}
use Rattle.stores.specs.declared.board.Board.{Board}
use Rattle.stores.specs.Boards.{IsEmpty, Stands}
use Rattle.stores.specs.Laws.{EmptyStandsForNothing}
use Rattle.stores.proofs.LiveStores.{none-live, live-changed}
use Rattle.stores.proofs.AlikeContents.{stands-alike}
use Rattle.full_space.specs.declared.space.FullSpace.{FullSpace}
use Rattle.full_space.specs.Own.{AreOwn}
use Rattle.full_space.specs.Full.{FullStands}

-- a space on an empty board in which no region is live stands for nothing
pub new-stands : (board : Board) (live : List Bool) (own : AreOwn board) (regions : ℕ) → live ≡ replicate regions false → EmptyStandsForNothing → IsEmpty board → FullStands (record { board = board; live = live; own = own }) (nothing Full board.pool.size)
new-stands board live own regions none law empty = record { rule = refl; board = (law board Full).0 empty; stores = rw none (none-live regions) }

-- the space after a call that gives a region another store, or takes it
pub space-stored : (old new : FullSpace) (c after : Content) (region : ℕ) (o : Option Store) → FullStands old c → Stands new.board after → HasSameSetting c after → after.stores ≡ changed c.stores region o
    → new.live ≡ slice_set old.live region (is_some o) → region < length old.live → FullStands new after
space-stored old new c after region o stands board setting stores live below = record {
  rule = setting.rule ∙ stands.rule;
  board = board;
  stores = λ r.
      ap (λ (stores : ℕ → Option Store). is_some (stores r)) stores ∙ live-changed old.live c.stores region o stands.stores below r
      ∙ ap (λ (live : List Bool). slice_index_or live r false) (sym live);
}

-- what isn't there is none
none-there : {A : Type 0} (o : Option A) → is_some o ≡ false → o ≡ None
none-there None none = refl
none-there (Some x) none = absurd (cc)

-- an empty store has no page, as none has
begun-page : (c : Content) (region r p : ℕ) → c.stores region ≡ None → page_at (with_store c region (Some empty_store)) r p ≡ page_at c r p
begun-page c region r p none = page-changed c region (Some empty_store) r p ∙ by (eqb_tells r region)
  where
    by : ((nat_eq r region ≡ true) × (r ≡ region)) ⊎ ((nat_eq r region ≡ false) × (r ≢ region)) → cond (nat_eq r region) None (page_at c r p) ≡ page_at c r p
    by (inl (test, here)) = rw (test, here, none) refl
    by (inr (test, other)) = rw test refl

-- a region without a store that begins
pub begin-stands : (space new : FullSpace) (c : Content) (region : ℕ) → FullStands space c → slice_index_or space.live region false ≡ false → new.board ≡ space.board → new.live ≡ slice_set space.live region true → region < length space.live
    → FullStands new (begin_of c region)
unfolding begin_of
begin-stands space new c region stands dead board live below =
    space-stored space new c (begin_of c region) region (Some empty_store) stands (rw board begun) (begin-holds HasSameSetting region (setting-steps region) c) refl live below
  where
    begun : Stands space.board (with_store c region (Some empty_store))
    begun = stands-alike space.board c (with_store c region (Some empty_store)) (record {
      pages = λ r p. begun-page c region r p (none-there (c.stores region) (stands.stores region ∙ dead));
      account = refl;
      frames = refl;
    }) stands.board

-- its store is empty
pub begin-empty : (c : Content) (region : ℕ) → HasEmptyStore region (begin_of c region)
unfolding begin_of
begin-empty c region = changed-there c.stores region (Some empty_store)

-- a region that ended has none
pub end-stored : (c : Content) (region : ℕ) → (end_of c region).stores ≡ changed c.stores region None
unfolding end_of
end-stored c region = refl

pub end-ended : (c : Content) (region : ℕ) → HasNoStore region (end_of c region)
unfolding end_of
end-ended c region = changed-there c.stores region None
