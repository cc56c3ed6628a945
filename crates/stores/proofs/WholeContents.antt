-- A content that a board stands for is whole.
use Rattle.std.proofs.Common.{◌≡◌, ◌∙◌, inl, inr, ℕ, ◌<◌, ◌≤◌, nat_lt, Bool, true, false, cond, Option, Some, List, [], ◌∷◌, length, refl, ap, sym, subst, arith, All}
use Rattle.std.proofs.lemmas.Bool.{false_from_ne_true}
use Rattle.std.proofs.lemmas.Bool.Decides.{nat_tests}
use Rattle.std.proofs.lemmas.List.Elements.{All-nil, All-cons}
use Rattle.machine_types.specs.Lists.{IsIn}
use Rattle.machine_types.specs.Stores.{Page, Store, IsStore}
use Rattle.machine_types.specs.Held.{AreHeld}
use Rattle.machine_types.specs.Accounts.{Class}
use Rattle.machine_types.proofs.MovedPages.{length-moved_granules, AreHeld-moved_granules}
use Rattle.frame_pool.specs.Pool.{is_used}
use Rattle.frame_pool.proofs.Counts.{count-le}
use Rattle.tagged_memory.specs.Frames.{frame}
use Rattle.frame_owners.specs.Homes.{Owner, owner}
use Rattle.contents.specs.Content.{Content, page_in, page_at, used_frames}
use Rattle.contents.specs.Whole.{IsClass, IsWhole}
use Rattle.stores.specs.declared.board.Board.{Board}
use Rattle.stores.specs.Boards.{frame_of, AreFramesOf, Stands}
use Rattle.stores.proofs.FramesShared.{has_member-is_frame, count_of-has_member, count_of-is_frame, is_some-frame_in}
use Rattle.stores.proofs.BoardPages.{entry-within, entry-found, page-absent, used_count-classes}

-- each class that shares a frame with a sharer has members, each once
classes-whole : (frame_at : ℕ → ℕ → Option ℕ) (owner_at : ℕ → Owner) (frames : List ℕ) (account : List Class) → AreFramesOf frame_at owner_at frames account
    → ((f : ℕ) → IsIn f frames → 0 < (owner_at f).sharers) → All IsClass account
classes-whole frame_at owner_at [] [] are shared = All-nil IsClass
classes-whole frame_at owner_at [] (class ∷ account) are shared = absurd are
classes-whole frame_at owner_at (f ∷ frames) [] are shared = absurd are
classes-whole frame_at owner_at (f ∷ frames) (class ∷ account) are shared =
    All-cons IsClass class account first (classes-whole frame_at owner_at frames account are.1 (λ g i. shared g (inr i)))
  where
    first : IsClass class
    first = record {
      some = let sharers = are.0.sharers in let least = shared f (inl refl) in grind (arith, nat_tests);
      once = λ region page. are.0.members region page ∙ rw (has_member-is_frame are.0 region page) refl;
    }

-- no more frames are used than there are
pub used-within : (board : Board) (c : Content) → Stands board c → used_frames c ≤ c.frames
used-within board c stands =
    let used = used_count-classes board c stands in
    let past : (k : ℕ) → c.frames ≤ k → is_used board.pool k ≡ false =
    λ k far. false_from_ne_true (is_used board.pool k) (λ taken. let near = stands.kept.within k (stands.kept.taken k taken) in absurd (omega arith)) in
    let most = count-le board.pool.used c.frames past in
    omega arith

-- the store of a region
store-whole : (board : Board) (c : Content) (region : ℕ) (store : Store) → Stands board c → c.stores region ≡ Some store → IsStore store
store-whole board c region store stands there = record {
  past = λ page far. sym (at page) ∙ page-absent board c region page stands (board.table.past region page (inr far));
  granules = λ page p here.
      let found = entry-found board c region page p stands (at page ∙ here) in
      ap length found.2.granules ∙ length-moved_granules (owner board.owners found.0.frame.0).home region (frame board.memory found.0.frame.0) ∙ found.2.whole;
}
  where
    at : (page : ℕ) → page_at c region page ≡ store page
    at page = ap (λ (o : Option Store). page_in o page) there

-- what a page holds, its region may hold
page-held : (board : Board) (c : Content) (region page : ℕ) (p : Page) → Stands board c → page_at c region page ≡ Some p → AreHeld region p.granules
page-held board c region page p stands there =
    let found = entry-found board c region page p stands there in
    let small = (entry-within board.table region page found.0 found.1).0 in
    subst (AreHeld region) (sym found.2.granules)
    (AreHeld-moved_granules (owner board.owners found.0.frame.0).home region (frame board.memory found.0.frame.0) found.2.home small found.2.held)

pub stands-whole : (board : Board) (c : Content) → Stands board c → IsWhole c
stands-whole board c stands = record {
  stores = λ region store. store-whole board c region store stands;
  pages = λ region page.
      count_of-has_member (frame_of board.table.entries) (owner board.owners) stands.frames c.account region page stands.kept.classes
      ∙ count_of-is_frame (frame_of board.table.entries region page) stands.frames stands.kept.distinct (stands.kept.listed region page)
      ∙ ap (λ (b : Bool). cond {A = ℕ} b 1 0) (is_some-frame_in board.memory board.owners region (board.table.entries region page) (page_at c region page) (stands.pages region page));
  classes = classes-whole (frame_of board.table.entries) (owner board.owners) stands.frames c.account stands.kept.classes shared;
  used = used-within board c stands;
  held = λ region page p. page-held board c region page p stands;
}
  where
    -- a taken frame has a sharer
    shared : (f : ℕ) → IsIn f stands.frames → 0 < (owner board.owners f).sharers
    shared f i = let some : nat_lt 0 (owner board.owners f).sharers ≡ true = sym (stands.kept.counted f) ∙ stands.kept.used f i in grind (arith, nat_tests)
