-- What a board shows of pages, frames and homes.
use Rattle.std.proofs.Common.{◌≡◌, ◌∙◌, inl, inr, ℕ, ◌<◌, nat_lt, true, false, Option, Some, None, List, [], ◌∷◌, All, length, refl, ap, sym, subst, arith}
use Rattle.std.proofs.lemmas.Bool.Decides.{nat_tests}
use Rattle.std.proofs.lemmas.List.Elements.{All-head}
use Rattle.cap_format.specs.Numbers.{most_regions}
use Rattle.cap_format.specs.declared.cap.Cap.{Cap}
use Rattle.machine_types.specs.Lists.{IsIn}
use Rattle.machine_types.specs.Stores.{Page, moved_granules}
use Rattle.machine_types.specs.Accounts.{Class, Member}
use Rattle.machine_types.proofs.MovedPages.{moved_granules-twice}
use Rattle.frame_owners.specs.Homes.{Owner, owner}
use Rattle.frame_pool.specs.Pool.{is_used}
use Rattle.tagged_memory.specs.Frames.{frame}
use Rattle.page_table.specs.declared.table.Entry.{Entry}
use Rattle.contents.specs.Content.{Content, page_at}
use Rattle.stores.specs.declared.board.Board.{Board}
use Rattle.stores.specs.Boards.{frame_in, frame_of, AreFramesOf, HasPage, HasSamePage, Stands}
use Rattle.stores.specs.Laws.{IsEntered}
use Rattle.stores.proofs.BoardPages.{entry-within, page-found, same-page}
use Rattle.stores.proofs.SharersCounted.{members-have-frame}

-- an entry has one page
one-page : (memory : List (List Cap)) (owners : List Owner) (region : ℕ) (e : Option Entry) (p q : Option Page) → HasSamePage memory owners region e p → HasSamePage memory owners region e q → p ≡ q
one-page memory owners region None None None s t = refl
one-page memory owners region None None (Some q) s t = absurd t
one-page memory owners region None (Some p) q s t = absurd s
one-page memory owners region (Some e) None q s t = absurd s
one-page memory owners region (Some e) (Some p) None s t = absurd t
one-page memory owners region (Some e) (Some p) (Some q) s t = ap Some (same-page p q (s.rights ∙ sym t.rights) (s.granules ∙ sym t.granules))

pub shown-pages : (board : Board) (c d : Content) (region page : ℕ) → Stands board c → Stands board d → page_at c region page ≡ page_at d region page
shown-pages board c d region page s t =
    one-page board.memory board.owners region (board.table.entries region page) (page_at c region page) (page_at d region page) (s.pages region page) (t.pages region page)

-- the entry of a page with a frame
frame-entry : (o : Option Entry) (f : ℕ) → frame_in o ≡ Some f → (e : Entry) × (o ≡ Some e) × (e.frame.0 ≡ f)
frame-entry None f h = absurd (cc)
frame-entry (Some e) f h = (e, refl, let same : e.frame.0 ≡ f = cc in same)

-- the entry of a page with a frame, and what the page is
shown-entry : (board : Board) (c : Content) (region page f : ℕ) (p : Page) → Stands board c → frame_of board.table.entries region page ≡ Some f → page_at c region page ≡ Some p
    → (e : Entry) × (e.frame.0 ≡ f) × (region < most_regions) × HasPage board.memory board.owners region e p
shown-entry board c region page f p stands there is =
    let found = frame-entry (board.table.entries region page) f there in
    let has = page-found board c region page found.0 stands found.1 in
    let same : has.p ≡ p = let e = sym has.there ∙ is in cc in
    (found.0, found.2, (entry-within board.table region page found.0 found.1).0, subst (HasPage board.memory board.owners region found.0) same has.has)

pub shown-moves : (board : Board) (c : Content) (r p s q f : ℕ) (one two : Page) → Stands board c → frame_of board.table.entries r p ≡ Some f → frame_of board.table.entries s q ≡ Some f
    → page_at c r p ≡ Some one → page_at c s q ≡ Some two → two.granules ≡ moved_granules r s one.granules
shown-moves board c r p s q f one two stands here there is other =
    let first = shown-entry board c r p f one stands here is in
    let second = shown-entry board c s q f two stands there other in
    let same : second.0.frame.0 ≡ first.0.frame.0 = second.1 ∙ sym first.1 in
    let e = first.0.frame.0 in
    second.3.granules ∙ ap (λ (g : ℕ). moved_granules (owner board.owners g).home s (frame board.memory g)) same
    ∙ sym (ap (moved_granules r s) first.3.granules ∙ moved_granules-twice (owner board.owners e).home r s (frame board.memory e) first.3.home first.2 second.2 first.3.held)

pub shown-homes : (board : Board) (c : Content) (region page f : ℕ) → Stands board c → frame_of board.table.entries region page ≡ Some f → (owner board.owners f).home < most_regions
shown-homes board c region page f stands there =
    let found = frame-entry (board.table.entries region page) f there in
    let has = page-found board c region page found.0 stands found.1 in
    subst (λ (g : ℕ). (owner board.owners g).home < most_regions) found.2 has.has.home

-- a frame with a sharer that has a class has an entry
entry-in : (frame_at : ℕ → ℕ → Option ℕ) (owner_at : ℕ → Owner) (frames : List ℕ) (classes : List Class) (f : ℕ) → AreFramesOf frame_at owner_at frames classes → IsIn f frames → 0 < (owner_at f).sharers → IsEntered frame_at f
entry-in frame_at owner_at [] classes f are i some = absurd i
entry-in frame_at owner_at (g ∷ frames) [] f are i some = absurd are
entry-in frame_at owner_at (g ∷ frames) (class ∷ classes) f are (inr i) some = entry-in frame_at owner_at frames classes f are.1 i some
entry-in frame_at owner_at (g ∷ frames) (class ∷ classes) f are (inl same) some =
    by class.members (rw (← same) at some) are.0.sharers (members-have-frame frame_at g class.members (λ r p. let e = are.0.members r p in omega arith))
  where
    by : (members : List Member) → 0 < (owner_at g).sharers → (owner_at g).sharers ≡ length members → All (λ m. frame_at m.region m.page ≡ Some g) members → IsEntered frame_at f
    by [] more none have = absurd (omega arith)
    by (m ∷ members) more lengths have = record { region = m.region; page = m.page; there = All-head (λ (m : Member). frame_at m.region m.page ≡ Some g) m members have ∙ ap Some same }

pub shown-taken : (board : Board) (c : Content) (f : ℕ) → Stands board c → is_used board.pool f ≡ true → IsEntered (frame_of board.table.entries) f
shown-taken board c f stands used = entry-in (frame_of board.table.entries) (owner board.owners) stands.frames c.account f stands.kept.classes (stands.kept.taken f used)
    (let some : nat_lt 0 (owner board.owners f).sharers ≡ true = sym (stands.kept.counted f) ∙ used in grind (arith, nat_tests))

pub shown-entered : (board : Board) (c : Content) (region page f : ℕ) → Stands board c → frame_of board.table.entries region page ≡ Some f → is_used board.pool f ≡ true
shown-entered board c region page f stands there = stands.kept.used f (stands.kept.listed region page f there)

pub shown-free : (board : Board) (c : Content) (f : ℕ) → Stands board c → is_used board.pool f ≡ false → (owner board.owners f).sharers ≡ 0
shown-free board c f stands free = let none : nat_lt 0 (owner board.owners f).sharers ≡ false = sym (stands.kept.counted f) ∙ free in grind (arith, nat_tests)
