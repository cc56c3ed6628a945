-- What a board stands for.
use Rattle.std.specs.Prelude.{ℕ, Bool, true, false, ◌≡◌, ◌≤◌, ◌<◌, ◌==◌, nat_lt, if◌then◌else◌, Option, Some, None, List, [], ◌∷◌, length, min}
use Rattle.cap_format.specs.Numbers.{most_regions, page_granules}
use Rattle.cap_format.specs.declared.cap.Cap.{Cap}
use Rattle.machine_types.specs.Lists.{count_of, IsIn, AreDistinct}
use Rattle.machine_types.specs.Stores.{Page, moved_granules}
use Rattle.machine_types.specs.Held.{AreHeld}
use Rattle.machine_types.specs.Accounts.{Class, is_member}
use Rattle.frame_pool.specs.Pool.{is_used, used_count}
use Rattle.tagged_memory.specs.Frames.{frame}
use Rattle.page_table.specs.declared.table.Entry.{Entry}
use Rattle.page_table.specs.Entries.{Entries}
use Rattle.frame_owners.specs.Homes.{Owner, owner}
use Rattle.contents.specs.Content.{Content, page_at}
use Rattle.stores.specs.declared.board.Board.{Board}

-- the frame of an entry
abbrev pub frame_in : Option Entry → Option ℕ
frame_in None = None
frame_in (Some e) = Some e.frame.0

-- the frame of a page of a region
abbrev pub frame_of : Entries → ℕ → ℕ → Option ℕ
frame_of table region page = frame_in (table region page)

abbrev pub is_frame : ℕ → Option ℕ → Bool
is_frame f None = false
is_frame f (Some g) = g == f

-- The class is what shares the frame: its home is the frame's, it has as many members as the frame has sharers, and it
-- has the pages with this frame as members, each once.
pub record IsFrameOf (frame_at : ℕ → ℕ → Option ℕ) (owner_at : ℕ → Owner) (f : ℕ) (class : Class) : Type 0 where
  pub home : (owner_at f).home ≡ class.home
  pub sharers : (owner_at f).sharers ≡ length class.members
  pub members : (region page : ℕ) → count_of (is_member region page) class.members ≡ (if is_frame f (frame_at region page) then 1 else 0)

-- Each of these frames has the class at the same place of the account.
abbrev pub AreFramesOf : (ℕ → ℕ → Option ℕ) → (ℕ → Owner) → List ℕ → List Class → Type 0
AreFramesOf frame_at owner_at [] [] = Unit {0}
AreFramesOf frame_at owner_at [] (class ∷ classes) = ⊥
AreFramesOf frame_at owner_at (f ∷ frames) [] = ⊥
AreFramesOf frame_at owner_at (f ∷ frames) (class ∷ classes) = IsFrameOf frame_at owner_at f class × AreFramesOf frame_at owner_at frames classes

-- The page is the frame with each granule moved from the frame's home to the region, and the frame holds what its home
-- may hold. That the home is a region and that the frame has 256 granules is true of all that the board's parts make.
pub record HasPage (memory : List (List Cap)) (owners : List Owner) (region : ℕ) (e : Entry) (p : Page) : Type 0 where
  pub rights : p.rights ≡ e.rights
  pub granules : p.granules ≡ moved_granules (owner owners e.frame.0).home region (frame memory e.frame.0)
  pub home : (owner owners e.frame.0).home < most_regions
  pub held : AreHeld (owner owners e.frame.0).home (frame memory e.frame.0)
  pub whole : length (frame memory e.frame.0) ≡ page_granules

-- the entry and the page are both there or both absent
abbrev pub HasSamePage : List (List Cap) → List Owner → ℕ → Option Entry → Option Page → Type 0
HasSamePage memory owners region None None = Unit {0}
HasSamePage memory owners region None (Some p) = ⊥
HasSamePage memory owners region (Some e) None = ⊥
HasSamePage memory owners region (Some e) (Some p) = HasPage memory owners region e p

-- The frames of the classes, in the account's order, over plain functions: the frame of each page, the owner of each frame,
-- and whether it is used.
pub record KeepsAccount (frame_at : ℕ → ℕ → Option ℕ) (owner_at : ℕ → Owner) (used_at : ℕ → Bool) (size : ℕ) (frames : List ℕ) (account : List Class) : Type 0 where
  pub distinct : AreDistinct frames
  pub classes : AreFramesOf frame_at owner_at frames account
  pub within : (f : ℕ) → IsIn f frames → f < size
  -- the taken frames are those of the classes, and an entry has one of them
  pub taken : (f : ℕ) → used_at f ≡ true → IsIn f frames
  pub used : (f : ℕ) → IsIn f frames → used_at f ≡ true
  pub listed : (region page f : ℕ) → frame_at region page ≡ Some f → IsIn f frames
  -- a frame is taken exactly where it has a sharer
  pub counted : (f : ℕ) → used_at f ≡ nat_lt 0 (owner_at f).sharers
  -- pages of one frame have one page number
  pub number : (r p s q f : ℕ) → frame_at r p ≡ Some f → frame_at s q ≡ Some f → p ≡ q

-- The board stands for the content, but for which regions have a store: a store without pages can't be seen on it.
pub record Stands (board : Board) (c : Content) : Type 0 where
  pub frames : List ℕ
  pub kept : KeepsAccount (frame_of board.table.entries) (owner board.owners) (is_used board.pool) c.frames frames c.account
  pub pages : (region page : ℕ) → HasSamePage board.memory board.owners region (board.table.entries region page) (page_at c region page)
  pub size : board.pool.size ≡ c.frames
  pub memory : c.frames ≤ length board.memory
  pub owners : c.frames ≤ length board.owners

-- It has no entry and no taken frame, no made frame has a sharer, and memory and owners have at least as many frames as
-- the pool.
pub record IsEmpty (board : Board) : Type 0 where
  pub entries : (region page : ℕ) → board.table.entries region page ≡ None
  pub taken : used_count board.pool ≡ 0
  pub sharers : (f : ℕ) → (owner board.owners f).sharers ≡ 0
  pub memory : board.pool.size ≤ length board.memory
  pub owners : board.pool.size ≤ length board.owners

-- how many frames were made of all that a frame needs
abbrev pub made_frames : Board → ℕ
made_frames board = min (length board.memory) (min (length board.pool.used) (length board.owners))
