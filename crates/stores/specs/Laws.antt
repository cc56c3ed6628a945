-- Laws of boards: each is the contract of a function of this crate.
use Rattle.std.specs.Prelude.{ℕ, ◌≡◌, ◌≤◌, ◌<◌, ◌↔◌, ◌&&◌, Some, length, true, false, Option}
use Rattle.cap_format.specs.Numbers.{most_regions}
use Rattle.machine_types.specs.declared.config.Rule.{Rule}
use Rattle.machine_types.specs.Lists.{count_of}
use Rattle.machine_types.specs.Stores.{Page, moved_granules}
use Rattle.machine_types.specs.Accounts.{Class, has_member}
use Rattle.frame_pool.specs.Pool.{is_used, used_count}
use Rattle.frame_owners.specs.Homes.{owner}
use Rattle.contents.specs.Content.{Content, nothing, page_at, class_at, used_frames}
use Rattle.contents.specs.Whole.{IsWhole}
use Rattle.stores.specs.declared.board.Board.{Board}
use Rattle.stores.specs.Boards.{IsEmpty, Stands, frame_of, made_frames}

-- two pages have one frame exactly where their members are in one class
abbrev pub OneFrameForOneClass : Type 0
OneFrameForOneClass = (board : Board) (c : Content) (r p s q f g : ℕ) → Stands board c
    → frame_of board.table.entries r p ≡ Some f → frame_of board.table.entries s q ≡ Some g
    → (f ≡ g) ↔ (0 < count_of (λ class. has_member r p class && has_member s q class) c.account)

-- The class of a page that has a frame: its home is that of the frame, and it has as many members as the frame has sharers.
pub record HasClass (board : Board) (c : Content) (region page f : ℕ) : Type 0 where
  pub class : Class
  pub there : class_at c region page ≡ Some class
  pub home : class.home ≡ (owner board.owners f).home
  pub members : length class.members ≡ (owner board.owners f).sharers

abbrev pub FramesHaveClasses : Type 0
FramesHaveClasses = (board : Board) (c : Content) (region page f : ℕ) → Stands board c → frame_of board.table.entries region page ≡ Some f → HasClass board c region page f

-- each content that a board stands for is whole
abbrev pub BoardsStandForWholeContents : Type 0
BoardsStandForWholeContents = (board : Board) (c : Content) → Stands board c → IsWhole c

-- the taken frames are as many as the classes, and no more than there are: as many as the pool is of
pub record TakenAreUsed : Type 0 where
  pub taken : (board : Board) (c : Content) → Stands board c → used_count board.pool ≡ used_frames c
  pub within : (board : Board) (c : Content) → Stands board c → used_frames c ≤ c.frames
  pub size : (board : Board) (c : Content) → Stands board c → c.frames ≡ board.pool.size

-- a frame has at most as many sharers as there are regions
abbrev pub SharersAreFew : Type 0
SharersAreFew = (board : Board) (c : Content) (region page f : ℕ) → Stands board c → frame_of board.table.entries region page ≡ Some f → (owner board.owners f).sharers ≤ most_regions

-- a board that stands for nothing is empty, and an empty board stands for nothing
abbrev pub EmptyStandsForNothing : Type 0
EmptyStandsForNothing = (board : Board) (rule : Rule) → IsEmpty board ↔ Stands board (nothing rule board.pool.size)

-- a page has the frame
pub record IsEntered (frame_at : ℕ → ℕ → Option ℕ) (f : ℕ) : Type 0 where
  pub region : ℕ
  pub page : ℕ
  pub there : frame_at region page ≡ Some f

-- What a board shows. All contents that it stands for have the same pages. Pages of one frame have one page number and are
-- moves of each other, and the frame's home is a region. The taken frames are those of the entries, and a frame that isn't
-- taken has no sharer.
pub record BoardsShowPages : Type 0 where
  pub pages : (board : Board) (c d : Content) (region page : ℕ) → Stands board c → Stands board d → page_at c region page ≡ page_at d region page
  pub number : (board : Board) (c : Content) (r p s q f : ℕ) → Stands board c → frame_of board.table.entries r p ≡ Some f → frame_of board.table.entries s q ≡ Some f → p ≡ q
  pub moves : (board : Board) (c : Content) (r p s q f : ℕ) (one two : Page) → Stands board c → frame_of board.table.entries r p ≡ Some f → frame_of board.table.entries s q ≡ Some f
      → page_at c r p ≡ Some one → page_at c s q ≡ Some two → two.granules ≡ moved_granules r s one.granules
  pub homes : (board : Board) (c : Content) (region page f : ℕ) → Stands board c → frame_of board.table.entries region page ≡ Some f → (owner board.owners f).home < most_regions
  pub taken : (board : Board) (c : Content) (f : ℕ) → Stands board c → is_used board.pool f ≡ true → IsEntered (frame_of board.table.entries) f
  pub entered : (board : Board) (c : Content) (region page f : ℕ) → Stands board c → frame_of board.table.entries region page ≡ Some f → is_used board.pool f ≡ true
  pub free : (board : Board) (c : Content) (f : ℕ) → Stands board c → is_used board.pool f ≡ false → (owner board.owners f).sharers ≡ 0

-- The number of made frames is the greatest that memory, pool and owners each have: each of the three has as many, and a
-- number that each of them has is no greater.
pub record MadeFramesAreInAll : Type 0 where
  pub memory : (board : Board) → made_frames board ≤ length board.memory
  pub pool : (board : Board) → made_frames board ≤ length board.pool.used
  pub owners : (board : Board) → made_frames board ≤ length board.owners
  pub most : (board : Board) (n : ℕ) → n ≤ length board.memory → n ≤ length board.pool.used → n ≤ length board.owners → n ≤ made_frames board
