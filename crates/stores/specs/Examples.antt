-- One board, worked out: region 0 was forked to region 1, and nothing was touched yet. Page 0 has a pointer to region 0 in its
-- first granule, and both regions have it from frame 5.
use Rattle.std.specs.Prelude.{ℕ, ◌≡◌, ◌+◌, ◌==◌, ◌&&◌, nat_lt, true, false, if◌then◌else◌, Option, Some, None, List, [], ◌∷◌, ◌++◌, replicate, slice_set}
use Rattle.cap_format.specs.Numbers.{page_granules, permit_load, permit_store}
use Rattle.cap_format.specs.declared.cap.Cap.{Cap}
use Rattle.cap_format.specs.Made.{null, root}
use Rattle.cap_format.specs.Moves.{moved}
use Rattle.machine_types.specs.declared.config.Rule.TheVariants.{Pointer}
use Rattle.machine_types.specs.Numbers.{right_to_read, right_to_write}
use Rattle.machine_types.specs.Stores.{Store}
use Rattle.machine_types.specs.Accounts.{Class}
use Rattle.frame_owners.specs.Homes.{nobody}
use Rattle.page_table.specs.declared.table.Entry.{Entry}
use Rattle.contents.specs.Content.{Content}
use Rattle.contents.specs.Examples.{member, class_with}
use Rattle.stores.specs.declared.board.Board.{Board}
use Rattle.stores.specs.Boards.{Stands}

-- the pointer, and what it is in region 1
abbrev pub pointer : Cap
pointer = root 0 (permit_load + permit_store)

abbrev pub moved_pointer : Cap
moved_pointer = moved pointer 0 1

-- granules without a tag, and the same with a capability at the front
abbrev pub blank : List Cap
blank = replicate page_granules null

abbrev pub fronted : Cap → List Cap
fronted cap = slice_set blank 0 cap

abbrev pub to_read_and_write : ℕ
to_read_and_write = right_to_read + right_to_write

-- page 0 of regions 0 and 1 has frame 5
abbrev pub pictured_entry : ℕ → ℕ → Option Entry
pictured_entry region page = if nat_lt region 2 && page == 0 then Some (record { frame = record { 0 = 5 }; rights = to_read_and_write }) else None

-- eight frames, of which the sixth is used, has region 0 as home and two sharers, and has the pointer
pub record IsPictured (board : Board) : Type 0 where
  pub entries : (region page : ℕ) → board.table.entries region page ≡ pictured_entry region page
  pub memory : board.memory ≡ replicate 5 blank ++ (fronted pointer ∷ replicate 2 blank)
  pub pool : board.pool ≡ record { size = 8; used = replicate 5 false ++ (true ∷ replicate 2 false) }
  pub owners : board.owners ≡ replicate 5 nobody ++ (record { home = 0; sharers = 2 } ∷ replicate 2 nobody)

-- a store of page 0 alone
abbrev pub store_of : ℕ → List Cap → Store
store_of rights granules page = if page == 0 then Some (record { rights = rights; granules = granules }) else None

-- Region 0 has the page with the pointer. Region 1 has it with these rights and this capability at its front. There is one
-- class.
abbrev pub pictured : ℕ → Cap → Class → Content
pictured rights cap class = record {
  stores = λ region. if region == 0 then Some (store_of to_read_and_write (fronted pointer)) else (if region == 1 then Some (store_of rights (fronted cap)) else None);
  account = class ∷ [];
  rule = Pointer;
  frames = 8;
}

-- both pages are in one class, whose home is region 0
abbrev pub both : Class
both = class_with 0 (member 0 0 ∷ member 1 0 ∷ [])

-- There is such a board. It stands for the content in which region 1 has the pointer moved; and for none in which it has the
-- pointer as it is, or the page with other rights, or in which the class has another home, or two members more.
pub record ThePictureStands : Type 0 where
  pub board : Board
  pub is : IsPictured board
  pub stands : (b : Board) → IsPictured b → Stands b (pictured to_read_and_write moved_pointer both)
  pub unmoved : (b : Board) → IsPictured b → Stands b (pictured to_read_and_write pointer both) → ⊥
  pub rights : (b : Board) → IsPictured b → Stands b (pictured right_to_read moved_pointer both) → ⊥
  pub home : (b : Board) → IsPictured b → Stands b (pictured to_read_and_write moved_pointer (class_with 1 (member 0 0 ∷ member 1 0 ∷ []))) → ⊥
  pub members : (b : Board) → IsPictured b → Stands b (pictured to_read_and_write moved_pointer (class_with 0 (member 0 0 ∷ member 1 0 ∷ member 2 0 ∷ member 3 0 ∷ []))) → ⊥
