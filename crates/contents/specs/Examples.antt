-- Small contents, worked out call by call. They show which class, home and frame a page has, and who touches what.
use Rattle.std.specs.Prelude.{ℕ, ◌≡◌, ◌+◌, Ok, Err, List, [], ◌∷◌}
use Rattle.cap_format.specs.Numbers.{permit_load, permit_store}
use Rattle.cap_format.specs.Made.{root}
use Rattle.cap_format.specs.Region.{region_start}
use Rattle.machine_types.specs.declared.config.Rule.{Rule}
use Rattle.machine_types.specs.declared.config.Rule.TheVariants.{Access, Pointer}
use Rattle.machine_types.specs.declared.touches.Access.TheVariants.{Write}
use Rattle.machine_types.specs.declared.touches.Note.{Note}
use Rattle.machine_types.specs.declared.touches.Touched.{Touched}
use Rattle.machine_types.specs.declared.touches.Touched.TheVariants.{Copied, Moved}
use Rattle.machine_types.specs.Numbers.{right_to_read, right_to_write}
use Rattle.machine_types.specs.Accounts.{Member, Class}
use Rattle.contents.specs.Content.{Content, nothing}
use Rattle.contents.specs.Accesses.{untouched, read_of}
use Rattle.contents.specs.Regions.{begin_of, end_of, add_page_of, seed_cap_of, fork_of}
use Rattle.contents.specs.Transfers.{prepare_of}

abbrev pub member : ℕ → ℕ → Member
member region page = record { region = region; page = page }

abbrev pub class_with : ℕ → List Member → Class
class_with home members = record { home = home; members = members }

abbrev pub note : ℕ → Touched → Note
note page touched = record { page = page; touched = touched }

-- the content after an outcome's call
abbrev pub after_fork : Content → ℕ → ℕ → Content
after_fork c from to = (fork_of c from to).after

abbrev pub after_read : Content → ℕ → Content
after_read c region = (read_of c region 0 8).after

-- region 0 has one page, whose first granule is a pointer to its start
abbrev pub one_page : Rule → ℕ → Content
one_page rule frames = seed_cap_of (add_page_of (begin_of (nothing rule frames) 0) 0 0 (right_to_read + right_to_write) []).after 0 0 (root 0 (permit_load + permit_store))

-- region 0 has two empty pages, which region 1 has from it
abbrev pub two_pages : Content
two_pages = after_fork (add_page_of (add_page_of (begin_of (nothing Pointer 3) 0) 0 0 (right_to_read + right_to_write) []).after 0 1 (right_to_read + right_to_write) []).after 0 1

-- Of three frames the fork uses none. A transfer over both pages copies the first into the third frame, and finds none for
-- the second: the first copy stays.
pub record ASecondCopyFindsNoFrame : Type 0 where
  pub forked : two_pages.account ≡ class_with 0 (member 0 0 ∷ member 1 0 ∷ []) ∷ class_with 0 (member 0 1 ∷ member 1 1 ∷ []) ∷ []
  pub answer : (prepare_of two_pages 1 4080 32 Write).answer ≡ Err (record { before = note 0 Copied })
  pub account : (prepare_of two_pages 1 4080 32 Write).after.account
      ≡ class_with 0 (member 0 0 ∷ []) ∷ class_with 0 (member 0 1 ∷ member 1 1 ∷ []) ∷ class_with 1 (member 1 0 ∷ []) ∷ []

-- region 1 has a page from region 0, and region 2 from region 1
abbrev pub grandchild : Content
grandchild = after_fork (after_fork (one_page Access 4) 0 1) 1 2

-- then region 2 read, and region 0 ended
abbrev pub grandchild_alone : Content
grandchild_alone = end_of (after_read grandchild 2) 0

-- Three regions share one frame until one of them reads and gets a copy. The last of the others moves what it has.
pub record TheLastMemberMoves : Type 0 where
  pub shared : grandchild.account ≡ class_with 0 (member 0 0 ∷ member 1 0 ∷ member 2 0 ∷ []) ∷ []
  pub first : (read_of grandchild 2 0 8).answer ≡ Ok (region_start 2, note 0 Copied)
  pub copied : (after_read grandchild 2).account ≡ class_with 0 (member 0 0 ∷ member 1 0 ∷ []) ∷ class_with 2 (member 2 0 ∷ []) ∷ []
  pub ended : grandchild_alone.account ≡ class_with 0 (member 1 0 ∷ []) ∷ class_with 2 (member 2 0 ∷ []) ∷ []
  pub second : (read_of grandchild_alone 1 0 8).answer ≡ Ok (region_start 1, note 0 Moved)
  pub moved : (after_read grandchild_alone 1).account ≡ class_with 1 (member 1 0 ∷ []) ∷ class_with 2 (member 2 0 ∷ []) ∷ []

-- region 1 has a page from region 0, which has ended
abbrev pub orphan : Rule → Content
orphan rule = end_of (after_fork (one_page rule 4) 0 1) 0

-- its child is in region 0 again
abbrev pub home_again : Rule → Content
home_again rule = after_fork (orphan rule) 1 0

-- under `access` region 1 read before, and ended after
abbrev pub home_lost : Content
home_lost = end_of (after_fork (after_read (orphan Access) 1) 1 0) 1

-- The home decides what is foreign, and not who came from whom. A page that was never touched keeps the home in which it
-- was made, so it is fit for the grandchild that lives there now; and a page that moved is foreign there.
pub record TheHomeDecides : Type 0 where
  pub home : (home_again Pointer).account ≡ class_with 0 (member 1 0 ∷ member 0 0 ∷ []) ∷ []
  pub fit : (read_of (home_again Pointer) 0 0 8).answer ≡ Ok (region_start 0, untouched)
  pub fit_too : (read_of (home_again Access) 0 0 8).answer ≡ Ok (region_start 0, untouched)
  pub foreign : (read_of (home_again Pointer) 1 0 8).answer ≡ Ok (region_start 1, note 0 Copied)
  pub moves : (read_of (orphan Access) 1 0 8).answer ≡ Ok (region_start 1, note 0 Moved)
  pub lost : home_lost.account ≡ class_with 1 (member 0 0 ∷ []) ∷ []
  pub moves_back : (read_of home_lost 0 0 8).answer ≡ Ok (region_start 0, note 0 Moved)
