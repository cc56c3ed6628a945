-- Laws of forks and ends: what a child has, whom its pages share with, and what an end leaves.
use Rattle.std.specs.Prelude.{ℕ, ◌≡◌, ◌≢◌, ◌≤◌, ◌<◌, ◌+◌, ◌==◌, ◌&&◌, ◌↔◌, Bool, true, false, not, is_some, Option, Some, None, Ok, Err, All, length}
use Rattle.std.specs.List.{list_any}
use Rattle.std.specs.Option.{option_map}
use Rattle.cap_format.specs.declared.cap.Cap.{Cap}
use Rattle.cap_format.specs.Moves.{moved}
use Rattle.machine_types.specs.declared.config.Rule.TheVariants.{Full}
use Rattle.machine_types.specs.Lists.{count_of}
use Rattle.machine_types.specs.Accounts.{Class, has_member, has_members}
use Rattle.contents.specs.Content.{Content, class_at, used_frames}
use Rattle.contents.specs.Regions.{no_frame, end_of, numbers_in, fork_of}
use Rattle.contents.specs.Looks.{peek_of, rights_of}
use Rattle.contents.specs.Conditions.{HasNoStore, IsOwn}
use Rattle.contents.specs.Whole.{IsWhole}

-- some class has both pages as members
abbrev pub shares : Content → ℕ → ℕ → ℕ → ℕ → Bool
shares c r p s q = list_any (λ class. has_member r p class && has_member s q class) c.account

-- the home of the class of a page
abbrev pub home_of : Content → ℕ → ℕ → Option ℕ
home_of c region page = option_map (λ class. class.home) (class_at c region page)

-- The child has the pages of the parent, with their rights and what they hold: a granule without a tag as it is, and one
-- with a tag moved.
pub record ChildrenAreCopies : Type 0 where
  pub rights : (c : Content) (from to page : ℕ) → (fork_of c from to).answer ≡ Ok tt → rights_of (fork_of c from to).after to page ≡ rights_of c from page
  pub pages : (c : Content) (from to page g : ℕ) → (fork_of c from to).answer ≡ Ok tt → is_some (peek_of (fork_of c from to).after to page g) ≡ is_some (peek_of c from page g)
  pub untagged : (c : Content) (from to page g : ℕ) (cap : Cap) → (fork_of c from to).answer ≡ Ok tt → peek_of c from page g ≡ Some cap → cap.tag ≡ false → peek_of (fork_of c from to).after to page g ≡ Some cap
  pub tagged : (c : Content) (from to page g : ℕ) (cap : Cap) → (fork_of c from to).answer ≡ Ok tt → peek_of c from page g ≡ Some cap → cap.tag ≡ true → peek_of (fork_of c from to).after to page g ≡ Some (moved cap from to)

-- Under `full` each page of the child is alone in a class with the child as home, and all other pages share as before.
-- Else each is in the class of the parent's page of that number, with whatever that shares with, and nobody else's
-- sharing changes.
pub record ChildrenShare : Type 0 where
  pub own : (c : Content) (from to page : ℕ) → IsWhole c → HasNoStore to c → c.rule ≡ Full → (fork_of c from to).answer ≡ Ok tt → is_some (rights_of c from page) ≡ true → IsOwn to page (fork_of c from to).after
  pub full_others : (c : Content) (from to r p s q : ℕ) → c.rule ≡ Full → r ≢ to → s ≢ to → shares (fork_of c from to).after r p s q ≡ shares c r p s q
  pub with_parent : (c : Content) (from to page : ℕ) → IsWhole c → HasNoStore to c → c.rule ≢ Full → is_some (rights_of c from page) ≡ true → shares (fork_of c from to).after to page from page ≡ true
  pub home : (c : Content) (from to page : ℕ) → IsWhole c → HasNoStore to c → c.rule ≢ Full → is_some (rights_of c from page) ≡ true → home_of (fork_of c from to).after to page ≡ home_of c from page
  pub child : (c : Content) (from to page s q : ℕ) → IsWhole c → HasNoStore to c → c.rule ≢ Full → s ≢ to → shares (fork_of c from to).after to page s q ≡ shares c from page s q
  pub others : (c : Content) (from to r p s q : ℕ) → c.rule ≢ Full → r ≢ to → s ≢ to → shares (fork_of c from to).after r p s q ≡ shares c r p s q
  pub among : (c : Content) (from to p q : ℕ) → IsWhole c → HasNoStore to c → c.rule ≢ Full → shares (fork_of c from to).after to p to q ≡ shares c from p from q
  pub homes : (c : Content) (from to r p : ℕ) → r ≢ to → home_of (fork_of c from to).after r p ≡ home_of c r p
  pub absent : (c : Content) (from to page : ℕ) → IsWhole c → HasNoStore to c → rights_of c from page ≡ None → home_of (fork_of c from to).after to page ≡ None

-- Under `full` a fork is refused exactly where there are fewer frames than used ones and the parent's pages together;
-- under the other rules it never is.
pub record ForksAreRefused : Type 0 where
  pub full : (c : Content) (from to : ℕ) → IsWhole c → c.rule ≡ Full → ((fork_of c from to).answer ≡ Err no_frame) ↔ (c.frames < used_frames c + length (numbers_in (c.stores from)))
  pub else : (c : Content) (from to : ℕ) → c.rule ≢ Full → (fork_of c from to).answer ≡ Ok tt

-- a member of another region is in the class
abbrev pub has_others : ℕ → Class → Bool
has_others region class = list_any (λ m. not (m.region == region)) class.members

-- After an end each class has a member. Its frames are fewer by the classes that had members of the region alone.
pub record EndsFreeFrames : Type 0 where
  pub some : (c : Content) (region : ℕ) → All (λ class. has_members class ≡ true) (end_of c region).account
  pub used : (c : Content) (region : ℕ) → used_frames (end_of c region) + count_of (λ class. not (has_others region class)) c.account ≡ used_frames c
  pub others : (c : Content) (region r p s q : ℕ) → r ≢ region → s ≢ region → shares (end_of c region) r p s q ≡ shares c r p s q
  pub homes : (c : Content) (region r p : ℕ) → r ≢ region → home_of (end_of c region) r p ≡ home_of c r p
  pub own : (c : Content) (region page : ℕ) → home_of (end_of c region) region page ≡ None

-- Under `full` a fork is done exactly where it is not refused: there is no third answer.
abbrev pub ForksAreDone : Type 0
ForksAreDone = (c : Content) (from to : ℕ) → IsWhole c → c.rule ≡ Full → ((fork_of c from to).answer ≡ Ok tt) ↔ (used_frames c + length (numbers_in (c.stores from)) ≤ c.frames)
