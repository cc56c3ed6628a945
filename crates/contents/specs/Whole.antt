-- What is true of each content that a space stands for, and that each call keeps it.
use Rattle.std.specs.Prelude.{ℕ, ◌≡◌, ◌≤◌, ◌<◌, ◌%◌, ◌^◌, true, if◌then◌else◌, is_some, Some, List, All}
use Rattle.cap_format.specs.Numbers.{most_regions, region_pages}
use Rattle.cap_format.specs.declared.cap.Cap.{Cap}
use Rattle.machine_types.specs.declared.config.Rule.{Rule}
use Rattle.machine_types.specs.declared.touches.Access.{Access}
use Rattle.machine_types.specs.Lists.{count_of}
use Rattle.machine_types.specs.Granules.{IsSize}
use Rattle.machine_types.specs.Held.{MayHold, AreHeld}
use Rattle.machine_types.specs.Stores.{Page, Store, IsStore}
use Rattle.machine_types.specs.Accounts.{Class, is_member, has_member, has_members}
use Rattle.contents.specs.Content.{Content, nothing, page_at, used_frames}
use Rattle.contents.specs.Accesses.{read_of, read_cap_of, fetch_of, write_of, write_cap_of}
use Rattle.contents.specs.Regions.{begin_of, end_of, add_page_of, seed_cap_of, fork_of}
use Rattle.contents.specs.Transfers.{prepare_of, write_bytes_of}
use Rattle.contents.specs.Conditions.{HasNoStore, LacksPage}

-- a class has members, and each of them once
pub record IsClass (class : Class) : Type 0 where
  pub some : has_members class ≡ true
  pub once : (region page : ℕ) → count_of (is_member region page) class.members ≡ (if has_member region page class then 1 else 0)

-- A content is whole: its stores end at the last page and have 256 granules a page; each page is a member of exactly one
-- class, and each member is a page; no more frames are used than there are; and what a page holds is what its region may
-- hold.
pub record IsWhole (c : Content) : Type 0 where
  pub stores : (region : ℕ) (store : Store) → c.stores region ≡ Some store → IsStore store
  pub pages : (region page : ℕ) → count_of (has_member region page) c.account ≡ (if is_some (page_at c region page) then 1 else 0)
  pub classes : All IsClass c.account
  pub used : used_frames c ≤ c.frames
  pub held : (region page : ℕ) (p : Page) → page_at c region page ≡ Some p → AreHeld region p.granules

-- The content without store and class is whole, and each call keeps a content so, under its conditions.
pub record CallsKeepWhole : Type 0 where
  pub first : (rule : Rule) (frames : ℕ) → IsWhole (nothing rule frames)
  pub begin : (c : Content) (region : ℕ) → IsWhole c → HasNoStore region c → IsWhole (begin_of c region)
  pub end : (c : Content) (region : ℕ) → IsWhole c → IsWhole (end_of c region)
  pub add_page : (c : Content) (region page rights : ℕ) (bytes : List ℕ) → IsWhole c → page < region_pages → LacksPage region page c
      → IsWhole (add_page_of c region page rights bytes).after
  pub seed_cap : (c : Content) (region at : ℕ) (cap : Cap) → IsWhole c → cap.bits < 2 ^ 128 → MayHold region cap → IsWhole (seed_cap_of c region at cap)
  pub read : (c : Content) (region at size : ℕ) → IsWhole c → IsWhole (read_of c region at size).after
  pub read_cap : (c : Content) (region at : ℕ) → IsWhole c → IsWhole (read_cap_of c region at).after
  pub write : (c : Content) (region at size v : ℕ) → IsWhole c → IsSize size → at % size ≡ 0 → IsWhole (write_of c region at size v).after
  pub write_cap : (c : Content) (region at : ℕ) (cap : Cap) → IsWhole c → cap.bits < 2 ^ 128 → MayHold region cap → IsWhole (write_cap_of c region at cap).after
  pub fetch : (c : Content) (region at : ℕ) → IsWhole c → IsWhole (fetch_of c region at).after
  pub prepare : (c : Content) (region at n : ℕ) (access : Access) → IsWhole c → IsWhole (prepare_of c region at n access).after
  pub write_bytes : (c : Content) (region at : ℕ) (bytes : List ℕ) → IsWhole c → IsWhole (write_bytes_of c region at bytes)
  pub fork : (c : Content) (from to : ℕ) → IsWhole c → from < most_regions → to < most_regions → HasNoStore to c → IsWhole (fork_of c from to).after
