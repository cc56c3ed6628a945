-- Laws of the definitions: each is the contract of a function of this crate.
use Rattle.std.specs.Prelude.{ℕ, Bool, true, false, ◌≡◌, ◌≢◌, ◌≤◌, ◌<◌, ◌+◌, ◌↔◌, is_some, Some, None, Ok, Err, List, length}
use Rattle.std.specs.Option.{option_map}
use Rattle.cap_format.specs.declared.cap.Cap.{Cap}
use Rattle.machine_types.specs.declared.config.Rule.TheVariants.{Full}
use Rattle.machine_types.specs.declared.touches.Access.{Access}
use Rattle.machine_types.specs.declared.touches.Note.{Note}
use Rattle.machine_types.specs.declared.touches.NoFrame.{NoFrame}
use Rattle.machine_types.specs.declared.touches.Touched.{Touched}
use Rattle.machine_types.specs.declared.touches.Touched.TheVariants.{No, Copied, Moved}
use Rattle.machine_types.specs.Lists.{count_of}
use Rattle.machine_types.specs.Stores.{moved_store}
use Rattle.machine_types.specs.Accounts.{Class, has_member, account_at_end}
use Rattle.contents.specs.declared.refusal.Refusal.{Refusal}
use Rattle.contents.specs.Content.{Content, CallOutcome, class_at, used_frames, free_frames}
use Rattle.contents.specs.Accesses.{note_of, touched, read_of, read_cap_of, fetch_of, write_of, write_cap_of}
use Rattle.contents.specs.Regions.{no_frame, begin_of, end_of, add_page_of, seed_cap_of, numbers_in, fork_of}
use Rattle.contents.specs.Transfers.{covers_of, prepare_of, write_bytes_of}
use Rattle.contents.specs.Looks.{standing_of}
use Rattle.contents.specs.Numbers.{most_transfer}
use Rattle.contents.specs.Conditions.{Covers, IsPrepared}

-- A relation between the content before and after a call holds for each call that changes a content.
pub record OfEachCall (R : Content → Content → Type 0) : Type 0 where
  pub begin : (c : Content) (region : ℕ) → R c (begin_of c region)
  pub end : (c : Content) (region : ℕ) → R c (end_of c region)
  pub add_page : (c : Content) (region page rights : ℕ) (bytes : List ℕ) → R c (add_page_of c region page rights bytes).after
  pub seed_cap : (c : Content) (region at : ℕ) (cap : Cap) → R c (seed_cap_of c region at cap)
  pub read : (c : Content) (region at size : ℕ) → R c (read_of c region at size).after
  pub read_cap : (c : Content) (region at : ℕ) → R c (read_cap_of c region at).after
  pub write : (c : Content) (region at size v : ℕ) → R c (write_of c region at size v).after
  pub write_cap : (c : Content) (region at : ℕ) (cap : Cap) → R c (write_cap_of c region at cap).after
  pub fetch : (c : Content) (region at : ℕ) → R c (fetch_of c region at).after
  pub prepare : (c : Content) (region at n : ℕ) (access : Access) → R c (prepare_of c region at n access).after
  pub write_bytes : (c : Content) (region at : ℕ) (bytes : List ℕ) → R c (write_bytes_of c region at bytes)
  pub fork : (c : Content) (from to : ℕ) → R c (fork_of c from to).after

-- the rule and the number of frames never change
pub record HasSameSetting (before after : Content) : Type 0 where
  pub rule : after.rule ≡ before.rule
  pub frames : after.frames ≡ before.frames

abbrev pub SettingsStay : Type 0
SettingsStay = OfEachCall HasSameSetting

-- A refused call changes nothing, except that in `prepare` the touch that the refusal names stays.
pub record RefusalsChangeNothing : Type 0 where
  pub add_page : (c : Content) (region page rights : ℕ) (bytes : List ℕ) (refused : NoFrame) → (add_page_of c region page rights bytes).answer ≡ Err refused → (add_page_of c region page rights bytes).after ≡ c
  pub read : (c : Content) (region at size : ℕ) (refused : Refusal) → (read_of c region at size).answer ≡ Err refused → (read_of c region at size).after ≡ c
  pub read_cap : (c : Content) (region at : ℕ) (refused : Refusal) → (read_cap_of c region at).answer ≡ Err refused → (read_cap_of c region at).after ≡ c
  pub write : (c : Content) (region at size v : ℕ) (refused : Refusal) → (write_of c region at size v).answer ≡ Err refused → (write_of c region at size v).after ≡ c
  pub write_cap : (c : Content) (region at : ℕ) (cap : Cap) (refused : Refusal) → (write_cap_of c region at cap).answer ≡ Err refused → (write_cap_of c region at cap).after ≡ c
  pub fetch : (c : Content) (region at : ℕ) (refused : Refusal) → (fetch_of c region at).answer ≡ Err refused → (fetch_of c region at).after ≡ c
  pub prepare : (c : Content) (region at n : ℕ) (access : Access) (refused : NoFrame) → (prepare_of c region at n access).answer ≡ Err refused
      → (prepare_of c region at n access).after ≡ touched c region refused.before
  pub fork : (c : Content) (from to : ℕ) (refused : NoFrame) → (fork_of c from to).answer ≡ Err refused → (fork_of c from to).after ≡ c

-- no more frames are used than there are, where no more were
abbrev pub UsedStaysWithin : Type 0
UsedStaysWithin = OfEachCall (λ before after. used_frames before ≤ before.frames → used_frames after ≤ after.frames)

-- the stores of all regions but one are as they were
abbrev pub OthersStay : ℕ → Content → Content → Type 0
OthersStay region before after = (r : ℕ) → r ≢ region → after.stores r ≡ before.stores r

-- Each call leaves the stores of the regions that it doesn't name, and one that only touches leaves every store.
pub record OtherStoresStay : Type 0 where
  pub begin : (c : Content) (region : ℕ) → OthersStay region c (begin_of c region)
  pub end : (c : Content) (region : ℕ) → OthersStay region c (end_of c region)
  pub add_page : (c : Content) (region page rights : ℕ) (bytes : List ℕ) → OthersStay region c (add_page_of c region page rights bytes).after
  pub seed_cap : (c : Content) (region at : ℕ) (cap : Cap) → OthersStay region c (seed_cap_of c region at cap)
  pub read : (c : Content) (region at size : ℕ) → (read_of c region at size).after.stores ≡ c.stores
  pub read_cap : (c : Content) (region at : ℕ) → (read_cap_of c region at).after.stores ≡ c.stores
  pub write : (c : Content) (region at size v : ℕ) → OthersStay region c (write_of c region at size v).after
  pub write_cap : (c : Content) (region at : ℕ) (cap : Cap) → OthersStay region c (write_cap_of c region at cap).after
  pub fetch : (c : Content) (region at : ℕ) → (fetch_of c region at).after.stores ≡ c.stores
  pub prepare : (c : Content) (region at n : ℕ) (access : Access) → (prepare_of c region at n access).after.stores ≡ c.stores
  pub write_bytes : (c : Content) (region at : ℕ) (bytes : List ℕ) → OthersStay region c (write_bytes_of c region at bytes)
  pub fork : (c : Content) (from to : ℕ) → OthersStay to c (fork_of c from to).after

-- the same regions have a store
abbrev pub HasSameRegions : Content → Content → Type 0
HasSameRegions before after = (r : ℕ) → is_some (after.stores r) ≡ is_some (before.stores r)

-- Only `begin` and a fork that isn't refused give a region a store, and only `end` takes one.
pub record RegionsAreKept : Type 0 where
  pub begin : (c : Content) (region : ℕ) → is_some ((begin_of c region).stores region) ≡ true
  pub end : (c : Content) (region : ℕ) → is_some ((end_of c region).stores region) ≡ false
  pub add_page : (c : Content) (region page rights : ℕ) (bytes : List ℕ) → HasSameRegions c (add_page_of c region page rights bytes).after
  pub seed_cap : (c : Content) (region at : ℕ) (cap : Cap) → HasSameRegions c (seed_cap_of c region at cap)
  pub read : (c : Content) (region at size : ℕ) → HasSameRegions c (read_of c region at size).after
  pub read_cap : (c : Content) (region at : ℕ) → HasSameRegions c (read_cap_of c region at).after
  pub write : (c : Content) (region at size v : ℕ) → HasSameRegions c (write_of c region at size v).after
  pub write_cap : (c : Content) (region at : ℕ) (cap : Cap) → HasSameRegions c (write_cap_of c region at cap).after
  pub fetch : (c : Content) (region at : ℕ) → HasSameRegions c (fetch_of c region at).after
  pub prepare : (c : Content) (region at n : ℕ) (access : Access) → HasSameRegions c (prepare_of c region at n access).after
  pub write_bytes : (c : Content) (region at : ℕ) (bytes : List ℕ) → HasSameRegions c (write_bytes_of c region at bytes)
  pub fork : (c : Content) (from to : ℕ) → (fork_of c from to).answer ≡ Ok tt → is_some ((fork_of c from to).after.stores to) ≡ is_some (c.stores from)

-- Two contents that a call on the region can't tell apart: its store, the account, the rule and the number of frames are
-- the same.
pub record AreAlike (region : ℕ) (c d : Content) : Type 0 where
  pub store : d.stores region ≡ c.stores region
  pub account : d.account ≡ c.account
  pub rule : d.rule ≡ c.rule
  pub frames : d.frames ≡ c.frames

-- the same answer, and contents that are alike
pub record GiveAlike {A : Type 0} (region : ℕ) (o p : CallOutcome A) : Type 0 where
  pub answer : p.answer ≡ o.answer
  pub after : AreAlike region o.after p.after

-- Each call on a region depends on no other region's store, and what it leaves to the region neither.
pub record OwnStoreDecides : Type 0 where
  pub begin : (c d : Content) (region : ℕ) → AreAlike region c d → AreAlike region (begin_of c region) (begin_of d region)
  pub end : (c d : Content) (region : ℕ) → AreAlike region c d → AreAlike region (end_of c region) (end_of d region)
  pub add_page : (c d : Content) (region page rights : ℕ) (bytes : List ℕ) → AreAlike region c d → GiveAlike region (add_page_of c region page rights bytes) (add_page_of d region page rights bytes)
  pub seed_cap : (c d : Content) (region at : ℕ) (cap : Cap) → AreAlike region c d → AreAlike region (seed_cap_of c region at cap) (seed_cap_of d region at cap)
  pub read : (c d : Content) (region at size : ℕ) → AreAlike region c d → GiveAlike region (read_of c region at size) (read_of d region at size)
  pub read_cap : (c d : Content) (region at : ℕ) → AreAlike region c d → GiveAlike region (read_cap_of c region at) (read_cap_of d region at)
  pub write : (c d : Content) (region at size v : ℕ) → AreAlike region c d → GiveAlike region (write_of c region at size v) (write_of d region at size v)
  pub write_cap : (c d : Content) (region at : ℕ) (cap : Cap) → AreAlike region c d → GiveAlike region (write_cap_of c region at cap) (write_cap_of d region at cap)
  pub fetch : (c d : Content) (region at : ℕ) → AreAlike region c d → GiveAlike region (fetch_of c region at) (fetch_of d region at)
  pub prepare : (c d : Content) (region at n : ℕ) (access : Access) → AreAlike region c d → GiveAlike region (prepare_of c region at n access) (prepare_of d region at n access)
  pub write_bytes : (c d : Content) (region at : ℕ) (bytes : List ℕ) → AreAlike region c d → AreAlike region (write_bytes_of c region at bytes) (write_bytes_of d region at bytes)
  pub fork : (c d : Content) (from to : ℕ) → AreAlike from c d → AreAlike to c d → GiveAlike to (fork_of c from to) (fork_of d from to)
  pub fork_parent : (c d : Content) (from to : ℕ) → AreAlike from c d → GiveAlike from (fork_of c from to) (fork_of d from to)
  pub standing : (c d : Content) (region page : ℕ) → AreAlike region c d → standing_of d region page ≡ standing_of c region page

-- a copy takes one frame, and nothing else that a touch does takes any
abbrev pub frames_for : Touched → ℕ
frames_for No = 0
frames_for Copied = 1
frames_for Moved = 0

-- A touch leaves every store and takes the frames that it needs. One of a page that is alone in its class finds them also
-- where none is free, and makes the region the home.
pub record TouchesAreExact : Type 0 where
  pub stores : (c : Content) (region : ℕ) (note : Note) → (touched c region note).stores ≡ c.stores
  pub used : (c : Content) (region : ℕ) (note : Note) → used_frames (touched c region note) ≡ used_frames c + frames_for note.touched
  pub alone : (c : Content) (access : Access) (region page : ℕ) (tagged : Bool) (class : Class) → class_at c region page ≡ Some class → length class.members ≡ 1
      → (note : Note) × (note_of c access region page tagged ≡ Some note) × (used_frames (touched c region note) ≡ used_frames c)
  pub lacks : (c : Content) (access : Access) (region page : ℕ) (tagged : Bool) → note_of c access region page tagged ≡ None → used_frames c ≡ c.frames

-- The child's store is the parent's, moved. Under `access` and `pointer` a fork is never refused and uses no frame. Under
-- `full` it uses one for each page, and is refused exactly where fewer are free.
pub record ForkCopiesTheStore : Type 0 where
  pub child : (c : Content) (from to : ℕ) → (fork_of c from to).answer ≡ Ok tt → (fork_of c from to).after.stores to ≡ option_map (moved_store from to) (c.stores from)
  pub shares : (c : Content) (from to : ℕ) → c.rule ≢ Full → ((fork_of c from to).answer ≡ Ok tt) × (used_frames (fork_of c from to).after ≡ used_frames c)
  pub refused : (c : Content) (from to : ℕ) → c.rule ≡ Full → ((fork_of c from to).answer ≡ Err no_frame) ↔ (free_frames c < length (numbers_in (c.stores from)))
  pub copies : (c : Content) (from to : ℕ) → c.rule ≡ Full → (fork_of c from to).answer ≡ Ok tt → used_frames (fork_of c from to).after ≡ used_frames c + length (numbers_in (c.stores from))

-- When a region ends, a page of another region is in as many classes as before, and a page of the region is in none. So
-- the frame of a class stays while it has another member.
pub record EndKeepsShared : Type 0 where
  pub others : (account : List Class) (region r page : ℕ) → r ≢ region → count_of (has_member r page) (account_at_end region account) ≡ count_of (has_member r page) account
  pub own : (account : List Class) (region page : ℕ) → count_of (has_member region page) (account_at_end region account) ≡ 0

-- the scan of the bytes says that each of them is covered
abbrev pub CoversEachByte : Type 0
CoversEachByte = (c : Content) (region at n : ℕ) (access : Access) → (covers_of c region at n access ≡ true) ↔ Covers region at n access c

-- a transfer whose touches were made has none left to make
abbrev pub PreparedLeavesNoTouch : Type 0
PreparedLeavesNoTouch = (c : Content) (region at n : ℕ) (access : Access) (notes : List Note) → n ≤ most_transfer → Covers region at n access c
    → (prepare_of c region at n access).answer ≡ Ok notes → IsPrepared region at n access (prepare_of c region at n access).after
