-- The law of refusals: which comes where, in their order.
use Rattle.std.specs.Prelude.{ℕ, ◌≡◌, ◌<◌, ◌+◌, ◌↔◌, true, false, None, Some, Result, Err, length}
use Rattle.cap_format.specs.declared.cap.Cap.{Cap}
use Rattle.machine_types.specs.declared.touches.Access.{Access}
use Rattle.machine_types.specs.declared.touches.Access.TheVariants.{Read, Write, Fetch}
use Rattle.machine_types.specs.Rights.{is_allowed}
use Rattle.machine_types.specs.Accounts.{Class}
use Rattle.machine_types.specs.Touches.{touches}
use Rattle.contents.specs.declared.refusal.Refusal.{Refusal}
use Rattle.contents.specs.declared.refusal.Refusal.TheVariants.{NoPage, NoRight, NoFrame}
use Rattle.contents.specs.Content.{Content, class_at, used_frames}
use Rattle.contents.specs.Accesses.{page_of_place, read_of, read_cap_of, fetch_of, write_of, write_cap_of}
use Rattle.contents.specs.Transfers.{covers_of}
use Rattle.contents.specs.Looks.{rights_of}
use Rattle.contents.specs.Reading.{seen}

-- the page at a place is there with the right for the access
pub record MayAccess (c : Content) (access : Access) (region at : ℕ) : Type 0 where
  pub rights : ℕ
  pub there : rights_of c region (page_of_place at) ≡ Some rights
  pub allowed : is_allowed access rights ≡ true

-- it is there without the right
pub record LacksRight (c : Content) (access : Access) (region at : ℕ) : Type 0 where
  pub rights : ℕ
  pub there : rights_of c region (page_of_place at) ≡ Some rights
  pub denied : is_allowed access rights ≡ false

-- The access may be made, it touches a page whose class has several members, and every frame is used.
pub record LacksFrame (c : Content) (access : Access) (region at : ℕ) : Type 0 where
  pub may : MayAccess c access region at
  pub cap : Cap
  pub granule : seen c region at ≡ Some cap
  pub class : Class
  pub member : class_at c region (page_of_place at) ≡ Some class
  pub touched : touches c.rule access class region cap.tag ≡ true
  pub shared : 1 < length class.members
  pub full : used_frames c ≡ c.frames

-- The refusals of an access. Each comes exactly where the one before doesn't and its own cause stands, whatever else does.
pub record IsRefusedInOrder {A : Type 0} (c : Content) (access : Access) (region at : ℕ) (answer : Result A Refusal) : Type 0 where
  pub page : (answer ≡ Err NoPage) ↔ (rights_of c region (page_of_place at) ≡ None)
  pub right : (answer ≡ Err NoRight) ↔ LacksRight c access region at
  pub frame : (answer ≡ Err NoFrame) ↔ LacksFrame c access region at

pub record RefusalsAreInOrder : Type 0 where
  pub read : (c : Content) (region at size : ℕ) → IsRefusedInOrder c Read region at (read_of c region at size).answer
  pub read_cap : (c : Content) (region at : ℕ) → IsRefusedInOrder c Read region at (read_cap_of c region at).answer
  pub fetch : (c : Content) (region at : ℕ) → IsRefusedInOrder c Fetch region at (fetch_of c region at).answer
  pub write : (c : Content) (region at size v : ℕ) → IsRefusedInOrder c Write region at (write_of c region at size v).answer
  pub write_cap : (c : Content) (region at : ℕ) (cap : Cap) → IsRefusedInOrder c Write region at (write_cap_of c region at cap).answer

-- Bytes are covered exactly where each of their pages is there with the right.
abbrev pub CoversEachPage : Type 0
CoversEachPage = (c : Content) (region at n : ℕ) (access : Access) → (covers_of c region at n access ≡ true) ↔ ((k : ℕ) → k < n → MayAccess c access region (at + k))
