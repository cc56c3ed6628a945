-- What each call of a space of stores keeps of a sound content: that its classes are exact and in range, and alone under `full`.
use Rattle.std.specs.Prelude.{ℕ, ◌≡◌, ◌≤◌, ◌<◌, ◌%◌, ◌^◌, List, length}
use Rattle.cap_format.specs.Numbers.{most_regions, region_pages}
use Rattle.cap_format.specs.declared.cap.Cap.{Cap}
use Rattle.machine_types.specs.declared.config.Rule.{Rule}
use Rattle.machine_types.specs.declared.touches.Access.{Access}
use Rattle.machine_types.specs.declared.touches.Access.TheVariants.{Write}
use Rattle.machine_types.specs.Granules.{IsSize}
use Rattle.machine_types.specs.Held.{MayHold}
use Rattle.contents.specs.Content.{Content, nothing}
use Rattle.contents.specs.Accesses.{page_of_place, read_of, read_cap_of, fetch_of, write_of, write_cap_of}
use Rattle.contents.specs.Regions.{begin_of, end_of, add_page_of, seed_cap_of, fork_of}
use Rattle.contents.specs.Transfers.{prepare_of, write_bytes_of}
use Rattle.contents.specs.Conditions.{HasNoStore, LacksPage, IsOwn, IsPrepared}
use Rattle.machine.specs.Steady.{ContentIsSound}

-- The content without store and class is sound, and each call keeps a content so, under its conditions, for this number of regions.
pub record CallsKeepContents (n : ℕ) : Type 0 where
  pub first : (rule : Rule) (frames : ℕ) → ContentIsSound n (nothing rule frames)
  pub begin : (c : Content) (region : ℕ) → ContentIsSound n c → HasNoStore region c → ContentIsSound n (begin_of c region)
  pub end : (c : Content) (region : ℕ) → ContentIsSound n c → ContentIsSound n (end_of c region)
  pub add_page : (c : Content) (region page rights : ℕ) (bytes : List ℕ) → ContentIsSound n c → region < n → page < region_pages → rights < 8 → LacksPage region page c
      → ContentIsSound n (add_page_of c region page rights bytes).after
  pub seed_cap : (c : Content) (region at : ℕ) (cap : Cap) → ContentIsSound n c → cap.bits < 2 ^ 128 → MayHold region cap → IsOwn region (page_of_place at) c → ContentIsSound n (seed_cap_of c region at cap)
  pub read : (c : Content) (region at size : ℕ) → region < n → ContentIsSound n c → ContentIsSound n (read_of c region at size).after
  pub read_cap : (c : Content) (region at : ℕ) → region < n → ContentIsSound n c → ContentIsSound n (read_cap_of c region at).after
  pub fetch : (c : Content) (region at : ℕ) → region < n → ContentIsSound n c → ContentIsSound n (fetch_of c region at).after
  pub write : (c : Content) (region at size v : ℕ) → region < n → ContentIsSound n c → IsSize size → at % size ≡ 0 → ContentIsSound n (write_of c region at size v).after
  pub write_cap : (c : Content) (region at : ℕ) (cap : Cap) → region < n → ContentIsSound n c → cap.bits < 2 ^ 128 → MayHold region cap → ContentIsSound n (write_cap_of c region at cap).after
  pub prepare : (c : Content) (region at count : ℕ) (access : Access) → region < n → ContentIsSound n c → ContentIsSound n (prepare_of c region at count access).after
  pub write_bytes : (c : Content) (region at : ℕ) (bytes : List ℕ) → region < n → ContentIsSound n c → IsPrepared region at (length bytes) Write c → ContentIsSound n (write_bytes_of c region at bytes)
  pub fork : (c : Content) (from to : ℕ) → from < n → to < n → ContentIsSound n c → HasNoStore to c → ContentIsSound n (fork_of c from to).after

abbrev pub CallsKeepSound : Type 0
CallsKeepSound = (n : ℕ) → n ≤ most_regions → CallsKeepContents n
