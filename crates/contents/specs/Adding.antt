-- The law of a page that is added.
use Rattle.std.specs.Prelude.{ℕ, ◌≡◌, ◌≢◌, ◌≤◌, ◌<◌, ◌+◌, ◌*◌, ◌↔◌, false, Some, Ok, Err, List, length}
use Rattle.std.specs.Option.{option_map}
use Rattle.cap_format.specs.Numbers.{page_bytes}
use Rattle.machine_types.specs.MemoryLaws.{AreBytes}
use Rattle.contents.specs.Content.{Content, used_frames}
use Rattle.contents.specs.Regions.{no_frame, add_page_of}
use Rattle.contents.specs.Transfers.{read_bytes_of}
use Rattle.contents.specs.Looks.{peek_of, rights_of}
use Rattle.contents.specs.Conditions.{HasStore, LacksPage, IsOwn}
use Rattle.contents.specs.Writing.{byte_seen}
use Rattle.contents.specs.Whole.{IsWhole}

-- A page that was added has its rights, its bytes and then zeros, no tag, and is alone in a class whose home is its
-- region. NoFrame comes exactly where all frames are used.
pub record PagesAreAdded : Type 0 where
  pub refused : (c : Content) (region page rights : ℕ) (bytes : List ℕ) → ((add_page_of c region page rights bytes).answer ≡ Err no_frame) ↔ (used_frames c ≡ c.frames)
  pub done : (c : Content) (region page rights : ℕ) (bytes : List ℕ) → ((add_page_of c region page rights bytes).answer ≡ Ok tt) ↔ (used_frames c ≢ c.frames)
  pub used : (c : Content) (region page rights : ℕ) (bytes : List ℕ) → (add_page_of c region page rights bytes).answer ≡ Ok tt → used_frames (add_page_of c region page rights bytes).after ≡ used_frames c + 1
  pub rights : (c : Content) (region page rights : ℕ) (bytes : List ℕ) → HasStore region c → (add_page_of c region page rights bytes).answer ≡ Ok tt
      → rights_of (add_page_of c region page rights bytes).after region page ≡ Some rights
  pub front : (c : Content) (region page rights : ℕ) (bytes : List ℕ) → HasStore region c → length bytes ≤ page_bytes → AreBytes bytes → (add_page_of c region page rights bytes).answer ≡ Ok tt
      → read_bytes_of (add_page_of c region page rights bytes).after region (page * page_bytes) (length bytes) ≡ bytes
  pub zeros : (c : Content) (region page rights : ℕ) (bytes : List ℕ) (k : ℕ) → HasStore region c → length bytes ≤ k → k < page_bytes → (add_page_of c region page rights bytes).answer ≡ Ok tt
      → byte_seen (add_page_of c region page rights bytes).after region (page * page_bytes + k) ≡ 0
  pub tags : (c : Content) (region page rights : ℕ) (bytes : List ℕ) (g : ℕ) → HasStore region c → (add_page_of c region page rights bytes).answer ≡ Ok tt
      → option_map (λ cap. cap.tag) (peek_of (add_page_of c region page rights bytes).after region page g) ≡ Some false
  pub own : (c : Content) (region page rights : ℕ) (bytes : List ℕ) → IsWhole c → LacksPage region page c → (add_page_of c region page rights bytes).answer ≡ Ok tt
      → IsOwn region page (add_page_of c region page rights bytes).after
