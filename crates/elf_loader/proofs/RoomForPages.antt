-- Contents with room for pages that are still to be added, from a number on.
use Rattle.std.proofs.Common.{◌≡◌, ◌∙◌, ℕ, zero, suc, ◌+◌, ◌<◌, ◌≤◌, Result, List, ap, add-one, arith}
use Rattle.machine_types.specs.declared.touches.NoFrame.{NoFrame}
use Rattle.contents.specs.Content.{Content, CallOutcome, used_frames}
use Rattle.contents.specs.Regions.{with_new_page, begin_of, add_page_of}
use Rattle.contents.specs.Conditions.{LacksPage}
use Rattle.contents.proofs.KeptRegions.{begin-some}
use Rattle.contents.proofs.StayedElse.{begun-empty}
use Rattle.elf_loader.specs.declared.image.Segment.{Segment}
use Rattle.elf_loader.specs.Numbers.{process_region}
use Rattle.elf_loader.specs.Start.{first_page, page_part, with_pages}
use Rattle.elf_loader.specs.Adding.{HasRoom}
use Rattle.elf_loader.proofs.AddedPage.{added-free, put-used, put-store, put-elsewhere}

-- a store that begins has room for as many pages as frames are free
pub room-begun : (c : Content) (pages : ℕ) → used_frames c + pages ≤ c.frames → HasRoom 0 pages (begin_of c process_region)
unfolding begin_of
room-begun c pages frames = record { store = begin-some c process_region; absent = λ page _. begun-empty c process_region page; frames = frames }

-- room for fewer pages, from a later one on
pub room-later : {c : Content} {first pages later fewer : ℕ} → HasRoom first pages c → first ≤ later → fewer ≤ pages → HasRoom later fewer c
room-later room behind less = record {
  store = room.store;
  absent = λ page past. room.absent page (omega arith);
  frames = let frames = room.frames in omega arith;
}

-- where there is room for a page a frame is free
pub room-free : {first pages : ℕ} (c : Content) → HasRoom first (suc pages) c → used_frames c < c.frames
room-free c room = let frames = room.frames in omega arith

-- the page where room begins is absent
pub room-lacks : {first pages : ℕ} {c : Content} → HasRoom first pages c → LacksPage process_region first c
room-lacks {first} room = record { store = room.store; absent = room.absent first (omega arith) }

-- there is room for one page less behind a page that was added
room-after : {first pages : ℕ} (c : Content) (rights : ℕ) (bytes : List ℕ) → HasRoom first (suc pages) c → HasRoom (first + 1) pages (with_new_page c process_region first rights bytes)
room-after {first} c rights bytes room = record {
  store = put-store c process_region first rights bytes room.store;
  absent = λ page past. put-elsewhere c process_region first rights bytes page (λ same. omega arith) room.store ∙ room.absent page (omega arith);
  frames = let frames = room.frames in let used = put-used c process_region first rights bytes in omega arith;
}

-- The pages of a segment, from its first on.
module _ (file : List ℕ) (segment : Segment) (c : Content) where
  -- behind so many there is room for the others
  pub room-behind : (n more : ℕ) → HasRoom (first_page segment) (n + more) c → HasRoom (first_page segment + n) more (with_pages file segment c n)
  unfolding with_pages
  room-behind zero more room = room-later room (omega arith) (omega arith)
  room-behind (suc n) more room =
      let before : HasRoom (first_page segment + n) (suc more) (with_pages file segment c n) = room-behind n (suc more) (room-later room (omega arith) (omega arith)) in
      room-later (room-after (with_pages file segment c n) segment.rights (page_part file segment n) before) (omega arith) (omega arith)

  -- also for the next one
  pub room-next : {pages : ℕ} (n : ℕ) → n < pages → HasRoom (first_page segment) pages c → HasRoom (first_page segment + n) 1 (with_pages file segment c n)
  room-next n below room = room-behind n 1 (room-later room (omega arith) (omega arith))

  -- which is added
  pub next-added : {pages : ℕ} (n : ℕ) → n < pages → HasRoom (first_page segment) pages c
      → (add_page_of (with_pages file segment c n) process_region (first_page segment + n) segment.rights (page_part file segment n)).after ≡ with_pages file segment c (n + 1)
  unfolding with_pages
  next-added n below room =
      rw add-one (ap (λ (o : CallOutcome (Result (Unit {0}) NoFrame)). o.after)
      (added-free (with_pages file segment c n) process_region (first_page segment + n) segment.rights (page_part file segment n) (room-free (with_pages file segment c n) (room-next n below room))))
