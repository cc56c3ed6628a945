-- Laws of touches: which page is touched, by which access, and what that leaves.
use Rattle.std.specs.Prelude.{ℕ, ◌≡◌, ◌≢◌, ◌≤◌, ◌<◌, ◌+◌, ◌↔◌, ◌⊎◌, true, false, Some, Result, Ok, Err, List, [], ◌∷◌}
use Rattle.cap_format.specs.declared.cap.Cap.{Cap}
use Rattle.machine_types.specs.declared.config.Rule.TheVariants as rule
use Rattle.machine_types.specs.declared.touches.Access.{Access}
use Rattle.machine_types.specs.declared.touches.Access.TheVariants.{Read, Write, Fetch}
use Rattle.machine_types.specs.declared.touches.Note.{Note}
use Rattle.machine_types.specs.declared.touches.NoFrame.{NoFrame}
use Rattle.machine_types.specs.declared.touches.Touched.TheVariants.{No, Copied, Moved}
use Rattle.machine_types.specs.Accounts.{Class, has_member}
use Rattle.contents.specs.declared.refusal.Refusal.{Refusal}
use Rattle.contents.specs.Numbers.{most_transfer}
use Rattle.contents.specs.Content.{Content, class_at, used_frames}
use Rattle.contents.specs.Accesses.{untouched, page_of_place, touched, read_of, read_cap_of, fetch_of, write_of, write_cap_of}
use Rattle.contents.specs.Transfers.{prepare_of}
use Rattle.contents.specs.Looks.{Standing, standing_of}
use Rattle.contents.specs.Conditions.{IsPrepared}
use Rattle.contents.specs.Reading.{seen, tag_seen}
use Rattle.contents.specs.Laws.{frames_for}
use Rattle.contents.specs.Whole.{IsWhole}

-- the notes of an answer
abbrev pub notes_of_load : {A : Type 0} → Result (A × Note) Refusal → List Note
notes_of_load (Ok a) = a.1 ∷ []
notes_of_load (Err refusal) = []

abbrev pub notes_of_store : Result Note Refusal → List Note
notes_of_store (Ok note) = note ∷ []
notes_of_store (Err refusal) = []

abbrev pub notes_of_transfer : Result (List Note) NoFrame → List Note
notes_of_transfer (Ok notes) = notes
notes_of_transfer (Err refused) = refused.before ∷ []

-- How the page at a place stands before and after an access that was made with this note.
pub record WasTouched (c after : Content) (access : Access) (region at : ℕ) (note : Note) : Type 0 where
  pub before : Standing
  pub there : standing_of c region (page_of_place at) ≡ Some before
  pub cap : Cap
  pub granule : seen c region at ≡ Some cap
  -- Under `full` nothing is touched, and a page that is alone and at home never is.
  pub full : c.rule ≡ rule.Full → note ≡ untouched
  pub fit : before.home ≡ true → before.alone ≡ true → note ≡ untouched
  -- Under the other rules a store touches where the page isn't alone or isn't at home.
  pub stores : c.rule ≢ rule.Full → access ≡ Write → (note.touched ≢ No) ↔ ((before.alone ≡ false) ⊎ (before.home ≡ false))
  -- Any other access touches where the page isn't at home, and under `pointer` only if its bytes overlap a tagged granule.
  pub loads : c.rule ≡ rule.Access → access ≢ Write → (note.touched ≢ No) ↔ (before.home ≡ false)
  pub pointers : c.rule ≡ rule.Pointer → access ≢ Write → (note.touched ≢ No) ↔ ((before.home ≡ false) × (cap.tag ≡ true))
  -- A page that is alone moves, and one of several is copied; the note names the page.
  pub moved : note.touched ≢ No → before.alone ≡ true → note ≡ record { page = page_of_place at; touched = Moved }
  pub copied : note.touched ≢ No → before.alone ≡ false → note ≡ record { page = page_of_place at; touched = Copied }
  pub none : note.touched ≡ No → note ≡ untouched
  -- The account is what this touch makes of it, and nothing else changed in it.
  pub made : after.account ≡ (touched c region note).account
  -- A copy uses one frame more, and a move none. A page that was touched is alone and at home with its rights, and so is
  -- one that was written to; one that was not stands as before.
  pub used : used_frames after ≡ used_frames c + frames_for note.touched
  pub touched : note.touched ≢ No → standing_of after region (page_of_place at) ≡ Some (record { rights = before.rights; home = true; alone = true })
  pub written : c.rule ≢ rule.Full → access ≡ Write → standing_of after region (page_of_place at) ≡ Some (record { rights = before.rights; home = true; alone = true })
  pub stays : note.touched ≡ No → standing_of after region (page_of_place at) ≡ Some before

-- Each access that is Ok names the touch that it made.
pub record TouchesAreNamed : Type 0 where
  pub read : (c : Content) (region at size : ℕ) (answer : ℕ × Note) → IsWhole c → (read_of c region at size).answer ≡ Ok answer → WasTouched c (read_of c region at size).after Read region at answer.1
  pub read_cap : (c : Content) (region at : ℕ) (answer : Cap × Note) → IsWhole c → (read_cap_of c region at).answer ≡ Ok answer → WasTouched c (read_cap_of c region at).after Read region at answer.1
  pub fetch : (c : Content) (region at : ℕ) (answer : ℕ × Note) → IsWhole c → (fetch_of c region at).answer ≡ Ok answer → WasTouched c (fetch_of c region at).after Fetch region at answer.1
  pub write : (c : Content) (region at size v : ℕ) (note : Note) → IsWhole c → (write_of c region at size v).answer ≡ Ok note → WasTouched c (write_of c region at size v).after Write region at note
  pub write_cap : (c : Content) (region at : ℕ) (cap : Cap) (note : Note) → IsWhole c → (write_cap_of c region at cap).answer ≡ Ok note → WasTouched c (write_cap_of c region at cap).after Write region at note

-- A touch leaves the class of each page that doesn't share with the touched one, its home too.
abbrev pub TouchesLeaveOthers : Type 0
TouchesLeaveOthers = (c : Content) (region : ℕ) (note : Note) (r p : ℕ) (class : Class) → class_at c r p ≡ Some class → has_member region note.page class ≡ false → class_at (touched c region note) r p ≡ Some class

-- The page of a note lies under one of so many bytes.
pub record LiesUnder (at n : ℕ) (note : Note) : Type 0 where
  pub byte : ℕ
  pub within : byte < n
  pub page : note.page ≡ page_of_place (at + byte)

-- What `prepare` answers are the touches that it made, of pages under the bytes, the lowest first, and then none.
pub record WerePrepared (c after : Content) (region at n : ℕ) (first second : Note) : Type 0 where
  pub made : after ≡ touched (touched c region first) region second
  pub first_under : first.touched ≢ No → LiesUnder at n first
  pub second_under : second.touched ≢ No → LiesUnder at n second
  pub rising : second.touched ≢ No → (first.touched ≢ No) × (first.page < second.page)
  pub first_none : first.touched ≡ No → first ≡ untouched
  pub second_none : second.touched ≡ No → second ≡ untouched

-- What a transfer of one byte or more answers, and that one of pages that are fit touches nothing.
pub record PreparedTouchesAreNamed : Type 0 where
  pub named : (c : Content) (region at n : ℕ) (access : Access) (notes : List Note) → 1 ≤ n → (prepare_of c region at n access).answer ≡ Ok notes
      → (first : Note) × (second : Note) × (notes ≡ first ∷ second ∷ []) × WerePrepared c (prepare_of c region at n access).after region at n first second
  pub refused : (c : Content) (region at n : ℕ) (access : Access) (refused : NoFrame) → (prepare_of c region at n access).answer ≡ Err refused
      → WerePrepared c (prepare_of c region at n access).after region at n refused.before untouched × (used_frames (prepare_of c region at n access).after ≡ c.frames)
  pub fit : (c : Content) (region at n : ℕ) (access : Access) → 1 ≤ n → n ≤ most_transfer → IsPrepared region at n access c → (prepare_of c region at n access).answer ≡ Ok (untouched ∷ untouched ∷ [])
  pub full : (c : Content) (region at n : ℕ) (access : Access) → c.rule ≡ rule.Full → (prepare_of c region at n access).answer ≡ Ok (untouched ∷ untouched ∷ [])

-- A byte of a transfer that lies on the page lies in a granule that `peek` shows tagged.
pub record OverlapsTag (c : Content) (region at n page : ℕ) : Type 0 where
  pub byte : ℕ
  pub within : byte < n
  pub on_page : page_of_place (at + byte) ≡ page
  pub tag : tag_seen c region (at + byte) ≡ Some true

-- Why a touch of a transfer was made. The page wasn't at home, or a write came to one that wasn't alone; and under `pointer` a
-- load touches only where its bytes overlap a tag. One that was alone moved, and one of several was copied.
pub record WasNeeded (c : Content) (access : Access) (region at n : ℕ) (note : Note) : Type 0 where
  pub before : Standing
  pub there : standing_of c region note.page ≡ Some before
  pub unfit : (before.home ≡ false) ⊎ ((access ≡ Write) × (before.alone ≡ false))
  pub pointers : c.rule ≡ rule.Pointer → access ≢ Write → OverlapsTag c region at n note.page
  pub moved : before.alone ≡ true → note.touched ≡ Moved
  pub copied : before.alone ≡ false → note.touched ≡ Copied

-- Each touch of a transfer was needed when it came: the first in the content before, and the second in what the first left.
abbrev pub PreparedTouchesAreNeeded : Type 0
PreparedTouchesAreNeeded = (c : Content) (region at n : ℕ) (access : Access) (first second : Note) → IsWhole c → 1 ≤ n → n ≤ most_transfer
    → (prepare_of c region at n access).answer ≡ Ok (first ∷ second ∷ [])
    → (first.touched ≢ No → WasNeeded c access region at n first) × (second.touched ≢ No → WasNeeded (touched c region first) access region at n second)

-- A page under the bytes needs a copy, and all frames are used.
pub record WantsFrame (c : Content) (access : Access) (region at n : ℕ) : Type 0 where
  pub byte : ℕ
  pub within : byte < n
  pub before : Standing
  pub there : standing_of c region (page_of_place (at + byte)) ≡ Some before
  pub shared : before.alone ≡ false
  pub unfit : (before.home ≡ false) ⊎ (access ≡ Write)
  pub pointers : c.rule ≡ rule.Pointer → access ≢ Write → OverlapsTag c region at n (page_of_place (at + byte))
  pub full : used_frames c ≡ c.frames

-- A transfer is refused only where a page needs a copy in what the touch before left, and that touch was needed.
abbrev pub PreparedRefusalsAreNeeded : Type 0
PreparedRefusalsAreNeeded = (c : Content) (region at n : ℕ) (access : Access) (refused : NoFrame) → IsWhole c → 1 ≤ n → n ≤ most_transfer → (prepare_of c region at n access).answer ≡ Err refused
    → WantsFrame (prepare_of c region at n access).after access region at n × (refused.before.touched ≢ No → WasNeeded c access region at n refused.before)
