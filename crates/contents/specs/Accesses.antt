-- What an access to one page answers, and what it leaves.
use Rattle.std.specs.Prelude.{ℕ, Bool, ◌/◌, ◌%◌, if◌then◌else◌, Option, Some, None, Result, Ok, Err, List, slice_set}
use Rattle.std.specs.Option.{option_map}
use Rattle.cap_format.specs.Numbers.{page_bytes, granule_bytes}
use Rattle.cap_format.specs.declared.cap.Cap.{Cap}
use Rattle.machine_types.specs.declared.touches.Access.{Access}
use Rattle.machine_types.specs.declared.touches.Access.TheVariants.{Read, Write, Fetch}
use Rattle.machine_types.specs.declared.touches.Note.{Note}
use Rattle.machine_types.specs.declared.touches.Touched.TheVariants.{No}
use Rattle.machine_types.specs.Granules.{granule, is_tagged, number_at, with_number}
use Rattle.machine_types.specs.Stores.{Page}
use Rattle.machine_types.specs.Rights.{is_allowed}
use Rattle.machine_types.specs.Accounts.{Class}
use Rattle.machine_types.specs.Touches.{touches, outcome_of_touch, account_after}
use Rattle.contents.specs.declared.refusal.Refusal.{Refusal}
use Rattle.contents.specs.declared.refusal.Refusal.TheVariants.{NoPage, NoRight, NoFrame}
use Rattle.contents.specs.Content.{Content, CallOutcome, page_at, class_at, is_full, with_account, with_granules}

-- no page was touched
abbrev pub untouched : Note
untouched = record { page = 0; touched = No }

-- The note of an access to a page of the class. A page of no class is not touched. None: a touch finds no frame.
abbrev pub note_in : Content → Access → ℕ → ℕ → Bool → Option Class → Option Note
note_in c access region page tagged None = Some untouched
note_in c access region page tagged (Some class) =
    if touches c.rule access class region tagged
    then option_map (λ touched. record { page = page; touched = touched }) (outcome_of_touch (is_full c) class)
    else Some untouched

abbrev pub note_of : Content → Access → ℕ → ℕ → Bool → Option Note
note_of c access region page tagged = note_in c access region page tagged (class_at c region page)

-- the content after the touch of a note
abbrev pub touched : Content → ℕ → Note → Content
touched c region note = with_account c (account_after note.touched region note.page c.account)

-- the page that an access came to, and its touch
pub record Reached : Type 0 where
  pub page : Page
  pub note : Note

abbrev pub noted : Page → Option Note → Result Reached Refusal
noted p None = Err NoFrame
noted p (Some note) = Ok (record { page = p; note = note })

-- where a place of a region lies: its page, and its byte and its granule there
abbrev pub page_of_place : ℕ → ℕ
page_of_place at = at / page_bytes

abbrev pub byte_of_place : ℕ → ℕ
byte_of_place at = at % page_bytes

abbrev pub granule_of_place : ℕ → ℕ
granule_of_place at = at % page_bytes / granule_bytes

-- An access within one granule: first the page, then the right, then a frame where a touch needs one.
abbrev pub reach_in : Content → Access → ℕ → ℕ → Option Page → Result Reached Refusal
reach_in c access region at None = Err NoPage
reach_in c access region at (Some p) =
    if is_allowed access p.rights
    then noted p (note_of c access region (page_of_place at) (is_tagged p.granules (granule_of_place at)))
    else Err NoRight

abbrev pub reach : Content → Access → ℕ → ℕ → Result Reached Refusal
reach c access region at = reach_in c access region at (page_at c region (page_of_place at))

-- a load answers what the page holds, with the touch
abbrev pub load_from : {A : Type 0} → Content → ℕ → (List Cap → A) → Result Reached Refusal → CallOutcome (Result (A × Note) Refusal)
load_from c region value (Err refusal) = record { answer = Err refusal; after = c }
load_from c region value (Ok e) = record { answer = Ok (value e.page.granules, e.note); after = touched c region e.note }

-- a store changes the page after the touch
abbrev pub store_to : Content → ℕ → ℕ → (List Cap → List Cap) → Result Reached Refusal → CallOutcome (Result Note Refusal)
store_to c region at change (Err refusal) = record { answer = Err refusal; after = c }
store_to c region at change (Ok e) = record { answer = Ok e.note; after = with_granules (touched c region e.note) region (page_of_place at) change }

-- the number of so many bytes at a place
unfoldable pub read_of : Content → ℕ → ℕ → ℕ → CallOutcome (Result (ℕ × Note) Refusal)
read_of c region at size = load_from c region (λ granules. number_at granules (byte_of_place at) size) (reach c Read region at)

-- the granule at a place
unfoldable pub read_cap_of : Content → ℕ → ℕ → CallOutcome (Result (Cap × Note) Refusal)
read_cap_of c region at = load_from c region (λ granules. granule granules (granule_of_place at)) (reach c Read region at)

-- the four bytes of an instruction
unfoldable pub fetch_of : Content → ℕ → ℕ → CallOutcome (Result (ℕ × Note) Refusal)
fetch_of c region at = load_from c region (λ granules. number_at granules (byte_of_place at) 4) (reach c Fetch region at)

-- The low bytes of a number are stored. The tag of their granule is cleared.
unfoldable pub write_of : Content → ℕ → ℕ → ℕ → ℕ → CallOutcome (Result Note Refusal)
write_of c region at size v = store_to c region at (λ granules. with_number granules (byte_of_place at) size v) (reach c Write region at)

-- a granule is stored, with its tag
unfoldable pub write_cap_of : Content → ℕ → ℕ → Cap → CallOutcome (Result Note Refusal)
write_cap_of c region at cap = store_to c region at (λ granules. slice_set granules (granule_of_place at) cap) (reach c Write region at)
