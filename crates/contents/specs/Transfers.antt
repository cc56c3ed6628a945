-- Transfers of bytes between the kernel and a store, over the pages that they lie on.
use Rattle.std.specs.Prelude.{ℕ, zero, suc, Bool, true, false, ◌+◌, ◌-◌, ◌&&◌, ◌||◌, nat_le, if◌then◌else◌, Option, Some, None, Result, Ok, Err, List, [], ◌∷◌, ◌++◌}
use Rattle.cap_format.specs.Numbers.{page_bytes}
use Rattle.machine_types.specs.declared.touches.Access.{Access}
use Rattle.machine_types.specs.declared.touches.Note.{Note}
use Rattle.machine_types.specs.declared.touches.NoFrame.{NoFrame}
use Rattle.machine_types.specs.declared.touches.Touched.{Touched}
use Rattle.machine_types.specs.declared.touches.Touched.TheVariants.{No, Copied, Moved}
use Rattle.machine_types.specs.Granules.{is_tagged, number_at, with_number}
use Rattle.machine_types.specs.Stores.{Page}
use Rattle.machine_types.specs.Rights.{is_allowed}
use Rattle.contents.specs.Content.{Content, CallOutcome, page_at, with_granules}
use Rattle.contents.specs.Accesses.{untouched, note_of, touched, page_of_place, byte_of_place, granule_of_place}

-- the page is there, with the right for the access
abbrev pub may_access : Access → Option Page → Bool
may_access access None = false
may_access access (Some p) = is_allowed access p.rights

-- every page under the bytes is there with the right
unfoldable pub covers_of : Content → ℕ → ℕ → ℕ → Access → Bool
covers_of c region at zero access = true
covers_of c region at (suc n) access = may_access access (page_at c region (page_of_place at)) && covers_of c region (at + 1) n access

-- the byte at a place lies in a tagged granule
abbrev pub tagged_in : Option Page → ℕ → Bool
tagged_in None at = false
tagged_in (Some p) at = is_tagged p.granules (granule_of_place at)

-- so many bytes from a place on overlap a tagged granule
unfoldable pub overlaps_tag : Content → ℕ → ℕ → ℕ → Bool
overlaps_tag c region at zero = false
overlaps_tag c region at (suc n) = tagged_in (page_at c region (page_of_place at)) at || overlaps_tag c region (at + 1) n

-- the bytes of a transfer that lie on one page
pub record Piece : Type 0 where
  pub at : ℕ
  pub count : ℕ

-- Up to 4096 bytes lie on one page or on two.
abbrev pub pieces_of : ℕ → ℕ → List Piece
pieces_of at n =
    let room = page_bytes - byte_of_place at in
    if nat_le n room
    then record { at = at; count = n } ∷ []
    else record { at = at; count = room } ∷ record { at = at + room; count = n - room } ∷ []

-- the touches that were made, in order
abbrev pub made_with : List Note → Note → Touched → List Note
made_with made note No = made
made_with made note Copied = made ++ (note ∷ [])
made_with made note Moved = made ++ (note ∷ [])

abbrev pub first_or_none : List Note → Note
first_or_none [] = untouched
first_or_none (note ∷ notes) = note

-- those notes, and then none, in two places
abbrev pub two_notes : List Note → List Note
two_notes [] = untouched ∷ untouched ∷ []
two_notes (note ∷ notes) = note ∷ first_or_none notes ∷ []

-- one touch, and then the rest on what it leaves; where it finds no frame the earlier touches stay
abbrev pub prepare_next : ℕ → Content → List Note → (Content → List Note → CallOutcome (Result (List Note) NoFrame)) → Option Note → CallOutcome (Result (List Note) NoFrame)
prepare_next region c made rest None = record { answer = Err (record { before = first_or_none made }); after = c }
prepare_next region c made rest (Some note) = rest (touched c region note) (made_with made note note.touched)

-- the touches of pieces in their order, after those that were made
abbrev pub prepare_pieces : ℕ → Access → List Piece → Content → List Note → CallOutcome (Result (List Note) NoFrame)
prepare_pieces region access [] c made = record { answer = Ok (two_notes made); after = c }
prepare_pieces region access (piece ∷ pieces) c made =
    prepare_next region c made (prepare_pieces region access pieces)
    (note_of c access region (page_of_place piece.at) (overlaps_tag c region piece.at piece.count))

-- the touches of a transfer, the lowest page first
unfoldable pub prepare_of : Content → ℕ → ℕ → ℕ → Access → CallOutcome (Result (List Note) NoFrame)
prepare_of c region at n access = prepare_pieces region access (pieces_of at n) c []

-- the byte at a place, and 0 where there is no page
abbrev pub byte_in : Option Page → ℕ → ℕ
byte_in None at = 0
byte_in (Some p) at = number_at p.granules (byte_of_place at) 1

-- so many bytes from a place on
unfoldable pub read_bytes_of : Content → ℕ → ℕ → ℕ → List ℕ
read_bytes_of c region at zero = []
read_bytes_of c region at (suc n) = byte_in (page_at c region (page_of_place at)) at ∷ read_bytes_of c region (at + 1) n

-- Bytes are stored from a place on. The tags of the granules that they overlap are cleared.
unfoldable pub write_bytes_of : Content → ℕ → ℕ → List ℕ → Content
write_bytes_of c region at [] = c
write_bytes_of c region at (byte ∷ bytes) =
    write_bytes_of (with_granules c region (page_of_place at) (λ granules. with_number granules (byte_of_place at) 1 byte)) region (at + 1) bytes
