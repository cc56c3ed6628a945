-- Several calls in a row.
use Rattle.std.specs.Prelude.{ℕ, zero, suc, Bool, true, false, ◌+◌, ◌*◌, ◌%◌, ◌^◌, Result, Ok, Err, is_ok, List, []}
use Rattle.cap_format.specs.Numbers.{page_bytes}
use Rattle.cap_format.specs.declared.cap.Cap.{Cap}
use Rattle.machine_types.specs.declared.touches.NoFrame.{NoFrame}
use Rattle.contents.specs.declared.refusal.Refusal.{Refusal}
use Rattle.contents.specs.declared.refusal.Refusal.TheVariants as refusal
use Rattle.contents.specs.Content.{Content, CallOutcome}
use Rattle.contents.specs.Accesses.{read_of, write_of}
use Rattle.contents.specs.Regions.{begin_of, add_page_of, seed_cap_of, fork_of}
use Rattle.contents.specs.Transfers.{covers_of, prepare_of}
use Rattle.machine_types.specs.declared.touches.Access.TheVariants.{Read}
use Rattle.machine_types.specs.declared.touches.Note.{Note}

-- a call on what another left, if that one answered Ok
abbrev pub then_on : {A B E : Type 0} → Content → Result A E → (Content → A → CallOutcome (Result B E)) → CallOutcome (Result B E)
then_on after (Err refused) next = record { answer = Err refused; after = after }
then_on after (Ok a) next = next after a

abbrev pub then_do : {A B E : Type 0} → CallOutcome (Result A E) → (Content → A → CallOutcome (Result B E)) → CallOutcome (Result B E)
then_do first next = then_on first.after first.answer next

abbrev pub as_refusal : Result (Unit {0}) NoFrame → Result (Unit {0}) Refusal
as_refusal (Ok done) = Ok tt
as_refusal (Err lack) = Err refusal.NoFrame

-- The number at one place is added to that at another, and then the region is forked.
abbrev pub add_and_fork_of : Content → ℕ → ℕ → ℕ → ℕ → CallOutcome (Result (Unit {0}) Refusal)
add_and_fork_of c region from to child =
    then_do (read_of c region from 8) (λ d first.
    then_do (read_of d region to 8) (λ e second.
    then_do (write_of e region to 8 ((first.0 + second.0) % 2 ^ 64)) (λ f note.
    record { answer = as_refusal (fork_of f region child).answer; after = (fork_of f region child).after })))

-- The touches for a read of bytes, if they are covered: whether the bytes can be read, and what is left.
abbrev pub made_fit : Bool → Content → CallOutcome (Result (List Note) NoFrame) → CallOutcome Bool
made_fit false c prepared = record { answer = false; after = c }
made_fit true c prepared = record { answer = is_ok prepared.answer; after = prepared.after }

abbrev pub take_bytes_of : Content → ℕ → ℕ → ℕ → CallOutcome Bool
take_bytes_of c region at n = made_fit (covers_of c region at n Read) c (prepare_of c region at n Read)

-- So many empty pages are added, from page 0 on. The first that finds no frame ends it, and the earlier ones stay.
unfoldable pub add_pages_of : Content → ℕ → ℕ → ℕ → CallOutcome (Result (Unit {0}) NoFrame)
add_pages_of c region rights zero = record { answer = Ok tt; after = c }
add_pages_of c region rights (suc n) = then_do (add_pages_of c region rights n) (λ d done. add_page_of d region n rights [])

-- a granule is stored at the front of each of so many pages
unfoldable pub seed_pages_of : Content → ℕ → Cap → ℕ → Content
seed_pages_of c region cap zero = c
seed_pages_of c region cap (suc n) = seed_cap_of (seed_pages_of c region cap n) region (n * page_bytes) cap

abbrev pub seed_if : Content → Result (Unit {0}) NoFrame → ℕ → Cap → ℕ → Content
seed_if after (Err lack) region cap pages = after
seed_if after (Ok done) region cap pages = seed_pages_of after region cap pages

-- A region begins with so many pages, each with this granule at its front.
abbrev pub fill_region_of : Content → ℕ → ℕ → ℕ → Cap → CallOutcome (Result (Unit {0}) NoFrame)
fill_region_of c region pages rights cap =
    let added = add_pages_of (begin_of c region) region rights pages in
    record { answer = added.answer; after = seed_if added.after added.answer region cap pages }
