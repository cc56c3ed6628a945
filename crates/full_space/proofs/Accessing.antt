-- What an access comes to in a space of whole copies, by what it finds in the page table.
use Rattle.std.proofs.Common.{◌≡◌, ◌∙◌, ℕ, Bool, true, false, cond, Option, Some, None, Result, Ok, Err, List, refl, ap, slice_set}
use Rattle.std.specs.Option.{option_map}
use Rattle.cap_format.specs.declared.cap.Cap.{Cap}
use Rattle.machine_types.specs.declared.touches.Access.{Access}
use Rattle.machine_types.specs.declared.touches.Access.TheVariants.{Read, Write, Fetch}
use Rattle.machine_types.specs.declared.touches.Note.{Note}
use Rattle.machine_types.specs.Granules.{granule, is_tagged, number_at, with_number}
use Rattle.machine_types.specs.Rights.{is_allowed}
use Rattle.tagged_memory.specs.Frames.{frame}
use Rattle.page_table.specs.declared.table.Entry.{Entry}
use Rattle.contents.specs.declared.refusal.Refusal.{Refusal}
use Rattle.contents.specs.declared.refusal.Refusal.TheVariants.{NoRight}
use Rattle.contents.specs.Content.{Content, CallOutcome, with_granules}
use Rattle.contents.specs.Accesses.{untouched, note_of, Reached, noted, reach, reach_in, load_from, store_to, page_of_place, byte_of_place, granule_of_place, read_of, read_cap_of, fetch_of, write_of, write_cap_of}
use Rattle.stores.specs.Entered.{entry_for}
use Rattle.full_space.specs.declared.space.FullSpace.{FullSpace}
use Rattle.full_space.specs.Full.{FullStands}
use Rattle.full_space.proofs.OwnPages.{page_of_entry, page-is}
use Rattle.full_space.proofs.Untouched.{note_of-full}

-- what is reached in a content, by what is found in the table
abbrev pub reached : List (List Cap) → Result Entry Refusal → Result Reached Refusal
reached memory (Err refusal) = Err refusal
reached memory (Ok e) = Ok (record { page = page_of_entry memory e; note = untouched })

-- a load answers what the frame holds, and leaves the content
abbrev pub loaded : {A : Type 0} → Content → (List Cap → A) → List (List Cap) → Result Entry Refusal → CallOutcome (Result (A × Note) Refusal)
loaded c value memory (Err refusal) = record { answer = Err refusal; after = c }
loaded c value memory (Ok e) = record { answer = Ok (value (frame memory e.frame.0), untouched); after = c }

-- a store changes the page
abbrev pub stored : Content → ℕ → ℕ → (List Cap → List Cap) → Result Entry Refusal → CallOutcome (Result Note Refusal)
stored c region page change (Err refusal) = record { answer = Err refusal; after = c }
stored c region page change (Ok e) = record { answer = Ok untouched; after = with_granules c region page change }

-- an entry that was found is there
pub found-there : (access : Access) (o : Option Entry) (e : Entry) → Ok e ≡ entry_for access o → o ≡ Some e
found-there access None e found = absurd (cc)
found-there access (Some d) e found = by (is_allowed access d.rights) found
  where
    by : (b : Bool) → Ok e ≡ cond {A = Result Entry Refusal} b (Ok d) (Err NoRight) → Some d ≡ Some e
    by true found = cc
    by false found = absurd (cc)

-- A space that stands for a content.
module _ (space : FullSpace) (c : Content) (stands : FullStands space c) (region at : ℕ) where
  -- what is found for an access
  abbrev found : Access → Result Entry Refusal
  found access = entry_for access (space.board.table.entries region (page_of_place at))

  -- decides what it reaches
  reach-is : (access : Access) → reach c access region at ≡ reached space.board.memory (found access)
  reach-is access = ap (reach_in c access region at) (page-is space.board c space.own stands.board region (page_of_place at)) ∙ by (space.board.table.entries region (page_of_place at))
    where
      by-right : (e : Entry) (b : Bool)
          → cond b (noted (page_of_entry space.board.memory e) (note_of c access region (page_of_place at) (is_tagged (frame space.board.memory e.frame.0) (granule_of_place at)))) (Err NoRight)
          ≡ reached space.board.memory (cond b (Ok e) (Err NoRight))
      by-right e true = ap (noted (page_of_entry space.board.memory e)) (note_of-full c access region (page_of_place at) (is_tagged (frame space.board.memory e.frame.0) (granule_of_place at)) stands.rule)
      by-right e false = refl

      by : (o : Option Entry) → reach_in c access region at (option_map (page_of_entry space.board.memory) o) ≡ reached space.board.memory (entry_for access o)
      by None = refl
      by (Some e) = by-right e (is_allowed access e.rights)

  load-is : {A : Type 0} (access : Access) (value : List Cap → A) → load_from c region value (reach c access region at) ≡ loaded c value space.board.memory (found access)
  load-is {A} access value = ap (load_from c region value) (reach-is access) ∙ by (found access)
    where
      by : (r : Result Entry Refusal) → load_from c region value (reached space.board.memory r) ≡ loaded c value space.board.memory r
      by (Err refusal) = refl
      by (Ok e) = refl

  store-is : (change : List Cap → List Cap) → store_to c region at change (reach c Write region at) ≡ stored c region (page_of_place at) change (found Write)
  store-is change = ap (store_to c region at change) (reach-is Write) ∙ by (found Write)
    where
      by : (r : Result Entry Refusal) → store_to c region at change (reached space.board.memory r) ≡ stored c region (page_of_place at) change r
      by (Err refusal) = refl
      by (Ok e) = refl

  pub read-is : (size : ℕ) → read_of c region at size ≡ loaded c (λ granules. number_at granules (byte_of_place at) size) space.board.memory (found Read)
  unfolding read_of
  read-is size = load-is Read (λ granules. number_at granules (byte_of_place at) size)

  pub read_cap-is : read_cap_of c region at ≡ loaded c (λ granules. granule granules (granule_of_place at)) space.board.memory (found Read)
  unfolding read_cap_of
  read_cap-is = load-is Read (λ granules. granule granules (granule_of_place at))

  pub fetch-is : fetch_of c region at ≡ loaded c (λ granules. number_at granules (byte_of_place at) 4) space.board.memory (found Fetch)
  unfolding fetch_of
  fetch-is = load-is Fetch (λ granules. number_at granules (byte_of_place at) 4)

  pub write-is : (size v : ℕ) → write_of c region at size v ≡ stored c region (page_of_place at) (λ granules. with_number granules (byte_of_place at) size v) (found Write)
  unfolding write_of
  write-is size v = store-is (λ granules. with_number granules (byte_of_place at) size v)

  pub write_cap-is : (cap : Cap) → write_cap_of c region at cap ≡ stored c region (page_of_place at) (λ granules. slice_set granules (granule_of_place at) cap) (found Write)
  unfolding write_cap_of
  write_cap-is cap = store-is (λ granules. slice_set granules (granule_of_place at) cap)

-- a load leaves the content, whatever it found
pub loaded-after : {A : Type 0} (c : Content) (value : List Cap → A) (memory : List (List Cap)) (r : Result Entry Refusal) → (loaded c value memory r).after ≡ c
loaded-after c value memory (Err refusal) = refl
loaded-after c value memory (Ok e) = refl
