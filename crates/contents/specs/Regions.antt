-- What begins and ends stores, gives them pages, and copies them.
use Rattle.std.specs.Prelude.{ℕ, if◌then◌else◌, Option, Some, None, Result, Ok, Err, List, [], ◌∷◌, ◌++◌, slice_set}
use Rattle.std.specs.Option.{option_map}
use Rattle.cap_format.specs.declared.cap.Cap.{Cap}
use Rattle.machine_types.specs.declared.touches.NoFrame.{NoFrame}
use Rattle.machine_types.specs.Stores.{Store, empty_store, page_of_bytes, moved_store, page_numbers}
use Rattle.machine_types.specs.Accounts.{Class, class_for, account_at_fork, account_at_end}
use Rattle.contents.specs.Content.{Content, CallOutcome, free_frames, is_full, with_account, with_store, with_page, with_granules}
use Rattle.contents.specs.Accesses.{untouched, page_of_place, granule_of_place}

-- a frame is wanted, and no touch was made before in the call
abbrev pub no_frame : NoFrame
no_frame = record { before = untouched }

-- an empty store
unfoldable pub begin_of : Content → ℕ → Content
begin_of c region = with_store c region (Some empty_store)

-- the store and its members go
unfoldable pub end_of : Content → ℕ → Content
end_of c region = with_account (with_store c region None) (account_at_end region c.account)

-- a page more, with these bytes and then zeros, in a new class with this home
abbrev pub with_new_page : Content → ℕ → ℕ → ℕ → List ℕ → Content
with_new_page c region page rights bytes = with_account (with_page c region page (page_of_bytes rights bytes)) (c.account ++ (class_for region page ∷ []))

-- where a frame is free
unfoldable pub add_page_of : Content → ℕ → ℕ → ℕ → List ℕ → CallOutcome (Result (Unit {0}) NoFrame)
add_page_of c region page rights bytes =
    if is_full c
    then record { answer = Err no_frame; after = c }
    else record { answer = Ok tt; after = with_new_page c region page rights bytes }

-- a granule is stored, whatever the rights
unfoldable pub seed_cap_of : Content → ℕ → ℕ → Cap → Content
seed_cap_of c region at cap = with_granules c region (page_of_place at) (λ granules. slice_set granules (granule_of_place at) cap)

-- the page numbers of a region, in rising order
abbrev pub numbers_in : Option Store → List ℕ
numbers_in None = []
numbers_in (Some store) = page_numbers store

abbrev pub fork_with : Content → ℕ → ℕ → Option (List Class) → CallOutcome (Result (Unit {0}) NoFrame)
fork_with c from to None = record { answer = Err no_frame; after = c }
fork_with c from to (Some account) = record {
  answer = Ok tt;
  after = with_account (with_store c to (option_map (moved_store from to) (c.stores from))) account;
}

-- the store of the child is that of the parent, moved
unfoldable pub fork_of : Content → ℕ → ℕ → CallOutcome (Result (Unit {0}) NoFrame)
fork_of c from to = fork_with c from to (account_at_fork c.rule (free_frames c) c.account from to (numbers_in (c.stores from)))
