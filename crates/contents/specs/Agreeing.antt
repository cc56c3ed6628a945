-- Laws of contents that are alike: the copy rules agree where none lacks a frame, and the own store decides.
use Rattle.std.specs.Prelude.{ℕ, ◌≡◌, ◌≢◌, Result, Ok, Err, IsOk, List}
use Rattle.cap_format.specs.declared.cap.Cap.{Cap}
use Rattle.machine_types.specs.declared.touches.Access.{Access}
use Rattle.machine_types.specs.declared.touches.Note.{Note}
use Rattle.contents.specs.declared.refusal.Refusal.{Refusal}
use Rattle.contents.specs.declared.refusal.Refusal.TheVariants.{NoFrame}
use Rattle.contents.specs.Content.{Content}
use Rattle.contents.specs.Accesses.{read_of, read_cap_of, fetch_of, write_of, write_cap_of}
use Rattle.contents.specs.Regions.{begin_of, end_of, add_page_of, seed_cap_of, fork_of}
use Rattle.contents.specs.Transfers.{covers_of, prepare_of, read_bytes_of, write_bytes_of}
use Rattle.contents.specs.Looks.{peek_of, rights_of}

-- the same stores, whatever the rule, the account and the number of frames
abbrev pub HaveSameStores : Content → Content → Type 0
HaveSameStores c d = (region : ℕ) → d.stores region ≡ c.stores region

-- what a load answers, without its note
abbrev pub value_of : {A : Type 0} → Result (A × Note) Refusal → Result A Refusal
value_of (Ok a) = Ok a.0
value_of (Err refusal) = Err refusal

-- whether a store was made, without its note
abbrev pub done_of : Result Note Refusal → Result (Unit {0}) Refusal
done_of (Ok note) = Ok tt
done_of (Err refusal) = Err refusal

-- Two contents with the same stores, of any rules and accounts, give the same values and the same stores again, where
-- neither lacks a frame.
pub record RulesAgree : Type 0 where
  pub begin : (c d : Content) (region : ℕ) → HaveSameStores c d → HaveSameStores (begin_of c region) (begin_of d region)
  pub end : (c d : Content) (region : ℕ) → HaveSameStores c d → HaveSameStores (end_of c region) (end_of d region)
  pub add_page : (c d : Content) (region page rights : ℕ) (bytes : List ℕ) → HaveSameStores c d → IsOk (add_page_of c region page rights bytes).answer → IsOk (add_page_of d region page rights bytes).answer
      → HaveSameStores (add_page_of c region page rights bytes).after (add_page_of d region page rights bytes).after
  pub seed_cap : (c d : Content) (region at : ℕ) (cap : Cap) → HaveSameStores c d → HaveSameStores (seed_cap_of c region at cap) (seed_cap_of d region at cap)
  pub read : (c d : Content) (region at size : ℕ) → HaveSameStores c d → (read_of c region at size).answer ≢ Err NoFrame → (read_of d region at size).answer ≢ Err NoFrame
      → (value_of (read_of d region at size).answer ≡ value_of (read_of c region at size).answer) × HaveSameStores (read_of c region at size).after (read_of d region at size).after
  pub read_cap : (c d : Content) (region at : ℕ) → HaveSameStores c d → (read_cap_of c region at).answer ≢ Err NoFrame → (read_cap_of d region at).answer ≢ Err NoFrame
      → (value_of (read_cap_of d region at).answer ≡ value_of (read_cap_of c region at).answer) × HaveSameStores (read_cap_of c region at).after (read_cap_of d region at).after
  pub fetch : (c d : Content) (region at : ℕ) → HaveSameStores c d → (fetch_of c region at).answer ≢ Err NoFrame → (fetch_of d region at).answer ≢ Err NoFrame
      → (value_of (fetch_of d region at).answer ≡ value_of (fetch_of c region at).answer) × HaveSameStores (fetch_of c region at).after (fetch_of d region at).after
  pub write : (c d : Content) (region at size v : ℕ) → HaveSameStores c d → (write_of c region at size v).answer ≢ Err NoFrame → (write_of d region at size v).answer ≢ Err NoFrame
      → (done_of (write_of d region at size v).answer ≡ done_of (write_of c region at size v).answer) × HaveSameStores (write_of c region at size v).after (write_of d region at size v).after
  pub write_cap : (c d : Content) (region at : ℕ) (cap : Cap) → HaveSameStores c d → (write_cap_of c region at cap).answer ≢ Err NoFrame → (write_cap_of d region at cap).answer ≢ Err NoFrame
      → (done_of (write_cap_of d region at cap).answer ≡ done_of (write_cap_of c region at cap).answer) × HaveSameStores (write_cap_of c region at cap).after (write_cap_of d region at cap).after
  pub prepare : (c d : Content) (region at n : ℕ) (access : Access) → HaveSameStores c d → HaveSameStores (prepare_of c region at n access).after (prepare_of d region at n access).after
  pub write_bytes : (c d : Content) (region at : ℕ) (bytes : List ℕ) → HaveSameStores c d → HaveSameStores (write_bytes_of c region at bytes) (write_bytes_of d region at bytes)
  pub fork : (c d : Content) (from to : ℕ) → HaveSameStores c d → IsOk (fork_of c from to).answer → IsOk (fork_of d from to).answer → HaveSameStores (fork_of c from to).after (fork_of d from to).after

-- What is covered, the bytes that are read, what `peek` shows and the rights depend on the region's own store alone.
pub record StoreDecidesLooks : Type 0 where
  pub covers : (c d : Content) (region at n : ℕ) (access : Access) → d.stores region ≡ c.stores region → covers_of d region at n access ≡ covers_of c region at n access
  pub read_bytes : (c d : Content) (region at n : ℕ) → d.stores region ≡ c.stores region → read_bytes_of d region at n ≡ read_bytes_of c region at n
  pub peek : (c d : Content) (region page g : ℕ) → d.stores region ≡ c.stores region → peek_of d region page g ≡ peek_of c region page g
  pub rights : (c d : Content) (region page : ℕ) → d.stores region ≡ c.stores region → rights_of d region page ≡ rights_of c region page
