-- Laws of the account: which calls leave it, and that a touch leaves the classes of all other pages.
use Rattle.std.specs.Prelude.{ℕ, ◌≡◌, ◌≢◌, ◌⊎◌, Bool, Some, Ok, List, [], ◌∷◌, ◌++◌}
use Rattle.cap_format.specs.declared.cap.Cap.{Cap}
use Rattle.machine_types.specs.declared.touches.Access.{Access}
use Rattle.machine_types.specs.declared.touches.Note.{Note}
use Rattle.machine_types.specs.Accounts.{class_for}
use Rattle.contents.specs.Content.{Content}
use Rattle.contents.specs.Accesses.{note_of, touched}
use Rattle.contents.specs.Regions.{begin_of, add_page_of, seed_cap_of}
use Rattle.contents.specs.Transfers.{write_bytes_of}
use Rattle.contents.specs.Whole.{IsWhole}
use Rattle.contents.specs.Forking.{shares, home_of}

-- What neither touches, forks nor ends leaves the account, and a page that is added puts its class at the end.
pub record AccountsStay : Type 0 where
  pub begin : (c : Content) (region : ℕ) → (begin_of c region).account ≡ c.account
  pub seed_cap : (c : Content) (region at : ℕ) (cap : Cap) → (seed_cap_of c region at cap).account ≡ c.account
  pub write_bytes : (c : Content) (region at : ℕ) (bytes : List ℕ) → (write_bytes_of c region at bytes).account ≡ c.account
  pub add_page : (c : Content) (region page rights : ℕ) (bytes : List ℕ) → (add_page_of c region page rights bytes).answer ≡ Ok tt
      → (add_page_of c region page rights bytes).after.account ≡ c.account ++ (class_for region page ∷ [])

-- A touch of a page leaves the home of each other page, also of those that share with it, and whom they share with.
pub record OthersKeepTheirClass : Type 0 where
  pub homes : (c : Content) (access : Access) (region page : ℕ) (tagged : Bool) (note : Note) (r p : ℕ) → IsWhole c → note_of c access region page tagged ≡ Some note → (r ≢ region) ⊎ (p ≢ page)
      → home_of (touched c region note) r p ≡ home_of c r p
  pub sharing : (c : Content) (access : Access) (region page : ℕ) (tagged : Bool) (note : Note) (r p s q : ℕ) → IsWhole c → note_of c access region page tagged ≡ Some note
      → (r ≢ region) ⊎ (p ≢ page) → (s ≢ region) ⊎ (q ≢ page) → shares (touched c region note) r p s q ≡ shares c r p s q
