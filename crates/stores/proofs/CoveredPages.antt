-- Bytes are covered where each page from that of the first byte to that of the last one may be accessed.
use Rattle.std.proofs.Common.{◌≡◌, ◌∙◌, ◌⊎◌, inl, inr, ℕ, ◌+◌, ◌-◌, ◌*◌, ◌/◌, ◌<◌, ◌≤◌, Bool, true, false, Option, Some, None, List, refl, ap, sym, subst, arith}
use Rattle.std.proofs.lemmas.Bool.{cases_lt}
use Rattle.cap_format.specs.Numbers.{page_bytes}
use Rattle.cap_format.specs.declared.cap.Cap.{Cap}
use Rattle.machine_types.specs.declared.touches.Access.{Access}
use Rattle.machine_types.specs.Stores.{Page}
use Rattle.machine_types.specs.Rights.{is_allowed}
use Rattle.frame_owners.specs.Homes.{Owner}
use Rattle.page_table.specs.declared.table.Entry.{Entry}
use Rattle.contents.specs.Content.{Content, page_at}
use Rattle.contents.specs.Accesses.{page_of_place}
use Rattle.contents.specs.Transfers.{may_access, covers_of}
use Rattle.contents.proofs.Covered.{covered-by-scan, scan-of-covered}
use Rattle.stores.specs.declared.board.Board.{Board}
use Rattle.stores.specs.Boards.{HasSamePage, Stands}
use Rattle.stores.specs.Entered.{entry_allows}

-- what holds of each page of some bytes holds of the page of each byte
bytes-from-pages : (P : ℕ → Type 0) (at n : ℕ) → ((page : ℕ) → at / page_bytes ≤ page → page < (at + n - 1) / page_bytes + 1 → P page) → (k : ℕ) → k < n → P (page_of_place (at + k))
bytes-from-pages P at n all k below = all (page_of_place (at + k)) (omega arith) (omega arith)

-- each page of some bytes is the page of one of them: of the first byte, or of its own first byte
pages-from-bytes : (P : ℕ → Type 0) (at n : ℕ) → 0 < n → ((k : ℕ) → k < n → P (page_of_place (at + k))) → (page : ℕ) → at / page_bytes ≤ page → page < (at + n - 1) / page_bytes + 1 → P page
pages-from-bytes P at n some all page from below = by (cases_lt at (page * page_bytes))
  where
    by : (at < page * page_bytes) ⊎ (page * page_bytes ≤ at) → P page
    by (inl past) = let here : page_of_place (at + (page * page_bytes - at)) ≡ page = omega arith in subst P here (all (page * page_bytes - at) (omega arith))
    by (inr within) = let here : page_of_place (at + 0) ≡ page = omega arith in subst P here (all 0 some)

-- an entry allows what its page does
may_access-entry_allows : (memory : List (List Cap)) (owners : List Owner) (region : ℕ) (access : Access) (o : Option Entry) (p : Option Page) → HasSamePage memory owners region o p
    → may_access access p ≡ entry_allows access o
may_access-entry_allows memory owners region access None None has = refl
may_access-entry_allows memory owners region access None (Some p) has = absurd has
may_access-entry_allows memory owners region access (Some e) None has = absurd has
may_access-entry_allows memory owners region access (Some e) (Some p) has = ap (is_allowed access) has.rights

-- a page of a content may be accessed exactly where its entry on a board that stands for the content allows it
pub access-allowed : (board : Board) (c : Content) (region page : ℕ) (access : Access) → Stands board c → may_access access (page_at c region page) ≡ entry_allows access (board.table.entries region page)
access-allowed board c region page access stands =
    may_access-entry_allows board.memory board.owners region access (board.table.entries region page) (page_at c region page) (stands.pages region page)

-- two tests that pass together are one
same-test : (a b : Bool) → (a ≡ true → b ≡ true) → (b ≡ true → a ≡ true) → a ≡ b
same-test true b to from = sym (to refl)
same-test false true to from = from refl
same-test false false to from = refl

-- no bytes are covered
pub covers_of-none : (c : Content) (region at n : ℕ) (access : Access) → n ≡ 0 → covers_of c region at n access ≡ true
unfolding covers_of
covers_of-none c region at n access none = rw none refl

-- An answer that is true exactly where each page of the bytes may be accessed says whether they are covered.
pub covers_of-pages : (board : Board) (c : Content) (region at n : ℕ) (access : Access) (answer : Bool) → Stands board c → 0 < n
    → (answer ≡ true → (page : ℕ) → at / page_bytes ≤ page → page < (at + n - 1) / page_bytes + 1 → entry_allows access (board.table.entries region page) ≡ true)
    → (((page : ℕ) → at / page_bytes ≤ page → page < (at + n - 1) / page_bytes + 1 → entry_allows access (board.table.entries region page) ≡ true) → answer ≡ true)
    → answer ≡ covers_of c region at n access
covers_of-pages board c region at n access answer stands some all none =
    same-test answer (covers_of c region at n access)
    (λ yes. scan-of-covered c region access at n (λ k below. bytes-from-pages (λ page. may_access access (page_at c region page) ≡ true) at n (λ page from past. access-allowed board c region page access stands ∙ all yes page from past) k below))
    (λ yes. none (λ page from past. sym (access-allowed board c region page access stands) ∙ pages-from-bytes (λ page. may_access access (page_at c region page) ≡ true) at n some (covered-by-scan c region access at n yes) page from past))
