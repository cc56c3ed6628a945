-- A page that is added to a store, in a frame that wasn't used.
use Rattle.std.proofs.Common.{◌≡◌, ◌≢◌, ◌∙◌, ◌⊎◌, inl, inr, ℕ, nat_eq, true, false, Option, Some, None, Ok, Err, List, [], ◌∷◌, ◌++◌, replicate, refl, ap, subst, arith}
use Rattle.std.specs.Prelude.{is_some, IsSome}
use Rattle.std.specs.Option.{option_map}
use Rattle.std.proofs.Math.Logic.{∥∥₁_elim}
use Rattle.std.proofs.Math.Bool.{Bool-set}
use Rattle.std.proofs.lemmas.Bool.Decides.{nat_tests}
use Rattle.cap_format.specs.Numbers.{page_granules}
use Rattle.cap_format.specs.Made.{null}
use Rattle.machine_types.specs.Granules.{with_bytes}
use Rattle.machine_types.specs.Stores.{Page, Store, changed, page_of_bytes}
use Rattle.machine_types.specs.Accounts.{class_for}
use Rattle.frame_pool.specs.Pool.{used_count}
use Rattle.page_table.specs.declared.table.Entry.{Entry}
use Rattle.contents.specs.Content.{Content, page_in, page_at, is_full, with_account, with_page}
use Rattle.contents.specs.Regions.{no_frame, add_page_of}
use Rattle.contents.specs.Conditions.{LacksPage}
use Rattle.contents.proofs.HeldGranules.{made-of}
use Rattle.contents.proofs.OtherStores.{changed-elsewhere, changed-there}
use Rattle.stores.specs.declared.board.Board.{Board}
use Rattle.stores.specs.Boards.{HasSamePage, Stands}
use Rattle.stores.specs.Known.{StandsFor}
use Rattle.stores.specs.Entered.{IsOutcomeOf}
use Rattle.stores.proofs.FramesShared.{none-from-HasSamePage}
use Rattle.stores.proofs.BoardPages.{is_full-taken}
use Rattle.stores.proofs.FrameSteps.{equal-or-not}
use Rattle.stores.proofs.NewPages.{HasNewFrame, HasNewPage, stands-new}

-- a page that is absent has no entry
pub entry-absent : (board : Board) (c : Content) (region page : ℕ) → Stands board c → page_at c region page ≡ None → board.table.entries region page ≡ None
entry-absent board c region page stands absent =
    none-from-HasSamePage board.memory board.owners region (board.table.entries region page)
    (subst (λ (o : Option Page). HasSamePage board.memory board.owners region (board.table.entries region page) o) absent (stands.pages region page))

-- the same where it is absent in some content that the board stands for
pub lacks-entry : (board : Board) (region page : ℕ) → ∥ StandsFor Stands board (LacksPage region page) ∥₁ → board.table.entries region page ≡ None
lacks-entry board region page known =
    none (board.table.entries region page)
    (∥∥₁_elim known (hlevel Bool-set) (λ (known : StandsFor Stands board (LacksPage region page)). ap is_some (entry-absent board known.content region page known.stands known.holds.absent)))
  where
    none : (o : Option Entry) → is_some o ≡ false → o ≡ None
    none None test = refl
    none (Some e) test = absurd (cc)

-- the content with a page in a new class
abbrev added : Content → ℕ → ℕ → Page → Content
added c region page p = with_account (with_page c region page p) (c.account ++ (class_for region page ∷ []))

-- a store with another page at one number
page-there : (page : ℕ) (p : Page) (o : Option Store) → IsSome o → page_in (option_map (λ store. changed store page (Some p)) o) page ≡ Some p
page-there page p None some = absurd (cc)
page-there page p (Some store) some = changed-there store page (Some p)

page-elsewhere : (page q : ℕ) (p : Page) (o : Option Store) → q ≢ page → page_in (option_map (λ store. changed store page (Some p)) o) q ≡ page_in o q
page-elsewhere page q p None other = refl
page-elsewhere page q p (Some store) other = changed-elsewhere store page q (Some p) other

-- it has one page more
has-added : (c : Content) (region page : ℕ) (p : Page) → IsSome (c.stores region) → HasNewPage c (added c region page p) region page p
has-added c region page p store = record {
  here = ap (λ (o : Option Store). page_in o page) (changed-there c.stores region (option_map (λ store. changed store page (Some p)) (c.stores region))) ∙ page-there page p (c.stores region) store;
  others = others;
  account = refl;
  frames = refl;
}
  where
    others : (r q : ℕ) → (r ≢ region) ⊎ (q ≢ page) → page_at (with_page c region page p) r q ≡ page_at c r q
    others r q apart = by (equal-or-not r region) apart
      where
        by : (r ≡ region) ⊎ (r ≢ region) → (r ≢ region) ⊎ (q ≢ page) → page_at (with_page c region page p) r q ≡ page_at c r q
        by (inr other) apart = ap (λ (o : Option Store). page_in o q) (changed-elsewhere c.stores region r (option_map (λ store. changed store page (Some p)) (c.stores region)) other)
        by (inl same) (inl other) = absurd (other same)
        by (inl same) (inr other) =
            rw same (ap (λ (o : Option Store). page_in o q) (changed-there c.stores region (option_map (λ store. changed store page (Some p)) (c.stores region))) ∙ page-elsewhere page q p (c.stores region) other)

-- all frames are used: nothing changes
pub add-refused : (board : Board) (c : Content) (region page rights : ℕ) (bytes : List ℕ) → used_count board.pool ≡ board.pool.size → Stands board c → IsOutcomeOf board (add_page_of c region page rights bytes) (Err no_frame)
unfolding add_page_of
add-refused board c region page rights bytes all stands =
    let full : is_full c ≡ true = is_full-taken board c stands ∙ (let test : nat_eq (used_count board.pool) board.pool.size ≡ true = grind (arith, nat_tests) in test) in
    rw full (record { answer = refl; after = stands })

-- one is free: it is the page's
pub add-done : (old new : Board) (c : Content) (region page : ℕ) (bytes : List ℕ) (e : Entry) → used_count old.pool ≢ old.pool.size → HasNewFrame old new region page e (with_bytes (replicate page_granules null) 0 bytes)
    → Stands old c → IsSome (c.stores region) → IsOutcomeOf new (add_page_of c region page e.rights bytes) (Ok tt)
unfolding add_page_of
add-done old new c region page bytes e some is stands store =
    let room : is_full c ≡ false = is_full-taken old c stands ∙ (let test : nat_eq (used_count old.pool) old.pool.size ≡ false = grind (arith, nat_tests) in test) in
    rw room (record {
      answer = refl;
      after = stands-new old new region page e (with_bytes (replicate page_granules null) 0 bytes) is c stands (added c region page p) p (has-added c region page p store) refl refl (made-of region e.rights bytes);
    })
  where
    p : Page
    p = page_of_bytes e.rights bytes
