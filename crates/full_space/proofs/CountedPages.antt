-- How many pages a region has below a number: by its entries, and by the numbers of its pages.
use Rattle.std.proofs.Common.{◌≡◌, ◌∙◌, ℕ, zero, suc, ◌+◌, ◌-◌, ◌≤◌, ◌<◌, Bool, true, false, cond, Option, Some, None, is_some, [], ◌∷◌, ◌++◌, length, refl, ap, sym, arith, add-one, add-zero}
use Rattle.std.proofs.lemmas.List.{length-append}
use Rattle.cap_format.specs.Numbers.{region_pages}
use Rattle.machine_types.specs.Stores.{Store, page_numbers}
use Rattle.page_table.specs.declared.table.Entry.{Entry}
use Rattle.contents.specs.Content.{Content, page_in}
use Rattle.contents.specs.Regions.{numbers_in}
use Rattle.stores.specs.declared.board.Board.{Board}
use Rattle.stores.specs.Boards.{Stands}
use Rattle.stores.proofs.BoardPages.{entry-there}
use Rattle.full_space.specs.Steps.{entries_below, numbers_below}

-- none at first
pub entries-none : (entries : ℕ → Option Entry) → entries_below entries 0 ≡ 0
unfolding entries_below
entries-none entries = refl

-- one more with each entry
pub entries-more : (entries : ℕ → Option Entry) (n : ℕ) → entries_below entries (n + 1) ≡ entries_below entries n + cond (is_some (entries n)) 1 0
unfolding entries_below
entries-more entries n = rw add-one (by (is_some (entries n)))
  where
    by : (b : Bool) → cond b (suc (entries_below entries n)) (entries_below entries n) ≡ entries_below entries n + cond b 1 0
    by true = omega arith
    by false = omega arith

-- no fewer below a greater number
entries-least : (entries : ℕ → Option Entry) (n more : ℕ) → entries_below entries n ≤ entries_below entries (n + more)
entries-least entries n zero = rw add-zero (omega arith)
entries-least entries n (suc more) =
    let next : n + suc more ≡ n + more + 1 = omega arith in
    let one = entries-more entries (n + more) in
    let rest = entries-least entries n more in
    rw next (omega arith)

-- so fewer below an entry than in all
pub entries-fewer : (entries : ℕ → Option Entry) (n most : ℕ) → n < most → is_some (entries n) ≡ true → entries_below entries n < entries_below entries most
entries-fewer entries n most below there =
    let all : n + 1 + (most - (n + 1)) ≡ most = omega arith in
    let one = rw there at (entries-more entries n) in
    let least = rw all at (entries-least entries (n + 1) (most - (n + 1))) in
    omega arith

-- The numbers of the pages below a number.

-- none at first
pub numbers_below-none : (store : Option Store) → numbers_below store 0 ≡ []
numbers_below-none None = refl
numbers_below-none (Some store) = refl

-- one more, the last, where there is a page
pub numbers_below-more : (store : Option Store) (n : ℕ) → is_some (page_in store n) ≡ true → numbers_below store (n + 1) ≡ numbers_below store n ++ (n ∷ [])
numbers_below-more None n there = absurd (cc)
numbers_below-more (Some store) n there = rw (add-one n, there) refl

-- and none more where there is none
pub numbers_below-skip : (store : Option Store) (n : ℕ) → is_some (page_in store n) ≡ false → numbers_below store (n + 1) ≡ numbers_below store n
numbers_below-skip None n absent = refl
numbers_below-skip (Some store) n absent = rw (add-one n, absent) refl

-- those below the last are all
pub numbers_below-all : (store : Option Store) → numbers_in store ≡ numbers_below store region_pages
unfolding page_numbers
numbers_below-all None = refl
numbers_below-all (Some store) = refl

-- as many as entries, where each page has one
numbers-counted : (entries : ℕ → Option Entry) (store : Option Store) → ((page : ℕ) → is_some (entries page) ≡ is_some (page_in store page)) → (n : ℕ) → length (numbers_below store n) ≡ entries_below entries n
numbers-counted entries store same zero = rw (numbers_below-none store, entries-none entries) refl
numbers-counted entries store same (suc n) =
    ap (λ (k : ℕ). length (numbers_below store k)) (sym (add-one n)) ∙ by (is_some (page_in store n)) refl (numbers-counted entries store same n) ∙ ap (entries_below entries) (add-one n)
  where
    by : (b : Bool) → is_some (page_in store n) ≡ b → length (numbers_below store n) ≡ entries_below entries n → length (numbers_below store (n + 1)) ≡ entries_below entries (n + 1)
    by true there rest =
        let longer = length-append (numbers_below store n) (n ∷ []) in
        let one = rw (same n, there) at (entries-more entries n) in
        rw (numbers_below-more store n there) (omega arith)
    by false absent rest =
        let none = rw (same n, absent) at (entries-more entries n) in
        rw (numbers_below-skip store n absent) (omega arith)

-- a board has as many entries as a content that it stands for has pages
pub pages-counted : (board : Board) (c : Content) (region n : ℕ) → Stands board c → length (numbers_below (c.stores region) n) ≡ entries_below (board.table.entries region) n
pages-counted board c region n stands =
    numbers-counted (board.table.entries region) (c.stores region)
    (λ page. entry-there board c region page stands) n

pub all-counted : (board : Board) (c : Content) (region : ℕ) → Stands board c → entries_below (board.table.entries region) region_pages ≡ length (numbers_in (c.stores region))
all-counted board c region stands = sym (ap length (numbers_below-all (c.stores region)) ∙ pages-counted board c region region_pages stands)
