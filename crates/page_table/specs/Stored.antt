-- By what two tables are told apart: the list of all their entries.
use Rattle.std.specs.Prelude.{◌≡◌, ℕ, zero, suc, ◌<◌, ◌≤◌, ◌⊎◌, List, [], ◌∷◌, None, refl}
use Rattle.std.specs.declared.option.Option.{Option}
use Rattle.std.specs.Coded.{Coded, Coded-set, code_by, coded_option, coded_list, coded_ℕ, coded×}
use Rattle.std.proofs.Common.{inl, inr, ap, sym, ◌∙◌, le_of_suc-le-suc, not-suc-le-zero}
use Rattle.std.proofs.Math.Path.{fun_ext}
use Rattle.std.proofs.Math.Nat.{eq-or-lt_of_le}
use mathlib.Core.HLevel.{Σ_prop_path}
use Rattle.std.proofs.lemmas.Bool.{cases_lt}
use base.Stored.{coded_via}
use Rattle.cap_format.specs.Numbers.{most_regions, region_pages}
use Rattle.page_table.specs.declared.table.Entry.{Entry}
use Rattle.page_table.specs.Entries.{Entries, NothingPast, Table}

-- the values of a function below a number, the last one first
pub values_below : {A : Type 0} → (ℕ → A) → ℕ → List A
values_below f zero = []
values_below f (suc k) = f k ∷ values_below f k

abbrev head_or : {A : Type 0} → A → List A → A
head_or other [] = other
head_or other (x ∷ xs) = x

abbrev rest_of : {A : Type 0} → List A → List A
rest_of [] = []
rest_of (x ∷ xs) = xs

-- functions with the same values below a number agree there
values_below-same : {A : Type 0} (f g : ℕ → A) (count : ℕ) → values_below f count ≡ values_below g count → (k : ℕ) → k < count → f k ≡ g k
unfolding values_below
values_below-same f g zero same k below = absurd (not-suc-le-zero below)
values_below-same f g (suc n) same k below = by (values_below-same f g n (ap rest_of same) k) (eq-or-lt_of_le (le_of_suc-le-suc below))
  where
    by : (k < n → f k ≡ g k) → (k ≡ n) ⊎ (k < n) → f k ≡ g k
    by rest (inl last) = ap f last ∙ ap (head_or (f n)) same ∙ ap g (sym last)
    by rest (inr less) = rest less

-- an entry is stored as its two numbers
abbrev entry_code : Coded Entry
entry_code = code_by (ℕ × ℕ) (coded× coded_ℕ coded_ℕ) (λ e. (e.frame.0, e.rights)) (λ p. record { frame = record { 0 = p.0 }; rights = p.1 }) (λ _. refl)

-- all entries of a table, region by region
abbrev rows_of : Table → List (List (Option Entry))
rows_of table = values_below (λ region. values_below (table.entries region) region_pages) most_regions

-- that nothing lies past the last region and page has one proof at most
NothingPast-prop : (entries : Entries) → IsProp (NothingPast entries)
NothingPast-prop entries x y i region page far = Coded-set (coded_option entry_code) (entries region page) None (x region page far) (y region page far) i

-- tables with the same entries are the same
pub table-same : (a b : Table) → a.entries ≡ b.entries → a ≡ b
table-same a b same i = record { entries = (both i).0; past = (both i).1 }
  where
    both : ◌≡◌ {A = (entries : Entries) × NothingPast entries} (a.entries, a.past) (b.entries, b.past)
    both = Σ_prop_path NothingPast-prop same

-- a table is known by its rows
pub rows_of-same : (a b : Table) → rows_of a ≡ rows_of b → a ≡ b
rows_of-same a b same = table-same a b (fun_ext (λ region. fun_ext (λ page. by region page (cases_lt region most_regions) (cases_lt page region_pages))))
  where
    by : (region page : ℕ) → (region < most_regions) ⊎ (most_regions ≤ region) → (page < region_pages) ⊎ (region_pages ≤ page) → a.entries region page ≡ b.entries region page
    by region page (inl r) (inl p) = values_below-same (a.entries region) (b.entries region) region_pages (values_below-same _ _ most_regions same region r) page p
    by region page (inr far) _ = a.past region page (inl far) ∙ sym (b.past region page (inl far))
    by region page (inl _) (inr far) = a.past region page (inr far) ∙ sym (b.past region page (inr far))

abbrev pub table_code : Coded Table
table_code = coded_via (coded_list (coded_list (coded_option entry_code))) rows_of rows_of-same
