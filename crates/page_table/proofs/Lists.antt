-- Tables that are kept as lists.
use Rattle.std.proofs.Common.{◌≡◌, ℕ, ◌+◌, ◌*◌, ◌&&◌, inl, inr, nat_lt, Bool, true, false, cond, Option, None, get_or, replicate, refl, arith}
use Rattle.std.proofs.Math.Path.{fun_ext}
use Rattle.std.proofs.lemmas.Bool.{cases_lt}
use Rattle.std.proofs.lemmas.Grind.{common_steps}
use Rattle.std.proofs.lemmas.List.{get_or-replicate, get_or_past}
use Rattle.page_table.specs.Entries.{no_entries}
use Rattle.page_table.specs.Listed.{listed}
use Rattle.page_table.specs.declared.table.Entry.{Entry}

-- no place of a list of nothing has an entry
get_or-nothing : (count place : ℕ) → get_or (replicate {A = Option Entry} count None) place None ≡ None
get_or-nothing count place = elim (cases_lt place count) [
  | inl within ↦ get_or-replicate count place None None within
  | inr past ↦ get_or_past (replicate count None) place None (grind (arith, common_steps))
]

-- a list of nothing is a table without entries
pub listed-replicate : (count : ℕ) → listed (replicate count None) ≡ no_entries
listed-replicate count = fun_ext (λ region. fun_ext (λ page. by (nat_lt region 64 && nat_lt page 256) (get_or-nothing count (region * 256 + page))))
  where
    by : (within : Bool) {entry : Option Entry} → entry ≡ None → cond within entry None ≡ None
    by true none = none
    by false none = refl
