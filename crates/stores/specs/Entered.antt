-- What an access finds in the page table, and what a change of a board comes to.
use Rattle.std.specs.Prelude.{◌≡◌, Bool, false, if◌then◌else◌, Option, Some, None, Result, Ok, Err}
use Rattle.machine_types.specs.declared.touches.Access.{Access}
use Rattle.machine_types.specs.Rights.{is_allowed}
use Rattle.page_table.specs.declared.table.Entry.{Entry}
use Rattle.contents.specs.declared.refusal.Refusal.{Refusal}
use Rattle.contents.specs.declared.refusal.Refusal.TheVariants.{NoPage, NoRight}
use Rattle.contents.specs.Content.{CallOutcome}
use Rattle.stores.specs.declared.board.Board.{Board}
use Rattle.stores.specs.Boards.{Stands}

-- the entry, if there is one with the right for the access
abbrev pub entry_for : Access → Option Entry → Result Entry Refusal
entry_for access None = Err NoPage
entry_for access (Some entry) = if is_allowed access entry.rights then Ok entry else Err NoRight

-- there is an entry with the right for the access
abbrev pub entry_allows : Access → Option Entry → Bool
entry_allows access None = false
entry_allows access (Some entry) = is_allowed access entry.rights

-- the answer is the outcome's, and the board stands for the content after it
pub record IsOutcomeOf {A : Type 0} (board : Board) (outcome : CallOutcome A) (result : A) : Type 0 where
  pub answer : result ≡ outcome.answer
  pub after : Stands board outcome.after
