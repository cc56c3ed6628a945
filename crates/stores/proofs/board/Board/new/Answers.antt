use Rattle.std.proofs.Common.{◌∙◌, ap, arith}
use Rattle.std.proofs.lemmas.Grind.{common_steps}
use Rattle.frame_pool.specs.Pool.{used_count}
use Rattle.frame_owners.specs.Homes.{owner}
use Rattle.page_table.specs.Entries.{Entries}
use Rattle.stores.proofs.NewBoards.{unused-count, nobody-shares}
use Rattle.stores.proofs.board.Board.new.Goals as goal

pub returns-clause-empty : goal.returns-clause-empty
returns-clause-empty c = record {
  entries = λ region page. ap (λ (entries : Entries). entries region page) c.in_ok-new-4.ensures;
  taken = ap used_count c.in_ok-new-2.ensures ∙ unused-count c.args.frames;
  sharers = λ f. ap (λ owners. (owner owners f).sharers) c.in_ok-new-3.ensures ∙ nobody-shares c.args.frames f;
  memory = grind (arith, common_steps);
  owners = grind (arith, common_steps);
}

pub returns-clause-made : goal.returns-clause-made
returns-clause-made c = grind (arith, common_steps)
