use Rattle.std.proofs.Common.{inl, inr}
use Rattle.contents.proofs.StillCalls.{begin-still, end-still, add_page-still, seed_cap-still, write_bytes-still, fork-still, fork-parent}
use Rattle.contents.proofs.StillAccesses.{read-still, read_cap-still, fetch-still, write-still, write_cap-still, prepare-still}
use Rattle.contents.proofs.behavior.standings_stay.Goals as goal

pub returns : goal.returns
returns c = record {
  begin = begin-still;
  end = end-still;
  add_page = add_page-still;
  seed_cap = seed_cap-still;
  read = read-still;
  read_cap = read_cap-still;
  fetch = fetch-still;
  write = write-still;
  write_cap = write_cap-still;
  prepare = prepare-still;
  write_bytes = write_bytes-still;
  fork = λ c from to r p apart other. fork-still c from to r p apart (inr other);
  parent = fork-parent;
  parent_full = λ c from to p apart full. fork-still c from to from p apart (inl full);
}
