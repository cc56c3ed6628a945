use Rattle.contents.proofs.Refusals.{add_page-refused, read-refused, read_cap-refused, write-refused, write_cap-refused, fetch-refused, prepare-refused, fork-refused}
use Rattle.contents.proofs.laws.refusals_change_nothing.Goals as goal

pub returns : goal.returns
returns c = record {
  add_page = add_page-refused;
  read = read-refused;
  read_cap = read_cap-refused;
  write = write-refused;
  write_cap = write_cap-refused;
  fetch = fetch-refused;
  prepare = prepare-refused;
  fork = fork-refused;
}
