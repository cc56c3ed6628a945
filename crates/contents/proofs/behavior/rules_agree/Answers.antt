use Rattle.contents.proofs.SameStores.{begin-same, end-same, add_page-same, seed_cap-same, read-same, read_cap-same, fetch-same, write-same, write_cap-same, prepare-same, write_bytes-same, fork-same}
use Rattle.contents.proofs.behavior.rules_agree.Goals as goal

pub returns : goal.returns
returns c = record {
  begin = begin-same;
  end = end-same;
  add_page = add_page-same;
  seed_cap = seed_cap-same;
  read = read-same;
  read_cap = read_cap-same;
  fetch = fetch-same;
  write = write-same;
  write_cap = write_cap-same;
  prepare = prepare-same;
  write_bytes = write_bytes-same;
  fork = fork-same;
}
