use Rattle.contents.proofs.OwnStore.{begin-alike, end-alike, add_page-alike, seed_cap-alike, read-alike, read_cap-alike, write-alike, write_cap-alike, fetch-alike, prepare-alike, write_bytes-alike, fork-alike, fork_parent-alike, standing-same}
use Rattle.contents.proofs.laws.own_store_decides.Goals as goal

pub returns : goal.returns
returns c = record {
  begin = begin-alike;
  end = end-alike;
  add_page = add_page-alike;
  seed_cap = seed_cap-alike;
  read = read-alike;
  read_cap = read_cap-alike;
  write = write-alike;
  write_cap = write_cap-alike;
  fetch = fetch-alike;
  prepare = prepare-alike;
  write_bytes = write_bytes-alike;
  fork = fork-alike;
  fork_parent = fork_parent-alike;
  standing = standing-same;
}
