use Rattle.contents.specs.Laws.{HasSameRegions}
use Rattle.contents.proofs.CallShapes.{seed_cap-holds, read-holds, read_cap-holds, write-holds, write_cap-holds, fetch-holds, prepare-holds, write_bytes-holds}
use Rattle.contents.proofs.KeptRegions.{region-stores, begin-some, end-none, add_page-regions, fork-some}
use Rattle.contents.proofs.laws.regions_are_kept.Goals as goal

pub returns : goal.returns
returns c = record {
  begin = begin-some;
  end = end-none;
  add_page = add_page-regions;
  seed_cap = λ c region. seed_cap-holds HasSameRegions region (region-stores region) c;
  read = λ c region. read-holds HasSameRegions region (region-stores region).touches c;
  read_cap = λ c region. read_cap-holds HasSameRegions region (region-stores region).touches c;
  write = λ c region. write-holds HasSameRegions region (region-stores region) c;
  write_cap = λ c region. write_cap-holds HasSameRegions region (region-stores region) c;
  fetch = λ c region. fetch-holds HasSameRegions region (region-stores region).touches c;
  prepare = λ c region. prepare-holds HasSameRegions region (region-stores region).touches c;
  write_bytes = λ c region. write_bytes-holds HasSameRegions region (region-stores region) c;
  fork = fork-some;
}
