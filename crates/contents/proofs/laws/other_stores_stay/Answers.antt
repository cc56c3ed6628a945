use Rattle.contents.specs.Laws.{OthersStay}
use Rattle.contents.proofs.CallShapes.{begin-holds, end-holds, add_page-holds, seed_cap-holds, read-holds, read_cap-holds, write-holds, write_cap-holds, fetch-holds, prepare-holds, write_bytes-holds, fork-holds}
use Rattle.contents.proofs.OtherStores.{AllStay, all-touches, other-steps}
use Rattle.contents.proofs.laws.other_stores_stay.Goals as goal

pub returns : goal.returns
returns c = record {
  begin = λ c region. begin-holds (OthersStay region) region (other-steps region) c;
  end = λ c region. end-holds (OthersStay region) region (other-steps region) c;
  add_page = λ c region. add_page-holds (OthersStay region) region (other-steps region) c;
  seed_cap = λ c region. seed_cap-holds (OthersStay region) region (other-steps region).stores c;
  read = λ c region. read-holds AllStay region (all-touches region) c;
  read_cap = λ c region. read_cap-holds AllStay region (all-touches region) c;
  write = λ c region. write-holds (OthersStay region) region (other-steps region).stores c;
  write_cap = λ c region. write_cap-holds (OthersStay region) region (other-steps region).stores c;
  fetch = λ c region. fetch-holds AllStay region (all-touches region) c;
  prepare = λ c region. prepare-holds AllStay region (all-touches region) c;
  write_bytes = λ c region. write_bytes-holds (OthersStay region) region (other-steps region).stores c;
  fork = λ c from to. fork-holds (OthersStay to) to (other-steps to) c from;
}
