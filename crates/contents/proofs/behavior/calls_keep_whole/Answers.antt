use Rattle.contents.proofs.CallShapes.{read-holds, read_cap-holds, fetch-holds, prepare-holds}
use Rattle.contents.proofs.WholeTouches.{StaysWhole, whole-touches}
use Rattle.contents.proofs.WholeCalls.{nothing-whole, begin-whole, end-whole, add_page-whole, seed_cap-whole, write-whole, write_cap-whole, write_bytes-whole}
use Rattle.contents.proofs.WholeForks.{fork-whole}
use Rattle.contents.proofs.behavior.calls_keep_whole.Goals as goal

pub returns : goal.returns
returns c = record {
  first = nothing-whole;
  begin = begin-whole;
  end = end-whole;
  add_page = add_page-whole;
  seed_cap = seed_cap-whole;
  read = λ c region. read-holds StaysWhole region (whole-touches region) c;
  read_cap = λ c region. read_cap-holds StaysWhole region (whole-touches region) c;
  write = write-whole;
  write_cap = write_cap-whole;
  fetch = λ c region. fetch-holds StaysWhole region (whole-touches region) c;
  prepare = λ c region. prepare-holds StaysWhole region (whole-touches region) c;
  write_bytes = write_bytes-whole;
  fork = fork-whole;
}
