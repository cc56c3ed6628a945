use Rattle.contents.proofs.OwnStore.{covers-same, read_bytes-same, peek-same, rights-same}
use Rattle.contents.proofs.behavior.store_decides_looks.Goals as goal

pub returns : goal.returns
returns c = record { covers = covers-same; read_bytes = read_bytes-same; peek = peek-same; rights = rights-same }
