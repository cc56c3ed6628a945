use Rattle.contents.proofs.SplitTransfers.{covers-split, overlaps-split, read_bytes-split, write_bytes-split}
use Rattle.contents.proofs.behavior.transfers_split.Goals as goal

pub returns : goal.returns
returns c = record { covers = covers-split; overlaps = overlaps-split; read_bytes = read_bytes-split; write_bytes = write_bytes-split }
