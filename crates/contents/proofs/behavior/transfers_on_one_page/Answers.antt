use Rattle.contents.proofs.PageTransfers.{covers-page, overlaps-page, read_bytes-page, write_bytes-page}
use Rattle.contents.proofs.behavior.transfers_on_one_page.Goals as goal

pub returns : goal.returns
returns c = record { covers = covers-page; overlaps = overlaps-page; read_bytes = read_bytes-page; write_bytes = write_bytes-page }
