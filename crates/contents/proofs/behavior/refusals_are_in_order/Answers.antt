use Rattle.contents.proofs.RefusalCauses.{read-in-order, read_cap-in-order, fetch-in-order, write-in-order, write_cap-in-order}
use Rattle.contents.proofs.behavior.refusals_are_in_order.Goals as goal

pub returns : goal.returns
returns c = record { read = read-in-order; read_cap = read_cap-in-order; fetch = fetch-in-order; write = write-in-order; write_cap = write_cap-in-order }
