use Rattle.contents.proofs.SeenReads.{read-seen, fetch-seen, read_cap-seen, read_bytes-length, read_bytes-seen, read_bytes-one}
use Rattle.contents.proofs.behavior.reads_are_seen.Goals as goal

pub returns : goal.returns
returns c = record { read = read-seen; fetch = fetch-seen; read_cap = read_cap-seen; count = read_bytes-length; each = read_bytes-seen; one = read_bytes-one }
