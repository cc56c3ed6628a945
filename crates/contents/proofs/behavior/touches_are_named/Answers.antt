use Rattle.contents.proofs.NamedTouches.{read-named, read_cap-named, fetch-named, write-named, write_cap-named}
use Rattle.contents.proofs.behavior.touches_are_named.Goals as goal

pub returns : goal.returns
returns c = record { read = read-named; read_cap = read_cap-named; fetch = fetch-named; write = write-named; write_cap = write_cap-named }
