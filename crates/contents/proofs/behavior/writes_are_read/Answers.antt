use Rattle.contents.proofs.WrittenPlaces.{number-read, tag-cleared, cap-seen, cap-read, seed-seen, seed-read}
use Rattle.contents.proofs.WrittenBytes.{bytes-read, bytes-untagged}
use Rattle.contents.proofs.behavior.writes_are_read.Goals as goal

pub returns : goal.returns
returns c = record {
  number = number-read;
  tag = tag-cleared;
  cap_seen = cap-seen;
  cap = cap-read;
  seed_seen = seed-seen;
  seed = seed-read;
  bytes = bytes-read;
  tags = bytes-untagged;
}
