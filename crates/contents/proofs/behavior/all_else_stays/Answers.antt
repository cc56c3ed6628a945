use Rattle.contents.proofs.StayedElse.{write-rights, write-granules, write-bytes, cap-rights, cap-granules, seed-rights, seed-granules, bytes-rights, bytes-granules, bytes-bytes, added-others, begun-empty}
use Rattle.contents.proofs.behavior.all_else_stays.Goals as goal

pub returns : goal.returns
returns c = record {
  write_rights = write-rights;
  write_granules = write-granules;
  write_bytes = write-bytes;
  cap_rights = cap-rights;
  cap_granules = cap-granules;
  seed_rights = seed-rights;
  seed_granules = seed-granules;
  bytes_rights = bytes-rights;
  bytes_granules = bytes-granules;
  bytes_bytes = bytes-bytes;
  added = added-others;
  begun = begun-empty;
}
