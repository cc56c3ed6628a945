use Rattle.std.proofs.Common.{refl}
use Rattle.machine_types.proofs.PagesMade.{bytes_at-page_of_bytes, number_at-page_of_bytes_rest, is_tagged-page_of_bytes, length-page_of_bytes, ArePatterns-page_of_bytes}
use Rattle.machine_types.proofs.laws.pages_are_made.Goals as goal

pub returns : goal.returns
returns c = record {
  rights = λ rights bytes. refl;
  front = bytes_at-page_of_bytes;
  zeros = λ rights bytes k fit after. number_at-page_of_bytes_rest rights bytes k after;
  tags = is_tagged-page_of_bytes;
  whole = length-page_of_bytes;
  patterns = λ rights bytes fit. ArePatterns-page_of_bytes rights bytes;
}
