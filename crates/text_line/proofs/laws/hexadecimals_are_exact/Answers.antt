-- The hexadecimal digits of a number are that number, in lower case.
use Rattle.text_line.proofs.Hexadecimals.{hexadecimal-length, hexadecimal-digits, hexadecimal-value}
use Rattle.text_line.proofs.laws.hexadecimals_are_exact.Goals as goal

pub returns : goal.returns
returns c = record {
  count = hexadecimal-length;
  digits = hexadecimal-digits;
  value = hexadecimal-value;
}
