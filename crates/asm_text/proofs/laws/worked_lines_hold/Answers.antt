-- Each worked line computes to its listing, or to its fault.
use Rattle.std.proofs.Common.{refl}
use Rattle.asm_text.specs.Tokens.{lexeme_length}
use Rattle.asm_text.specs.Lines.{lexed}
use Rattle.asm_text.specs.Source.{line_of, source_of}
use Rattle.asm_text.proofs.laws.worked_lines_hold.Goals as goal

pub returns : goal.returns
unfolding source_of line_of lexed lexeme_length
returns c = record {
  nothing = refl;
  comment = refl;
  label = refl;
  registers = refl;
  load = refl;
  store = refl;
  jump = refl;
  segment = refl;
  entry = refl;
  numbers = refl;
  ascii = refl;
  space = refl;
  cap = refl;
  least = refl;
  less = refl;
  greatest = refl;
  greater = refl;
  no_register = refl;
  leading_zero = refl;
  negative = refl;
  parted = refl;
  open_string = refl;
  text_first = refl;
  text_on_a_line = refl;
  dotted = refl;
  white = refl;
  names = refl;
  dot_first = refl;
  forms = refl;
  register_label = refl;
  values = refl;
  no_data = refl;
  ends_in_comma = refl;
  no_comma_between = refl;
  rights = refl;
  write_alone = refl;
  negative_segment = refl;
  negative_space = refl;
  long_names = refl;
  two_statements = refl;
  no_comma = refl;
  other_mark = refl;
  other_bracket = refl;
  no_digits = refl;
  great_x = refl;
  lone_sign = refl;
  two_signs = refl;
  plus = refl;
  great_hex = refl;
  hex_digits = refl;
  strings = refl;
  open_escape = refl;
  bad_comment = refl;
  blanks = refl;
  alone = refl;
  in_words = refl;
  hexadecimal = refl;
  escapes = refl;
  in_strings = refl;
  wide = refl;
  touching = refl;
  parted_hex = refl;
  parted_sign = refl;
  many_zeros = refl;
  all_names = refl;
  ended_label = refl;
  backslash_at_the_end = refl;
  third_line = refl;
  comment_behind = refl;
  string_over_lines = refl;
  other_escape = refl;
  zeros_before_x = refl;
  sign_before_x = refl;
  text_before_statement = refl;
  not_hexadecimal = refl;
}
