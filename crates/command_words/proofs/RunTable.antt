-- The options of `run`, and what is known of them.
use Rattle.std.proofs.Common.{◌≡◌, ◌∙◌, ap, refl, ℕ, ◌^◌, ◌<◌, ◌≤◌, true, false, [], ◌∷◌, Option, Some, None, arith}
use Rattle.std.specs.Prelude.{decimal, codes, is_some}
use Rattle.std.specs.Int.{IsInRange}
use Rattle.std.specs.Str.Parse.{IsNumeral}
use Rattle.std.proofs.lemmas.Bool.{false≢true, ne_eqb}
use Rattle.std.proofs.lemmas.Fmt.{decimal_is_IsNumeral}
use Rattle.std.proofs.lemmas.Str.Parse.{digit_at}
use Rattle.cap_format.specs.Numbers.{most_frames, most_regions}
use Rattle.machine_types.specs.Numbers.{most_slots, most_steps}
use Rattle.machine_types.specs.DecimalNumbers.{number_in}
use Rattle.machine_types.proofs.DecimalTexts.{number-in-parts, number-in-decimal}
use Rattle.command_words.specs.Grammar.{Word, is_number, is_rule, is_file_name, frames_name, regions_name, slots_name, steps_name, copy_name, schedule_name, run_options}
use Rattle.command_words.proofs.Tables.{IsRow, AreRows, same-text}

-- a text of digits is a file name
numeral-file : (word : Word) → IsNumeral 10 word → is_file_name word ≡ true
numeral-file [] numeral = absurd (omega (arith, numeral.0))
numeral-file (byte ∷ word) numeral =
    let digit : IsInRange 48 57 byte = digit_at (byte ∷ word) 0 numeral.1 numeral.0 in
    rw (ne_eqb byte 45 (λ same. omega (arith, digit.0))) refl

-- the decimal text of a number is a file name
decimal-file : (n : ℕ) → n < 2 ^ 64 → is_file_name (decimal n) ≡ true
decimal-file n small = numeral-file (decimal n) (decimal_is_IsNumeral n small).0

-- what a number of a range is the text of is a file name
number-file : (least most : ℕ) (word : Word) (number : Option ℕ) → most < 2 ^ 64 → number_in least most word ≡ number → is_some number ≡ true → is_file_name word ≡ true
number-file least most word None small is some = absurd (false≢true some)
number-file least most word (Some n) small is some =
    let parts = number-in-parts least most n word is in
    ap is_file_name parts.0 ∙ decimal-file n (omega (arith, parts.2))

-- an option whose value is a number
number-row : (name : Word) (least most : ℕ) → is_file_name name ≡ false → least ≤ 1 → 1 ≤ most → most < 2 ^ 64 → IsRow (record { name = name; value = is_number least most })
number-row name least most other low high small = record {
  name = other;
  values = λ value is. number-file least most value (number_in least most value) small refl is;
  some = (decimal 1, ap is_some (number-in-decimal least most 1 low high (omega arith)));
}

-- the copy rule
rule-row : IsRow (record { name = copy_name; value = is_rule })
rule-row = record {
  name = refl;
  values = λ value is. ap is_file_name (same-text value (codes "full") is);
  some = (codes "full", refl);
}

-- the schedule
schedule-row : IsRow (record { name = schedule_name; value = is_file_name })
schedule-row = record { name = refl; values = λ value is. is; some = (codes "a", refl) }

-- the options of `run`
pub run-rows : AreRows run_options
run-rows = (
  number-row frames_name 1 most_frames refl (omega arith) (omega arith) (omega arith),
  (
    number-row regions_name 1 most_regions refl (omega arith) (omega arith) (omega arith),
    (
      number-row slots_name 1 most_slots refl (omega arith) (omega arith) (omega arith),
      (
        number-row steps_name 0 most_steps refl (omega arith) (omega arith) (omega arith),
        (rule-row, (schedule-row, tt)),
      ),
    ),
  ),
)
