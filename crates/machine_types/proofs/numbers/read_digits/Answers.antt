use Rattle.std.proofs.Common.{◌≡◌, ◌∙◌, sym, ℕ, ◌<◌, ◌^◌, true, false, get_or, arith}
use Rattle.std.specs.Char.{is_ascii_digit}
use Rattle.std.specs.Int.{IsInRange}
use Rattle.std.proofs.lemmas.Bool.{and_parts, and_from, leb-true, le-leb, false≢true}
use Rattle.std.proofs.lemmas.Int.Digits.{digits_more, digits_value_more}
use Rattle.std.proofs.lemmas.Str.{digit_value_digit}
use Rattle.std.proofs.lemmas.Str.Parse.{digit_at}
use Rattle.machine_types.proofs.DecimalTexts.{front-below}
use Rattle.machine_types.proofs.numbers.read_digits.Goals as goal
use Rattle.machine_types.proofs.numbers.read_digits.Goals.{Else-not-is_ascii_digit, After-from}

-- a byte that passes the test is a digit
digit-range : (byte : ℕ) → true ≡ is_ascii_digit byte → IsInRange 48 57 byte
digit-range byte is = let parts = and_parts _ _ (sym is) in (leb-true 48 byte parts.0, leb-true byte 57 parts.1)

-- what is read so far is below 10^17
read-below : (c : Else-not-is_ascii_digit) → c.loop-byte.n < 10 ^ 17
read-below c = rw c.loop-byte.invariant.value (front-below c.args.text.now c.loop-byte.byte-index (omega arith) (omega arith) c.loop-byte.invariant.digits)

pub overflow_mul-n : goal.overflow_mul-n
overflow_mul-n c = omega (arith, read-below c)

pub overflow_add-n : goal.overflow_add-n
overflow_add-n c =
    let digit = digit-range (get_or c.args.text.now c.loop-byte.byte-index 0) c.if-not-is_ascii_digit.ensures.value in
    omega (arith, read-below (goal.at.overflow_add-n c).Else-not-is_ascii_digit, c.from.ensures)

pub loop-byte-preserved : goal.loop-byte-preserved
loop-byte-preserved c =
    let text = c.args.text.now in
    let at = c.loop-byte.byte-index in
    let digit = digit-range (get_or text at 0) c.if-not-is_ascii_digit.ensures.value in
    let value = digit_value_digit (get_or text at 0) digit in
    record {
      digits = digits_more 10 text at c.loop-byte-test.true c.loop-byte.invariant.digits (omega arith);
      value =
          let more = digits_value_more 10 text at c.loop-byte-test.true in
          omega (arith, c.from.ensures, c.loop-byte.invariant.value);
    }

-- a byte that fails the test is no digit
other-byte : (byte : ℕ) → false ≡ is_ascii_digit byte → IsInRange 48 57 byte → ⊥
other-byte byte is digit = false≢true (is ∙ and_from _ _ (le-leb 48 byte digit.0) (le-leb byte 57 digit.1))

pub returns-then-not-is_ascii_digit : goal.returns-then-not-is_ascii_digit
returns-then-not-is_ascii_digit c = λ numeral.
    other-byte (get_or c.args.text.now c.loop-byte.byte-index 0) c.if-not-is_ascii_digit.ensures.value (digit_at c.args.text.now c.loop-byte.byte-index numeral.1 c.loop-byte-test.true)
