use Rattle.std.proofs.Common.{◌≡◌, ◌∙◌, sym, ℕ, ◌<◌, ◌≤◌, List, length, get_or, Some, inl, inr, arith}
use Rattle.std.specs.Str.Parse.{IsNumeral}
use Rattle.std.proofs.lemmas.Bool.{cases_lt, false≢true}
use Rattle.machine_types.specs.DecimalNumbers.{kept_in, number_in}
use Rattle.machine_types.proofs.DecimalTexts.{long-is-none, zero-is-none, other-is-none, digits-are-number, kept, out-is-none}
use Rattle.machine_types.proofs.numbers.read_number.Goals as goal
use Rattle.machine_types.proofs.numbers.read_number.Goals.{then-text-gt-MOST_DIGITS-via-then-text-gt-MOST_DIGITS, then-text-gt-MOST_DIGITS-via-else-text-gt-MOST_DIGITS+then-has_leading_zero}
use Rattle.machine_types.proofs.numbers.read_number.Goals.{else-least-n-via-then-least-n+else-n-most, else-least-n-via-else-least-n, In_ok-n}

-- a text that isn't empty and has no leading zero has one byte where it begins with a zero
one-byte : (text : List ℕ) → 0 < length text → ((1 < length text) × (get_or text 0 0 ≡ 48) → ⊥) → get_or text 0 0 ≡ 48 → length text ≡ 1
one-byte text some plain zero = elim (cases_lt 1 (length text)) [ inl long ↦ absurd (plain (long, zero)) | inr short ↦ omega arith ]

-- the digits that were read are the number, where that is within the range
read : (c : In_ok-n) → number_in c.args.least c.args.most c.args.text.now ≡ kept_in c.args.least c.args.most (Some c.in_ok-n.n)
read c =
    let text = c.args.text.now in
    let digits : IsNumeral 10 text = c.in_ok-n.ensures.0 in
    let plain : (1 < length text) × (get_or text 0 0 ≡ 48) → ⊥ = λ zero. false≢true (c.if-has_leading_zero.ensures.1 zero) in
    let short : length text ≤ 18 = omega arith in
    rw c.in_ok-n.ensures.1 (digits-are-number c.args.least c.args.most text digits short (one-byte text digits.0 plain))

pub returns-then-text-gt-MOST_DIGITS : goal.returns-then-text-gt-MOST_DIGITS
returns-then-text-gt-MOST_DIGITS c =
    let none = λ (long : 18 < length c.args.text.now). long-is-none c.args.least c.args.most c.args.text.now c.requires long in
    elim c.then-text-gt-MOST_DIGITS.branch [
      | then-text-gt-MOST_DIGITS-via-then-text-gt-MOST_DIGITS w ↦ none (omega arith)
      | then-text-gt-MOST_DIGITS-via-else-text-gt-MOST_DIGITS+then-has_leading_zero w ↦
          let zero = w.has_leading_zero.ensures.0 w.if-has_leading_zero.true in
          zero-is-none c.args.least c.args.most c.args.text.now c.requires zero.0 zero.1
    ]

pub returns-in_err-n : goal.returns-in_err-n
returns-in_err-n c = c.from_residual.ensures ∙ other-is-none c.args.least c.args.most c.args.text.now c.requires c.in_err-n.ensures

pub returns-then-n-most : goal.returns-then-n-most
returns-then-n-most c =
    sym (read (goal.at.returns-then-n-most c).In_ok-n ∙ kept c.args.least c.args.most c.in_ok-n.n c.if-least-n.true c.if-n-most.true)

pub returns-else-least-n : goal.returns-else-least-n
returns-else-least-n c =
    let out = out-is-none c.args.least c.args.most c.in_ok-n.n (elim c.else-least-n.branch [
      | else-least-n-via-then-least-n+else-n-most w ↦ inr (omega arith)
      | else-least-n-via-else-least-n w ↦ inl (omega arith)
    ]) in
    out ∙ sym (read (goal.at.returns-else-least-n c).In_ok-n)
