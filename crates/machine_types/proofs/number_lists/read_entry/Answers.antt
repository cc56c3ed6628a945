use Rattle.std.proofs.Common.{◌∙◌, Some, None, sym}
use Rattle.machine_types.proofs.EntriesSaid.{IsStarAt, no-number, number-alone, number-repeated}
use Rattle.machine_types.proofs.number_lists.read_entry.Goals as goal

pub returns-in_err-number : goal.returns-in_err-number
returns-in_err-number c =
    let first = c.first_place-star.ensures in
    let star : IsStarAt c.args.line.now c.first_place-star.result = record { within = first.within; before = first.before; found = first.found } in
    c.from_residual.ensures ∙ sym (no-number _ _ _ _ star (sym c.read_number.ensures ∙ c.in_err-number.was))

pub returns-then-star-line : goal.returns-then-star-line
returns-then-star-line c =
    let first = c.first_place-star.ensures in
    let star : IsStarAt c.args.line.now c.first_place-star.result = record { within = first.within; before = first.before; found = first.found } in
    sym (number-alone _ _ _ _ _ star (sym c.read_number.ensures ∙ c.in_ok-number.was) c.if-star-line.true)

pub returns-in_err-repeats : goal.returns-in_err-repeats
returns-in_err-repeats c =
    let first = c.first_place-star.ensures in
    let star : IsStarAt c.args.line.now c.first_place-star.result = record { within = first.within; before = first.before; found = first.found } in
    c.from_residual-in_err-repeats.ensures
    ∙ sym (number-repeated _ _ _ _ None _ star (sym c.read_number.ensures ∙ c.in_ok-number.was) c.if-star-line.false
    (sym c.read_number-2.ensures ∙ c.in_err-repeats.was))

pub returns : goal.returns
returns c =
    let first = c.first_place-star.ensures in
    let star : IsStarAt c.args.line.now c.first_place-star.result = record { within = first.within; before = first.before; found = first.found } in
    sym (number-repeated _ _ _ _ (Some c.in_ok-repeats.repeats) _ star (sym c.read_number.ensures ∙ c.in_ok-number.was) c.if-star-line.false
    (sym c.read_number-2.ensures ∙ c.in_ok-repeats.was))
