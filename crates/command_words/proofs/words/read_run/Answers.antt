use Rattle.std.proofs.Common.{◌≡◌, ◌∙◌, sym, ap, ◌+◌, ◌<◌, ◌∷◌, length, drop, map, length-set, Some, None, arith}
use Rattle.std.specs.Prelude.{string_bytes, codes}
use Rattle.std.proofs.lemmas.List.{length-map}
use Rattle.command_words.specs.Grammar.{option_named, run_options, options_but}
use Rattle.command_words.specs.Reading.{row_of, place_of, name_of, fault_at}
use Rattle.command_words.proofs.CommandsRead.{run-words}
use Rattle.command_words.proofs.Names.{offers-all, offers-but, left-name, left-none, left-some, known-name, place-within, own-name}
use Rattle.command_words.proofs.Steps.{word-and-more, no-word, last-step, lacking-step, wrong-step, option-step, none-step}
use Rattle.command_words.proofs.words.read_run.Goals as goal
use Rattle.command_words.proofs.words.read_run.Goals.{In-Some}

pub loop-at-init : goal.loop-at-init
loop-at-init c =
    let words = map string_bytes c.args.words.now in
    let read = run-words words (simp length-map c.requires.some) c.requires.run in
    record {
      within = c.requires.some;
      all = omega arith;
      read = (run_options, offers-all, rw c.defaults-options.ensures read);
    }

pub returns-in_default : goal.returns-in_default
returns-in_default c =
    let left = c.loop-at.invariant.read in
    let word = c.index-words-at.result in
    let words = word-and-more string_bytes c.args.words.now c.loop-at.at word c.index-words-at.is c.loop-at-test.true in
    let none : option_named left.0 (string_bytes word) ≡ None = rw (← c.as_str.ensures.value) (left-none c.loop-at.used left.0 c.as_str.result.now left.1 c.in_default.ensures) in
    c.read_last.ensures ∙ sym (left.2 ∙ rw words (last-step (codes "run") left.0 c.loop-at.options c.loop-at.at (string_bytes word) _ none))

-- the word that was read is the option's name
read-name : (c : In-Some) → drop c.loop-at.at (map string_bytes c.args.words.now) ≡ (row_of c.in-Some.name).name ∷ drop (c.loop-at.at + 1) (map string_bytes c.args.words.now)
read-name c =
    let word = c.index-words-at.result in
    let words = word-and-more string_bytes c.args.words.now c.loop-at.at word c.index-words-at.is c.loop-at-test.true in
    let name = known-name c.as_str.result.now c.in-Some.name (left-name c.loop-at.used (name_of c.as_str.result.now) c.in-Some.name (sym c.in-Some.ensures)) in
    words ∙ ap (λ x. x ∷ drop (c.loop-at.at + 1) (map string_bytes c.args.words.now)) (sym (name ∙ c.as_str.ensures.value))

-- the option is found
read-row : (c : In-Some) → option_named c.loop-at.invariant.read.0 (row_of c.in-Some.name).name ≡ Some (row_of c.in-Some.name)
read-row c = left-some c.loop-at.used c.loop-at.invariant.read.0 c.as_str.result.now c.in-Some.name c.loop-at.invariant.read.1 c.in-Some.ensures

pub returns-then-at-words : goal.returns-then-at-words
returns-then-at-words c =
    let left = c.loop-at.invariant.read in
    let some = (goal.at.returns-then-at-words c).In-Some in
    let none = no-word string_bytes c.args.words.now (c.loop-at.at + 1) (omega arith) in
    c.fault.ensures ∙ sym (left.2 ∙ rw (read-name some, none) (lacking-step (codes "run") left.0 c.loop-at.options c.loop-at.at (row_of c.in-Some.name).name (row_of c.in-Some.name) (read-row some)))

pub returns-in_default-with_value : goal.returns-in_default-with_value
returns-in_default-with_value c =
    let left = c.loop-at.invariant.read in
    let some = (goal.at.returns-in_default-with_value c).In-Some in
    let value = c.index-words-at-in-loop-at.result in
    let words = word-and-more string_bytes c.args.words.now (c.loop-at.at + 1) value c.index-words-at-in-loop-at.is (omega arith) in
    let wrong = sym (rw c.as_str-in-loop-at.ensures.value at c.in_default-with_value.ensures) in
    c.fault-in_default-with_value.ensures
    ∙ sym (left.2 ∙ rw (read-name some, words) (wrong-step (codes "run") left.0 c.loop-at.options c.loop-at.at c.in-Some.name (string_bytes value) _ (read-row some) wrong))

pub loop-at-preserved : goal.loop-at-preserved
loop-at-preserved c =
    let left = c.loop-at.invariant.read in
    let some = (goal.at.loop-at-preserved c).In-Some in
    let value = c.index-words-at-in-loop-at.result in
    let words = word-and-more string_bytes c.args.words.now (c.loop-at.at + 1) value c.index-words-at-in-loop-at.is (omega arith) in
    let fits = sym (rw c.as_str-in-loop-at.ensures.value at c.in-Some-with_value.ensures) in
    let behind = drop (c.loop-at.at + 1 + 1) (map string_bytes c.args.words.now) in
    let step = option-step (codes "run") left.0 c.loop-at.options c.in-Some-with_value.more c.loop-at.at c.in-Some.name (string_bytes value) behind (read-row some) fits in
    let place : place_of c.in-Some.name < length c.loop-at.used = omega (arith, place-within c.in-Some.name) in
    let offers = offers-but c.loop-at.used left.0 (row_of c.in-Some.name).name c.in-Some.name left.1 (own-name c.in-Some.name) place in
    let index : c.loop-at.at + 1 + 1 ≡ c.loop-at.at + 2 = omega arith in
    record {
      within = omega arith;
      all = simp length-set c.loop-at.invariant.all;
      read = (options_but left.0 (row_of c.in-Some.name).name, rw c.place.ensures offers, left.2 ∙ rw (read-name some, words, index) (rw index at step));
    }

pub returns : goal.returns
returns c =
    let left = c.loop-at.invariant.read in
    let none = no-word string_bytes c.args.words.now c.loop-at.at c.loop-at-test.false in
    let place : c.loop-at.at + 1 ≡ length c.args.words.now + 1 = omega arith in
    c.fault-2.ensures ∙ sym (left.2 ∙ rw none (none-step (codes "run") left.0 c.loop-at.options c.loop-at.at) ∙ ap fault_at place)
