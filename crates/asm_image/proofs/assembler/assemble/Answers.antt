-- Each fault is that of the definitions, and so is the file.
use Rattle.std.proofs.Common.{◌∙◌, refl, ap, sym, Ok}
use Rattle.asm_image.specs.Labels.{offsets_in}
use Rattle.asm_image.proofs.Outcomes.{places-then-names, place-refused, value-refused, entry-refused, faultless, file-made, closed-inside, rules-kept, start-tested, values-behind, HasPassed, passed}
use Rattle.asm_image.proofs.assembler.assemble.Goals as goal

pub returns-in-Some-clause-file : goal.returns-in-Some-clause-file
returns-in-Some-clause-file c =
    let text = c.args.text.now in
    let items = c.args.source.now in
    let first = rw c.nothing-found.ensures at c.in_ok-segments.ensures.found in
    let second = places-then-names text items _ _ first c.in_ok-labels.ensures.found in
    place-refused text items c.in-Some.fault (sym second ∙ sym c.least.ensures ∙ c.in-Some.is)

pub returns-in-Some-least-clause-file : goal.returns-in-Some-least-clause-file
returns-in-Some-least-clause-file c =
    let text = c.args.text.now in
    let items = c.args.source.now in
    let first = rw c.nothing-found.ensures at c.in_ok-segments.ensures.found in
    let second = places-then-names text items _ _ first c.in_ok-labels.ensures.found in
    let none = sym c.least.ensures ∙ c.in_default.is in
    let third = values-behind text items _ _ _ c.in_ok-labels.ensures.labels none c.check_values.ensures in
    value-refused text items c.in-Some-least.fault (sym second ∙ none) (sym third ∙ sym c.least-2.ensures ∙ c.in-Some-least.is)

pub start_of-requires : goal.start_of-requires
start_of-requires c =
    let text = c.args.text.now in
    let items = c.args.source.now in
    let ranges = c.sources_have_ranges.ensures text items c.requires in
    let first = rw c.nothing-found.ensures at c.in_ok-segments.ensures.found in
    let passes : HasPassed text items = passed text items _ _ _ _ first c.in_ok-labels.ensures.found c.in_ok-labels.ensures.labels c.check_values.ensures
    (sym c.least.ensures ∙ c.in_default.is) (sym c.least-2.ensures ∙ c.in_default-least.is) in
    let keeps = rules-kept text items (offsets_in text items) refl ranges passes.places passes.values in
    record { inside = rw (c.deref.ensures.value, c.in_ok-segments.ensures.segments) (closed-inside text items ranges keeps.places) }

pub returns-in_default-start_of-clause-file : goal.returns-in_default-start_of-clause-file
returns-in_default-start_of-clause-file c =
    let text = c.args.text.now in
    let items = c.args.source.now in
    let ranges = c.sources_have_ranges.ensures text items c.requires in
    let first = rw c.nothing-found.ensures at c.in_ok-segments.ensures.found in
    let passes : HasPassed text items = passed text items _ _ _ _ first c.in_ok-labels.ensures.found c.in_ok-labels.ensures.labels c.check_values.ensures
    (sym c.least.ensures ∙ c.in_default.is) (sym c.least-2.ensures ∙ c.in_default-least.is) in
    entry-refused text items passes.places passes.values
    (start-tested text items _ _ c.in_ok-labels.ensures.labels (c.deref.ensures.value ∙ c.in_ok-segments.ensures.segments) ranges ∙ c.in_default-start_of.ensures)

pub write_file-requires-clause-keeps : goal.write_file-requires-clause-keeps
write_file-requires-clause-keeps c =
    let text = c.args.text.now in
    let items = c.args.source.now in
    let ranges = c.sources_have_ranges.ensures text items c.requires in
    let first = rw c.nothing-found.ensures at c.in_ok-segments.ensures.found in
    let passes : HasPassed text items = passed text items _ _ _ _ first c.in_ok-labels.ensures.found c.in_ok-labels.ensures.labels c.check_values.ensures
    (sym c.least.ensures ∙ c.in_default.is) (sym c.least-2.ensures ∙ c.in_default-least.is) in
    rules-kept text items _ c.in_ok-labels.ensures.labels ranges passes.places passes.values

pub write_file-requires-clause-program : goal.write_file-requires-clause-program
write_file-requires-clause-program c =
    let text = c.args.text.now in
    let items = c.args.source.now in
    let ranges = c.sources_have_ranges.ensures text items c.requires in
    let first = rw c.nothing-found.ensures at c.in_ok-segments.ensures.found in
    let passes : HasPassed text items = passed text items _ _ _ _ first c.in_ok-labels.ensures.found c.in_ok-labels.ensures.labels c.check_values.ensures
    (sym c.least.ensures ∙ c.in_default.is) (sym c.least-2.ensures ∙ c.in_default-least.is) in
    let start = start-tested text items _ _ c.in_ok-labels.ensures.labels (c.deref.ensures.value ∙ c.in_ok-segments.ensures.segments) ranges ∙ c.in-Some-start_of.ensures.0 in
    c.sources_are_programs.ensures text items c.requires (faultless text items passes.places passes.values start)

pub returns-clause-file : goal.returns-clause-file
returns-clause-file c =
    let text = c.args.text.now in
    let items = c.args.source.now in
    let ranges = c.sources_have_ranges.ensures text items c.requires in
    let first = rw c.nothing-found.ensures at c.in_ok-segments.ensures.found in
    let passes : HasPassed text items = passed text items _ _ _ _ first c.in_ok-labels.ensures.found c.in_ok-labels.ensures.labels c.check_values.ensures
    (sym c.least.ensures ∙ c.in_default.is) (sym c.least-2.ensures ∙ c.in_default-least.is) in
    let start = start-tested text items _ _ c.in_ok-labels.ensures.labels (c.deref.ensures.value ∙ c.in_ok-segments.ensures.segments) ranges ∙ c.in-Some-start_of.ensures.0 in
    file-made text items (faultless text items passes.places passes.values start) ∙ ap Ok (sym c.in_ok-write_file.ensures)

pub returns-clause-image : goal.returns-clause-image
returns-clause-image c =
    let text = c.args.text.now in
    let items = c.args.source.now in
    let ranges = c.sources_have_ranges.ensures text items c.requires in
    let first = rw c.nothing-found.ensures at c.in_ok-segments.ensures.found in
    let passes : HasPassed text items = passed text items _ _ _ _ first c.in_ok-labels.ensures.found c.in_ok-labels.ensures.labels c.check_values.ensures
    (sym c.least.ensures ∙ c.in_default.is) (sym c.least-2.ensures ∙ c.in_default-least.is) in
    let start = start-tested text items _ _ c.in_ok-labels.ensures.labels (c.deref.ensures.value ∙ c.in_ok-segments.ensures.segments) ranges ∙ c.in-Some-start_of.ensures.0 in
    c.sources_are_images.ensures text items c.in_ok-write_file.field-0.items c.requires (file-made text items (faultless text items passes.places passes.values start) ∙ ap Ok (sym c.in_ok-write_file.ensures))
