-- The items that were passed are no `.entry`.
use Rattle.std.proofs.Common.{◌∙◌, sym, ap, arith}
use Rattle.std.proofs.lemmas.List.{drop_all}
use Rattle.asm_image.specs.Labels.{entry_span}
use Rattle.asm_image.proofs.ItemsLeft.{entry-here, entry-behind}
use Rattle.asm_image.proofs.labels.entry_span.Goals as goal

pub loop-at-preserved : goal.loop-at-preserved
loop-at-preserved c = sym (entry-behind c.args.listing.now c.loop-at.at c.item.result c.item.ensures c.in_default.not-Entry) ∙ c.loop-at.invariant

pub returns-in-Entry : goal.returns-in-Entry
returns-in-Entry c = sym (entry-here c.args.listing.now c.loop-at.at c.item.result c.in-Entry.name c.item.ensures c.in-Entry.is) ∙ c.loop-at.invariant

pub returns : goal.returns
returns c = ap entry_span (sym (drop_all c.loop-at.at c.args.listing.now (omega arith))) ∙ c.loop-at.invariant
