use Rattle.std.proofs.Common.{◌≡◌, ◌∙◌, sym, ap, ℕ, ◌-◌, ◌+◌, ◌<◌, length, drop, arith}
use Rattle.std.proofs.Common.{Option, None}
use Rattle.std.proofs.lemmas.List.{get_or_default}
use Rattle.machine.specs.declared.process.Process.{Process}
use Rattle.machine.specs.Processes.{process_at, ended_child, first_ended}
use Rattle.process_table.specs.Tables.{told}
use Rattle.process_table.proofs.Scans.{ended-more, ended-none}
use Rattle.process_table.proofs.processes.Processes.first_ended.Goals as goal

pub loop-done-init : goal.loop-done-init
loop-done-init c = let count = c.len-count.ensures in sym (ap told (ended-none c.args.parent c.self.inside.slots.items (c.len-count.result - 0) (omega arith)))

pub loop-done-preserved : goal.loop-done-preserved
loop-done-preserved c =
    let slots = c.self.inside.slots.items in
    let k : ℕ = c.len-count.result - 1 - c.loop-done.done in
    let count = c.len-count.ensures in
    let low : k < length slots = omega arith in
    let behind : c.len-count.result - c.loop-done.done ≡ k + 1 = omega arith in
    let here : c.len-count.result - (c.loop-done.done + 1) ≡ k = omega arith in
    let before : c.loop-done.least ≡ told (first_ended c.args.parent (drop (k + 1) slots)) = rw (← behind) c.loop-done.invariant in
    let same : c.index-slot.result.now ≡ process_at slots k = c.index-slot.ensures ∙ get_or_default slots k c.index-slot.result.now None low in
    let child : c.ended_child.result ≡ told (ended_child c.args.parent (process_at slots k)) = c.ended_child.ensures ∙ ap (λ (o : Option Process). told (ended_child c.args.parent o)) same in
    rw here (c.with_lower-least.ensures (ended_child c.args.parent (process_at slots k)) (first_ended c.args.parent (drop (k + 1) slots)) child before
    ∙ sym (ap told (ended-more c.args.parent slots k low)))
