use Rattle.std.proofs.Common.{◌≡◌, ◌∙◌, sym, ◌+◌, false, length, slice_index_or, arith}
use Rattle.process_table.proofs.Scans.{next-here, next-later, scan-same, scan-first}
use Rattle.process_table.proofs.processes.Processes.next_ready.Goals as goal

pub returns-in-Some : goal.returns-in-Some
returns-in-Some c =
    let marks = c.self.inside.marks.items in
    let slots = c.self.inside.slots.items in
    let count = c.len.ensures in
    let long : c.len.result ≡ length slots = omega arith in
    rw (← c.self.view_is) (next-here (λ slot. slice_index_or marks slot false) (length slots) c.args.last c.in-Some.slot
    (sym c.in-Some.is ∙ c.first_marked.ensures ∙ scan-same c.deref.result.now marks (c.args.last + 1) c.len.result (length slots) c.deref.ensures.value long))

pub returns-in-None : goal.returns-in-None
returns-in-None c =
    let marks = c.self.inside.marks.items in
    let slots = c.self.inside.slots.items in
    let count = c.len.ensures in
    let long : c.len.result ≡ length slots = omega arith in
    rw (← c.self.view_is) (next-later (λ slot. slice_index_or marks slot false) (length slots) c.args.last c.first_marked-in-None.result
    (sym c.in-None.is ∙ c.first_marked.ensures ∙ scan-same c.deref.result.now marks (c.args.last + 1) c.len.result (length slots) c.deref.ensures.value long)
    (c.first_marked-in-None.ensures ∙ scan-first c.deref-in-None.result.now marks (c.args.last + 1) c.deref-in-None.ensures.value))
