use Rattle.std.proofs.Common.{◌≡◌, ◌-◌, false, slice_index_or}
use Rattle.std.specs.List.{find, range_with_len}
use Rattle.process_table.proofs.processes.first_marked.Given as goal

-- none of the slots before is marked
abbrev pub invariant-loop-slot : goal.invariant-loop-slot
invariant-loop-slot l =
    find (λ slot. slice_index_or l.marks slot false) (range_with_len l.from (l.to - l.from)) ≡ find (λ slot. slice_index_or l.marks slot false) (range_with_len l.slot (l.to - l.slot))
