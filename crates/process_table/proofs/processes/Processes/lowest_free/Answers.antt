use Rattle.std.proofs.Common.{◌≡◌, sym, None, arith}
use Rattle.machine.specs.Processes.{process_at}
use Rattle.process_table.proofs.Scans.{lowest-is}
use Rattle.process_table.proofs.processes.Processes.lowest_free.Goals as goal

pub returns-then-is_none : goal.returns-then-is_none
returns-then-is_none c =
    let none : process_at c.self.inside.slots.items c.loop-slot.slot ≡ None = grind (arith) in
    record {
      is = rw (← c.self.view_is) (sym (lowest-is c.places_are_lowest.ensures c.self.inside.slots.items c.loop-slot.slot (omega arith) none c.loop-slot.invariant));
      within = rw (← c.self.view_is) (omega arith);
    }
