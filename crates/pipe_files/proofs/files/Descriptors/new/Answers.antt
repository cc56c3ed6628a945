use Rattle.std.proofs.Common.{◌≡◌, ◌∙◌, sym, ap, ℕ, Option, None, List, [], replicate, subst, get_or, rules}
use Rattle.slab.specs.Slab.{get}
use Rattle.machine.specs.declared.process.Target.{Target}
use Rattle.machine.specs.Pipes.{Table, no_descriptors}
use Rattle.pipe_files.specs.Counts.{bytes_of}
use Rattle.pipe_files.specs.Tables.{unused, Entries, tables_of, AreKept}
use Rattle.pipe_files.proofs.Beginning.{none-seen, fresh-bytes, first-input, first-output, first-kept}
use Rattle.pipe_files.proofs.files.Descriptors.new.Goals as goal

pub invariant_of-result : goal.invariant_of-result
invariant_of-result c =
    let none : c.in_ok-descriptions.descriptions.slots ≡ [] = search rules in
    let empty : (key : ℕ) → get c.in_ok-descriptions.descriptions key ≡ None = λ key. ap (λ (slots : List (Option Target)). get_or slots key None) none in
    let items : c.in_ok-tables.tables.items ≡ replicate c.args.slots unused = c.in_ok-tables.ensures in
    let first = c.insert_reserved-input.ensures in
    let second = c.insert_reserved-output.ensures in
    let made = c.in_ok-pipes.ensures in
    record {
      input = first-input c.in_ok-descriptions.descriptions c.insert_reserved-input.new.self c.insert_reserved-output.new.self c.insert_reserved-input.result c.insert_reserved-output.result empty first.updates second.was_vacant second.updates c.make_pipes.new.descriptions c.in_ok-pipes.pipes.items made;
      output = first-output c.in_ok-descriptions.descriptions c.insert_reserved-input.new.self c.insert_reserved-output.new.self c.insert_reserved-input.result c.insert_reserved-output.result empty first.updates second.was_vacant second.updates c.make_pipes.new.descriptions c.in_ok-pipes.pipes.items made;
      kept = subst (λ (tables : List Entries). AreKept c.make_pipes.new.descriptions tables c.in_ok-pipes.pipes.items) (sym items)
          (first-kept c.in_ok-descriptions.descriptions c.insert_reserved-input.new.self c.insert_reserved-output.new.self c.insert_reserved-input.result c.insert_reserved-output.result empty first.updates second.was_vacant second.updates c.make_pipes.new.descriptions c.args.slots c.in_ok-pipes.pipes.items c.requires.most made);
    }

pub returns : goal.returns
returns c =
    let items : c.in_ok-tables.tables.items ≡ replicate c.args.slots unused = c.in_ok-tables.ensures in
    let made = c.in_ok-pipes.ensures in
    ap (λ (x : List Table). record { tables = x; pipes = bytes_of c.in_ok-pipes.pipes.items }) (ap (tables_of c.make_pipes.new.descriptions) items ∙ none-seen c.make_pipes.new.descriptions c.args.slots)
    ∙ ap (λ (x : List (List ℕ)). record { tables = replicate c.args.slots no_descriptors; pipes = x }) (fresh-bytes c.in_ok-pipes.pipes.items 16 made.count_is made.fresh)
