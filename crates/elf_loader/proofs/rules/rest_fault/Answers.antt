use Rattle.std.proofs.Common.{◌∙◌, ◌++◌, sym, length, true, find}
use Rattle.cap_format.specs.Numbers.{file_header_bytes}
use Rattle.cap_format.specs.Image.{headers_rules, entry_rules, entry_of, relocations_rules, relocations_in, table_place, is_table}
use Rattle.elf_loader.proofs.Walks.{found-some, found-none}
use Rattle.elf_loader.proofs.rules.rest_fault.Goals as goal

pub returns-then-is_some-clause-is : goal.returns-then-is_some-clause-is
returns-then-is_some-clause-is c =
    let bytes = c.args.bytes.now in
    let headers = c.args.headers.now in
    found-some (headers_rules (length bytes) 0 true file_header_bytes headers)
    (entry_rules (entry_of bytes) headers ++ relocations_rules headers 0 (table_place (find is_table headers)) (relocations_in bytes (find is_table headers)))
    c.headers_fault-found.result (sym c.is_some.ensures ∙ c.if-is_some.true) c.headers_fault-found.ensures.is

pub returns-then-is_some-2-clause-is : goal.returns-then-is_some-2-clause-is
returns-then-is_some-2-clause-is c =
    let bytes = c.args.bytes.now in
    let headers = c.args.headers.now in
    let rest = relocations_rules headers 0 (table_place (find is_table headers)) (relocations_in bytes (find is_table headers)) in
    found-some (entry_rules (entry_of bytes) headers) rest c.entry_fault-found.result (sym c.is_some-2.ensures ∙ c.if-is_some-2.true) (rw (sym c.u64_at.ensures) c.entry_fault-found.ensures)
    ∙ sym (found-none (headers_rules (length bytes) 0 true file_header_bytes headers) (entry_rules (entry_of bytes) headers ++ rest)
    c.headers_fault-found.result (sym c.is_some.ensures ∙ c.if-is_some.false) c.headers_fault-found.ensures.is)

pub returns-clause-is : goal.returns-clause-is
returns-clause-is c =
    let bytes = c.args.bytes.now in
    let headers = c.args.headers.now in
    let rest = relocations_rules headers 0 (table_place (find is_table headers)) (relocations_in bytes (find is_table headers)) in
    c.table_relocations_fault.ensures.is
    ∙ sym (found-none (entry_rules (entry_of bytes) headers) rest c.entry_fault-found.result (sym c.is_some-2.ensures ∙ c.if-is_some-2.false) (rw (sym c.u64_at.ensures) c.entry_fault-found.ensures))
    ∙ sym (found-none (headers_rules (length bytes) 0 true file_header_bytes headers) (entry_rules (entry_of bytes) headers ++ rest)
    c.headers_fault-found.result (sym c.is_some.ensures ∙ c.if-is_some.false) c.headers_fault-found.ensures.is)
