use Rattle.std.proofs.Common.{◌≡◌, ◌∙◌, sym, ap, subst, ◌+◌, Option, [], slice_set}
use Rattle.std.proofs.lemmas.List.{get_or_default}
use Rattle.machine.specs.declared.process.Target.{Target}
use Rattle.machine.specs.Pipes.{reads, writes}
use Rattle.pipe_files.specs.Counts.{one, readers_at, writers_at}
use Rattle.pipe_files.specs.Tables.{named_by, entries_at, Entries, AreKept}
use Rattle.pipe_files.proofs.Entries.{few-readers, few-writers, some-readers-more, some-writers-more, was, kept-entry}
use Rattle.pipe_files.proofs.tables.put_entry.Goals as goal

pub retain-requires-clause-few_readers : goal.retain-requires-clause-few_readers
retain-requires-clause-few_readers c = few-readers c.args.descriptions.now c.args.tables.now.items c.args.pipes.now.items c.args.slot c.args.fd c.args.entry c.requires.slot c.requires.fd c.requires.kept

pub retain-requires-clause-few_writers : goal.retain-requires-clause-few_writers
retain-requires-clause-few_writers c = few-writers c.args.descriptions.now c.args.tables.now.items c.args.pipes.now.items c.args.slot c.args.fd c.args.entry c.requires.slot c.requires.fd c.requires.kept

pub release-requires-clause-some_readers : goal.release-requires-clause-some_readers
release-requires-clause-some_readers c k =
    let old : c.named_by-2.result ≡ was c.args.descriptions.now c.args.tables.now.items c.args.pipes.now.items c.args.slot c.args.fd c.args.entry c.requires.slot c.requires.fd c.requires.kept = c.named_by-2.ensures ∙ ap (named_by c.args.descriptions.now) c.entry_at-old.ensures in
    rw old (some-readers-more c.args.descriptions.now c.args.tables.now.items c.args.pipes.now.items c.args.slot c.args.fd c.args.entry c.requires.slot c.requires.fd c.requires.kept c.retain.new.pipes.items (λ j. c.retain.ensures.readers j ∙ ap (λ (o : Option Target). one (reads j o) + readers_at c.args.pipes.now.items j) c.named_by.ensures) k)

pub release-requires-clause-some_writers : goal.release-requires-clause-some_writers
release-requires-clause-some_writers c k =
    let old : c.named_by-2.result ≡ was c.args.descriptions.now c.args.tables.now.items c.args.pipes.now.items c.args.slot c.args.fd c.args.entry c.requires.slot c.requires.fd c.requires.kept = c.named_by-2.ensures ∙ ap (named_by c.args.descriptions.now) c.entry_at-old.ensures in
    rw old (some-writers-more c.args.descriptions.now c.args.tables.now.items c.args.pipes.now.items c.args.slot c.args.fd c.args.entry c.requires.slot c.requires.fd c.requires.kept c.retain.new.pipes.items (λ j. c.retain.ensures.writers j ∙ ap (λ (o : Option Target). one (writes j o) + writers_at c.args.pipes.now.items j) c.named_by.ensures) k)

pub returns-clause-kept : goal.returns-clause-kept
returns-clause-kept c =
    let old : c.named_by-2.result ≡ was c.args.descriptions.now c.args.tables.now.items c.args.pipes.now.items c.args.slot c.args.fd c.args.entry c.requires.slot c.requires.fd c.requires.kept = c.named_by-2.ensures ∙ ap (named_by c.args.descriptions.now) c.entry_at-old.ensures in
    let table : c.index_mut.result.now ≡ entries_at c.args.tables.now.items c.args.slot = c.index_mut.ensures.value ∙ get_or_default c.args.tables.now.items c.args.slot c.index_mut.result.now [] c.requires.slot in
    subst (λ (x : Entries). AreKept c.args.descriptions.now (slice_set c.args.tables.now.items c.args.slot (slice_set x c.args.fd c.args.entry)) c.release.new.pipes.items) (sym table)
    (kept-entry c.args.descriptions.now c.args.tables.now.items c.args.pipes.now.items c.args.slot c.args.fd c.args.entry c.requires.slot c.requires.fd c.requires.kept c.retain.new.pipes.items c.release.new.pipes.items
    (λ j. c.retain.ensures.readers j ∙ ap (λ (o : Option Target). one (reads j o) + readers_at c.args.pipes.now.items j) c.named_by.ensures)
    (λ j. c.retain.ensures.writers j ∙ ap (λ (o : Option Target). one (writes j o) + writers_at c.args.pipes.now.items j) c.named_by.ensures)
    (λ j. c.release.ensures.readers j ∙ ap (λ (o : Option Target). one (reads j o) + readers_at c.release.new.pipes.items j) old)
    (λ j. c.release.ensures.writers j ∙ ap (λ (o : Option Target). one (writes j o) + writers_at c.release.new.pipes.items j) old)
    (c.release.ensures.rest ∙ c.retain.ensures.rest))
