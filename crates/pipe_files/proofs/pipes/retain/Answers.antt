use Rattle.std.proofs.Common.{ap, ◌<◌, length, rules}
use Rattle.pipe_files.specs.Counts.{parts}
use Rattle.pipe_files.proofs.PipeCounts.{same_parts}
use Rattle.pipe_files.proofs.pipes.retain.Goals as goal

pub returns-in-Some-PipeRead-clause-rest : goal.returns-in-Some-PipeRead-clause-rest
returns-in-Some-PipeRead-clause-rest c =
    let pipes = c.args.pipes.now.items in
    let within : c.in-Some-PipeRead.k < length pipes = search rules in
    same_parts pipes c.in-Some-PipeRead.k c.index_mut.result.now c.retain_reading.new.self within c.index_mut.ensures.value (ap parts c.retain_reading.ensures)

pub returns-in-Some-PipeWrite-clause-rest : goal.returns-in-Some-PipeWrite-clause-rest
returns-in-Some-PipeWrite-clause-rest c =
    let pipes = c.args.pipes.now.items in
    let within : c.in-Some-PipeWrite.k < length pipes = search rules in
    same_parts pipes c.in-Some-PipeWrite.k c.index_mut-in-Some-PipeWrite.result.now c.retain_writing.new.self within c.index_mut-in-Some-PipeWrite.ensures.value (ap parts c.retain_writing.ensures)
