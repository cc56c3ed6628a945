use Rattle.std.proofs.Common.{◌≡◌, ◌∷◌, [], ◌+◌, ◌*◌, arith}
use Rattle.outside_io.specs.Parts.{out_part}
use Rattle.outside_io.proofs.PartLemmas.{Underway-more, Underway-stop, Underway-end}
use Rattle.cap_format.specs.FileNumbers.{u32_at}
use Rattle.trace_tools.specs.Statements.{instr_line}
use Rattle.ufork_program.specs.Tools.{word_parts}
use Rattle.ufork_program.proofs.ListingLemmas.{printed-line, line-some, words-left, words-over, word-read}
use Rattle.ufork_program.proofs.tools.write_words.Goals as goal

pub returns-in_err-write_instr : goal.returns-in_err-write_instr
returns-in_err-write_instr g c = λ err.
    let file = c.args.file.now in
    let place = c.args.place + 4 * c.loop-at.at in
    let offset = c.args.offset + 4 * c.loop-at.at in
    let word = c.read_u32-word.result in
    let read : word ≡ u32_at file place = word-read file place word c.read_u32-word.ensures in
    let left = words-left file c.args.place c.args.offset c.args.count c.loop-at.at c.loop-at-test.true in
    Underway-stop (word_parts file c.args.place c.args.offset c.args.count) (out_part (instr_line offset (u32_at file place)) ∷ []) _ _ _ _ _ _ _ c.from_residual.ensures.1
    (rw left at c.loop-at.invariant err) (printed-line (instr_line offset (u32_at file place)) _ _ err _ (line-some offset (u32_at file place)) (rw read at c.in_err-write_instr.ensures))

pub loop-at-preserved : goal.loop-at-preserved
loop-at-preserved g c = λ err.
    let file = c.args.file.now in
    let place = c.args.place + 4 * c.loop-at.at in
    let offset = c.args.offset + 4 * c.loop-at.at in
    let word = c.read_u32-word.result in
    let read : word ≡ u32_at file place = word-read file place word c.read_u32-word.ensures in
    let left = words-left file c.args.place c.args.offset c.args.count c.loop-at.at c.loop-at-test.true in
    Underway-more _ (out_part (instr_line offset (u32_at file place)) ∷ []) _ _ _ _ _
    (rw left at c.loop-at.invariant err) (printed-line (instr_line offset (u32_at file place)) _ _ err _ (line-some offset (u32_at file place)) (rw read at c.in_ok-write_instr.ensures))

pub returns : goal.returns
returns g c = λ err.
    let over = words-over c.args.file.now (c.args.place + 4 * c.loop-at.at) (c.args.offset + 4 * c.loop-at.at) c.args.count c.loop-at.at (omega (arith, c.loop-at-test.false)) in
    Underway-end _ _ _ _ (rw over at c.loop-at.invariant err)
