-- The lines that were read make the source with those that are left.
use Rattle.std.proofs.Common.{◌∙◌, sym, ap, Ok, arith}
use Rattle.asm_text.specs.Source.{of_lines}
use Rattle.asm_text.proofs.FirstLines.{line-at}
use Rattle.asm_text.proofs.SourceRead.{put-before, put-none, line-put, line-fault, all-lines, too-long, source-lines}
use Rattle.asm_text.proofs.source.read_source.Goals as goal

pub returns-then-text-gt-SOURCE_BYTES-clause-read : goal.returns-then-text-gt-SOURCE_BYTES-clause-read
returns-then-text-gt-SOURCE_BYTES-clause-read c =
    let long = too-long c.args.text.now (omega arith) in
    rw c.fault.ensures long

pub loop-at-init : goal.loop-at-init
loop-at-init c = record {
  within = omega arith;
  number = omega arith;
  read = rw c.new-items.ensures.items (put-none _ ∙ sym (source-lines c.args.text.now (omega arith)));
}

pub returns-in-Some-clause-read : goal.returns-in-Some-clause-read
returns-in-Some-clause-read c =
    let text = c.args.text.now in
    let l = c.loop-at in
    let lines = ap (λ lines. put-before l.items.items (of_lines text l.line lines)) (line-at text l.at c.line_end-past.result c.loop-at-test.true c.line_end-past.ensures) in
    let said = rw c.in-Some.is at c.in_ok-reason.ensures in
    rw c.fault-in-Some.ensures (sym l.invariant.read ∙ lines ∙ line-fault l.line _ _ _ _ c.in-Some.reason said)

pub loop-at-preserved : goal.loop-at-preserved
loop-at-preserved c =
    let text = c.args.text.now in
    let l = c.loop-at in
    let end = c.line_end-past.ensures in
    let lines = ap (λ lines. put-before l.items.items (of_lines text l.line lines)) (line-at text l.at c.line_end-past.result c.loop-at-test.true end) in
    let said = rw c.in_default.is at c.in_ok-reason.ensures in
    record {
      within = omega (arith, end.to);
      number = omega (arith, end.from);
      read = sym (line-put l.line _ _ _ _ said) ∙ sym lines ∙ l.invariant.read;
    }

pub returns-clause-spans : goal.returns-clause-spans
returns-clause-spans c =
    let text = c.args.text.now in
    let l = c.loop-at in
    let is = sym l.invariant.read ∙ all-lines text l.line l.at l.items.items c.loop-at-test.false ∙ ap Ok (sym c.new.ensures) in
    c.sources_have_spans.ensures text c.new.result is
