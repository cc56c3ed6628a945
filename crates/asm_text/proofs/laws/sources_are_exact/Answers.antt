-- A source is its lines, where it isn't too long.
use Rattle.std.proofs.Common.{◌∙◌, sym, arith}
use Rattle.asm_text.specs.Lines.{lines_from}
use Rattle.asm_text.proofs.SourceRead.{too-long, source-lines, source-read}
use Rattle.asm_text.proofs.FaultLines.{fault-found, fault-is, lines-good, items-are}
use Rattle.asm_text.proofs.WholeLines.{lines-whole, lines-unbroken}
use Rattle.asm_text.proofs.laws.sources_are_exact.Goals as goal

pub returns : goal.returns
returns c = record {
  long = too-long;
  first = λ text n reason short fault. source-lines text short ∙ fault-found text 1 (lines_from 0 text) n reason (record {
    from = fault.from;
    to = omega (arith, fault.to);
    here = fault.here;
    before = fault.before;
  });
  fault_is = λ text n reason short is.
      let has = fault-is text 1 (lines_from 0 text) n reason (sym (source-lines text short) ∙ is) in
      record {
        from = has.from;
        to = omega (arith, has.to);
        here = has.here;
        before = has.before;
      };
  read = λ text items is. items-are text 1 (lines_from 0 text) items (source-read text items is);
  right = λ text short good. source-lines text short ∙ lines-good text 1 (lines_from 0 text) (λ n from to. good n from (omega arith));
  lines = lines-whole 0;
  unbroken = lines-unbroken 0;
}
