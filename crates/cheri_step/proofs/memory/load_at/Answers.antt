use Rattle.std.proofs.Common.{ap, sym, subst, ◌∙◌}
use Rattle.contents.specs.Content.{Content}
use Rattle.contents.specs.Accesses.{read_of}
use Rattle.cheri_step.specs.Access.{as_integer, integer_loaded}
use Rattle.cheri_step.proofs.Accesses.{number-loaded, integer-notes}
use Rattle.cheri_step.proofs.memory.load_at.Goals as goal

pub returns-in_default : goal.returns-in_default
returns-in_default g c =
    let loaded = λ (d : Content). number-loaded d c.args.region c.args.at c.args.op c.in_default.not-Clc ∙ ap (λ size. integer_loaded (read_of d c.args.region c.args.at size)) (sym c.load_size.ensures) in
    record {
      answer = λ d stands. c.as_integer.ensures ∙ ap as_integer (c.read.ensures.answer d stands) ∙ sym (ap (λ o. o.answer) (loaded d));
      after = λ d stands. subst (λ o. g.S.Stores.stands_for c.read.new.self o.after) (sym (loaded d)) (c.read.ensures.after d stands);
      frames = rw (c.as_integer.ensures, integer-notes c.read.result) c.read.ensures.frames;
    }
