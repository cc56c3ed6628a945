use Rattle.std.proofs.Common.{ap, sym, subst, ◌∙◌}
use Rattle.contents.specs.Content.{Content}
use Rattle.contents.specs.Accesses.{write_of}
use Rattle.cheri_step.specs.Results.{integer_of}
use Rattle.cheri_step.specs.Access.{as_stored, stored}
use Rattle.cheri_step.proofs.Accesses.{number-stored, stored-notes}
use Rattle.cheri_step.proofs.memory.store_at.Goals as goal

pub returns-in-Csc-clause-frames : goal.returns-in-Csc-clause-frames
returns-in-Csc-clause-frames g c = rw (c.as_stored.ensures, stored-notes c.write_cap.result) c.write_cap.ensures.frames

pub returns-in_default : goal.returns-in_default
returns-in_default g c =
    let write-is = λ (d : Content). number-stored d c.args.region c.args.at c.args.op c.args.value c.in_default.not-Csc ∙ ap (λ size. stored (write_of d c.args.region c.args.at size (integer_of c.args.value))) (sym c.store_size.ensures) ∙ ap (λ value. stored (write_of d c.args.region c.args.at c.store_size.result value)) (sym c.address.ensures) in
    record {
      answer = λ d stands. c.as_stored-in_default.ensures ∙ ap as_stored (c.write.ensures.answer d stands) ∙ sym (ap (λ o. o.answer) (write-is d));
      after = λ d stands. subst (λ o. g.S.Stores.stands_for c.write.new.self o.after) (sym (write-is d)) (c.write.ensures.after d stands);
      frames = rw (c.as_stored-in_default.ensures, stored-notes c.write.result) c.write.ensures.frames;
    }
