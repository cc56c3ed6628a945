use Rattle.std.proofs.Common.{◌∙◌, refl, arith}
use Rattle.ufork_program.proofs.InputLemmas.{took_all, took_too_many, took_until_fault}
use Rattle.ufork_program.proofs.input.read_input.Goals as goal

pub overflow_add-vec : goal.overflow_add-vec
overflow_add-vec g c = omega arith

pub returns-in_default : goal.returns-in_default
returns-in_default g c = refl

pub returns-in_default-fill : goal.returns-in_default-fill
returns-in_default-fill g c = took_until_fault _ _ _ (c.fill.auto.room ∙ c.deref_mut.ensures.len ∙ c.in-Ok.ensures.len) c.in_default-fill.ensures

pub returns-then-count-gt-MOST_INPUT : goal.returns-then-count-gt-MOST_INPUT
returns-then-count-gt-MOST_INPUT g c = took_too_many _ _ _ _ (c.fill.auto.room ∙ c.deref_mut.ensures.len ∙ c.in-Ok.ensures.len) c.in-Ok-fill.ensures c.if-count-gt-MOST_INPUT.true

pub returns : goal.returns
returns g c =
    let size = c.fill.auto.room ∙ c.deref_mut.ensures.len in
    took_all _ _ _ _ (size ∙ c.in-Ok.ensures.len) c.in-Ok-fill.ensures _ _ _ size c.truncate.ensures.items c.if-count-gt-MOST_INPUT.false
