-- The test of all bytes is that of the definition, which recurses over the list as `list_all` does.
use Rattle.std.proofs.Common.{◌∙◌, refl, ◌&&◌, not, eqb, rules, tests}
use Rattle.std.specs.List.{list_all}
use Rattle.std.proofs.lemmas.Iterator.{YieldsList-from_slice}
use Rattle.std.proofs.lemmas.Iterator.Search.{all_from_yields_List}
use Rattle.std.proofs.lemmas.List.Recursion.{same_from_clauses}
use Rattle.asm_text.specs.Statements.{is_label_name}
use Rattle.asm_text.proofs.operands.is_label_name.Goals as goal

pub returns : goal.returns
returns c =
    let name = c.args.name.now in
    let by_call = all_from_yields_List (λ byte. not (eqb byte 46)) _ _ c.all.result c.all.ensures.ran (YieldsList-from_slice name cc) (λ x b q k. search (rules, tests)) in
    by_call ∙ same_from_clauses (list_all (λ byte. not (eqb byte 46))) is_label_name (λ byte rest. not (eqb byte 46) && rest) refl (λ _ _. refl) (λ _ _. refl) name
