-- What is found is what the definition finds, copied.
use Rattle.std.proofs.Common.{◌∙◌, rules, tests}
use Rattle.std.specs.Prelude.{bytes_eq}
use Rattle.std.proofs.lemmas.Iterator.{YieldsList-from_slice}
use Rattle.std.proofs.lemmas.Iterator.Search.{find_from_yields_List}
use Rattle.asm_text.specs.declared.statements.TheConstants.{STATEMENTS}
use Rattle.asm_text.specs.Statements.{name_of}
use Rattle.asm_text.proofs.statements.statement_named.Goals as goal

pub returns : goal.returns
returns c = c.copied.ensures ∙ find_from_yields_List (λ statement. bytes_eq (name_of statement) c.args.word.now) _ _ c.find.result c.find.ensures.ran (YieldsList-from_slice STATEMENTS cc) (λ x b q k. search (rules, tests))
