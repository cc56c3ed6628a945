use Rattle.std.proofs.Common.{◌∙◌, ap}
use Rattle.asm_text.specs.Cursors.{behind}
use Rattle.asm_text.proofs.Fronts.{behind-end}
use Rattle.asm_text.proofs.cursor.Cursor.next.Goals as goal

pub returns-in-End-clause-left : goal.returns-in-End-clause-left
returns-in-End-clause-left c =
    let inside = c.self.inside in
    behind-end inside.text.now inside.at inside.past inside.whole c.in-End.ensures ∙ ap behind c.self.view_is
