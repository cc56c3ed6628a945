use Rattle.std.proofs.Common.{◌≡◌, Some, None}
use Rattle.stores.proofs.ShownPages.{translations-show}
use Rattle.full_space.specs.Steps.{translation_of}
use Rattle.full_space.specs.Shown.{own-shown}
use Rattle.full_space.proofs.space.FullSpaceStores.translate.Goals as goal

pub returns-in_err-entry-clause-answer : goal.returns-in_err-entry-clause-answer
returns-in_err-entry-clause-answer c content stands =
    let was : c.entry_of.result ≡ None = c.in_err-entry.was in
    let space = c.args.self.now in
    let shows = translations-show space.board content stands.board (λ region. translation_of) (own-shown space.board space.own) c.args.region c.args.page in
    rw c.from_residual.ensures (rw (← c.entry_of.ensures, was) at shows)

pub returns-clause-answer : goal.returns-clause-answer
returns-clause-answer c content stands =
    let was : c.entry_of.result ≡ Some c.in_ok-entry.entry = c.in_ok-entry.was in
    let space = c.args.self.now in
    let shows = translations-show space.board content stands.board (λ region. translation_of) (own-shown space.board space.own) c.args.region c.args.page in
    rw (← c.entry_of.ensures, was) at shows
