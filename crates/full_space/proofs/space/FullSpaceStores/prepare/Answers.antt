use Rattle.std.proofs.Common.{refl}
use Rattle.contents.specs.Conditions.{Covers, IsPrepared}
use Rattle.stores.proofs.Keeping.{stands-after, keeps-stores}
use Rattle.full_space.specs.Full.{FullStands}
use Rattle.full_space.proofs.Untouched.{prepare_of-full, covered-prepared}
use Rattle.full_space.proofs.space.FullSpaceStores.prepare.Goals as goal

pub returns-clause-answer : goal.returns-clause-answer
returns-clause-answer c content stands = rw (prepare_of-full content c.args._region c.args._at c.args._n c.args._access stands.rule) refl

pub returns-clause-after : goal.returns-clause-after
returns-clause-after c content stands = rw (prepare_of-full content c.args._region c.args._at c.args._n c.args._access stands.rule) stands

pub returns-clause-prepared : goal.returns-clause-prepared
returns-clause-prepared c _ =
    stands-after FullStands c.args.self.now c.args.self.now (λ content. content) (λ content stands. stands) (Covers c.args._region c.args._at c.args._n c.args._access) (IsPrepared c.args._region c.args._at c.args._n c.args._access)
    (λ content stands. covered-prepared content c.args._region c.args._at c.args._n c.args._access stands.rule) c.requires.covered

pub returns-clause-keeps : goal.returns-clause-keeps
returns-clause-keeps c =
    keeps-stores FullStands c.args.self.now c.args.self.now (λ content. content) (λ content stands. stands) (Covers c.args._region c.args._at c.args._n c.args._access) (λ content _ region. refl) c.requires.covered
