use Rattle.contents.proofs.LookedAt.{looks-there, looks-rights, looks-home, looks-alone, looks-tag}
use Rattle.contents.proofs.behavior.looks_agree.Goals as goal

pub returns : goal.returns
returns c = record { there = looks-there; rights = looks-rights; home = looks-home; alone = looks-alone; tag = looks-tag }
