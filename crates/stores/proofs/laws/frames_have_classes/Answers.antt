-- The class of a page shares its frame.
use Rattle.std.proofs.Common.{sym}
use Rattle.stores.proofs.FoundClasses.{class-found}
use Rattle.stores.proofs.laws.frames_have_classes.Goals as goal

pub returns : goal.returns
returns c board content region page f stands here =
    let found = class-found stands.kept region page f here in
    record { class = found.class; there = found.there; home = sym found.is.home; members = sym found.is.sharers }
