use Rattle.std.proofs.Common.{◌∙◌, ap, map, List}
use Rattle.frame_owners.specs.declared.owners.Share.{Share}
use Rattle.frame_owners.proofs.Shares.{owner_of, owners-replicate}
use Rattle.frame_owners.proofs.owners.Owners.new.Goals as goal

pub returns-in-Ok : goal.returns-in-Ok
returns-in-Ok c =
    let all = c.in-Ok.ensures.items_if_clones_equal (λ y h. h) in
    ap (λ (shares : List Share). map owner_of shares) all ∙ owners-replicate c.args.frames (record { home = 0; sharers = 0 })
