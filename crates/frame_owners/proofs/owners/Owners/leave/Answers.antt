use Rattle.std.proofs.Common.{◌∙◌, ◌-◌, ap, refl, sym}
use Rattle.frame_owners.specs.Homes.{Owner}
use Rattle.frame_owners.proofs.Shares.{change-owner, owner-put}
use Rattle.frame_owners.proofs.owners.Owners.leave.Goals as goal
use Rattle.frame_owners.proofs.owners.Owners.leave.Goals.{then-share-eq0, else-share-eq0}

pub returns-clause-after : goal.returns-clause-after
returns-clause-after c = change-owner (λ o. record { home = o.home; sharers = o.sharers - 1 }) _ _ _ _ _ c.self.view_is c.requires.frame c.index_mut-share.ensures.value refl

pub returns-clause-last : goal.returns-clause-last
returns-clause-last c =
    let here = ap (λ (o : Owner). o.sharers) (owner-put c.self.inside.shares.items c.args.self.now c.args.f.0 (record { home = c.index_mut-share.result.now.home; sharers = c.index_mut-share.result.now.sharers - 1 }) c.self.view_is c.requires.frame) in
    elim c.if-share-eq0.branch [
      | then-share-eq0 w ↦ (λ _. here ∙ w.if-share-eq0.true, λ _. w.result-is)
      | else-share-eq0 w ↦ (λ last. absurd (let e = sym w.result-is ∙ last in cc), λ none. absurd (w.if-share-eq0.false (sym here ∙ none)))
    ]
