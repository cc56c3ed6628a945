-- The owners that the shares of the program stand for.
use Rattle.std.proofs.Common.{◌≡◌, ◌∙◌, ℕ, zero, suc, ◌<◌, List, ◌∷◌, replicate, refl, length, map, set, get_or, ap, sym, arith}
use Rattle.std.proofs.lemmas.List.{map-set, get_or-map, get_or-set_same, length-map}
use Rattle.frame_owners.specs.Homes.{Owner, owner, nobody}
use Rattle.frame_owners.specs.declared.owners.Share.{Share}

-- the owner that a share stands for
abbrev pub owner_of : Share → Owner
owner_of share = record { home = share.home; sharers = share.sharers }

-- writing a share writes its owner
pub put-owner : (shares : List Share) (owners : List Owner) (i : ℕ) (share : Share) → map owner_of shares ≡ owners
    → map owner_of (set shares i share) ≡ set owners i (owner_of share)
put-owner shares owners i share are = map-set owner_of shares i share ∙ ap (λ (os : List Owner). set os i (owner_of share)) are

-- reading a share reads its owner
pub read-owner : (shares : List Share) (owners : List Owner) (i : ℕ) (share : Share) → map owner_of shares ≡ owners → i < length owners
    → share ≡ get_or shares i share → owner owners i ≡ owner_of share
read-owner shares owners i share are within is =
    let inside : i < length shares = omega (arith, length-map shares owner_of, ap length are) in
    ap (λ (os : List Owner). get_or os i nobody) (sym are) ∙ get_or-map owner_of shares i share nobody inside ∙ ap owner_of (sym is)

-- a share changed as its owner is to change
pub change-owner : (change : Owner → Owner) (shares : List Share) (owners : List Owner) (i : ℕ) (before after : Share) → map owner_of shares ≡ owners → i < length owners
    → before ≡ get_or shares i before → owner_of after ≡ change (owner_of before)
    → map owner_of (set shares i after) ≡ set owners i (change (owner owners i))
change-owner change shares owners i before after are within is changed =
    put-owner shares owners i after are
    ∙ ap (λ (o : Owner). set owners i o) (changed ∙ ap change (sym (read-owner shares owners i before are within is)))

-- a share that was written is the owner there
pub owner-put : (shares : List Share) (owners : List Owner) (i : ℕ) (share : Share) → map owner_of shares ≡ owners → i < length owners
    → owner (map owner_of (set shares i share)) i ≡ owner_of share
owner-put shares owners i share are within =
    ap (λ (os : List Owner). get_or os i nobody) (put-owner shares owners i share are) ∙ get_or-set_same owners i (owner_of share) nobody within

-- equal shares stand for equal owners
pub owners-replicate : (count : ℕ) (share : Share) → map owner_of (replicate count share) ≡ replicate count (owner_of share)
owners-replicate zero share = refl
owners-replicate (suc count) share = ap (λ (os : List Owner). owner_of share ∷ os) (owners-replicate count share)
