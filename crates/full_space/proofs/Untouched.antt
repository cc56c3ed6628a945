-- Under the rule `full` nothing is touched.
use Rattle.std.proofs.Common.{◌≡◌, ◌∙◌, ℕ, Bool, Option, Some, None, Ok, List, [], ◌∷◌, refl, ap}
use Rattle.machine_types.specs.declared.config.Rule.TheVariants.{Full}
use Rattle.machine_types.specs.declared.touches.Access.{Access}
use Rattle.machine_types.specs.Accounts.{Class}
use Rattle.contents.specs.Content.{Content, class_at}
use Rattle.contents.specs.Accesses.{untouched, note_in, note_of, page_of_place}
use Rattle.contents.specs.Transfers.{Piece, pieces_of, prepare_next, prepare_pieces, prepare_of, overlaps_tag}
use Rattle.contents.specs.Conditions.{Covers, IsFitIn, IsPrepared}

-- no access makes a touch
pub note_of-full : (c : Content) (access : Access) (region page : ℕ) (tagged : Bool) → c.rule ≡ Full → note_of c access region page tagged ≡ Some untouched
note_of-full c access region page tagged full = by (class_at c region page)
  where
    by : (o : Option Class) → note_in c access region page tagged o ≡ Some untouched
    by None = refl
    by (Some class) = rw full refl

-- no piece of a transfer does
pieces-full : (c : Content) (region : ℕ) (access : Access) (pieces : List Piece) → c.rule ≡ Full → prepare_pieces region access pieces c [] ≡ record { answer = Ok (untouched ∷ untouched ∷ []); after = c }
pieces-full c region access [] full = refl
pieces-full c region access (piece ∷ pieces) full =
    ap (prepare_next region c [] (prepare_pieces region access pieces)) (note_of-full c access region (page_of_place piece.at) (overlaps_tag c region piece.at piece.count) full)
    ∙ pieces-full c region access pieces full

-- so no transfer does
pub prepare_of-full : (c : Content) (region at n : ℕ) (access : Access) → c.rule ≡ Full → prepare_of c region at n access ≡ record { answer = Ok (untouched ∷ untouched ∷ []); after = c }
unfolding prepare_of
prepare_of-full c region at n access full = pieces-full c region access (pieces_of at n) full

-- and what is covered is prepared
pub covered-prepared : (c : Content) (region at n : ℕ) (access : Access) → c.rule ≡ Full → Covers region at n access c → IsPrepared region at n access c
covered-prepared c region at n access full covered = record { covered = covered; fit = λ k below. by _ (class_at c region (page_of_place _)) }
  where
    by : (tagged : Bool) (o : Option Class) → IsFitIn c access region tagged o
    by tagged None = tt
    by tagged (Some class) = rw full refl
