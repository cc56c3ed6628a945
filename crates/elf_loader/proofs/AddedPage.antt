-- One page that is added: the call that adds it, the pages of the region with it, its frame and its class.
use Rattle.std.proofs.Common.{◌≡◌, ◌≢◌, ◌∙◌, ℕ, ◌+◌, ◌<◌, nat_eq, false, is_some, cond, Option, Some, None, Ok, List, [], ◌∷◌, ◌++◌, find, refl, ap, arith}
use Rattle.std.specs.Option.{option_map, option_or}
use Rattle.std.proofs.lemmas.Bool.{eq-eqb, ne_eqb}
use Rattle.std.proofs.lemmas.Bool.Decides.{nat_tests}
use Rattle.std.proofs.lemmas.List.{length-append}
use Rattle.std.proofs.lemmas.List.Folds.{find-append}
use Rattle.machine_types.specs.Stores.{Store, changed, page_of_bytes}
use Rattle.machine_types.specs.Accounts.{Class, has_member, class_of, class_for}
use Rattle.contents.specs.Content.{Content, page_in, page_at, used_frames, is_full}
use Rattle.contents.specs.Regions.{with_new_page, add_page_of}
use Rattle.contents.specs.Conditions.{HasStore}
use Rattle.contents.proofs.OtherStores.{changed-there}
use Rattle.contents.proofs.Options.{is_some-option_map}
use Rattle.contents.proofs.WholeStores.{page-put}

module _ (c : Content) (region page rights : ℕ) (bytes : List ℕ) where
  -- where a frame is free the page is added
  pub added-free : used_frames c < c.frames → add_page_of c region page rights bytes ≡ record { answer = Ok tt; after = with_new_page c region page rights bytes }
  unfolding add_page_of
  added-free free = let room : is_full c ≡ false = grind (arith, nat_tests) in rw room refl

  -- it takes one
  pub put-used : used_frames (with_new_page c region page rights bytes) ≡ used_frames c + 1
  put-used = length-append c.account (class_for region page ∷ [])

  -- the store with it
  abbrev widened : Store → Store
  widened store = changed store page (Some (page_of_bytes rights bytes))

  -- the region has its store still
  pub put-store : HasStore region c → HasStore region (with_new_page c region page rights bytes)
  put-store store = ap (λ (s : Option Store). is_some s) (changed-there c.stores region (option_map widened (c.stores region))) ∙ is_some-option_map widened (c.stores region) ∙ store

  -- each page of the region
  put-page : (q : ℕ) → HasStore region c → page_at (with_new_page c region page rights bytes) region q ≡ cond (nat_eq q page) (Some (page_of_bytes rights bytes)) (page_at c region q)
  put-page q store =
      ap (λ (s : Option Store). page_in s q) (changed-there c.stores region (option_map widened (c.stores region)))
      ∙ page-put page (Some (page_of_bytes rights bytes)) q (c.stores region) ∙ rw store refl

  -- the page is there
  pub put-there : (q : ℕ) → q ≡ page → HasStore region c → page_at (with_new_page c region page rights bytes) region q ≡ Some (page_of_bytes rights bytes)
  put-there q same store = put-page q store ∙ rw (eq-eqb q page same) refl

  -- and every other one is as it was
  pub put-elsewhere : (q : ℕ) → q ≢ page → HasStore region c → page_at (with_new_page c region page rights bytes) region q ≡ page_at c region q
  put-elsewhere q apart store = put-page q store ∙ rw (ne_eqb q page apart) refl

-- a class that is found is found still in a longer account
pub class-longer : (account : List Class) (last class : Class) (region page : ℕ) → class_of account region page ≡ Some class → class_of (account ++ (last ∷ [])) region page ≡ Some class
class-longer account last class region page there = find-append (has_member region page) account (last ∷ []) ∙ rw there refl

-- a page of no class is found in its own, which comes last
pub class-last : (account : List Class) (region page : ℕ) → class_of account region page ≡ None → class_of (account ++ (class_for region page ∷ [])) region page ≡ Some (class_for region page)
class-last account region page none = find-append (has_member region page) account (class_for region page ∷ []) ∙ rw none (grind (arith, nat_tests))

-- and a page of another region has the class that it had
pub class-other : (account : List Class) (region page r q : ℕ) → r ≢ region → class_of (account ++ (class_for region page ∷ [])) r q ≡ class_of account r q
class-other account region page r q apart = find-append (has_member r q) account (class_for region page ∷ []) ∙ by (class_of account r q)
  where
    none : find (has_member r q) (class_for region page ∷ []) ≡ None
    none = grind (arith, nat_tests)

    by : (found : Option Class) → option_or found (find (has_member r q) (class_for region page ∷ [])) ≡ found
    by None = none
    by (Some class) = refl
