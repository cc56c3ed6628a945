-- Forks that are done, and accounts and classes that stay.
use Rattle.std.proofs.Common.{◌≡◌, ◌∙◌, ◌⊎◌, inl, inr, ◌+◌, ◌<◌, ◌≤◌, ◌↔◌, ℕ, refl, ap, arith, cond, true, false, Bool, Option, Some, None, Result, Ok, Err, List, [], ◌∷◌, ◌++◌, length, map, get_or}
use Rattle.std.specs.Option.{option_map}
use Rattle.std.proofs.Math.Bool.{or-false}
use Rattle.std.proofs.lemmas.Bool.Decides.{leb_tells}
use Rattle.std.proofs.lemmas.List.Folds.{list_any-append}
use Rattle.machine_types.specs.declared.config.Rule.TheVariants.{Full}
use Rattle.machine_types.specs.declared.touches.Access.{Access}
use Rattle.machine_types.specs.declared.touches.Note.{Note}
use Rattle.machine_types.specs.declared.touches.NoFrame.{NoFrame}
use Rattle.machine_types.specs.Granules.{with_number}
use Rattle.machine_types.specs.Stores.{page_of_bytes}
use Rattle.machine_types.specs.Accounts.{Class, class_for, account_at_fork}
use Rattle.machine_types.specs.Touches.{rehomed, without_member}
use Rattle.contents.specs.Content.{Content, CallOutcome, class_at, used_frames, free_frames, is_full, with_account, with_page, with_granules}
use Rattle.contents.specs.Accesses.{note_of, touched, page_of_place, byte_of_place}
use Rattle.contents.specs.Regions.{no_frame, numbers_in, fork_with, fork_of, add_page_of}
use Rattle.contents.specs.Transfers.{write_bytes_of}
use Rattle.contents.specs.Whole.{IsWhole}
use Rattle.contents.specs.Forking.{shares, home_of}
use Rattle.contents.proofs.Options.{option_map-option_map}
use Rattle.contents.proofs.TouchLemmas.{IsNoted, none, copied, moved, noted}
use Rattle.contents.proofs.ListSearches.{any-map}
use Rattle.contents.proofs.Fits.{IsOther, other-member, other-new, rehomed-member, other-copied}
use Rattle.contents.proofs.EndedClasses.{has_both}
use Rattle.contents.proofs.StillTouched.{moved-class-of}
use Rattle.contents.proofs.ChildPages.{refused-within}

-- a fork is done or refused
fork-answers : (c : Content) (from to : ℕ) → ((fork_of c from to).answer ≡ Ok tt) ⊎ ((fork_of c from to).answer ≡ Err no_frame)
unfolding fork_of
fork-answers c from to = by (account_at_fork c.rule (free_frames c) c.account from to (numbers_in (c.stores from)))
  where
    by : (o : Option (List Class)) → ((fork_with c from to o).answer ≡ Ok tt) ⊎ ((fork_with c from to o).answer ≡ Err no_frame)
    by None = inr refl
    by (Some account) = inl refl

pub fork-done : (c : Content) (from to : ℕ) → IsWhole c → c.rule ≡ Full → ((fork_of c from to).answer ≡ Ok tt) ↔ (used_frames c + length (numbers_in (c.stores from)) ≤ c.frames)
fork-done c from to whole full = (λ e. fits e (leb_tells (used_frames c + length (numbers_in (c.stores from))) c.frames), λ fit. done fit (fork-answers c from to))
  where
    fits : {b : Bool} → (fork_of c from to).answer ≡ Ok tt → ((b ≡ true) × (used_frames c + length (numbers_in (c.stores from)) ≤ c.frames)) ⊎ ((b ≡ false) × (c.frames < used_frames c + length (numbers_in (c.stores from))))
        → used_frames c + length (numbers_in (c.stores from)) ≤ c.frames
    fits e (inl (_, fit)) = fit
    fits e (inr (_, over)) = let refused = (refused-within c from to whole.used full).1 over in absurd (cc)

    done : used_frames c + length (numbers_in (c.stores from)) ≤ c.frames → ((fork_of c from to).answer ≡ Ok tt) ⊎ ((fork_of c from to).answer ≡ Err no_frame) → (fork_of c from to).answer ≡ Ok tt
    done fit (inl e) = e
    done fit (inr e) = let over = (refused-within c from to whole.used full).0 e in absurd (omega arith)

-- bytes that are stored leave the account
pub bytes-account : (c : Content) (region at : ℕ) (bytes : List ℕ) → (write_bytes_of c region at bytes).account ≡ c.account
unfolding write_bytes_of
bytes-account c region at [] = refl
bytes-account c region at (byte ∷ bytes) = bytes-account (with_granules c region (page_of_place at) (λ granules. with_number granules (byte_of_place at) 1 byte)) region (at + 1) bytes

-- a page that is added puts its class at the end
pub added-account : (c : Content) (region page rights : ℕ) (bytes : List ℕ) → (add_page_of c region page rights bytes).answer ≡ Ok tt → (add_page_of c region page rights bytes).after.account ≡ c.account ++ (class_for region page ∷ [])
unfolding add_page_of
added-account c region page rights bytes = by (is_full c)
  where
    after : CallOutcome (Result (Unit {0}) NoFrame)
    after = record { answer = Ok tt; after = with_account (with_page c region page (page_of_bytes rights bytes)) (c.account ++ (class_for region page ∷ [])) }

    by : (b : Bool) → (cond b (record { answer = Err no_frame; after = c }) after).answer ≡ Ok tt → (cond b (record { answer = Err no_frame; after = c }) after).after.account ≡ c.account ++ (class_for region page ∷ [])
    by true e = absurd (cc)
    by false e = refl

-- other pages keep their home
pub others-homes : (c : Content) (access : Access) (region page : ℕ) (tagged : Bool) (note : Note) (r p : ℕ) → IsWhole c → note_of c access region page tagged ≡ Some note → IsOther region page r p
    → home_of (touched c region note) r p ≡ home_of c r p
others-homes c access region page tagged note r p whole e apart = by note (noted c access region page tagged note e)
  where
    by : (note : Note) → IsNoted c access region page tagged note → home_of (touched c region note) r p ≡ home_of c r p
    by _ (none _) = refl
    by _ (copied _ _ _ _) =
        ap (option_map (λ (class : Class). class.home)) (other-copied c.account region page r p apart)
        ∙ option_map-option_map (λ class. class.home) (without_member region page) (λ class. class.home) (λ class. refl) (class_at c r p)
    by _ (moved class there _ sole) = ap (option_map (λ (class : Class). class.home)) (moved-class-of c region page r p class whole apart there sole)

-- and share as before
pub others-share : (c : Content) (access : Access) (region page : ℕ) (tagged : Bool) (note : Note) (r p s q : ℕ) → note_of c access region page tagged ≡ Some note → IsOther region page r p → IsOther region page s q
    → shares (touched c region note) r p s q ≡ shares c r p s q
others-share c access region page tagged note r p s q e apart far = by note (noted c access region page tagged note e)
  where
    by : (note : Note) → IsNoted c access region page tagged note → shares (touched c region note) r p s q ≡ shares c r p s q
    by _ (none _) = refl
    by _ (copied _ _ _ _) =
        list_any-append (has_both r p s q) (map (without_member region page) c.account) (class_for region page ∷ [])
        ∙ rw (other-new region page r p apart) (or-false _)
        ∙ any-map (has_both r p s q) (has_both r p s q) (without_member region page) c.account (λ k d within. rw (other-member region page r p (get_or c.account k d) apart, other-member region page s q (get_or c.account k d) far) refl)
    by _ (moved _ _ _ _) =
        any-map (has_both r p s q) (has_both r p s q) (rehomed region page) c.account (λ k d within. rw (rehomed-member region page r p (get_or c.account k d), rehomed-member region page s q (get_or c.account k d)) refl)
