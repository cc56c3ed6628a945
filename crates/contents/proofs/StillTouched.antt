-- How pages stand after touches of others.
use Rattle.std.proofs.Common.{◌≡◌, ◌≤◌, ◌∙◌, inl, inr, ℕ, refl, true, false, not, Bool, Option, Some, None, List, length, cond}
use Rattle.std.specs.Option.{option_map}
use Rattle.std.proofs.lemmas.Bool.{ltb-false}
use Rattle.machine_types.specs.declared.touches.Access.{Access}
use Rattle.machine_types.specs.declared.touches.Note.{Note}
use Rattle.machine_types.specs.declared.touches.Touched.TheVariants.{Copied, Moved}
use Rattle.machine_types.specs.Lists.{count_of}
use Rattle.machine_types.specs.Accounts.{Class, is_member, has_member, class_of}
use Rattle.machine_types.specs.Touches.{is_shared, rehomed, without_member, account_after}
use Rattle.contents.specs.Content.{Content, class_at}
use Rattle.contents.specs.Accesses.{note_of, touched}
use Rattle.contents.specs.Looks.{rights_of}
use Rattle.contents.specs.Standing.{IsElsewhere}
use Rattle.contents.specs.Whole.{IsWhole}
use Rattle.contents.proofs.TouchLemmas.{IsNoted, none, copied, moved, noted}
use Rattle.contents.proofs.ListSearches.{find-passes, find-all}
use Rattle.contents.proofs.ListCounts.{found-only}
use Rattle.contents.proofs.Fits.{IsOther, stays-member, other-moved, other-copied}
use Rattle.contents.proofs.WholeClasses.{once-whole}
use Rattle.contents.proofs.Standings.{IsStillIn, IsKept, class-same, class-mapped, one-filtered, one-member}

-- Classes after a touch of another page.

-- where it is copied, a page is alone if it was
copied-still : (account : List Class) (region q r p : ℕ) → IsOther region q r p → IsStillIn r (class_of account r p) (class_of (account_after Copied region q account) r p)
copied-still account region q r p other =
    rw (other-copied account region q r p other) (class-mapped r (without_member region q) (class_of account r p) (λ class. refl) (λ class found one.
    one-filtered (λ m. not (is_member region q m)) r p class.members (stays-member region q r p other) (find-passes (has_member r p) account class found) one))

-- where it moves out of a class of one, a page has its class still
moved-class : (account : List Class) (region q r p : ℕ) (sole : Class) → count_of (has_member region q) account ≤ 1 → IsOther region q r p → class_of account region q ≡ Some sole → length sole.members ≤ 1
    → class_of (account_after Moved region q account) r p ≡ class_of account r p
moved-class account region q r p sole once other found one = other-moved account region q r p ∙ by (class_of account r p) refl
  where
    apart : IsOther region q r p → (r ≡ region) × (p ≡ q) → ⊥
    apart (inl far) same = far same.0
    apart (inr other) same = other same.1

    by-member : (class : Class) → class_of account r p ≡ Some class → (b : Bool) → has_member region q class ≡ b → Some (cond b (record class { home = region }) class) ≡ Some class
    by-member class e false f = refl
    by-member class e true f =
        let same : class ≡ sole = find-all (λ class. has_member region q class ≡ true → class ≡ sole) (has_member r p) account class (found-only (has_member region q) account sole once found) e f in
        let alone : length class.members ≤ 1 = rw same one in
        absurd (apart other (one-member r p region q class.members alone (find-passes (has_member r p) account class e) f))

    by : (o : Option Class) → class_of account r p ≡ o → option_map (rehomed region q) o ≡ o
    by None e = refl
    by (Some class) e = by-member class e (has_member region q class) refl

-- a page stands still where another is touched
pub touch-still : (c : Content) (access : Access) (region page : ℕ) (tagged : Bool) (note : Note) (r p : ℕ) → IsWhole c → note_of c access region page tagged ≡ Some note → IsElsewhere r p region note
    → IsKept r p c (touched c region note)
unfolding rights_of
touch-still c access region page tagged note r p whole e elsewhere = record { rights = refl; class = by note (noted c access region page tagged note e) elsewhere }
  where
    by : (note : Note) → IsNoted c access region page tagged note → IsElsewhere r p region note → IsStillIn r (class_at c r p) (class_of (account_after note.touched region note.page c.account) r p)
    by _ (none _) elsewhere = class-same r (class_at c r p) (class_at c r p) refl
    by _ (copied _ _ _ _) (inl nothing) = absurd (cc)
    by _ (copied _ _ _ _) (inr other) = copied-still c.account region page r p other
    by _ (moved _ _ _ _) (inl nothing) = absurd (cc)
    by _ (moved class there _ sole) (inr other) =
        let one : length class.members ≤ 1 = ltb-false _ _ sole in
        class-same r (class_at c r p) (class_of (account_after Moved region page c.account) r p) (moved-class c.account region page r p class (once-whole c region page whole) other there one)

-- where the only page of a class moves, each other page has its class still
pub moved-class-of : (c : Content) (region page r p : ℕ) (sole : Class) → IsWhole c → IsOther region page r p → class_at c region page ≡ Some sole → is_shared sole ≡ false
    → class_of (account_after Moved region page c.account) r p ≡ class_at c r p
moved-class-of c region page r p sole whole other there single =
    let one : length sole.members ≤ 1 = ltb-false _ _ single in
    moved-class c.account region page r p sole (once-whole c region page whole) other there one
