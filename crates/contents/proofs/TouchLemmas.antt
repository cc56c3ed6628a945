-- How many frames a touch takes, and when it finds none.
use Rattle.std.proofs.Common.{◌≡◌, ◌+◌, ℕ, refl, subst, arith, cond, Bool, true, false, Option, Some, None, List, length}
use Rattle.std.specs.Option.{option_map}
use Rattle.std.proofs.lemmas.List.{length-map, length-append}
use Rattle.machine_types.specs.declared.touches.Access.{Access}
use Rattle.machine_types.specs.declared.touches.Note.{Note}
use Rattle.machine_types.specs.declared.touches.Touched.{Touched}
use Rattle.machine_types.specs.declared.touches.Touched.TheVariants.{No, Copied, Moved}
use Rattle.machine_types.specs.Accounts.{Class}
use Rattle.machine_types.specs.Touches.{touches, outcome_of_touch, account_after, rehomed, is_shared}
use Rattle.contents.specs.Content.{Content, class_at, is_full, used_frames}
use Rattle.contents.specs.Accesses.{untouched, note_in, note_of, touched}
use Rattle.contents.specs.Conditions.{IsFitIn}
use Rattle.contents.specs.Laws.{frames_for}

-- the account after a touch has the classes that it had, and one more for a copy
pub account-used : (t : Touched) (region page : ℕ) (account : List Class) → length (account_after t region page account) ≡ length account + frames_for t
account-used No region page account = omega arith
account-used Copied region page account = simp (length-append, length-map) (omega arith)
account-used Moved region page account = simp length-map (omega arith)

-- so a content uses one frame more after a copy, and as many after another touch
pub touched-used : (c : Content) (region : ℕ) (note : Note) → used_frames (touched c region note) ≡ used_frames c + frames_for note.touched
touched-used c region note = account-used note.touched region note.page c.account

-- the note of what was done to a page
abbrev noted_as : ℕ → Option Touched → Option Note
noted_as page o = option_map (λ touched. record { page = page; touched = touched }) o

-- a touch that finds no frame is made where all are used
outcome-lacks : (full shared : Bool) (page : ℕ) → noted_as page (cond shared (cond full None (Some Copied)) (Some Moved)) ≡ None → full ≡ true
outcome-lacks true shared page e = refl
outcome-lacks false true page e = cc
outcome-lacks false false page e = cc

-- a copy is made where a frame is free
outcome-copied : (full shared : Bool) (page : ℕ) (note : Note) → noted_as page (cond shared (cond full None (Some Copied)) (Some Moved)) ≡ Some note → note.touched ≡ Copied → full ≡ false
outcome-copied false shared page note e f = refl
outcome-copied true true page note e f = cc
outcome-copied true false page note e f = cc

-- no note: all frames are used
pub note-lacks : (c : Content) (access : Access) (region page : ℕ) (tagged : Bool) (o : Option Class) → note_in c access region page tagged o ≡ None → is_full c ≡ true
note-lacks c access region page tagged None e = cc
note-lacks c access region page tagged (Some class) e = by (touches c.rule access class region tagged) e
  where
    by : (b : Bool) → cond b (noted_as page (outcome_of_touch (is_full c) class)) (Some untouched) ≡ None → is_full c ≡ true
    by true e = outcome-lacks (is_full c) (is_shared class) page e
    by false e = cc

-- the note of a copy: not all are used
pub note-copied : (c : Content) (access : Access) (region page : ℕ) (tagged : Bool) (o : Option Class) (note : Note) → note_in c access region page tagged o ≡ Some note
    → note.touched ≡ Copied → is_full c ≡ false
note-copied c access region page tagged None note e f = cc
note-copied c access region page tagged (Some class) note e f = by (touches c.rule access class region tagged) e
  where
    by : (b : Bool) → cond b (noted_as page (outcome_of_touch (is_full c) class)) (Some untouched) ≡ Some note → is_full c ≡ false
    by true e = outcome-copied (is_full c) (is_shared class) page note e f
    by false e = cc

-- a page that is alone in its class is touched without a frame
pub note-alone : (c : Content) (access : Access) (region page : ℕ) (tagged : Bool) (class : Class) → length class.members ≡ 1
    → (note : Note) × (note_in c access region page tagged (Some class) ≡ Some note) × (used_frames (touched c region note) ≡ used_frames c)
note-alone c access region page tagged class one = by (touches c.rule access class region tagged)
  where
    by : (b : Bool) → (note : Note) × (cond b (noted_as page (outcome_of_touch (is_full c) class)) (Some untouched) ≡ Some note) × (used_frames (touched c region note) ≡ used_frames c)
    by true = (record { page = page; touched = Moved }, rw one refl, length-map c.account (rehomed region page))
    by false = (untouched, refl, refl)

-- an access to a page touches nothing
abbrev pub IsFit : Content → Access → ℕ → ℕ → Bool → Type 0
IsFit c access region page tagged = IsFitIn c access region tagged (class_at c region page)

-- A note of an access to a page is of no touch, and then the page was fit, or of a touch of the page: a copy of one of
-- several, or a move of the only one.
pub data IsNoted (c : Content) (access : Access) (region page : ℕ) (tagged : Bool) : Note → Type 0 where
  none : IsFit c access region page tagged → IsNoted c access region page tagged untouched
  copied : (class : Class) → class_at c region page ≡ Some class → touches c.rule access class region tagged ≡ true → is_shared class ≡ true
      → IsNoted c access region page tagged (record { page = page; touched = Copied })
  moved : (class : Class) → class_at c region page ≡ Some class → touches c.rule access class region tagged ≡ true → is_shared class ≡ false
      → IsNoted c access region page tagged (record { page = page; touched = Moved })

-- each note of an access is one of these
pub noted : (c : Content) (access : Access) (region page : ℕ) (tagged : Bool) (note : Note) → note_of c access region page tagged ≡ Some note → IsNoted c access region page tagged note
noted c access region page tagged note = by (class_at c region page) refl
  where
    P : Note → Type 0
    P = IsNoted c access region page tagged

    by-touch : (class : Class) → class_at c region page ≡ Some class → (s f t : Bool) → is_shared class ≡ s → touches c.rule access class region tagged ≡ t
        → cond t (noted_as page (cond s (cond f None (Some Copied)) (Some Moved))) (Some untouched) ≡ Some note → P note
    by-touch class e s f false s-is t-is h = let same : untouched ≡ note = cc in subst P same (none (rw e t-is))
    by-touch class e true true true s-is t-is h = absurd (cc)
    by-touch class e true false true s-is t-is h = let same : record { page = page; touched = Copied } ≡ note = cc in subst P same (copied class e t-is s-is)
    by-touch class e false f true s-is t-is h = let same : record { page = page; touched = Moved } ≡ note = cc in subst P same (moved class e t-is s-is)

    by : (o : Option Class) → class_at c region page ≡ o → note_in c access region page tagged o ≡ Some note → P note
    by None e h = let same : untouched ≡ note = cc in subst P same (none (rw e tt))
    by (Some class) e h = by-touch class e (is_shared class) (is_full c) (touches c.rule access class region tagged) refl refl h
