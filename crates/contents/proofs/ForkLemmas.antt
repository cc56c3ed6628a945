-- The account at a fork: when there is one, and how many frames it uses.
use Rattle.std.proofs.Common.{◌≡◌, ◌≢◌, ◌≤◌, ◌<◌, ◌+◌, ◌↔◌, ◌∙◌, ℕ, refl, ap, arith, cond, true, false, nat_lt, Option, Some, None, List, length, map, ◌++◌, Bool, Result, Ok, Err}
use Rattle.std.specs.Option.{option_map}
use Rattle.std.proofs.lemmas.Bool.{ltb-true, ltb-false, lt-ltb}
use Rattle.std.proofs.lemmas.List.{length-map, length-append}
use Rattle.machine_types.specs.declared.config.Rule.{Rule}
use Rattle.machine_types.specs.declared.config.Rule.TheVariants.{Full, Access, Pointer}
use Rattle.machine_types.specs.declared.touches.NoFrame.{NoFrame}
use Rattle.machine_types.specs.Stores.{moved_store}
use Rattle.machine_types.specs.Accounts.{Class, class_for, shared_class, free, account_at_fork}
use Rattle.contents.specs.Content.{Content, CallOutcome, used_frames, free_frames}
use Rattle.contents.specs.Regions.{fork_of, no_frame, numbers_in}
use Rattle.contents.proofs.CallShapes.{by-fork}
use Rattle.contents.proofs.OtherStores.{changed-there}

-- one new class for each page, where so many frames are free
abbrev full_fork : Bool → List Class → ℕ → List ℕ → Option (List Class)
full_fork lacks account to pages = cond lacks None (Some (account ++ map (class_for to) pages))

-- the account that this gives, if it gives one
full-used : (lacks : Bool) (account new : List Class) (to : ℕ) (pages : List ℕ) → full_fork lacks account to pages ≡ Some new → (lacks ≡ false) × (length new ≡ length account + length pages)
full-used true account new to pages e = cc
full-used false account new to pages e =
    let same : new ≡ account ++ map (class_for to) pages = cc in
    (refl, rw same (simp (length-append, length-map) refl))

-- under another rule the classes are shared
shared-account : (rule : Rule) (free : ℕ) (account : List Class) (from to : ℕ) (pages : List ℕ) → rule ≢ Full → account_at_fork rule free account from to pages ≡ Some (map (shared_class from to) account)
unfolding account_at_fork
shared-account Full free account from to pages other = absurd (other refl)
shared-account Access free account from to pages other = refl
shared-account Pointer free account from to pages other = refl

-- under `full` one has a class more for each page
full-account : (rule : Rule) (frames : ℕ) (account : List Class) (from to : ℕ) (pages : List ℕ) (new : List Class) → rule ≡ Full
    → account_at_fork rule (free frames account) account from to pages ≡ Some new → (length pages ≤ free frames account) × (length new ≡ length account + length pages)
unfolding account_at_fork
full-account Full frames account from to pages new full e =
    let used = full-used (nat_lt (free frames account) (length pages)) account new to pages e in
    (ltb-false _ _ used.0, used.1)
full-account Access frames account from to pages new full e = cc
full-account Pointer frames account from to pages new full e = cc

-- and there is none exactly where fewer frames are free
full-refused : (rule : Rule) (frames : ℕ) (account : List Class) (from to : ℕ) (pages : List ℕ) → rule ≡ Full
    → (account_at_fork rule (free frames account) account from to pages ≡ None) ↔ (free frames account < length pages)
unfolding account_at_fork
full-refused Full frames account from to pages full = (λ e. by (nat_lt (free frames account) (length pages)) refl e, λ less. rw (lt-ltb _ _ less) refl)
  where
    by : (lacks : Bool) → nat_lt (free frames account) (length pages) ≡ lacks → full_fork lacks account to pages ≡ None → free frames account < length pages
    by true test e = ltb-true _ _ test
    by false test e = cc
full-refused Access frames account from to pages full = cc
full-refused Pointer frames account from to pages full = cc

-- no more classes than frames, where there were no more before
pub fork-fits : (rule : Rule) (frames : ℕ) (account : List Class) (from to : ℕ) (pages : List ℕ) (new : List Class) → account_at_fork rule (free frames account) account from to pages ≡ Some new
    → length account ≤ frames → length new ≤ frames
unfolding account_at_fork
fork-fits Full frames account from to pages new e within = let used = full-account Full frames account from to pages new refl e in omega arith
fork-fits Access frames account from to pages new e within = let same : map (shared_class from to) account ≡ new = cc in rw (← same) (simp length-map within)
fork-fits Pointer frames account from to pages new e within = let same : map (shared_class from to) account ≡ new = cc in rw (← same) (simp length-map within)

-- under another rule than `full` a fork shares the classes
pub fork-shared : (c : Content) (from to : ℕ) → c.rule ≢ Full → ((fork_of c from to).answer ≡ Ok tt) × ((fork_of c from to).after.account ≡ map (shared_class from to) c.account)
unfolding fork_of
fork-shared c from to other = rw (shared-account c.rule (free_frames c) c.account from to (numbers_in (c.stores from)) other) (refl, refl)

-- so it is never refused and uses no frame
pub fork-shares : (c : Content) (from to : ℕ) → c.rule ≢ Full → ((fork_of c from to).answer ≡ Ok tt) × (used_frames (fork_of c from to).after ≡ used_frames c)
fork-shares c from to other =
    let shared = fork-shared c from to other in
    (shared.0, ap (λ (account : List Class). length account) shared.1 ∙ length-map c.account (shared_class from to))

-- the store of the child
pub fork-child : (c : Content) (from to : ℕ) → (fork_of c from to).answer ≡ Ok tt → (fork_of c from to).after.stores to ≡ option_map (moved_store from to) (c.stores from)
fork-child c from to =
    by-fork (λ (o : CallOutcome (Result (Unit {0}) NoFrame)). o.answer ≡ Ok tt → o.after.stores to ≡ option_map (moved_store from to) (c.stores from)) c from to (λ none e. absurd (cc))
    (λ account some e. changed-there c.stores to (option_map (moved_store from to) (c.stores from)))

-- when a fork is refused under `full`
pub fork-refused : (c : Content) (from to : ℕ) → c.rule ≡ Full → ((fork_of c from to).answer ≡ Err no_frame) ↔ (free c.frames c.account < length (numbers_in (c.stores from)))
fork-refused c from to full =
    by-fork (λ (o : CallOutcome (Result (Unit {0}) NoFrame)). (o.answer ≡ Err no_frame) ↔ (free c.frames c.account < length (numbers_in (c.stores from)))) c from to
    (λ none. (λ e. lacks.0 none, λ less. refl)) (λ account some. (λ e. absurd (cc), λ less. let none = lacks.1 less in absurd (cc)))
  where
    lacks : (account_at_fork c.rule (free_frames c) c.account from to (numbers_in (c.stores from)) ≡ None) ↔ (free c.frames c.account < length (numbers_in (c.stores from)))
    lacks = full-refused c.rule c.frames c.account from to (numbers_in (c.stores from)) full

-- how many frames it uses there
pub fork-copies : (c : Content) (from to : ℕ) → c.rule ≡ Full → (fork_of c from to).answer ≡ Ok tt → used_frames (fork_of c from to).after ≡ used_frames c + length (numbers_in (c.stores from))
fork-copies c from to full =
    by-fork (λ (o : CallOutcome (Result (Unit {0}) NoFrame)). o.answer ≡ Ok tt → used_frames o.after ≡ used_frames c + length (numbers_in (c.stores from))) c from to (λ none e. absurd (cc))
    (λ account some e. (full-account c.rule c.frames c.account from to (numbers_in (c.stores from)) account full some).1)
