-- Which refusal of an access comes where, and which bytes are covered.
use Rattle.std.proofs.Common.{◌≡◌, ◌+◌, ◌<◌, ◌↔◌, ℕ, ap, refl, Bool, true, false, cond, Option, Some, None, Result, Ok, Err, List, length, slice_set}
use Rattle.std.specs.Option.{option_map}
use Rattle.std.proofs.lemmas.Bool.{eqb-true, eq-eqb, ltb-true, lt-ltb}
use Rattle.cap_format.specs.declared.cap.Cap.{Cap}
use Rattle.machine_types.specs.declared.touches.Access.{Access}
use Rattle.machine_types.specs.declared.touches.Access.TheVariants.{Read, Write, Fetch}
use Rattle.machine_types.specs.declared.touches.Note.{Note}
use Rattle.machine_types.specs.declared.touches.Touched.TheVariants.{Copied, Moved}
use Rattle.machine_types.specs.Granules.{granule, is_tagged, number_at, with_number}
use Rattle.machine_types.specs.Rights.{is_allowed}
use Rattle.machine_types.specs.Stores.{Page}
use Rattle.machine_types.specs.Accounts.{Class}
use Rattle.machine_types.specs.Touches.{touches, is_shared}
use Rattle.contents.specs.declared.refusal.Refusal.{Refusal}
use Rattle.contents.specs.declared.refusal.Refusal.TheVariants.{NoPage, NoRight, NoFrame}
use Rattle.contents.specs.Content.{Content, page_at, class_at, is_full, used_frames}
use Rattle.contents.specs.Accesses.{untouched, note_in, note_of, Reached, noted, reach, reach_in, load_from, store_to, page_of_place, byte_of_place, granule_of_place, read_of, read_cap_of, fetch_of, write_of, write_cap_of}
use Rattle.contents.specs.Transfers.{may_access, covers_of}
use Rattle.contents.specs.Looks.{peek_of, rights_of}
use Rattle.contents.specs.Refusing.{MayAccess, IsRefusedInOrder}
use Rattle.contents.proofs.Covered.{covered-by-scan, scan-of-covered}

-- a touch of a page of the class wants a frame, and none is free
record LacksOne (c : Content) (access : Access) (region : ℕ) (tagged : Bool) (o : Option Class) : Type 0 where
  pub class : Class
  pub member : o ≡ Some class
  pub touched : touches c.rule access class region tagged ≡ true
  pub shared : 1 < length class.members
  pub full : used_frames c ≡ c.frames

-- there is no note exactly where a touch wants a frame and none is free
lacks-one : (c : Content) (access : Access) (region page : ℕ) (tagged : Bool) (o : Option Class) → (note_in c access region page tagged o ≡ None) ↔ LacksOne c access region tagged o
lacks-one c access region page tagged None = (λ e. absurd (cc), λ l. let member = l.member in absurd (cc))
lacks-one c access region page tagged (Some class) = (lacks, λ l. none l)
  where
    answer : Bool → Bool → Bool → Option Note
    answer t s f = cond t (option_map (λ touched. record { page = page; touched = touched }) (cond s (cond f None (Some Copied)) (Some Moved))) (Some untouched)

    by : (t s f : Bool) → touches c.rule access class region tagged ≡ t → is_shared class ≡ s → is_full c ≡ f → answer t s f ≡ None → LacksOne c access region tagged (Some class)
    by false s f t-is s-is f-is e = absurd (cc)
    by true false f t-is s-is f-is e = absurd (cc)
    by true true false t-is s-is f-is e = absurd (cc)
    by true true true t-is s-is f-is e = record { class = class; member = refl; touched = t-is; shared = ltb-true _ _ s-is; full = eqb-true _ _ f-is }

    lacks : note_in c access region page tagged (Some class) ≡ None → LacksOne c access region tagged (Some class)
    lacks e = by (touches c.rule access class region tagged) (is_shared class) (is_full c) refl refl refl e

    none : LacksOne c access region tagged (Some class) → note_in c access region page tagged (Some class) ≡ None
    none l =
        let same : l.class ≡ class = let member = l.member in cc in
        let t : touches c.rule access class region tagged ≡ true = rw same at l.touched in
        let s : is_shared class ≡ true = rw same at (lt-ltb 1 (length l.class.members) l.shared) in
        let f : is_full c ≡ true = eq-eqb _ _ l.full in
        rw (t, s, f) refl

-- The refusals of what an access comes to.
module _ (c : Content) (access : Access) (region at : ℕ) where
  -- where the page is absent
  absent : page_at c region (page_of_place at) ≡ None → IsRefusedInOrder {A = Reached} c access region at (Err NoPage)
  unfolding rights_of peek_of
  absent e = record {
    page = (λ _. rw e refl, λ _. refl);
    right = (λ h. absurd (cc), λ l. let there = rw e at l.there in absurd (cc));
    frame = (λ h. absurd (cc), λ l. let there = rw e at l.may.there in absurd (cc));
  }

  -- where it is there without the right
  denied : (p : Page) → page_at c region (page_of_place at) ≡ Some p → is_allowed access p.rights ≡ false → IsRefusedInOrder {A = Reached} c access region at (Err NoRight)
  unfolding rights_of peek_of
  denied p e f = record {
    page = (λ h. absurd (cc), λ l. let none = rw e at l in absurd (cc));
    right = (λ _. record { rights = p.rights; there = rw e refl; denied = f }, λ _. refl);
    frame = (λ h. absurd (cc), λ l. let there = rw e at l.may.there in let allowed = l.may.allowed in absurd (cc));
  }

  -- where it may be accessed
  allowed : (p : Page) → page_at c region (page_of_place at) ≡ Some p → is_allowed access p.rights ≡ true → (o : Option Note)
      → (o ≡ None) ↔ LacksOne c access region (is_tagged p.granules (granule_of_place at)) (class_at c region (page_of_place at)) → IsRefusedInOrder c access region at (noted p o)
  unfolding rights_of peek_of
  allowed p e t o lacks = record {
    page = (λ h. absurd (not-page o h), λ l. let none = rw e at l in absurd (cc));
    right = (λ h. absurd (not-right o h), λ l. let there = rw e at l.there in let denied = l.denied in absurd (cc));
    frame = (
      λ h. let l = lacks.0 (is-none o h) in record {
        may = record { rights = p.rights; there = rw e refl; allowed = t };
        cap = granule p.granules (granule_of_place at);
        granule = rw e refl;
        class = l.class;
        member = l.member;
        touched = l.touched;
        shared = l.shared;
        full = l.full;
      },
      λ l.
          let same : granule p.granules (granule_of_place at) ≡ l.cap = let there = rw e at l.granule in cc in
          let tag : is_tagged p.granules (granule_of_place at) ≡ l.cap.tag = ap (λ (cap : Cap). cap.tag) same in
          let none : o ≡ None = lacks.1 (record { class = l.class; member = l.member; touched = rw tag l.touched; shared = l.shared; full = l.full }) in
          rw none refl,
    );
  }
    where
      not-page : (o : Option Note) → noted p o ≡ Err NoPage → ⊥
      not-page None h = absurd (cc)
      not-page (Some note) h = absurd (cc)

      not-right : (o : Option Note) → noted p o ≡ Err NoRight → ⊥
      not-right None h = absurd (cc)
      not-right (Some note) h = absurd (cc)

      is-none : (o : Option Note) → noted p o ≡ Err NoFrame → o ≡ None
      is-none None h = refl
      is-none (Some note) h = absurd (cc)

  -- so they come in their order
  pub reach-in-order : IsRefusedInOrder c access region at (reach c access region at)
  reach-in-order = by (page_at c region (page_of_place at)) refl
    where
      by-right : (p : Page) → page_at c region (page_of_place at) ≡ Some p → (b : Bool) → is_allowed access p.rights ≡ b
          → IsRefusedInOrder c access region at (cond b (noted p (note_of c access region (page_of_place at) (is_tagged p.granules (granule_of_place at)))) (Err NoRight))
      by-right p e true t = allowed p e t (note_of c access region (page_of_place at) (is_tagged p.granules (granule_of_place at))) (lacks-one c access region (page_of_place at) _ _)
      by-right p e false f = denied p e f

      by : (o : Option Page) → page_at c region (page_of_place at) ≡ o → IsRefusedInOrder c access region at (reach_in c access region at o)
      by None e = absent e
      by (Some p) e = by-right p e (is_allowed access p.rights) refl

-- an answer with the same refusals
same-order : {A B : Type 0} (c : Content) (access : Access) (region at : ℕ) (a : Result A Refusal) (b : Result B Refusal) → ((refusal : Refusal) → (b ≡ Err refusal) ↔ (a ≡ Err refusal))
    → IsRefusedInOrder c access region at a → IsRefusedInOrder c access region at b
same-order c access region at a b same order = record {
  page = (λ h. order.page.0 ((same NoPage).0 h), λ h. (same NoPage).1 (order.page.1 h));
  right = (λ h. order.right.0 ((same NoRight).0 h), λ h. (same NoRight).1 (order.right.1 h));
  frame = (λ h. order.frame.0 ((same NoFrame).0 h), λ h. (same NoFrame).1 (order.frame.1 h));
}

-- a load has the refusals of what it came to
load-same : {A : Type 0} (c : Content) (region : ℕ) (value : List Cap → A) (reached : Result Reached Refusal) (refusal : Refusal) → ((load_from c region value reached).answer ≡ Err refusal) ↔ (reached ≡ Err refusal)
load-same c region value (Err other) refusal = (λ h. cc, λ h. cc)
load-same c region value (Ok e) refusal = (λ h. absurd (cc), λ h. absurd (cc))

-- and so has a store
store-same : (c : Content) (region at : ℕ) (change : List Cap → List Cap) (reached : Result Reached Refusal) (refusal : Refusal) → ((store_to c region at change reached).answer ≡ Err refusal) ↔ (reached ≡ Err refusal)
store-same c region at change (Err other) refusal = (λ h. cc, λ h. cc)
store-same c region at change (Ok e) refusal = (λ h. absurd (cc), λ h. absurd (cc))

load-in-order : {A : Type 0} (c : Content) (access : Access) (region at : ℕ) (value : List Cap → A) → IsRefusedInOrder c access region at (load_from c region value (reach c access region at)).answer
load-in-order {A} c access region at value = same-order c access region at (reach c access region at) _ (load-same c region value (reach c access region at)) (reach-in-order c access region at)

store-in-order : (c : Content) (region at : ℕ) (change : List Cap → List Cap) → IsRefusedInOrder c Write region at (store_to c region at change (reach c Write region at)).answer
store-in-order c region at change = same-order c Write region at (reach c Write region at) _ (store-same c region at change (reach c Write region at)) (reach-in-order c Write region at)

pub read-in-order : (c : Content) (region at size : ℕ) → IsRefusedInOrder c Read region at (read_of c region at size).answer
unfolding read_of
read-in-order c region at size = load-in-order c Read region at (λ granules. number_at granules (byte_of_place at) size)

pub read_cap-in-order : (c : Content) (region at : ℕ) → IsRefusedInOrder c Read region at (read_cap_of c region at).answer
unfolding read_cap_of
read_cap-in-order c region at = load-in-order c Read region at (λ granules. granule granules (granule_of_place at))

pub fetch-in-order : (c : Content) (region at : ℕ) → IsRefusedInOrder c Fetch region at (fetch_of c region at).answer
unfolding fetch_of
fetch-in-order c region at = load-in-order c Fetch region at (λ granules. number_at granules (byte_of_place at) 4)

pub write-in-order : (c : Content) (region at size v : ℕ) → IsRefusedInOrder c Write region at (write_of c region at size v).answer
unfolding write_of
write-in-order c region at size v = store-in-order c region at (λ granules. with_number granules (byte_of_place at) size v)

pub write_cap-in-order : (c : Content) (region at : ℕ) (cap : Cap) → IsRefusedInOrder c Write region at (write_cap_of c region at cap).answer
unfolding write_cap_of
write_cap-in-order c region at cap = store-in-order c region at (λ granules. slice_set granules (granule_of_place at) cap)

-- a page may be accessed exactly where it is there with the right
may-access : (c : Content) (access : Access) (region at : ℕ) → (may_access access (page_at c region (page_of_place at)) ≡ true) ↔ MayAccess c access region at
unfolding rights_of
may-access c access region at = by (page_at c region (page_of_place at)) refl
  where
    by : (o : Option Page) → page_at c region (page_of_place at) ≡ o → (may_access access o ≡ true) ↔ MayAccess c access region at
    by None e = (λ h. absurd (cc), λ m. let there = rw e at m.there in absurd (cc))
    by (Some p) e = (
      λ h. record { rights = p.rights; there = rw e refl; allowed = h },
      λ m.
          let same : p.rights ≡ m.rights = let there = rw e at m.there in cc in
          rw same m.allowed,
    )

-- bytes are covered exactly where each of their pages is so
pub covered-each : (c : Content) (region at n : ℕ) (access : Access) → (covers_of c region at n access ≡ true) ↔ ((k : ℕ) → k < n → MayAccess c access region (at + k))
covered-each c region at n access = (
  λ h k less. (may-access c access region (at + k)).0 (covered-by-scan c region access at n h k less),
  λ all. scan-of-covered c region access at n (λ k less. (may-access c access region (at + k)).1 (all k less)),
)
