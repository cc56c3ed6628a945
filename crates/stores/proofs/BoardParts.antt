-- The parts of a board after one write, as functions of frames and of pages.
use Rattle.std.proofs.Common.{◌≡◌, ◌≢◌, ◌⊎◌, inl, inr, ℕ, ◌<◌, ◌&&◌, nat_eq, Bool, true, false, cond, Option, Some, None, List, [], length, refl, sym, arith}
use Rattle.std.proofs.Math.Path.{fun_ext}
use Rattle.std.proofs.lemmas.Bool.Decides.{eqb_tells, nat_tests}
use Rattle.std.proofs.lemmas.List.{get_or-set_same, get_or-set_other}
use Rattle.cap_format.specs.declared.cap.Cap.{Cap}
use Rattle.machine_types.specs.Stores.{Page, changed}
use Rattle.frame_owners.specs.Homes.{Owner, nobody, owner, with_owner}
use Rattle.frame_pool.specs.Pool.{Pool, is_used, with_used}
use Rattle.tagged_memory.specs.Frames.{frame, with_frame}
use Rattle.page_table.specs.declared.table.Entry.{Entry}
use Rattle.page_table.specs.Entries.{Entries, with_entry}
use Rattle.stores.specs.Boards.{frame_in, frame_of, HasSamePage}

-- a function of regions and pages with another value at one page
abbrev pub placed : {A : Type 0} → (ℕ → ℕ → A) → ℕ → ℕ → A → ℕ → ℕ → A
placed f region page value r p = cond (nat_eq r region && nat_eq p page) value (f r p)

-- at that page it has the new value
pub placed-there : {A : Type 0} (f : ℕ → ℕ → A) (region page : ℕ) (value : A) → placed f region page value region page ≡ value
placed-there f region page value = let itself : (nat_eq region region && nat_eq page page) ≡ true = grind (arith, nat_tests) in rw itself refl

-- and at another the old one
pub placed-elsewhere : {A : Type 0} (f : ℕ → ℕ → A) (region page : ℕ) (value : A) (r p : ℕ) → (r ≢ region) ⊎ (p ≢ page) → placed f region page value r p ≡ f r p
placed-elsewhere f region page value r p (inl other) = let test : (nat_eq r region && nat_eq p page) ≡ false = grind (arith, nat_tests) in rw test refl
placed-elsewhere f region page value r p (inr other) = let test : (nat_eq r region && nat_eq p page) ≡ false = grind (arith, nat_tests) in rw test refl

-- a value that is there already changes nothing
pub placed-same : {A : Type 0} (f : ℕ → ℕ → A) (region page : ℕ) (value : A) → f region page ≡ value → placed f region page value ≡ f
placed-same {A} f region page value there = fun_ext (λ r. fun_ext (λ p. by r p (eqb_tells r region) (eqb_tells p page)))
  where
    by : (r p : ℕ) → ((nat_eq r region ≡ true) × (r ≡ region)) ⊎ ((nat_eq r region ≡ false) × (r ≢ region)) → ((nat_eq p page ≡ true) × (p ≡ page)) ⊎ ((nat_eq p page ≡ false) × (p ≢ page))
        → placed f region page value r p ≡ f r p
    by r p (inl (t, same)) (inl (u, alike)) = rw (t, u, same, alike) (sym there)
    by r p (inl (t, same)) (inr (u, other)) = rw (t, u) refl
    by r p (inr (t, other)) tells = rw t refl

-- the frames of pages, where one has another entry or none
pub frame_of-with_entry : (entries : Entries) (region page : ℕ) (o : Option Entry) → frame_of (with_entry entries region page o) ≡ placed (frame_of entries) region page (frame_in o)
frame_of-with_entry entries region page o = fun_ext (λ r. fun_ext (λ p. by r p (nat_eq r region && nat_eq p page)))
  where
    by : (r p : ℕ) (b : Bool) → frame_in (cond b o (entries r p)) ≡ cond b (frame_in o) (frame_of entries r p)
    by r p true = refl
    by r p false = refl

-- the owners of frames
pub owner-with_owner : (owners : List Owner) (f : ℕ) (o : Owner) → f < length owners → owner (with_owner owners f o) ≡ changed (owner owners) f o
owner-with_owner owners f o below = fun_ext (λ g. by g (eqb_tells g f))
  where
    by : (g : ℕ) → ((nat_eq g f ≡ true) × (g ≡ f)) ⊎ ((nat_eq g f ≡ false) × (g ≢ f)) → owner (with_owner owners f o) g ≡ changed (owner owners) f o g
    by g (inl (t, same)) = rw (t, same) (get_or-set_same owners f o nobody below)
    by g (inr (t, other)) = rw t (get_or-set_other owners f g o nobody other)

-- which frames are used
pub is_used-with_used : (pool : Pool) (f : ℕ) (used : Bool) → is_used (with_used pool f used) f ≡ used → is_used (with_used pool f used) ≡ changed (is_used pool) f used
is_used-with_used pool f used here = fun_ext (λ g. by g (eqb_tells g f))
  where
    by : (g : ℕ) → ((nat_eq g f ≡ true) × (g ≡ f)) ⊎ ((nat_eq g f ≡ false) × (g ≢ f)) → is_used (with_used pool f used) g ≡ changed (is_used pool) f used g
    by g (inl (t, same)) = rw (t, same) here
    by g (inr (t, other)) = rw t (get_or-set_other pool.used f g used false other)

-- what the frames hold
pub frame-with_frame_same : (memory : List (List Cap)) (f : ℕ) (granules : List Cap) → f < length memory → frame (with_frame memory f granules) f ≡ granules
frame-with_frame_same memory f granules below = get_or-set_same memory f granules [] below

pub frame-with_frame_other : (memory : List (List Cap)) (f g : ℕ) (granules : List Cap) → g ≢ f → frame (with_frame memory f granules) g ≡ frame memory g
frame-with_frame_other memory f g granules other = get_or-set_other memory f g granules [] other

-- a page stays where its frame and its home do
pub HasSamePage-stays : (memory later : List (List Cap)) (owners later_owners : List Owner) (region : ℕ) (o : Option Entry) (p : Option Page)
    → ((e : Entry) → o ≡ Some e → (frame later e.frame.0 ≡ frame memory e.frame.0) × ((owner later_owners e.frame.0).home ≡ (owner owners e.frame.0).home))
    → HasSamePage memory owners region o p → HasSamePage later later_owners region o p
HasSamePage-stays memory later owners later_owners region None None same has = has
HasSamePage-stays memory later owners later_owners region None (Some p) same has = has
HasSamePage-stays memory later owners later_owners region (Some e) None same has = has
HasSamePage-stays memory later owners later_owners region (Some e) (Some p) same has =
    let stays = same e refl in
    record {
      rights = has.rights;
      granules = rw (stays.0, stays.1) has.granules;
      home = rw stays.1 has.home;
      held = rw (stays.0, stays.1) has.held;
      whole = rw stays.0 has.whole;
    }
