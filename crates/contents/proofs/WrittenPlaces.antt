-- What is read where something was written.
use Rattle.std.proofs.Common.{◌≡◌, ◌∙◌, ℕ, ◌*◌, ◌%◌, ◌^◌, ◌≤◌, ap, refl, arith, Bool, true, false, Option, Some, None, Result, Ok, Err, List, length, slice_set}
use Rattle.std.specs.Option.{option_map}
use Rattle.std.proofs.lemmas.List.{get_or-set_same}
use Rattle.cap_format.specs.Numbers.{page_granules}
use Rattle.cap_format.specs.declared.cap.Cap.{Cap}
use Rattle.cap_format.specs.Made.{null}
use Rattle.machine_types.specs.declared.config.Rule.{Rule}
use Rattle.machine_types.specs.declared.config.Rule.TheVariants as rule
use Rattle.machine_types.specs.declared.touches.Access.{Access}
use Rattle.machine_types.specs.declared.touches.Access.TheVariants.{Read, Write, Fetch}
use Rattle.machine_types.specs.declared.touches.Note.{Note}
use Rattle.machine_types.specs.Lists.{count_of}
use Rattle.machine_types.specs.Granules.{IsSize, granule, is_tagged, number_at, with_number}
use Rattle.machine_types.specs.MemoryLaws.{IsPlace}
use Rattle.machine_types.specs.Rights.{is_allowed}
use Rattle.machine_types.specs.Stores.{Page, page_with}
use Rattle.machine_types.specs.Accounts.{Class, has_member}
use Rattle.machine_types.specs.Touches.{touches, is_shared}
use Rattle.machine_types.proofs.StoredNumbers.{number_at-with_number_same, is_tagged-with_number_same}
use Rattle.contents.specs.declared.refusal.Refusal.{Refusal}
use Rattle.contents.specs.Content.{Content, page_at, class_at, with_granules}
use Rattle.contents.specs.Accesses.{untouched, note_in, note_of, touched, Reached, reach, load_from, store_to, page_of_place, byte_of_place, granule_of_place, read_of, read_cap_of, write_of, write_cap_of}
use Rattle.contents.specs.Regions.{seed_cap_of}
use Rattle.contents.specs.Looks.{peek_of, rights_of}
use Rattle.contents.specs.Conditions.{IsFitIn, IsOwn}
use Rattle.contents.specs.Reading.{seen, tag_seen, number_seen}
use Rattle.contents.proofs.SeenReads.{number-there}
use Rattle.contents.specs.Whole.{IsWhole}
use Rattle.contents.specs.Writing.{IsReadable}
use Rattle.contents.proofs.Fits.{own-untouched}
use Rattle.contents.proofs.TouchLemmas.{IsFit, noted}
use Rattle.contents.proofs.Prepared.{own-fit}
use Rattle.contents.proofs.NamedTouches.{reached, granules-there}
use Rattle.contents.proofs.ListCounts.{count-found}
use Rattle.contents.proofs.WholeStores.{store-of}
use Rattle.contents.proofs.HeldGranules.{page-aligned, place-within}

-- Accesses that touch nothing.

-- what a store doesn't touch no access touches
store-untouched : (r : Rule) (access : Access) (class : Class) (region : ℕ) (some tagged : Bool) → touches r Write class region some ≡ false → touches r access class region tagged ≡ false
store-untouched rule.Full access class region some tagged h = refl
store-untouched rule.Access Write class region some tagged h = h
store-untouched rule.Access Read class region some tagged h = grind arith
store-untouched rule.Access Fetch class region some tagged h = grind arith
store-untouched rule.Pointer Write class region some tagged h = h
store-untouched rule.Pointer Read class region some tagged h = grind arith
store-untouched rule.Pointer Fetch class region some tagged h = grind arith

-- no access to a page touches it
abbrev IsNeverTouched : Content → ℕ → ℕ → Type 0
IsNeverTouched c region page = (access : Access) (tagged : Bool) → note_of c access region page tagged ≡ Some untouched

-- one that a store doesn't touch
never-by-store : (c : Content) (region page : ℕ) (some : Bool) → IsFit c Write region page some → IsNeverTouched c region page
never-by-store c region page some fit access tagged = by (class_at c region page) fit
  where
    by : (o : Option Class) → IsFitIn c Write region some o → note_in c access region page tagged o ≡ Some untouched
    by None fit = refl
    by (Some class) fit = rw (store-untouched c.rule access class region some tagged fit) refl

-- one that is alone and at home
never-own : (c : Content) (region page : ℕ) → IsOwn region page c → IsNeverTouched c region page
never-own c region page own access tagged = rw own.there (by own.alone)
  where
    by : length own.class.members ≡ 1 → note_in c access region page tagged (Some own.class) ≡ Some untouched
    by one =
        let single : is_shared own.class ≡ false = rw one refl in
        rw (own-untouched c.rule access own.class region tagged own.home single) refl

-- a load from a page that may be accessed and isn't touched answers of its granules
load-untouched : {A : Type 0} (c : Content) (access : Access) (region at : ℕ) (value : List Cap → A) (p : Page) → page_at c region (page_of_place at) ≡ Some p → is_allowed access p.rights ≡ true
    → IsNeverTouched c region (page_of_place at) → (load_from c region value (reach c access region at)).answer ≡ Ok (value p.granules, untouched)
load-untouched c access region at value p there allowed never = rw (there, allowed, never access (is_tagged p.granules (granule_of_place at))) refl

-- What a store leaves at its place.

-- A page that was there has its granules changed, and no access touches it.
record WasStored (c after : Content) (region at : ℕ) (change : List Cap → List Cap) : Type 0 where
  pub page : Page
  pub before : page_at c region (page_of_place at) ≡ Some page
  pub there : page_at after region (page_of_place at) ≡ Some (page_with change page)
  pub never : IsNeverTouched after region (page_of_place at)

-- a store by an access that is Ok
stored : (c : Content) (region at : ℕ) (change : List Cap → List Cap) (note : Note) → (store_to c region at change (reach c Write region at)).answer ≡ Ok note
    → WasStored c (store_to c region at change (reach c Write region at)).after region at change
stored c region at change note = by (reach c Write region at) refl
  where
    by : (r : Result Reached Refusal) → reach c Write region at ≡ r → (store_to c region at change r).answer ≡ Ok note → WasStored c (store_to c region at change r).after region at change
    by (Err refusal) f h = absurd (cc)
    by (Ok e) f h =
        let r = reached c Write region at e f in
        let tagged : Bool = is_tagged e.page.granules (granule_of_place at) in
        record {
          page = e.page;
          before = r.there;
          there = granules-there (touched c region e.note) region (page_of_place at) change e.page r.there;
          never = never-by-store (touched c region e.note) region (page_of_place at) tagged (own-fit c Write region (page_of_place at) tagged e.note (noted c Write region (page_of_place at) tagged e.note r.note));
        }

-- a page of a whole content whose region owns it is there
own-there : (c : Content) (region page : ℕ) → IsWhole c → IsOwn region page c → (p : Page) × (page_at c region page ≡ Some p)
own-there c region page whole own = by (page_at c region page) refl (count-found (has_member region page) c.account own.class own.there)
  where
    by : (o : Option Page) → page_at c region page ≡ o → 1 ≤ count_of (has_member region page) c.account → (p : Page) × (page_at c region page ≡ Some p)
    by None e some =
        let zero : count_of (has_member region page) c.account ≡ 0 = whole.pages region page ∙ rw e refl in
        absurd (omega arith)
    by (Some p) e some = (p, e)

-- a change of its granules, whatever the rights
seeded : (c : Content) (region at : ℕ) (change : List Cap → List Cap) → IsWhole c → IsOwn region (page_of_place at) c → WasStored c (with_granules c region (page_of_place at) change) region at change
seeded c region at change whole own =
    let page = own-there c region (page_of_place at) whole own in
    record { page = page.0; before = page.1; there = granules-there c region (page_of_place at) change page.0 page.1; never = never-own c region (page_of_place at) own }

-- What is read of it.
module _ (c after : Content) (region at : ℕ) (change : List Cap → List Cap) (was : WasStored c after region at change) where
  -- a load answers of the changed granules
  loaded-back : {A : Type 0} (value : List Cap → A) → IsReadable c region at → (load_from after region value (reach after Read region at)).answer ≡ Ok (value (change was.page.granules), untouched)
  unfolding rights_of
  loaded-back value readable = load-untouched after Read region at value (page_with change was.page) was.there allowed was.never
    where
      same : Some was.page.rights ≡ Some readable.rights
      same = rw was.before at readable.there

      allowed : is_allowed Read was.page.rights ≡ true
      allowed = let is : was.page.rights ≡ readable.rights = cc in rw is readable.allowed

  -- its granule is seen
  seen-back : seen after region at ≡ Some (granule (change was.page.granules) (granule_of_place at))
  unfolding peek_of
  seen-back = rw was.there refl

  -- the page has 256 granules
  long-before : IsWhole c → length was.page.granules ≡ page_granules
  long-before whole = ((store-of c region whole).pages (page_of_place at) was.page was.before).long

-- Numbers and granules.

-- a place of a page of 256 granules
pub page-place : (at size : ℕ) (granules : List Cap) → length granules ≡ page_granules → IsSize size → at % size ≡ 0 → IsPlace granules (byte_of_place at) size
page-place at size granules long is aligned = record {
  size_is = is;
  aligned = page-aligned at size is aligned;
  within = let one = place-within at size is aligned in omega arith;
}

pub number-read : (c : Content) (region at size v : ℕ) (note : Note) → IsWhole c → IsSize size → at % size ≡ 0 → IsReadable c region at → (write_of c region at size v).answer ≡ Ok note
    → (read_of (write_of c region at size v).after region at size).answer ≡ Ok (v % 2 ^ (8 * size), untouched)
unfolding write_of read_of
number-read c region at size v note whole is aligned readable h =
    let change : List Cap → List Cap = λ granules. with_number granules (byte_of_place at) size v in
    let was = stored c region at change note h in
    loaded-back c _ region at change was (λ granules. number_at granules (byte_of_place at) size) readable
    ∙ ap (λ (n : ℕ). Ok (n, untouched)) (number_at-with_number_same was.page.granules (byte_of_place at) size v (page-place at size was.page.granules (long-before c _ region at change was whole) is aligned))

pub tag-cleared : (c : Content) (region at size v : ℕ) (note : Note) → (write_of c region at size v).answer ≡ Ok note → tag_seen (write_of c region at size v).after region at ≡ Some false
unfolding write_of
tag-cleared c region at size v note h =
    let change : List Cap → List Cap = λ granules. with_number granules (byte_of_place at) size v in
    let was = stored c region at change note h in
    ap (option_map (λ (cap : Cap). cap.tag)) (seen-back c _ region at change was) ∙ ap (λ (b : Bool). Some b) (is_tagged-with_number_same was.page.granules (byte_of_place at) size v)

-- A granule that was stored, by an access or whatever the rights.
module _ (c after : Content) (region at : ℕ) (cap : Cap) (whole : IsWhole c) (was : WasStored c after region at (λ granules. slice_set granules (granule_of_place at) cap)) where
  -- the page holds it
  cap-there : granule (slice_set was.page.granules (granule_of_place at) cap) (granule_of_place at) ≡ cap
  cap-there =
      let long = long-before c after region at (λ granules. slice_set granules (granule_of_place at) cap) was whole in
      get_or-set_same was.page.granules (granule_of_place at) cap null (omega arith)

  -- it is seen
  cap-seen_back : seen after region at ≡ Some cap
  cap-seen_back = seen-back c after region at (λ granules. slice_set granules (granule_of_place at) cap) was ∙ ap (λ (cap : Cap). Some cap) cap-there

  -- and read back
  cap-read_back : IsReadable c region at → (read_cap_of after region at).answer ≡ Ok (cap, untouched)
  unfolding read_cap_of
  cap-read_back readable =
      loaded-back c after region at (λ granules. slice_set granules (granule_of_place at) cap) was (λ granules. granule granules (granule_of_place at)) readable
      ∙ ap (λ (cap : Cap). Ok (cap, untouched)) cap-there

pub cap-seen : (c : Content) (region at : ℕ) (cap : Cap) (note : Note) → IsWhole c → (write_cap_of c region at cap).answer ≡ Ok note → seen (write_cap_of c region at cap).after region at ≡ Some cap
unfolding write_cap_of
cap-seen c region at cap note whole h = cap-seen_back c _ region at cap whole (stored c region at (λ granules. slice_set granules (granule_of_place at) cap) note h)

pub cap-read : (c : Content) (region at : ℕ) (cap : Cap) (note : Note) → IsWhole c → IsReadable c region at → (write_cap_of c region at cap).answer ≡ Ok note
    → (read_cap_of (write_cap_of c region at cap).after region at).answer ≡ Ok (cap, untouched)
unfolding write_cap_of
cap-read c region at cap note whole readable h = cap-read_back c _ region at cap whole (stored c region at (λ granules. slice_set granules (granule_of_place at) cap) note h) readable

pub seed-seen : (c : Content) (region at : ℕ) (cap : Cap) → IsWhole c → IsOwn region (page_of_place at) c → seen (seed_cap_of c region at cap) region at ≡ Some cap
unfolding seed_cap_of
seed-seen c region at cap whole own = cap-seen_back c _ region at cap whole (seeded c region at (λ granules. slice_set granules (granule_of_place at) cap) whole own)

pub seed-read : (c : Content) (region at : ℕ) (cap : Cap) → IsWhole c → IsOwn region (page_of_place at) c → IsReadable c region at
    → (read_cap_of (seed_cap_of c region at cap) region at).answer ≡ Ok (cap, untouched)
unfolding seed_cap_of
seed-read c region at cap whole own readable = cap-read_back c _ region at cap whole (seeded c region at (λ granules. slice_set granules (granule_of_place at) cap) whole own) readable

-- The number is seen, also where the page may not be read.
pub number-shown : (c : Content) (region at size v : ℕ) (note : Note) → IsWhole c → IsSize size → at % size ≡ 0 → (write_of c region at size v).answer ≡ Ok note
    → number_seen (write_of c region at size v).after region at size ≡ Some (v % 2 ^ (8 * size))
unfolding write_of
number-shown c region at size v note whole is aligned h =
    let change : List Cap → List Cap = λ granules. with_number granules (byte_of_place at) size v in
    let was = stored c region at change note h in
    number-there _ region at size (page_with change was.page) was.there
    ∙ ap (λ (n : ℕ). Some n) (number_at-with_number_same was.page.granules (byte_of_place at) size v (page-place at size was.page.granules (long-before c _ region at change was whole) is aligned))
