-- Each call keeps a content whole.
use Rattle.std.proofs.Common.{◌≡◌, ◌≢◌, ◌∙◌, ◌⊎◌, inl, inr, refl, sym, ap, subst, ℕ, ◌+◌, ◌%◌, ◌^◌, ◌<◌, ◌==◌, ◌&&◌, not, nat_eq, is_some, get_or, Option, Some, None, Result, List, [], ◌∷◌, ◌++◌, slice_set, map, cond, true, false, Bool, All, arith}
use Rattle.std.specs.Option.{option_map}
use Rattle.std.proofs.lemmas.Bool.Decides.{eqb_tells, nat_tests}
use Rattle.std.proofs.lemmas.List.Elements.{All-nil, All-map, All-filter, filter_passes, All-push}
use Rattle.cap_format.specs.Numbers.{region_pages}
use Rattle.cap_format.specs.declared.cap.Cap.{Cap}
use Rattle.machine_types.specs.declared.config.Rule.{Rule}
use Rattle.machine_types.specs.declared.touches.Access.TheVariants.{Write}
use Rattle.machine_types.specs.declared.touches.NoFrame.{NoFrame}
use Rattle.machine_types.specs.Lists.{count_of}
use Rattle.machine_types.specs.Granules.{IsSize, with_number}
use Rattle.machine_types.specs.Held.{MayHold}
use Rattle.machine_types.specs.Stores.{Page, Store, changed, empty_store, page_of_bytes, store_with}
use Rattle.machine_types.specs.Accounts.{Class, is_member, has_member, has_members, class_for, without_region, account_at_end}
use Rattle.contents.specs.declared.refusal.Refusal.{Refusal}
use Rattle.contents.specs.Content.{Content, CallOutcome, nothing, page_at, is_full, with_account, with_store, with_granules}
use Rattle.contents.specs.Accesses.{Reached, reach, store_to, touched, page_of_place, byte_of_place, granule_of_place, write_of, write_cap_of}
use Rattle.contents.specs.Regions.{begin_of, end_of, add_page_of, seed_cap_of}
use Rattle.contents.specs.Transfers.{write_bytes_of}
use Rattle.contents.specs.Conditions.{HasNoStore, LacksPage}
use Rattle.contents.specs.Whole.{IsClass, IsWhole}
use Rattle.contents.proofs.CallShapes.{by-reach, with_new_page, by-added}
use Rattle.contents.proofs.PageRights.{some-rights, rights-granules}
use Rattle.contents.proofs.Ended.{others-stay, own-leave}
use Rattle.contents.proofs.UsedFrames.{within-steps}
use Rattle.contents.proofs.ListCounts.{count-append}
use Rattle.contents.proofs.WholeStores.{IsPageOf, store-of, whole-by, stores-changed, page-changed, none-of, empty-of, page-put, put-of, KeepsPage, granules-of}
use Rattle.contents.proofs.HeldGranules.{number-keeps, cap-keeps, place-within, made-of}
use Rattle.contents.proofs.WholeClasses.{once-filter, count-class_for, IsClass-class_for}
use Rattle.contents.proofs.WholeTouches.{touch-whole}

-- Stores to memory.

-- a change of the granules of a page
pub granules-whole : (c : Content) (region page : ℕ) (change : List Cap → List Cap) → KeepsPage region change → IsWhole c → IsWhole (with_granules c region page change)
granules-whole c region page change keeps is =
    whole-by (with_granules c region page change)
    (stores-changed c region new is (granules-of region page change keeps (c.stores region) (store-of c region is)))
    (λ r p. is.pages r p ∙ ap (λ (b : Bool). cond b 1 0) (sym (same r p)))
    is.classes is.used
  where
    new : Option Store
    new = option_map (store_with page change) (c.stores region)

    same : (r p : ℕ) → is_some (page_at (with_granules c region page change) r p) ≡ is_some (page_at c r p)
    same r p = sym (some-rights (with_granules c region page change) r p) ∙ ap is_some (rights-granules c region page change r p) ∙ some-rights c r p

-- a store by an access, whatever it changes
store-whole : (c : Content) (region at : ℕ) (change : List Cap → List Cap) → KeepsPage region change → IsWhole c → IsWhole (store_to c region at change (reach c Write region at)).after
store-whole c region at change keeps is =
    by-reach (λ (reached : Result Reached Refusal). IsWhole (store_to c region at change reached).after) c Write region at (λ refusal. is)
    (λ p tagged note e. granules-whole (touched c region note) region (page_of_place at) change keeps (touch-whole c Write region (page_of_place at) tagged note e is))

pub write-whole : (c : Content) (region at size v : ℕ) → IsWhole c → IsSize size → at % size ≡ 0 → IsWhole (write_of c region at size v).after
unfolding write_of
write-whole c region at size v is size_is aligned =
    store-whole c region at (λ granules. with_number granules (byte_of_place at) size v) (number-keeps region (byte_of_place at) size v (place-within at size size_is aligned)) is

pub write_cap-whole : (c : Content) (region at : ℕ) (cap : Cap) → IsWhole c → cap.bits < 2 ^ 128 → MayHold region cap → IsWhole (write_cap_of c region at cap).after
unfolding write_cap_of
write_cap-whole c region at cap is pattern inside =
    store-whole c region at (λ granules. slice_set granules (granule_of_place at) cap) (cap-keeps region (granule_of_place at) cap pattern inside) is

pub seed_cap-whole : (c : Content) (region at : ℕ) (cap : Cap) → IsWhole c → cap.bits < 2 ^ 128 → MayHold region cap → IsWhole (seed_cap_of c region at cap)
unfolding seed_cap_of
seed_cap-whole c region at cap is pattern inside =
    granules-whole c region (page_of_place at) (λ granules. slice_set granules (granule_of_place at) cap) (cap-keeps region (granule_of_place at) cap pattern inside) is

pub write_bytes-whole : (c : Content) (region at : ℕ) (bytes : List ℕ) → IsWhole c → IsWhole (write_bytes_of c region at bytes)
unfolding write_bytes_of
write_bytes-whole c region at [] is = is
write_bytes-whole c region at (byte ∷ bytes) is =
    write_bytes-whole (with_granules c region (page_of_place at) (λ granules. with_number granules (byte_of_place at) 1 byte)) region (at + 1) bytes
    (granules-whole c region (page_of_place at) (λ granules. with_number granules (byte_of_place at) 1 byte) (number-keeps region (byte_of_place at) 1 byte (omega arith)) is)

-- Stores that begin and end, and pages that are added.

-- what there is before the first call
pub nothing-whole : (rule : Rule) (frames : ℕ) → IsWhole (nothing rule frames)
nothing-whole rule frames = whole-by (nothing rule frames) none-of (λ r p. refl) (All-nil IsClass) (omega arith)

pub begin-whole : (c : Content) (region : ℕ) → IsWhole c → HasNoStore region c → IsWhole (begin_of c region)
unfolding begin_of
begin-whole c region is none =
    whole-by (with_store c region (Some empty_store)) (stores-changed c region (Some empty_store) is (empty-of region))
    (λ r p. is.pages r p ∙ ap (λ (o : Option Page). cond (is_some o) 1 0) (sym (same r p)))
    is.classes is.used
  where
    same : (r p : ℕ) → page_at (with_store c region (Some empty_store)) r p ≡ page_at c r p
    same r p = page-changed c region (Some empty_store) r p ∙ by (eqb_tells r region)
      where
        by : ((nat_eq r region ≡ true) × (r ≡ region)) ⊎ ((nat_eq r region ≡ false) × (r ≢ region)) → cond (nat_eq r region) None (page_at c r p) ≡ page_at c r p
        by (inl (t, e)) = rw (t, e, none) refl
        by (inr (t, e)) = rw t refl

pub end-whole : (c : Content) (region : ℕ) → IsWhole c → IsWhole (end_of c region)
unfolding end_of account_at_end
end-whole c region is =
    whole-by (with_account (with_store c region None) (account_at_end region c.account)) (stores-changed c region None is (none-of region))
    (λ r p. by r p (eqb_tells r region))
    (λ k d w. record { some = filter_passes has_members left k d w; once = All-filter has_members HasOnce left left-once k d w })
    ((within-steps region).end c is.used)
  where
    left : List Class
    left = map (without_region region) c.account

    -- it has each of its members once
    HasOnce : Class → Type 0
    HasOnce class = (r p : ℕ) → count_of (is_member r p) class.members ≡ cond (has_member r p class) 1 0

    left-once : All HasOnce left
    left-once = All-map HasOnce (without_region region) c.account (λ k d w. once-filter (λ m. not (m.region == region)) (get_or c.account k d) (is.classes k d w))

    by : (r p : ℕ) → ((nat_eq r region ≡ true) × (r ≡ region)) ⊎ ((nat_eq r region ≡ false) × (r ≢ region))
        → count_of (has_member r p) (account_at_end region c.account) ≡ cond (is_some (page_at (with_store c region None) r p)) 1 0
    by r p (inl (t, e)) =
        let none : count_of (has_member r p) (account_at_end region c.account) ≡ 0 = rw e (own-leave c.account region p) in
        let page : page_at (with_store c region None) r p ≡ None = page-changed c region None r p ∙ rw t refl in
        none ∙ rw page refl
    by r p (inr (t, e)) =
        others-stay c.account region r p e ∙ is.pages r p ∙ ap (λ (o : Option Page). cond (is_some o) 1 0) (sym (page-changed c region None r p ∙ rw t refl))

-- a page that is added where it was not
added-whole : (c : Content) (region page rights : ℕ) (bytes : List ℕ) → IsWhole c → page < region_pages → LacksPage region page c → is_full c ≡ false
    → IsWhole (with_new_page c region page rights bytes)
added-whole c region page rights bytes is within lacks free =
    whole-by (with_account with_new (c.account ++ (class_for region page ∷ [])))
    (stores-changed c region new is (put-of region page made (c.stores region) (λ past. absurd (omega arith)) of (store-of c region is)))
    counted
    (All-push IsClass c.account (class_for region page) is.classes (IsClass-class_for region page))
    ((within-steps region).add c page free is.used)
  where
    made : Option Page
    made = Some (page_of_bytes rights bytes)

    new : Option Store
    new = option_map (λ store. changed store page made) (c.stores region)

    with_new : Content
    with_new = with_store c region new

    of : (x : Page) → made ≡ Some x → IsPageOf region x
    of x e = let same : page_of_bytes rights bytes ≡ x = cc in subst (IsPageOf region) same (made-of region rights bytes)

    -- each page afterwards
    page-is : (r p : ℕ) → page_at with_new r p ≡ cond (nat_eq r region) (cond (nat_eq p page) made (page_at c region p)) (page_at c r p)
    page-is r p = page-changed c region new r p ∙ ap (λ (o : Option Page). cond (nat_eq r region) o (page_at c r p)) (page-put page made p (c.stores region) ∙ rw lacks.store refl)

    by : (r p : ℕ) → ((nat_eq r region ≡ true) × (r ≡ region)) ⊎ ((nat_eq r region ≡ false) × (r ≢ region)) → ((nat_eq p page ≡ true) × (p ≡ page)) ⊎ ((nat_eq p page ≡ false) × (p ≢ page))
        → count_of (has_member r p) c.account + cond (region == r && page == p) 1 0 ≡ cond (is_some (page_at with_new r p)) 1 0
    by r p (inl (t, e)) (inl (u, f)) =
        let absent : page_at c r p ≡ None = rw (e, f) lacks.absent in
        let zero : count_of (has_member r p) c.account ≡ 0 = is.pages r p ∙ rw absent refl in
        let here : (region == r && page == p) ≡ true = grind (arith, nat_tests) in
        let there : page_at with_new r p ≡ made = page-is r p ∙ rw (t, u) refl in
        rw (zero, here, there) (omega arith)
    by r p (inl (t, e)) (inr (u, f)) =
        let other : (region == r && page == p) ≡ false = grind (arith, nat_tests) in
        let same : page_at with_new r p ≡ page_at c r p = page-is r p ∙ rw (t, u) (ap (λ (r : ℕ). page_at c r p) (sym e)) in
        let pages = is.pages r p in
        rw (other, same) (omega arith)
    by r p (inr (t, e)) b =
        let other : (region == r && page == p) ≡ false = grind (arith, nat_tests) in
        let same : page_at with_new r p ≡ page_at c r p = page-is r p ∙ rw t refl in
        let pages = is.pages r p in
        rw (other, same) (omega arith)

    counted : (r p : ℕ) → count_of (has_member r p) (c.account ++ (class_for region page ∷ [])) ≡ cond (is_some (page_at with_new r p)) 1 0
    counted r p =
        count-append (has_member r p) c.account (class_for region page ∷ [])
        ∙ ap (λ n. count_of (has_member r p) c.account + n) (count-class_for region page r p) ∙ by r p (eqb_tells r region) (eqb_tells p page)

pub add_page-whole : (c : Content) (region page rights : ℕ) (bytes : List ℕ) → IsWhole c → page < region_pages → LacksPage region page c → IsWhole (add_page_of c region page rights bytes).after
add_page-whole c region page rights bytes is within lacks =
    by-added (λ (o : CallOutcome (Result (Unit {0}) NoFrame)). IsWhole o.after) c region page rights bytes (λ full. is) (λ free. added-whole c region page rights bytes is within lacks free)
