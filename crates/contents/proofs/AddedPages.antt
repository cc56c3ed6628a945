-- A page that was added: its rights, its bytes, its tags and its class.
use Rattle.std.proofs.Common.{◌≡◌, ◌≢◌, ◌∙◌, ℕ, zero, suc, ◌+◌, ◌*◌, ◌<◌, ◌≤◌, ◌↔◌, cond, ap, refl, arith, Bool, true, false, Option, Some, None, Result, Ok, Err, List, [], ◌∷◌, ◌++◌, length, find}
use Rattle.std.specs.Option.{option_map}
use Rattle.std.proofs.lemmas.Bool.{eqb-true, eq-eqb}
use Rattle.std.proofs.lemmas.Bool.Decides.{nat_tests}
use Rattle.std.proofs.lemmas.List.{length-append}
use Rattle.std.proofs.lemmas.List.Folds.{find-append}
use Rattle.cap_format.specs.Numbers.{page_bytes}
use Rattle.cap_format.specs.declared.cap.Cap.{Cap}
use Rattle.machine_types.specs.declared.touches.NoFrame.{NoFrame}
use Rattle.machine_types.specs.Lists.{count_of}
use Rattle.machine_types.specs.Granules.{number_at, bytes_at}
use Rattle.machine_types.specs.MemoryLaws.{AreBytes}
use Rattle.machine_types.specs.Stores.{Page, Store, changed, page_of_bytes}
use Rattle.machine_types.specs.Accounts.{has_member, class_for}
use Rattle.machine_types.proofs.PagesMade.{bytes_at-page_of_bytes, number_at-page_of_bytes_rest, is_tagged-page_of_bytes}
use Rattle.contents.specs.Content.{Content, CallOutcome, page_in, page_at, class_at, is_full, used_frames, with_account, with_page}
use Rattle.contents.specs.Accesses.{page_of_place, byte_of_place}
use Rattle.contents.specs.Regions.{no_frame, add_page_of}
use Rattle.contents.specs.Transfers.{byte_in, read_bytes_of}
use Rattle.contents.specs.Looks.{peek_of, rights_of}
use Rattle.contents.specs.Conditions.{HasStore, LacksPage, IsOwn}
use Rattle.contents.specs.Whole.{IsWhole}
use Rattle.contents.specs.Writing.{byte_seen}
use Rattle.contents.proofs.OtherStores.{changed-there}
use Rattle.contents.proofs.WholeStores.{page-put}

-- Bytes of a page.

-- a byte of it
byte-of-page : (c : Content) (region page k : ℕ) (p : Page) → page_at c region page ≡ Some p → k < page_bytes → byte_seen c region (page * page_bytes + k) ≡ number_at p.granules k 1
byte-of-page c region page k p there within =
    let here : page_of_place (page * page_bytes + k) ≡ page = omega arith in
    let byte : byte_of_place (page * page_bytes + k) ≡ k = omega arith in
    ap (λ (q : ℕ). byte_in (page_at c region q) (page * page_bytes + k)) here
    ∙ ap (λ (o : Option Page). byte_in o (page * page_bytes + k)) there
    ∙ ap (λ (k : ℕ). number_at p.granules k 1) byte

-- many of them
bytes-of-page : (c : Content) (region page k n : ℕ) (p : Page) → page_at c region page ≡ Some p → k + n ≤ page_bytes → read_bytes_of c region (page * page_bytes + k) n ≡ bytes_at p.granules k n
unfolding read_bytes_of
bytes-of-page c region page k zero p there within = refl
bytes-of-page c region page k (suc n) p there within =
    let next : page * page_bytes + k + 1 ≡ page * page_bytes + (k + 1) = omega arith in
    ap (λ (x : ℕ). x ∷ read_bytes_of c region (page * page_bytes + k + 1) n) (byte-of-page c region page k p there (omega arith))
    ∙ ap (λ (at : ℕ). number_at p.granules k 1 ∷ read_bytes_of c region at n) next
    ∙ ap (λ (xs : List ℕ). number_at p.granules k 1 ∷ xs) (bytes-of-page c region page (k + 1) n p there (omega arith))

-- nothing is found where nothing is counted
none-found : {A : Type 0} (passes : A → Bool) (xs : List A) → count_of passes xs ≡ 0 → find passes xs ≡ None
none-found passes [] h = refl
none-found {A} passes (x ∷ xs) h = by (passes x) h (none-found passes xs)
  where
    by : (b : Bool) → cond b (1 + count_of passes xs) (count_of passes xs) ≡ 0 → (count_of passes xs ≡ 0 → find passes xs ≡ None) → cond b (Some x) (find passes xs) ≡ None
    by true h rest = absurd (omega arith)
    by false h rest = rest h

-- The call.
module _ (c : Content) (region page rights : ℕ) (bytes : List ℕ) where
  abbrev made : Page
  made = page_of_bytes rights bytes

  -- the content with the page
  abbrev added : Content
  added = with_account (with_page c region page made) (c.account ++ (class_for region page ∷ []))

  -- what the call gives, where all frames are used or not
  abbrev outcome : Bool → CallOutcome (Result (Unit {0}) NoFrame)
  outcome full = cond full (record { answer = Err no_frame; after = c }) (record { answer = Ok tt; after = added })

  -- it is refused exactly where all are used
  pub added-refused : ((add_page_of c region page rights bytes).answer ≡ Err no_frame) ↔ (used_frames c ≡ c.frames)
  unfolding add_page_of
  added-refused = (λ h. eqb-true (used_frames c) c.frames (full (is_full c) h), λ same. rw (eq-eqb (used_frames c) c.frames same) refl)
    where
      full : (b : Bool) → (outcome b).answer ≡ Err no_frame → b ≡ true
      full true h = refl
      full false h = absurd (cc)

  -- what holds of the content with the page holds after a call that is Ok
  after-added : (P : Content → Type 0) → P added → (add_page_of c region page rights bytes).answer ≡ Ok tt → P (add_page_of c region page rights bytes).after
  unfolding add_page_of
  after-added P is = by (is_full c)
    where
      by : (b : Bool) → (outcome b).answer ≡ Ok tt → P (outcome b).after
      by true h = absurd (cc)
      by false h = is

  -- the page is there
  page-added : HasStore region c → page_at added region page ≡ Some made
  page-added store =
      ap (λ (s : Option Store). page_in s page) (changed-there c.stores region (option_map (λ (store : Store). changed store page (Some made)) (c.stores region)))
      ∙ page-put page (Some made) page (c.stores region) ∙ rw (store, eq-eqb page page refl) refl

  pub added-rights : HasStore region c → (add_page_of c region page rights bytes).answer ≡ Ok tt → rights_of (add_page_of c region page rights bytes).after region page ≡ Some rights
  unfolding rights_of
  added-rights store = after-added (λ (d : Content). rights_of d region page ≡ Some rights) (rw (page-added store) refl)

  pub added-front : HasStore region c → length bytes ≤ page_bytes → AreBytes bytes → (add_page_of c region page rights bytes).answer ≡ Ok tt
      → read_bytes_of (add_page_of c region page rights bytes).after region (page * page_bytes) (length bytes) ≡ bytes
  added-front store fit are =
      let same : page * page_bytes ≡ page * page_bytes + 0 = omega arith in
      after-added (λ (d : Content). read_bytes_of d region (page * page_bytes) (length bytes) ≡ bytes)
      (ap (λ (at : ℕ). read_bytes_of added region at (length bytes)) same ∙ bytes-of-page added region page 0 (length bytes) made (page-added store) (omega arith) ∙ bytes_at-page_of_bytes rights bytes fit are)

  pub added-zeros : (k : ℕ) → HasStore region c → length bytes ≤ k → k < page_bytes → (add_page_of c region page rights bytes).answer ≡ Ok tt
      → byte_seen (add_page_of c region page rights bytes).after region (page * page_bytes + k) ≡ 0
  added-zeros k store past within =
      after-added (λ (d : Content). byte_seen d region (page * page_bytes + k) ≡ 0) (byte-of-page added region page k made (page-added store) within ∙ number_at-page_of_bytes_rest rights bytes k past)

  pub added-tags : (g : ℕ) → HasStore region c → (add_page_of c region page rights bytes).answer ≡ Ok tt
      → option_map (λ cap. cap.tag) (peek_of (add_page_of c region page rights bytes).after region page g) ≡ Some false
  unfolding peek_of
  added-tags g store =
      after-added (λ (d : Content). option_map (λ (cap : Cap). cap.tag) (peek_of d region page g) ≡ Some false)
      (rw (page-added store) (ap (λ (b : Bool). Some b) (is_tagged-page_of_bytes rights bytes g)))

  -- its class is the new one
  class-added : IsWhole c → LacksPage region page c → class_at added region page ≡ Some (class_for region page)
  class-added whole lacks =
      let zero : count_of (has_member region page) c.account ≡ 0 = whole.pages region page ∙ rw lacks.absent refl in
      find-append (has_member region page) c.account (class_for region page ∷ []) ∙ rw (none-found (has_member region page) c.account zero) (grind (arith, nat_tests))

  pub added-own : IsWhole c → LacksPage region page c → (add_page_of c region page rights bytes).answer ≡ Ok tt → IsOwn region page (add_page_of c region page rights bytes).after
  added-own whole lacks = after-added (IsOwn region page) (record { class = class_for region page; there = class-added whole lacks; home = refl; alone = refl })

  -- it is Ok exactly where not all are used
  pub added-done : ((add_page_of c region page rights bytes).answer ≡ Ok tt) ↔ (used_frames c ≢ c.frames)
  unfolding add_page_of
  added-done = (λ h same. done (is_full c) (eq-eqb (used_frames c) c.frames same) h, λ other. by (is_full c) refl other)
    where
      done : (b : Bool) → b ≡ true → (outcome b).answer ≡ Ok tt → ⊥
      done true e h = cc
      done false e h = cc

      by : (b : Bool) → is_full c ≡ b → used_frames c ≢ c.frames → (outcome b).answer ≡ Ok tt
      by true e other = absurd (other (eqb-true (used_frames c) c.frames e))
      by false e other = refl

  -- and then one frame more is used
  pub added-used : (add_page_of c region page rights bytes).answer ≡ Ok tt → used_frames (add_page_of c region page rights bytes).after ≡ used_frames c + 1
  added-used = after-added (λ (d : Content). used_frames d ≡ used_frames c + 1) (length-append c.account (class_for region page ∷ []))
