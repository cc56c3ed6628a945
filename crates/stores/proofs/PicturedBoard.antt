-- The worked board, and what it stands for.
use Rattle.std.proofs.Common.{◌≡◌, ◌∙◌, ◌⊎◌, inl, inr, ℕ, zero, suc, ◌+◌, ◌<◌, ◌&&◌, nat_lt, nat_eq, Bool, true, false, cond, Some, None, List, [], ◌∷◌, ◌++◌, length, replicate, get_or, refl, ap, sym, subst, arith, lit<, lit≤}
use Rattle.std.proofs.Math.Path.{fun_ext}
use Rattle.std.proofs.lemmas.Bool.{false≢true}
use Rattle.std.proofs.lemmas.Bool.Decides.{nat_tests}
use Rattle.std.proofs.lemmas.List.Elements.{All-cons, All-replicate}
use Rattle.cap_format.specs.Numbers.{permit_load, permit_store}
use Rattle.cap_format.specs.Made.{null}
use Rattle.cap_format.specs.Moves.{moved_bits}
use Rattle.cap_format.specs.Pattern.{base_of, length_of, top_of}
use Rattle.cap_format.specs.declared.cap.Cap.{Cap}
use Rattle.machine_types.specs.Numbers.{right_to_read}
use Rattle.machine_types.specs.Held.{IsHeld, AreHeld}
use Rattle.machine_types.specs.Lists.{count_of, IsIn}
use Rattle.machine_types.specs.Stores.{moved_granules}
use Rattle.machine_types.specs.Accounts.{Class, is_member, has_member}
use Rattle.machine_types.proofs.HeldRoots.{root-held}
use Rattle.machine_types.proofs.MovedPages.{moved_granules-itself}
use Rattle.frame_owners.specs.Homes.{Owner, nobody, owner}
use Rattle.frame_pool.specs.Pool.{is_used}
use Rattle.page_table.specs.Entries.{Table, NothingPast}
use Rattle.page_table.specs.Stored.{table-same}
use Rattle.page_table.specs.declared.table.Entry.{Entry}
use Rattle.contents.specs.Content.{page_in, page_at}
use Rattle.contents.specs.Examples.{member, class_with}
use Rattle.stores.specs.declared.board.Board.{Board}
use Rattle.stores.specs.Boards.{is_frame, frame_in, frame_of, KeepsAccount, HasPage, HasSamePage, Stands}
use Rattle.stores.specs.Examples.{pointer, moved_pointer, blank, fronted, to_read_and_write, pictured_entry, IsPictured, store_of, pictured, both, ThePictureStands}
use Rattle.stores.proofs.FoundClasses.{class-found}

-- The board.

-- an entry that depends on a test is none where the test fails
none-chosen : (b : Bool) (e : Entry) → b ≡ false → cond b (Some e) None ≡ None
none-chosen b e fails = rw fails refl

past-picture : NothingPast pictured_entry
past-picture region page (inl far) = none-chosen _ _ (grind (arith, nat_tests))
past-picture region page (inr far) = none-chosen _ _ (grind (arith, nat_tests))

picture : Board
picture = record {
  memory = replicate 5 blank ++ (fronted pointer ∷ replicate 2 blank);
  pool = record { size = 8; used = replicate 5 false ++ (true ∷ replicate 2 false) };
  owners = replicate 5 nobody ++ (record { home = 0; sharers = 2 } ∷ replicate 2 nobody);
  table = record { entries = pictured_entry; past = past-picture };
}

picture-is : IsPictured picture
unfolding picture
picture-is = record { entries = λ region page. refl; memory = refl; pool = refl; owners = refl }

-- there is no other
picture-only : (board : Board) → IsPictured board → picture ≡ board
unfolding picture
picture-only board is i = record { memory = sym is.memory i; pool = sym is.pool i; owners = sym is.owners i; table = same i }
  where
    same : ◌≡◌ {A = Table} (record { entries = pictured_entry; past = past-picture }) board.table
    same = table-same _ _ (fun_ext (λ region. fun_ext (λ page. sym (is.entries region page))))

-- Its account.

abbrev the_entry : Entry
the_entry = record { frame = record { 0 = 5 }; rights = to_read_and_write }

-- one value at place 5 among eight
sixth : {A : Type 0} (x y : A) (k : ℕ) → get_or (replicate 5 x ++ (y ∷ replicate 2 x)) k x ≡ cond (nat_eq k 5) y x
sixth x y zero = refl
sixth x y (suc zero) = refl
sixth x y (suc (suc zero)) = refl
sixth x y (suc (suc (suc zero))) = refl
sixth x y (suc (suc (suc (suc zero)))) = refl
sixth x y (suc (suc (suc (suc (suc zero))))) = refl
sixth x y (suc (suc (suc (suc (suc (suc zero)))))) = refl
sixth x y (suc (suc (suc (suc (suc (suc (suc zero))))))) = refl
sixth x y (suc (suc (suc (suc (suc (suc (suc (suc k)))))))) = let other : nat_eq (suc (suc (suc (suc (suc (suc (suc (suc k)))))))) 5 ≡ false = grind (arith, nat_tests) in rw other refl

-- a page is one of the two, or it is elsewhere
place-cases : (region page : ℕ) → ((region ≡ 0) × (page ≡ 0)) ⊎ (((region ≡ 1) × (page ≡ 0)) ⊎ ((nat_lt region 2 && nat_eq page 0) ≡ false))
place-cases zero zero = inl (refl, refl)
place-cases (suc zero) zero = inr (inl (refl, refl))
place-cases (suc (suc region)) zero = inr (inr (grind (arith, nat_tests)))
place-cases region (suc page) = inr (inr (grind (arith, nat_tests)))

-- the frame of an entry that depends on a test
chosen-frame : (b : Bool) (f : ℕ) → frame_in (cond b (Some the_entry) None) ≡ Some f → (b ≡ true) × (f ≡ 5)
chosen-frame true f there = (refl, let same = there in cc)
chosen-frame false f there = absurd (cc)

pictured-frame : (region page f : ℕ) → frame_of pictured_entry region page ≡ Some f → (page ≡ 0) × (f ≡ 5)
pictured-frame region page f there =
    let chosen = chosen-frame (nat_lt region 2 && nat_eq page 0) f there in
    let test : (nat_lt region 2 && nat_eq page 0) ≡ true = chosen.0 in
    (grind (arith, nat_tests), chosen.1)

-- each member of the class is a page with the frame
pictured-members : (region page : ℕ) → count_of (is_member region page) both.members ≡ cond (is_frame 5 (frame_of pictured_entry region page)) 1 0
pictured-members region page = by (place-cases region page)
  where
    by : ((region ≡ 0) × (page ≡ 0)) ⊎ (((region ≡ 1) × (page ≡ 0)) ⊎ ((nat_lt region 2 && nat_eq page 0) ≡ false))
        → count_of (is_member region page) both.members ≡ cond (is_frame 5 (frame_of pictured_entry region page)) 1 0
    by (inl (r, p)) = rw (r, p) refl
    by (inr (inl (r, p))) = rw (r, p) refl
    by (inr (inr other)) = rw (none-chosen (nat_lt region 2 && nat_eq page 0) the_entry other) (grind (arith, nat_tests))

picture-kept : KeepsAccount (frame_of pictured_entry) (owner picture.owners) (is_used picture.pool) 8 (5 ∷ []) (both ∷ [])
unfolding picture
picture-kept = record {
  distinct = (λ i. i, tt);
  classes = (record { home = refl; sharers = refl; members = pictured-members }, tt);
  within = λ f i. small f i;
  taken = λ f used. taken f (sym (sixth false true f) ∙ used);
  used = λ f i. used f i;
  listed = λ region page f there. inl (sym (pictured-frame region page f there).1);
  counted = λ f. sixth false true f ∙ counted (nat_eq f 5) ∙ sym (ap (λ (o : Owner). nat_lt 0 o.sharers) (sixth nobody (record { home = 0; sharers = 2 }) f));
  number = λ r p s q f here there. (pictured-frame r p f here).0 ∙ sym (pictured-frame s q f there).0;
}
  where
    small : (f : ℕ) → IsIn f (5 ∷ []) → f < 8
    small f (inl same) = omega arith
    small f (inr i) = absurd i

    taken : (f : ℕ) → cond (nat_eq f 5) true false ≡ true → IsIn f (5 ∷ [])
    taken f test = inl (grind (arith, nat_tests))

    used : (f : ℕ) → IsIn f (5 ∷ []) → is_used (record { size = 8; used = replicate 5 false ++ (true ∷ replicate 2 false) }) f ≡ true
    used f (inl same) = rw (← same) refl
    used f (inr i) = absurd i

    counted : (b : Bool) → cond b true false ≡ nat_lt 0 (cond b (record { home = 0; sharers = 2 }) nobody).sharers
    counted true = refl
    counted false = refl

-- Its pages.

pointer-held : IsHeld 0 pointer
pointer-held = root-held 0 (permit_load + permit_store) (lit< tt) (lit< tt)

null-held : IsHeld 0 null
null-held = record { pattern = lit< tt; inside = λ tagged. absurd (false≢true tagged) }

fronted-held : AreHeld 0 (fronted pointer)
fronted-held = All-cons (IsHeld 0) pointer (replicate 255 null) pointer-held (All-replicate (IsHeld 0) 255 null null-held)

-- a page as the frame is seen from its region
picture-page : (region : ℕ) (granules : List Cap) → granules ≡ moved_granules 0 region (fronted pointer) → HasPage picture.memory picture.owners region the_entry (record { rights = to_read_and_write; granules = granules })
unfolding picture
picture-page region granules is = record { rights = refl; granules = is; home = lit< tt; held = fronted-held; whole = refl }

-- there is no page elsewhere
none-elsewhere : (rights : ℕ) (cap : Cap) (class : Class) (region page : ℕ) → (nat_lt region 2 && nat_eq page 0) ≡ false → page_at (pictured rights cap class) region page ≡ None
none-elsewhere rights cap class region page other = by (nat_eq region 0) refl (nat_eq region 1) refl (nat_eq page 0) refl
  where
    by : (a : Bool) → nat_eq region 0 ≡ a → (b : Bool) → nat_eq region 1 ≡ b → (first : Bool) → nat_eq page 0 ≡ first
        → page_in (cond a (Some (store_of to_read_and_write (fronted pointer))) (cond b (Some (store_of rights (fronted cap))) None)) page ≡ None
    by true t b u true v = absurd (grind (arith, nat_tests))
    by true t b u false v = rw v refl
    by false t true u true v = absurd (grind (arith, nat_tests))
    by false t true u false v = rw v refl
    by false t false u first v = refl

-- the pages of regions 0 and 1
parent-page : HasSamePage picture.memory picture.owners 0 (pictured_entry 0 0) (page_at (pictured to_read_and_write moved_pointer both) 0 0)
parent-page = picture-page 0 (fronted pointer) (sym (moved_granules-itself 0 (fronted pointer) (lit< tt) fronted-held))

child-page : HasSamePage picture.memory picture.owners 1 (pictured_entry 1 0) (page_at (pictured to_read_and_write moved_pointer both) 1 0)
child-page = picture-page 1 (fronted moved_pointer) refl

-- the page of each place
picture-pages : (region page : ℕ) → HasSamePage picture.memory picture.owners region (pictured_entry region page) (page_at (pictured to_read_and_write moved_pointer both) region page)
picture-pages region page = by (place-cases region page)
  where
    by : ((region ≡ 0) × (page ≡ 0)) ⊎ (((region ≡ 1) × (page ≡ 0)) ⊎ ((nat_lt region 2 && nat_eq page 0) ≡ false))
        → HasSamePage picture.memory picture.owners region (pictured_entry region page) (page_at (pictured to_read_and_write moved_pointer both) region page)
    by (inl (r, p)) = rw (r, p) parent-page
    by (inr (inl (r, p))) = rw (r, p) child-page
    by (inr (inr other)) = rw (none-chosen (nat_lt region 2 && nat_eq page 0) the_entry other, none-elsewhere to_read_and_write moved_pointer both region page other) tt

-- it stands for its content
picture-stands : Stands picture (pictured to_read_and_write moved_pointer both)
unfolding picture
picture-stands = record {
  frames = 5 ∷ [];
  kept = picture-kept;
  pages = picture-pages;
  size = refl;
  memory = lit≤ tt;
  owners = lit≤ tt;
}

-- What it does not stand for.

-- the page of region 1 is the frame with its granules moved
page-shown : (rights : ℕ) (cap : Cap) (class : Class) → Stands picture (pictured rights cap class) → HasPage picture.memory picture.owners 1 the_entry (record { rights = rights; granules = fronted cap })
unfolding picture
page-shown rights cap class stands = stands.pages 1 0

-- a class that holds page 0 of region 0 shares frame 5
class-shown : (rights : ℕ) (cap : Cap) (class : Class) → has_member 0 0 class ≡ true → Stands picture (pictured rights cap class) → (class.home ≡ 0) × (length class.members ≡ 2)
unfolding picture
class-shown rights cap class has stands =
    let found = class-found stands.kept 0 0 5 refl in
    let there : Some class ≡ Some found.class = rw has at found.there in
    let same : found.class ≡ class = cc in
    (ap (λ (class : Class). class.home) (sym same) ∙ sym found.is.home, ap (λ (class : Class). length class.members) (sym same) ∙ sym found.is.sharers)

-- the first granule tells the pointer from the moved one
unmoved-refuted : Stands picture (pictured to_read_and_write pointer both) → ⊥
unfolding picture moved_bits base_of length_of top_of
unmoved-refuted stands =
    let fronts = ap (λ (granules : List Cap). (get_or granules 0 null).bits) (page-shown to_read_and_write pointer both stands).granules in
    omega arith

rights-refuted : Stands picture (pictured right_to_read moved_pointer both) → ⊥
rights-refuted stands = let same = (page-shown right_to_read moved_pointer both stands).rights in omega arith

home-refuted : Stands picture (pictured to_read_and_write moved_pointer (class_with 1 (member 0 0 ∷ member 1 0 ∷ []))) → ⊥
home-refuted stands = let same = (class-shown to_read_and_write moved_pointer (class_with 1 (member 0 0 ∷ member 1 0 ∷ [])) refl stands).0 in omega arith

members-refuted : Stands picture (pictured to_read_and_write moved_pointer (class_with 0 (member 0 0 ∷ member 1 0 ∷ member 2 0 ∷ member 3 0 ∷ []))) → ⊥
members-refuted stands = let same = (class-shown to_read_and_write moved_pointer (class_with 0 (member 0 0 ∷ member 1 0 ∷ member 2 0 ∷ member 3 0 ∷ [])) refl stands).1 in omega arith

-- what the board stands for or not, each board like it does or not
of-each : (P : Board → Type 0) → P picture → (board : Board) → IsPictured board → P board
of-each P holds board is = subst P (picture-only board is) holds

pub the-picture-stands : ThePictureStands
the-picture-stands = record {
  board = picture;
  is = picture-is;
  stands = of-each (λ board. Stands board (pictured to_read_and_write moved_pointer both)) picture-stands;
  unmoved = of-each (λ board. Stands board (pictured to_read_and_write pointer both) → ⊥) unmoved-refuted;
  rights = of-each (λ board. Stands board (pictured right_to_read moved_pointer both) → ⊥) rights-refuted;
  home = of-each (λ board. Stands board (pictured to_read_and_write moved_pointer (class_with 1 (member 0 0 ∷ member 1 0 ∷ []))) → ⊥) home-refuted;
  members = of-each (λ board. Stands board (pictured to_read_and_write moved_pointer (class_with 0 (member 0 0 ∷ member 1 0 ∷ member 2 0 ∷ member 3 0 ∷ []))) → ⊥) members-refuted;
}
